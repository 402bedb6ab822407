use Rattle.std.proofs.Common.{◌≡◌, ℕ, List, ap, sym, ◌∙◌, subst}
use Rattle.pq_base.specs.Table.{AllBelow}
use Rattle.pq_base.specs.Prime.{prime_value}
use Rattle.pq_base.specs.Elementary.{zeros}
use Rattle.pq_base.proofs.ElementarySides.{zeros-below}
use Rattle.fp_rows.specs.Row.{PrimeRow}
use Rattle.fp_rows.proofs.RowStorage.{prime_value-pos}
use Rattle.fp_echelon.proofs.entry.Entry.new.Goals as goal

pub invariant_of-result : goal.invariant_of-result
invariant_of-result c =
    let first : c.in_ok-zero.field-0.prime ≡ prime_value c.args.prime = ap (λ (r : PrimeRow). r.prime) c.in_ok-zero.ensures in
    let second : c.in_ok-zero-2.field-0.prime ≡ prime_value c.args.prime = ap (λ (r : PrimeRow). r.prime) c.in_ok-zero-2.ensures in
    let below : AllBelow c.in_ok-zero-2.field-0.prime (zeros c.args.room) =
    subst (λ (n : ℕ). AllBelow n (zeros c.args.room)) (sym second)
    (zeros-below (prime_value c.args.prime) c.args.room (prime_value-pos c.args.prime)) in (
      first ∙ sym second,
      subst (λ (l : List ℕ). AllBelow c.in_ok-zero-2.field-0.prime l) (sym (c.in_ok-vec.ensures.items_if_clones_equal (λ y e. e))) below,
    )
