use Rattle.std.proofs.Common.{◌≡◌, ◌<◌, length, drop, ℕ, List, ap, sym, ◌∙◌, subst, arith}
use Rattle.pq_base.specs.Table.{AllBelow}
use Rattle.pq_base.specs.Prime.{prime_value}
use Rattle.fp_rows.specs.Row.{PrimeRow}
use Rattle.fp_rows.proofs.RowStorage.{prime_value-pos}
use Rattle.fp_echelon.proofs.EntryStorage.{AllBelow-added}
use Rattle.fp_echelon.proofs.entry.Entry.add_scaled.Goals as goal

pub invariant_of-self : goal.invariant_of-self
invariant_of-self c =
    let same : c.add_scaled.new.self.prime ≡ c.self.inside.row.prime = ap (λ (r : PrimeRow). r.prime) c.add_scaled.ensures in
    let some : 0 < c.add_scaled.new.self.prime =
    subst (λ (n : ℕ). 0 < n) c.prime.ensures.prime (prime_value-pos c.prime.result) in
    let below : AllBelow c.add_scaled.new.self.prime c.deref_mut.result.now =
    subst (λ (n : ℕ). AllBelow n c.deref_mut.result.now) (sym same)
    (subst (λ (l : List ℕ). AllBelow c.self.inside.row.prime l) (sym c.deref_mut.ensures.value) c.self.invariant.1) in (
      c.self.invariant.0 ∙ sym same,
      AllBelow-added c.add_scaled.new.self.prime (prime_value c.prime.result) c.args.count c.self.inside.coefficients.len c.args.k
          c.add_to_front.new.xs (drop (length c.add_to_front.new.xs) c.self.inside.coefficients.items) c.deref_mut.result.now
          c.deref.result.now
          some c.prime.ensures.prime (omega arith) below c.add_to_front.ensures,
    )
