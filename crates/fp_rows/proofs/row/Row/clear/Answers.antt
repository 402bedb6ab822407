use Rattle.std.proofs.Common.{◌≡◌, length, replicate, sym, subst, List, ℕ, arith}
use Rattle.pq_base.specs.Table.{AllBelow}
use Rattle.pq_base.specs.Prime.{prime_value}
use Rattle.fp_rows.proofs.RowStorage.{Holds-stored, Holds-zeros}
use Rattle.fp_rows.proofs.row.Row.clear.Goals as goal

pub invariant_of-self : goal.invariant_of-self
invariant_of-self c =
    let zero : c.fill.new.self ≡ replicate (length c.as_mut_slice.result.now) 0 = c.fill.ensures.after (λ y e. e) in
    let holds = Holds-zeros c.self.inside.prime (length c.as_mut_slice.result.now) (omega arith) in
    Holds-stored c.self.inside.prime c.self.inside.entries.len c.fill.new.self _ (omega arith) (omega arith)
    (subst (λ (l : List ℕ). AllBelow (prime_value c.self.inside.prime) l) (sym zero) holds.0)
