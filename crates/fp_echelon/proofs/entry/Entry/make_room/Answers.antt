use Rattle.std.proofs.Common.{◌≡◌, ◌≤◌, ◌-◌, ℕ, List, ◌++◌, take, length, vec_len, ap, sym, ◌∙◌, subst, arith}
use Rattle.pq_base.specs.Table.{AllBelow}
use Rattle.fp_rows.proofs.BelowLaws.{AllBelow-take}
use Rattle.fp_rows.proofs.RowStorage.{prime_value-pos}
use Rattle.fp_echelon.proofs.EntryStorage.{AllBelow-grown}
use Rattle.fp_echelon.proofs.entry.Entry.make_room.Goals as goal

pub invariant_of-self-2 : goal.invariant_of-self-2
invariant_of-self-2 c =
    let some : 1 ≤ c.self.inside.row.prime = subst (λ (n : ℕ). 1 ≤ n) c.prime-prime.ensures.prime (prime_value-pos c.prime-prime.result) in
    let kept = AllBelow-take c.self.inside.row.prime c.max-room.result c.self.inside.coefficients.items c.self.invariant.1 in (
      c.self.invariant.0,
      subst (λ (l : List ℕ). AllBelow c.self.inside.row.prime l) (sym c.in_ok-resize.ensures.items)
          (AllBelow-grown c.self.inside.row.prime (c.max-room.result - vec_len c.self.inside.coefficients)
          (take c.max-room.result c.self.inside.coefficients.items) some kept),
    )
