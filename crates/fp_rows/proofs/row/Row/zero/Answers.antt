use Rattle.std.proofs.Common.{List, ℕ, sym, subst, arith}
use Rattle.fp_rows.proofs.RowStorage.{Holds, Holds-zeros}
use Rattle.fp_rows.proofs.row.Row.zero.Goals as goal

pub invariant_of-result : goal.invariant_of-result
invariant_of-result c =
    subst (λ (l : List ℕ). Holds c.args.prime l) (sym (c.in_ok-vec.ensures.items_if_clones_equal (λ y e. e)))
    (Holds-zeros c.args.prime c.args.width (omega arith))
