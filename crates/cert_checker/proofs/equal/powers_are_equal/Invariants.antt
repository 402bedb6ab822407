use Rattle.std.proofs.Common.{◌≡◌, ◌<◌, ◌+◌, ℕ}
use Rattle.pc_presentation.specs.declared.relation.Relation.TheVariants.{Power}
use Rattle.pc_presentation.specs.Pcp.{right_side}
use Rattle.cert_checker.proofs.equal.powers_are_equal.Given as goal

abbrev pub invariant-loop-i : goal.invariant-loop-i
invariant-loop-i l =
    (i : ℕ) → i < l.i → right_side l.left.presentation (Power (i + 1)) ≡ right_side l.right.presentation (Power (i + 1))
