use Rattle.std.proofs.Common.{◌≡◌, ◌<◌, ◌+◌, ℕ}
use Rattle.pc_presentation.specs.declared.relation.Relation.TheVariants.{Commutator}
use Rattle.pc_presentation.specs.Pcp.{right_side}
use Rattle.cert_checker.proofs.equal.commutators_are_equal.Given as goal

abbrev pub invariant-loop-j : goal.invariant-loop-j
invariant-loop-j l =
    (j i : ℕ) → j < l.j → i < j
    → right_side l.left.presentation (Commutator (j + 1) (i + 1)) ≡ right_side l.right.presentation (Commutator (j + 1) (i + 1))
