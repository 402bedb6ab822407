use Rattle.std.proofs.Common.{◌≡◌, ◌<◌, ◌+◌, ℕ}
use Rattle.pc_presentation.specs.declared.relation.Relation.TheVariants.{Commutator}
use Rattle.pc_presentation.specs.Pcp.{right_side}
use Rattle.cert_checker.proofs.equal.commutators_of_are_equal.Given as goal

abbrev pub invariant-loop-i : goal.invariant-loop-i
invariant-loop-i l =
    (i : ℕ) → i < l.i
    → right_side l.left.presentation (Commutator (l.j + 1) (i + 1)) ≡ right_side l.right.presentation (Commutator (l.j + 1) (i + 1))
