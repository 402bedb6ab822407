use Rattle.std.proofs.Common.{◌<◌, ◌+◌, ℕ}
use Rattle.pc_presentation.specs.declared.relation.Relation.TheVariants.{Commutator}
use Rattle.pc_presentation.specs.Tailed.{rowed_presentation}
use Rattle.cert_checker.specs.MapWords.{words_of, Satisfy, IsBench}
use Rattle.cert_checker.proofs.satisfied.satisfy_commutators.Given as goal

abbrev pub invariant-loop-j : goal.invariant-loop-j
invariant-loop-j l =
    IsBench l.pcp l.bench
    × ((j i : ℕ) → j < l.j → i < j
    → Satisfy (rowed_presentation l.pcp) l.answer.presentation (words_of l.pcp l.elements) (Commutator (j + 1) (i + 1)))
