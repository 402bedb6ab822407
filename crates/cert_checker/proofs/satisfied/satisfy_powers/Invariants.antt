use Rattle.std.proofs.Common.{◌<◌, ◌+◌, ℕ}
use Rattle.pc_presentation.specs.declared.relation.Relation.TheVariants.{Power}
use Rattle.pc_presentation.specs.Tailed.{rowed_presentation}
use Rattle.cert_checker.specs.MapWords.{words_of, Satisfy, IsBench}
use Rattle.cert_checker.proofs.satisfied.satisfy_powers.Given as goal

abbrev pub invariant-loop-i : goal.invariant-loop-i
invariant-loop-i l =
    IsBench l.pcp l.bench
    × ((i : ℕ) → i < l.i → Satisfy (rowed_presentation l.pcp) l.answer.presentation (words_of l.pcp l.elements) (Power (i + 1)))
