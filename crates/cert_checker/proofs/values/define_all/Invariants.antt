use Rattle.std.proofs.Common.{◌≡◌, All, length}
use Rattle.pc_presentation.specs.Scratch.{IsScratch}
use Rattle.pc_presentation.specs.Tailed.{IsElement, rowed_presentation}
use Rattle.cert_checker.specs.MapWords.{words_of, AreDefinedWords}
use Rattle.cert_checker.proofs.values.define_all.Given as goal

abbrev pub invariant-loop-k : goal.invariant-loop-k
invariant-loop-k l =
    IsScratch l.pcp l.s × IsElement l.pcp l.value × All (IsElement l.pcp) l.elements
    × (length l.elements ≡ l.answer.presentation.rank)
    × AreDefinedWords (rowed_presentation l.pcp) l.answer (words_of l.pcp l.given) (words_of l.pcp l.elements) l.k
