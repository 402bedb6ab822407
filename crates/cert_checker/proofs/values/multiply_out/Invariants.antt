use Rattle.std.proofs.Common.{take}
use Rattle.pq_base.specs.SignedWord.{sub}
use Rattle.pc_presentation.specs.Syllable.{letters_of}
use Rattle.pc_presentation.specs.Scratch.{IsScratch}
use Rattle.pc_presentation.specs.Tailed.{IsElement}
use Rattle.cert_checker.specs.MapWords.{words_of, StandsFor}
use Rattle.cert_checker.proofs.values.multiply_out.Given as goal

abbrev pub invariant-loop-syllable : goal.invariant-loop-syllable
invariant-loop-syllable l =
    IsScratch l.pcp l.s × IsElement l.pcp l.factor × IsElement l.pcp l.next
    × StandsFor l.pcp (sub (letters_of (take l.syllable-index l.word)) (words_of l.pcp l.elements)) l.value
