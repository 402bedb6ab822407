use Rattle.std.proofs.Common.{◌≡◌, drop}
use Rattle.pc_presentation.proofs.presentations.WrittenWords.{element_written}
use Rattle.p_cover.proofs.images.set_exponents.Given as goal

-- what is left of the word decides
abbrev pub invariant-loop-s : goal.invariant-loop-s
invariant-loop-s l = element_written l.element (drop l.s-index l.word) ≡ element_written l.initial.element l.word
