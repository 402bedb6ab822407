use Rattle.std.proofs.Common.{◌≡◌, drop}
use Rattle.pc_presentation.specs.Syllable.{is_normal_from}
use Rattle.pc_presentation.proofs.syllable.is_normal.Given as goal

-- what is left decides
abbrev pub invariant-loop-s : goal.invariant-loop-s
invariant-loop-s l = is_normal_from l.prime 0 l.word ≡ is_normal_from l.prime l.last (drop l.s-index l.word)
