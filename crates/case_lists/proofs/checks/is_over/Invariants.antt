use Rattle.std.proofs.Common.{take}
use Rattle.pq_base.specs.SignedWord.{HasLetters}
use Rattle.case_lists.proofs.checks.is_over.Given as goal

-- the letters so far
abbrev pub invariant-loop-k : goal.invariant-loop-k
invariant-loop-k l = HasLetters l.generators (take l.k-index l.word)
