use Rattle.std.proofs.Common.{length}
use Rattle.pq_base.specs.SignedWord.{HasLetters}
use Rattle.pq_base.specs.LPresentation.{AreEndoNumbers}
use Rattle.lpres_reader.proofs.items.Suffixes.{AlongSoFar}
use Rattle.lpres_reader.proofs.word_along.along.Given as goal

-- the image along the numbers that are taken off
abbrev pub invariant-loop-number : goal.invariant-loop-number
invariant-loop-number l = record {
  so_far : AlongSoFar l.pres.endos l.fn.s l.w l.rest l.image;
  numbers : AreEndoNumbers (length l.pres.endos) l.rest;
  letters : HasLetters (length l.pres.names) l.image;
}

abbrev pub decreases-loop-number : goal.decreases-loop-number
decreases-loop-number l = length l.rest
