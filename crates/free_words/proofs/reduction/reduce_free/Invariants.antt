use Rattle.free_words.specs.Letters.{IsWord}
use Rattle.free_words.proofs.Reductions.{IsReducing}
use Rattle.free_words.proofs.reduction.reduce_free.Given as goal

abbrev pub invariant-loop-k : goal.invariant-loop-k
invariant-loop-k l = IsWord l.word × IsReducing l.word l.letters.items l.k-index
