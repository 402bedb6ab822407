use Rattle.std.proofs.Common.{◌≡◌, take}
use Rattle.pq_base.specs.SignedWord.{sub}
use Rattle.free_words.specs.Letters.{AreLetters}
use Rattle.free_words.proofs.substitution.substitute.Given as goal

-- the images so far
abbrev pub invariant-loop-k : goal.invariant-loop-k
invariant-loop-k l = (l.letters.items ≡ sub (take l.k-index l.word) l.images) × AreLetters l.letters.items
