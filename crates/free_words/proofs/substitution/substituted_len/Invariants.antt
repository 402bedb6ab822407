use Rattle.std.proofs.Common.{◌≡◌, ◌*◌, ◌≤◌, length, take}
use Rattle.pq_base.specs.Limits.{max_letters}
use Rattle.pq_base.specs.SignedWord.{sub}
use Rattle.free_words.proofs.substitution.substituted_len.Given as goal

-- the letters of the images so far
abbrev pub invariant-loop-k : goal.invariant-loop-k
invariant-loop-k l = (l.len ≡ length (sub (take l.k-index l.word) l.images)) × (l.len ≤ max_letters * l.k-index)
