use Rattle.std.proofs.Common.{◌≡◌, [], append_assoc, refl, arith}
use Rattle.std.proofs.lemmas.List.{append-nil}
use Rattle.pq_base.specs.SignedWord.{copies}
use Rattle.free_words.proofs.Powers.{copies-empty, copies_more}
use Rattle.free_words.proofs.pieces.push_copies.Goals as goal

-- copies of the empty word are empty
pub returns-then-is_empty : goal.returns-then-is_empty
returns-then-is_empty c =
    let e : copies c.args.word.now c.args.times ≡ [] = copies-empty c.args.word.now c.args.times (grind arith) in
    rw (e, append-nil) refl

pub loop-preserved : goal.loop-preserved
loop-preserved c =
    rw (c.in_ok-extend_from_slice.ensures.items, c.loop.invariant, copies_more c.args.word.now c.loop.counter, append_assoc) refl
