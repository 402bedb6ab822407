use Rattle.std.proofs.Common.{◌≡◌, append_assoc, arith}
use Rattle.pq_base.specs.SignedWord.{comm}
use Rattle.pq_base.proofs.words.LetterLaws.{HasLetters-comm}
use Rattle.free_words.proofs.Lengths.{length-comm}
use Rattle.free_words.proofs.operations.commutator.Goals as goal

pub from_vec-requires : goal.from_vec-requires
from_vec-requires c =
    let e : c.extend_from_slice-2.new.self.items ≡ comm c.args.u.now c.args.v.now =
    rw (
      c.in_ok-extend_from_slice-2.ensures.items,
      c.in_ok-extend_from_slice.ensures.items,
      c.in_ok-push_inverse-2.ensures,
      c.in_ok-push_inverse.ensures,
      c.in_ok-letters.ensures.0,
      c.letters-first.ensures.value,
      c.letters-second.ensures.value,
    )
    (simp append_assoc) in
    rw e (record {
      letters = HasLetters-comm 2147483647 c.args.u.now c.args.v.now c.letters-first.ensures.letters c.letters-second.ensures.letters;
      limit = rw length-comm (grind arith);
    })
