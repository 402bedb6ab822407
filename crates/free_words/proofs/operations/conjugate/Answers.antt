use Rattle.std.proofs.Common.{◌≡◌, append_assoc, arith}
use Rattle.pq_base.specs.SignedWord.{conj}
use Rattle.pq_base.proofs.words.LetterLaws.{HasLetters-conj}
use Rattle.free_words.proofs.Lengths.{length-conj}
use Rattle.free_words.proofs.operations.conjugate.Goals as goal

pub from_vec-requires : goal.from_vec-requires
from_vec-requires c =
    let e : c.extend_from_slice-2.new.self.items ≡ conj c.args.u.now c.args.v.now =
    rw (
      c.in_ok-extend_from_slice-2.ensures.items,
      c.in_ok-extend_from_slice.ensures.items,
      c.in_ok-push_inverse.ensures,
      c.in_ok-letters.ensures.0,
      c.letters-middle.ensures.value,
      c.letters-outer.ensures.value,
    ) (simp append_assoc) in
    rw e (record {
      letters = HasLetters-conj 2147483647 c.args.u.now c.args.v.now c.letters-middle.ensures.letters c.letters-outer.ensures.letters;
      limit = rw length-conj (grind arith);
    })
