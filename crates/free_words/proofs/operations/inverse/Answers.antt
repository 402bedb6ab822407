use Rattle.std.proofs.Common.{◌≡◌, refl}
use Rattle.pq_base.specs.SignedWord.{inv}
use Rattle.pq_base.proofs.words.LetterLaws.{HasLetters-inv}
use Rattle.free_words.proofs.Lengths.{length-inv}
use Rattle.free_words.proofs.operations.inverse.Goals as goal

pub from_vec-requires : goal.from_vec-requires
from_vec-requires c =
    let e : c.push_inverse.new.out.items ≡ inv c.args.u.now =
    rw (c.in_ok-push_inverse.ensures, c.in_ok-letters.ensures.items, c.letters-word.ensures.value) refl in
    rw e (record {
      letters = HasLetters-inv 2147483647 c.args.u.now c.letters-word.ensures.letters;
      limit = rw length-inv (c.letters-word.ensures.limit);
    })
