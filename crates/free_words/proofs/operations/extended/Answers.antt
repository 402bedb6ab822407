use Rattle.std.proofs.Common.{◌≡◌, ◌++◌, refl, arith}
use Rattle.std.proofs.lemmas.List.{length-append}
use Rattle.pq_base.proofs.words.LetterLaws.{HasLetters-append}
use Rattle.free_words.proofs.operations.extended.Goals as goal

pub from_vec-requires : goal.from_vec-requires
from_vec-requires c =
    let e : c.extend_from_slice.new.self.items ≡ c.args.u ++ c.args.v.now =
    rw (c.in_ok-extend_from_slice.ensures.items, c.into_vec-letters.ensures.value, c.letters-more.ensures.value) refl in
    rw e (record {
      letters = HasLetters-append 2147483647 c.args.u c.args.v.now c.into_vec-letters.ensures.letters c.letters-more.ensures.letters;
      limit = rw length-append (grind arith);
    })
