use Rattle.std.proofs.Common.{◌≡◌, ◌++◌, refl, arith}
use Rattle.std.proofs.lemmas.List.{length-append}
use Rattle.pq_base.proofs.words.LetterLaws.{HasLetters-append}
use Rattle.free_words.proofs.operations.product.Goals as goal

pub from_vec-requires : goal.from_vec-requires
from_vec-requires c =
    let e : c.extend_from_slice-2.new.self.items ≡ c.args.u.now ++ c.args.v.now =
    rw (
      c.in_ok-extend_from_slice-2.ensures.items,
      c.in_ok-extend_from_slice.ensures.items,
      c.in_ok-letters.ensures.0,
      c.letters-left.ensures.value,
      c.letters-right.ensures.value,
    ) refl in
    rw e (record {
      letters = HasLetters-append 2147483647 c.args.u.now c.args.v.now c.letters-left.ensures.letters c.letters-right.ensures.letters;
      limit = rw length-append (grind arith);
    })
