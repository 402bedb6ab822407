use Rattle.std.proofs.Common.{◌≡◌, ◌++◌, [], ◌∷◌, refl, arith, w32}
use Rattle.std.proofs.lemmas.Int.{to_z-of_z}
use Rattle.std.proofs.lemmas.List.{length-append}
use Rattle.pq_base.proofs.words.LetterLaws.{HasLetters-append}
use Rattle.free_words.proofs.operations.extended_by.Goals as goal

pub from_vec-requires : goal.from_vec-requires
from_vec-requires c =
    let e : c.push.new.self.items ≡ c.args.u ++ c.args.letter ∷ [] =
    rw (c.in_ok-push.ensures.items, c.into_vec-letters.ensures.value, to_z-of_z w32 c.args.letter c.ranges.letter) refl in
    rw e (record {
      letters = HasLetters-append 2147483647 c.args.u (c.args.letter ∷ []) c.into_vec-letters.ensures.letters (c.requires, tt);
      limit = rw length-append (grind arith);
    })
