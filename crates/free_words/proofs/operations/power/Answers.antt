use Rattle.std.proofs.Common.{◌≡◌, ◌≤◌, ◌*◌, length, unsigned_abs, w32}
use Rattle.std.proofs.lemmas.Int.{to_z-of_z}
use Rattle.pq_base.specs.Limits.{max_letters}
use Rattle.pq_base.specs.SignedWord.{pow}
use Rattle.pq_base.proofs.words.LetterLaws.{HasLetters-pow}
use Rattle.free_words.proofs.Lengths.{length-pow}
use Rattle.free_words.proofs.operations.power.Goals as goal

pub from_vec-requires : goal.from_vec-requires
from_vec-requires c =
    let e : c.push_power.new.out.items ≡ pow c.args.u.now c.args.n =
    rw (to_z-of_z w32 c.args.n c.ranges.n, c.in_ok-letters.ensures.0) at c.in_ok-push_power.ensures in
    let size : unsigned_abs c.args.n * length c.args.u.now ≤ max_letters =
    rw (c.from.ensures, c.unsigned_abs.ensures.value, to_z-of_z w32 c.args.n c.ranges.n, c.letters.ensures.value) at
    c.in_ok-letters.ensures.1 in
    rw e (record {
      letters = HasLetters-pow 2147483647 c.args.u.now c.args.n c.letters.ensures.letters;
      limit = rw length-pow size;
    })
