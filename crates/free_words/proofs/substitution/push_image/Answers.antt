use Rattle.std.proofs.Common.{◌-◌, [], get_or, length, unsigned_abs, w32}
use Rattle.std.proofs.lemmas.Int.{to_z-of_z}
use Rattle.free_words.specs.Letters.{AreLetters}
use Rattle.free_words.proofs.Substitutions.{HasLetters-image_at}
use Rattle.free_words.proofs.substitution.push_image.Goals as goal

pub returns-then-k-lt0-clause-letters : goal.returns-then-k-lt0-clause-letters
returns-then-k-lt0-clause-letters c =
    let l : AreLetters (get_or c.args.images.now (unsigned_abs c.args.k - 1) []) =
    rw (c.image_at.ensures, to_z-of_z w32 c.args.k c.ranges.k) at c.letters-image.ensures.letters in
    HasLetters-image_at 2147483647 c.args.images.now (length c.args.images.now) c.args.k c.requires l

pub returns-else-k-lt0-clause-letters : goal.returns-else-k-lt0-clause-letters
returns-else-k-lt0-clause-letters c =
    let l : AreLetters (get_or c.args.images.now (unsigned_abs c.args.k - 1) []) =
    rw (c.image_at.ensures, to_z-of_z w32 c.args.k c.ranges.k) at c.letters-image.ensures.letters in
    HasLetters-image_at 2147483647 c.args.images.now (length c.args.images.now) c.args.k c.requires l
