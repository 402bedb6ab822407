use Rattle.std.proofs.Common.{append_assoc, refl}
use Rattle.free_words.proofs.Powers.{copies_more}
use Rattle.lpres_reader.specs.Recipes.{signed}
use Rattle.lpres_reader.proofs.writing.push_power.Goals as goal

pub loop-preserved : goal.loop-preserved
loop-preserved c =
    rw (c.in_ok-push_signed.ensures, c.loop.invariant, copies_more (signed c.args.inverted c.args.word.now) c.loop.counter, append_assoc)
    refl
