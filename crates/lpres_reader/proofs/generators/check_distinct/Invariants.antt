-- The texts so far were inserted one behind the other, since none was there yet.
use Rattle.std.proofs.Common.{◌≡◌, take}
use Rattle.pq_base.specs.LPresentation.{AreDistinct}
use Rattle.lpres_reader.specs.GeneratorNames.{texts_of}
use Rattle.lpres_reader.proofs.generators.check_distinct.Given as goal

abbrev pub invariant-loop-text : goal.invariant-loop-text
invariant-loop-text l = record {
  same : l.seen.keys ≡ take l.text-index l.texts;
  distinct : AreDistinct (texts_of l.seen.keys);
}
