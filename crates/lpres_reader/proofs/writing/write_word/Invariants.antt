use Rattle.std.proofs.Common.{◌≡◌, drop}
use Rattle.free_words.specs.Letters.{AreLetters}
use Rattle.lpres_reader.specs.Recipes.{written}
use Rattle.lpres_reader.proofs.writing.write_word.Given as goal

-- the steps that are left write the word behind what is written
abbrev pub invariant-loop-step : goal.invariant-loop-step
invariant-loop-step l = record {
  written : written l.out.items (drop l.step-index l.step-items) ≡ l.recipe;
  letters : AreLetters l.out.items;
}
