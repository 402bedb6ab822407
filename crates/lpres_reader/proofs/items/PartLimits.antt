-- Parts that are found to keep what a presentation keeps are a presentation within the limits.
use Rattle.std.proofs.Common.{ℕ, ℤ, List, map, length, All, arith}
use Rattle.std.specs.Global.{Vec}
use Rattle.std.proofs.lemmas.List.{length-map}
use Rattle.pq_base.specs.Name.{IsName}
use Rattle.lpres_reader.specs.Limits.{IsWithinLimits}
use Rattle.lpres_reader.specs.Presentations.{made_of}
use Rattle.lpres_reader.specs.Parts.{AreFew, HasRelatorLetters}

pub parts_within : (names : List (List ℕ)) (fixed iterated : List (List ℤ)) (endos : List (Vec (List ℤ)))
    → AreFew (length names) (length fixed) (length iterated) (length endos)
    → HasRelatorLetters (length names) fixed iterated (map (λ f. f.items) endos)
    → All IsName names → IsWithinLimits (made_of names fixed iterated endos)
parts_within names fixed iterated endos few letters each =
    let few_endos = few.endos in
    record {
      some_generator = few.some_generator;
      generators = few.generators;
      name_lengths = λ k d l. (each k d l).count;
      fixed = few.fixed;
      iterated = few.iterated;
      endos = omega (arith, length-map endos (λ (f : Vec (List ℤ)). f.items));
      fixed_letters = letters.fixed_short;
      iterated_letters = letters.iterated_short;
      endo_letters = letters.endo_short;
      total = letters.kept.total;
    }
