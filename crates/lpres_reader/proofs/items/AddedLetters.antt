-- A presentation with what a line means behind it is a presentation.
use Rattle.std.proofs.Common.{ℕ, ℤ, List, [], ◌∷◌, ◌++◌, map, length}
use Rattle.std.specs.List.{AllByRecursion}
use Rattle.std.proofs.lemmas.List.Elements.{recursion_from_All}
use Rattle.pq_base.specs.SignedWord.{HasLetters}
use Rattle.pq_base.specs.LPresentation.{LPresentation, IsLPresentation, AreWords}
use Rattle.lpres_reader.specs.Trees.{fixed_sort, iterated_sort, ItemTree, relators, arrows, relator_meaning, arrow_meaning, GivesAll}
use Rattle.lpres_reader.specs.Trees.{item_meaning}
use Rattle.lpres_reader.specs.Trials.{added}
use Rattle.lpres_reader.proofs.items.GivesEachLaws.{images_all}
use Rattle.lpres_reader.proofs.items.KeptWords.{AreEndos-push}
use Rattle.lpres_reader.proofs.trees.MeaningLetters.{relators_letters, arrows_letters}

AreWords-from_recursion : (n : ℕ) (ws : List (List ℤ)) → AllByRecursion (HasLetters n) ws → AreWords n ws
AreWords-from_recursion n [] h = tt
AreWords-from_recursion n (w ∷ ws) h = (h.0, AreWords-from_recursion n ws h.1)

AreWords-append : (n : ℕ) (us vs : List (List ℤ)) → AreWords n us → AreWords n vs → AreWords n (us ++ vs)
AreWords-append n [] vs h i = i
AreWords-append n (u ∷ us) vs h i = (h.0, AreWords-append n us vs h.1 i)

pub presentation_added : (M : LPresentation) (i : ItemTree) (g : GivesAll M.names i) → IsLPresentation M
    → IsLPresentation (added M (item_meaning M.names i g))
presentation_added M (relators fixed_sort rs r) g h = record {
  distinct = h.distinct;
  fixed_words =
      AreWords-append (length M.names) M.fixed (map (relator_meaning M.names) (rs ++ r ∷ [])) h.fixed_words
      (relators_letters M.names (rs ++ r ∷ []));
  iterated_words = h.iterated_words;
  endo_words = h.endo_words;
}
presentation_added M (relators iterated_sort rs r) g h = record {
  distinct = h.distinct;
  fixed_words = h.fixed_words;
  iterated_words =
      AreWords-append (length M.names) M.iterated (map (relator_meaning M.names) (rs ++ r ∷ [])) h.iterated_words
      (relators_letters M.names (rs ++ r ∷ []));
  endo_words = h.endo_words;
}
presentation_added M (arrows qs q) g h =
    let n = length M.names in
    let all = qs ++ q ∷ [] in
    let each = images_all (HasLetters n) n (map (arrow_meaning M.names) all) g.0 (arrows_letters M.names all) g.1 in
    let words = AreWords-from_recursion n g.0 (recursion_from_All (HasLetters n) g.0 each) in
    record {
      distinct = h.distinct;
      fixed_words = h.fixed_words;
      iterated_words = h.iterated_words;
      endo_words = AreEndos-push n M.endos g.0 h.endo_words g.1.image_count words;
    }
