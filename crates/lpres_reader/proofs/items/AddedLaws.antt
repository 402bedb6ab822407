-- A line that keeps its trials behind a presentation within the limits makes a presentation within the limits, and the
-- other way round. A presentation with an item more is within the limits only where it is so without it.
use Rattle.std.proofs.Common.{◌≡◌, ◌≤◌, ◌<◌, ℕ, ◌+◌, ℤ, List, [], ◌∷◌, ◌++◌, map, length, length-append, sum_by, All, Option, Some, None}
use Rattle.std.proofs.Common.{refl, ◌∙◌, arith}
use Rattle.std.specs.List.{AllByRecursion}
use Rattle.std.proofs.lemmas.List.{length-map}
use Rattle.std.proofs.lemmas.List.Sums.{sum_by-cons, sum_by-append}
use Rattle.std.proofs.lemmas.List.Elements.{All-from_recursion, recursion_from_All, All-append, All-push}
use Rattle.pq_base.specs.LPresentation.{LPresentation, AreDistinct}
use Rattle.lpres_reader.specs.Words.{letter_limit}
use Rattle.lpres_reader.specs.Items.{Item, fixed, iterated, endo}
use Rattle.lpres_reader.specs.Limits.{AreShort, letters_in, total_letters, IsWithinLimits}
use Rattle.lpres_reader.specs.Trees.{RelatorTree, ArrowTree, fixed_sort, iterated_sort, ItemTree, relators, arrows, place_of, known_place}
use Rattle.lpres_reader.specs.Trees.{relator_meaning, arrow_meaning, GivesAll, item_meaning}
use Rattle.lpres_reader.specs.Trials.{AreKept, item_trials, added}
use Rattle.lpres_reader.proofs.names.Places.{place_of-Some}
use Rattle.lpres_reader.proofs.trees.TreeWords.{word_short}
use Rattle.lpres_reader.proofs.trees.TreeItems.{RelatorsKept, ArrowsKept, PartsKept, relator_short}
use Rattle.lpres_reader.proofs.items.GivesEachLaws.{AreFrom, letters_of_images, images_all}
use Rattle.lpres_reader.proofs.faults.TrialLaws.{relators_kept, relators_parts, arrows_kept, arrows_parts}

endos_letters : (fs : List (List (List ℤ))) (f : List (List ℤ)) → sum_by letters_in (fs ++ f ∷ []) ≡ sum_by letters_in fs + letters_in f
endos_letters fs f = sum_by-append letters_in fs (f ∷ []) ∙ omega (arith, sum_by-cons letters_in f [])

All-front : {X : Type 0} (P : X → Type 0) (xs ys : List X) → All P (xs ++ ys) → All P xs
All-front P xs ys h = All-from_recursion P xs (front xs (recursion_from_All P (xs ++ ys) h))
  where
    front : (zs : List _) → AllByRecursion P (zs ++ ys) → AllByRecursion P zs
    front [] k = tt
    front (z ∷ zs) k = (k.0, front zs k.1)

-- without the last item
pub within_before : (M : LPresentation) (item : Item) → IsWithinLimits (added M item) → IsWithinLimits M
within_before M (fixed ws) h =
    let count = h.fixed in
    let total = h.total in
    record {
      some_generator = h.some_generator;
      generators = h.generators;
      name_lengths = h.name_lengths;
      fixed = omega (arith, length-append M.fixed ws);
      iterated = h.iterated;
      endos = h.endos;
      fixed_letters = All-front (λ w. length w ≤ letter_limit) M.fixed ws h.fixed_letters;
      iterated_letters = h.iterated_letters;
      endo_letters = h.endo_letters;
      total = omega (arith, sum_by-append length M.fixed ws);
    }
within_before M (iterated ws) h =
    let count = h.iterated in
    let total = h.total in
    record {
      some_generator = h.some_generator;
      generators = h.generators;
      name_lengths = h.name_lengths;
      fixed = h.fixed;
      iterated = omega (arith, length-append M.iterated ws);
      endos = h.endos;
      fixed_letters = h.fixed_letters;
      iterated_letters = All-front (λ w. length w ≤ letter_limit) M.iterated ws h.iterated_letters;
      endo_letters = h.endo_letters;
      total = omega (arith, sum_by-append length M.iterated ws);
    }
within_before M (endo f) h =
    let count = h.endos in
    let total = h.total in
    record {
      some_generator = h.some_generator;
      generators = h.generators;
      name_lengths = h.name_lengths;
      fixed = h.fixed;
      iterated = h.iterated;
      endos = omega (arith, length-append M.endos (f ∷ []));
      fixed_letters = h.fixed_letters;
      iterated_letters = h.iterated_letters;
      endo_letters = All-front AreShort M.endos (f ∷ []) h.endo_letters;
      total = omega (arith, endos_letters M.endos f);
    }

module _ (names : List (List ℕ)) (distinct : AreDistinct names) where
  relators_short : (rs : List RelatorTree) → RelatorsKept names rs
      → AllByRecursion (λ w. length w ≤ letter_limit) (map (relator_meaning names) rs)
  relators_short [] h = tt
  relators_short (r ∷ rs) h = (relator_short names distinct r h.0, relators_short rs h.1)

  arrows_short : (qs : List ArrowTree) → ArrowsKept names qs
      → AllByRecursion (λ m. length m.to ≤ letter_limit) (map (arrow_meaning names) qs)
  arrows_short [] h = tt
  arrows_short (q ∷ qs) h = (word_short names distinct q.to h.0, arrows_short qs h.1)

  place_short : (n : List ℕ) (o : Option ℕ) → place_of names n ≡ o → 1 ≤ length names → known_place o < length names
  place_short n None e some = omega arith
  place_short n (Some k) e some = (place_of-Some names n k e).0

  arrows_from : (qs : List ArrowTree) → 1 ≤ length names → AreFrom (length names) (map (arrow_meaning names) qs)
  arrows_from [] some = tt
  arrows_from (q ∷ qs) some = (place_short q.from (place_of names q.from) refl some, arrows_from qs some)

  short_relators : (rs : List RelatorTree) → RelatorsKept names rs → AreShort (map (relator_meaning names) rs)
  short_relators rs h = All-from_recursion (λ w. length w ≤ letter_limit) (map (relator_meaning names) rs) (relators_short rs h)

-- a line that keeps its trials
pub within_added : (M : LPresentation) (i : ItemTree) (g : GivesAll M.names i) → AreDistinct M.names → IsWithinLimits M
    → AreKept (item_trials M i)
    → PartsKept M.names i × IsWithinLimits (added M (item_meaning M.names i g))
within_added M (relators fixed_sort rs r) g distinct h kept =
    let all = rs ++ r ∷ [] in
    let ws = map (relator_meaning M.names) all in
    let parts = relators_parts M.names fixed_sort (length M.fixed) (total_letters M) all h.fixed h.total kept in
    let few = parts.1 in
    let small = parts.2 in (
      parts.0,
      record {
        some_generator = h.some_generator;
        generators = h.generators;
        name_lengths = h.name_lengths;
        fixed = omega (arith, length-append M.fixed ws, length-map all (relator_meaning M.names));
        iterated = h.iterated;
        endos = h.endos;
        fixed_letters = All-append (λ w. length w ≤ letter_limit) M.fixed ws h.fixed_letters (short_relators M.names distinct all parts.0);
        iterated_letters = h.iterated_letters;
        endo_letters = h.endo_letters;
        total = omega (arith, sum_by-append length M.fixed ws);
      },
    )
within_added M (relators iterated_sort rs r) g distinct h kept =
    let all = rs ++ r ∷ [] in
    let ws = map (relator_meaning M.names) all in
    let parts = relators_parts M.names iterated_sort (length M.iterated) (total_letters M) all h.iterated h.total kept in
    let few = parts.1 in
    let small = parts.2 in (
      parts.0,
      record {
        some_generator = h.some_generator;
        generators = h.generators;
        name_lengths = h.name_lengths;
        fixed = h.fixed;
        iterated = omega (arith, length-append M.iterated ws, length-map all (relator_meaning M.names));
        endos = h.endos;
        fixed_letters = h.fixed_letters;
        iterated_letters =
            All-append (λ w. length w ≤ letter_limit) M.iterated ws h.iterated_letters (short_relators M.names distinct all parts.0);
        endo_letters = h.endo_letters;
        total = omega (arith, sum_by-append length M.iterated ws);
      },
    )
within_added M (arrows qs q) g distinct h kept =
    let all = qs ++ q ∷ [] in
    let ms = map (arrow_meaning M.names) all in
    let parts = arrows_parts M.names (total_letters M) all h.total kept.1 in
    let few = kept.0 in
    let small = parts.1 in
    let letters = letters_of_images (length M.names) ms g.0 (arrows_from M.names distinct all h.some_generator) g.1 in (
      parts.0,
      record {
        some_generator = h.some_generator;
        generators = h.generators;
        name_lengths = h.name_lengths;
        fixed = h.fixed;
        iterated = h.iterated;
        endos = omega (arith, length-append M.endos (g.0 ∷ []));
        fixed_letters = h.fixed_letters;
        iterated_letters = h.iterated_letters;
        endo_letters =
            All-push AreShort M.endos g.0 h.endo_letters
            (images_all (λ w. length w ≤ letter_limit) (length M.names) ms g.0 (arrows_short M.names distinct all parts.0) g.1);
        total = omega (arith, endos_letters M.endos g.0);
      },
    )

-- and back
pub kept_added : (M : LPresentation) (i : ItemTree) (g : GivesAll M.names i) → AreDistinct M.names → PartsKept M.names i
    → IsWithinLimits (added M (item_meaning M.names i g)) → AreKept (item_trials M i)
kept_added M (relators fixed_sort rs r) g distinct parts h =
    let all = rs ++ r ∷ [] in
    let ws = map (relator_meaning M.names) all in
    let few = h.fixed in
    let small = h.total in
    relators_kept M.names fixed_sort (length M.fixed) (total_letters M) all parts
    (omega (arith, length-append M.fixed ws, length-map all (relator_meaning M.names))) (omega (arith, sum_by-append length M.fixed ws))
kept_added M (relators iterated_sort rs r) g distinct parts h =
    let all = rs ++ r ∷ [] in
    let ws = map (relator_meaning M.names) all in
    let few = h.iterated in
    let small = h.total in
    relators_kept M.names iterated_sort (length M.iterated) (total_letters M) all parts
    (omega (arith, length-append M.iterated ws, length-map all (relator_meaning M.names)))
    (omega (arith, sum_by-append length M.iterated ws))
kept_added M (arrows qs q) g distinct parts h =
    let all = qs ++ q ∷ [] in
    let ms = map (arrow_meaning M.names) all in
    let few = h.endos in
    let small = h.total in
    let letters = letters_of_images (length M.names) ms g.0 (arrows_from M.names distinct all h.some_generator) g.1 in (
      omega (arith, length-append M.endos (g.0 ∷ [])),
      arrows_kept M.names (total_letters M) all parts (omega (arith, endos_letters M.endos g.0)),
    )
