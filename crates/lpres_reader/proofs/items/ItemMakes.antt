-- What a line gives that is read makes a presentation of the one before it, unless its arrows do not give all images.
use Rattle.std.proofs.Common.{◌≡◌, ℕ, List, [], ◌∷◌, ◌++◌, map, length, Some, Result, Ok, Err, MatchResult, refl, ap, sym, subst}
use Rattle.pq_base.specs.LPresentation.{LPresentation, IsLPresentation}
use Rattle.lpres_reader.specs.declared.fault.Kind as declared
use Rattle.lpres_reader.specs.declared.fault.Kind.TheVariants.{NotAllImages as MissesImages}
use Rattle.lpres_reader.specs.declared.fault.Stop.{Stop}
use Rattle.lpres_reader.specs.Adds.{Adds, AddsNothing, AddsSoundly}
use Rattle.lpres_reader.specs.Arrows.{mappings}
use Rattle.lpres_reader.specs.Faults.{NotAllImages, fails, holds, kept, LineFault}
use Rattle.lpres_reader.specs.Gatherings.{Gathering}
use Rattle.lpres_reader.specs.Items.{Mapping, GivesEach}
use Rattle.lpres_reader.specs.Limits.{IsWithinLimits}
use Rattle.lpres_reader.specs.Makes.{MakesItem, Makes}
use Rattle.lpres_reader.specs.Meanings.{arrow_value, gathered_of}
use Rattle.lpres_reader.specs.Passed.{ItemRead}
use Rattle.lpres_reader.specs.Stops.{Refuses, kind_of}
use Rattle.lpres_reader.specs.Trees.{ArrowTree, fixed_sort, iterated_sort, ItemTree, relators, arrows, arrow_meaning, GivesAll}
use Rattle.lpres_reader.specs.Trees.{item_meaning}
use Rattle.lpres_reader.specs.Trials.{added}
use Rattle.lpres_reader.proofs.items.AddedLaws.{within_added}
use Rattle.lpres_reader.proofs.items.AddedLetters.{presentation_added}
use Rattle.lpres_reader.proofs.faults.LineVerdicts.{item_gives}
use Rattle.lpres_reader.proofs.faults.Refusing.{refuses_map}

mappings_of_arrows : (names : List (List ℕ)) (qs : List ArrowTree) → mappings (map (arrow_value names) qs) ≡ map (arrow_meaning names) qs
mappings_of_arrows names [] = refl
mappings_of_arrows names (q ∷ qs) = ap (λ (ms : List Mapping). arrow_meaning names q ∷ ms) (mappings_of_arrows names qs)

-- what the tree of the line gives adds what the tree means, where it gives all images
adds_meaning : (M : LPresentation) (i : ItemTree) (g : GivesAll M.names i) → Adds M (gathered_of M i) (added M (item_meaning M.names i g))
adds_meaning M (relators fixed_sort rs r) g = refl
adds_meaning M (relators iterated_sort rs r) g = refl
adds_meaning M (arrows qs q) g =
    (g.0, subst (λ (ms : List Mapping). GivesEach (length M.names) ms g.0) (sym (mappings_of_arrows M.names (qs ++ q ∷ []))) g.1, refl)

-- and nothing else
record AddsMeaning (M : LPresentation) (i : ItemTree) (L : LPresentation) : Type 0 where
  pub gives : GivesAll M.names i
  pub is : L ≡ added M (item_meaning M.names i gives)

adds_only_meaning : (M : LPresentation) (i : ItemTree) (L : LPresentation) → Adds M (gathered_of M i) L → AddsMeaning M i L
adds_only_meaning M (relators fixed_sort rs r) L e = record { gives = tt; is = e }
adds_only_meaning M (relators iterated_sort rs r) L e = record { gives = tt; is = e }
adds_only_meaning M (arrows qs q) L h = record {
  gives = (h.0, subst (λ (ms : List Mapping). GivesEach (length M.names) ms h.0) (mappings_of_arrows M.names (qs ++ q ∷ [])) h.1);
  is = h.2;
}

module _ (M : LPresentation) (sound : IsLPresentation M) (within : IsWithinLimits M) (line : List ℕ) (g : Gathering)
    (read : ItemRead M line g) where
  meaning_added : (L : LPresentation) → Adds M g L → AddsMeaning M read.form.tree L
  meaning_added L h = adds_only_meaning M read.form.tree L (subst (λ (x : Gathering). Adds M x L) read.is h)

  pub adds_soundly : AddsSoundly M g
  adds_soundly L h =
      let a = meaning_added L h in
      let i = read.form.tree in (
        subst IsLPresentation (sym a.is) (presentation_added M i a.gives sound),
        subst IsWithinLimits (sym a.is) (within_added M i a.gives sound.distinct within read.kept).1,
      )

  makes_item : (L : LPresentation) → Adds M g L → MakesItem M line L
  makes_item L h =
      let a = meaning_added L h in
      subst (MakesItem M line) (sym a.is)
      (item_gives M line read.form.tree sound.distinct within read.shallow read.form.spelled read.known read.kept a.gives)

  misses_images : AddsNothing M g → LineFault (Some M) line NotAllImages
  misses_images never =
      let i = read.form.tree in
      holds read.shallow (holds read.form (holds read.known (kept read.kept (fails
      (λ all. never (added M (item_meaning M.names i all))
      (subst (λ (x : Gathering). Adds M x (added M (item_meaning M.names i all))) (sym read.is) (adds_meaning M i all)))
      refl))))

  pub makes_or_misses : (r : Result LPresentation Stop) → MatchResult r (Adds M g) (Refuses (λ k. (k ≡ MissesImages) × AddsNothing M g))
      → MatchResult r (Makes (Some M) line) (Refuses (λ k. LineFault (Some M) line (kind_of k)))
  makes_or_misses (Ok L) h = makes_item L h
  makes_or_misses (Err s) h =
      refuses_map _ _ s (λ k m. subst (λ (x : declared.Kind). LineFault (Some M) line (kind_of x)) (sym m.0) (misses_images m.1)) h
