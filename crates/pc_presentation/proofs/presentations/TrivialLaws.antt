-- The parts of the trivial answer meet the conditions of an answer.
use Rattle.std.proofs.Common.{◌≡◌, ℕ, zero, suc, ◌≤◌, List, [], ◌∷◌, length, map, replicate, refl, ap, sym, ◌∙◌, subst, arith}
use Rattle.std.proofs.lemmas.List.{length-map, length-replicate, get_or-replicate}
use Rattle.pq_base.specs.Limits.{max_names}
use Rattle.pq_base.specs.LPresentation.{AreDistinct}
use Rattle.pq_base.proofs.ElementarySides.{elementary-presentation}
use Rattle.pc_presentation.specs.declared.syllable.Syllable.{Syllable}
use Rattle.pc_presentation.specs.Syllable.{spread, AreSyllables}
use Rattle.pc_presentation.specs.Pcp.{TailedPresentation, plain_presentation}
use Rattle.pc_presentation.specs.Parts.{answer_of, AreImages, AreParts, trivial_answer}
use Rattle.pc_presentation.proofs.presentations.PartsLaws.{AreNormal-spread}

empty_images : (n : ℕ) → map (spread 0 0) (replicate n []) ≡ replicate n []
empty_images zero = refl
empty_images (suc n) = ap (λ (images : List (List ℕ)). [] ∷ images) (empty_images n)

module _ (p : ℕ) (names : List (List ℕ)) (T : TailedPresentation) (words : List (List Syllable)) where
  pub answer_of-trivial : T ≡ plain_presentation p [] 0 → words ≡ replicate (length names) []
      → answer_of T names [] words ≡ trivial_answer p names
  answer_of-trivial e f =
      ap (λ (t : TailedPresentation). answer_of t names [] words) e
      ∙ ap (answer_of (plain_presentation p [] 0) names []) f
      ∙ ap (λ (images : List (List ℕ)). record (trivial_answer p names) { images = images }) (empty_images (length names))

  normal : (n : ℕ) → AreImages p 0 (replicate n [])
  normal n k d h =
      let long : length (replicate {A = List Syllable} n []) ≡ n = length-replicate n [] in
      subst (AreSyllables p 0 0) (sym (get_or-replicate {A = List Syllable} n k [] d (omega arith))) tt

  pub trivial_parts : T ≡ plain_presentation p [] 0 → words ≡ replicate (length names) [] → 2 ≤ p → 1 ≤ length names
      → length names ≤ max_names
      → AreDistinct names → AreParts T names [] words
  trivial_parts e f prime some limit distinct =
      subst (λ (t : TailedPresentation). AreParts t names [] words) (sym e)
      (subst (AreParts (plain_presentation p [] 0) names []) (sym f) (record {
        no_tails = refl;
        normal = normal (length names);
        answer = record {
          presentation = elementary-presentation p 0 prime;
          weight_count = refl;
          weights = tt;
          some_name = some;
          name_limit = limit;
          distinct = distinct;
          image_count = length-map (replicate (length names) []) (spread 0 0) ∙ length-replicate (length names) [];
          images = AreNormal-spread p 0 (replicate (length names) []) (omega arith) (normal (length names));
          definition_count = refl;
          definitions = λ k h. absurd (omega arith);
        };
      }))
