-- Values in a group of the words of a cover: images have the values given, so the word of a justified row has value one.
use Rattle.std.proofs.Common.{◌≡◌, ℕ, ◌<◌, ◌≤◌, None, ℤ, List, [], ◌++◌, get_or, length, map, ap, sym, ◌∙◌, arith, inl, inr}
use Rattle.std.proofs.lemmas.Bool.{cases_lt}
use Rattle.std.proofs.lemmas.List.{length-map, get_or_past}
use Rattle.std.proofs.Math.ListN.{get_or-map as entry-map}
use Rattle.pq_base.specs.SignedWord.{sub}
use Rattle.pq_base.specs.Presentation.{normal_word, word_from}
use Rattle.pq_base.specs.Joined.{Joined}
use Rattle.pq_base.specs.Answer.{Answer, Definition, IsAnswer, image_words}
use Rattle.pq_base.proofs.groups.Groups.{Group, value_in, same_from_equal, value_in-sub}
use Rattle.pc_presentation.specs.Rowed.{flat}
use Rattle.p_cover.specs.RowedAnswer.{rowed, rowed_images}
use Rattle.pq_base.specs.EntryWords.{IsSourceOf, entry_word}
use Rattle.p_cover.specs.Sources.{place_in, IsPartOf}
use Rattle.p_cover.specs.Covers.{cover_on, all_sources}
use Rattle.p_cover.proofs.RowedSpellings.{rowed_image}
use Rattle.cover_quotient.proofs.fitting.TailValues.{with_tails, images-value}
use Rattle.cover_quotient.proofs.fitting.CoverValues.{entry_elements, cover-entries}
use Rattle.cover_quotient.proofs.carried_rows.RowValues.{value_in-everywhere}
use Rattle.cover_quotient.proofs.kept_tails.KeptValues.{AreCentral, cover-is, cover-joined}

module _ (G : Group) (f : List G.carrier) (A : Answer) (is : IsAnswer A) (some : 1 < A.presentation.prime) (ds : List Definition)
    (part : IsPartOf ds (all_sources A)) (are : AreCentral G f A)
    (left_out : (d : Definition) → IsSourceOf A d → place_in ds d ≡ None → G.same (value_in G f (entry_word A d)) G.one) where
  abbrev n : ℕ
  n = A.presentation.rank

  abbrev h : List G.carrier
  h = with_tails G f A is (entry_elements G f A ds)

  pub image-value : (i : ℕ) → i < length A.images
      → G.same (value_in G (with_tails G f A is (entry_elements G f A ds)) (get_or (rowed_images (cover_on A ds)) i [])) (get_or f i G.one)
  image-value i l =
      let c = cover-is G f A is some ds part are left_out in
      G.transitive (same_from_equal G (ap (value_in G h) (rowed_image (cover_on A ds) c i)))
      (images-value G f (cover_on A ds) is c.presentation (entry_elements G f A ds) (cover-entries G f A is ds left_out) i l)

  no_image : (i : ℕ) → length A.images ≤ i → get_or (rowed_images (cover_on A ds)) i [] ≡ []
  no_image i l =
      let c = cover-is G f A is some ds part are left_out in
      let words = length-map A.images normal_word in
      let rows = c.image_count in
      let images = is.image_count in
      rowed_image (cover_on A ds) c i
      ∙ ap (λ (w : List ℤ). w ++ word_from n (get_or (cover_on A ds).image_rows i [])) (get_or_past (image_words A) i [] (omega arith))
      ∙ ap (word_from n) (get_or_past (cover_on A ds).image_rows i [] (omega arith))

  pub empty-justified : (x : List ℕ) → Joined (flat (rowed (cover_on A ds))) (word_from A.presentation.rank x) []
      → G.same (value_in G (with_tails G f A is (entry_elements G f A ds)) (word_from A.presentation.rank x)) G.one
  empty-justified x c = cover-joined G f A is some ds part are left_out c

  -- where there is an element for each name
  module _ (count : length f ≡ length A.names) where
    image-everywhere : (i : ℕ)
        → G.same (get_or (map (λ (w : List ℤ). value_in G h w) (rowed_images (cover_on A ds))) i G.one) (get_or f i G.one)
    image-everywhere i =
        G.transitive (same_from_equal G (entry-map (λ (w : List ℤ). value_in G h w) (rowed_images (cover_on A ds)) i []))
        (elim (cases_lt i (length A.images)) [
          | inl inside ↦ image-value i inside
          | inr past ↦
              let images = is.image_count in
              same_from_equal G (ap (value_in G h) (no_image i (omega arith)) ∙ sym (get_or_past f i G.one (omega arith)))
        ])

    -- a word over the images
    pub substituted-value : (w : List ℤ)
        → G.same (value_in G (with_tails G f A is (entry_elements G f A ds)) (sub w (rowed_images (cover_on A ds)))) (value_in G f w)
    substituted-value w =
        G.transitive (value_in-sub G h w (rowed_images (cover_on A ds)))
        (value_in-everywhere G (map (λ (u : List ℤ). value_in G h u) (rowed_images (cover_on A ds))) f image-everywhere w)

    pub word-justified : (x : List ℕ) (w : List ℤ)
        → Joined (flat (rowed (cover_on A ds))) (word_from A.presentation.rank x) (sub w (rowed_images (cover_on A ds)))
        → G.same (value_in G f w) G.one
        → G.same (value_in G (with_tails G f A is (entry_elements G f A ds)) (word_from A.presentation.rank x)) G.one
    word-justified x w c e = G.transitive (cover-joined G f A is some ds part are left_out c) (G.transitive (substituted-value w) e)
