-- The words over the given generators that are joined in a cover stay joined under any images in another presentation, where what
-- each relation and each image of the answer becomes is central of order p, and trivial where the cover leaves it out. And the word
-- of a row becomes what it is made of: the words that its tails stand for.
use Rattle.std.proofs.Common.{◌≡◌, ℕ, ◌+◌, ◌<◌, None, ℤ, List, [], ◌∷◌, ◌++◌, get_or, length, map, ap, sym, ◌∙◌, subst}
use Rattle.std.proofs.lemmas.List.{get_or-map}
use Rattle.pq_base.specs.SignedWord.{copies, sub, HasLetters}
use Rattle.pq_base.specs.LPresentation.{AreWords}
use Rattle.pq_base.specs.Presentation.{Presentation, word_from}
use Rattle.pq_base.specs.Joined.{Joined}
use Rattle.pq_base.specs.Answer.{Answer, Definition as Source, IsAnswer}
use Rattle.pq_base.specs.Answer.Definition.{image}
use Rattle.pq_base.specs.EntryWords.{IsSourceOf, spelling_words, entry_word}
use Rattle.pq_base.proofs.words.WordLaws.{sub-copies}
use Rattle.pq_base.proofs.words.LetterLaws.{HasLetters-sub}
use Rattle.pq_base.proofs.words.JoinedLaws.{joined-sym, joined-trans, joined-from_equal}
use Rattle.pq_base.proofs.words.CentralWords.{IsCentral}
use Rattle.pq_base.proofs.groups.Groups.{Group, value_in, power_in}
use Rattle.pq_base.proofs.groups.GroupCommute.{Commute}
use Rattle.pc_presentation.specs.Rowed.{flat}
use Rattle.p_cover.specs.RowedAnswer.{rowed, rowed_images}
use Rattle.p_cover.specs.Sources.{place_in, IsPartOf}
use Rattle.p_cover.specs.Covers.{cover_on, all_sources}
use Rattle.cover_quotient.proofs.fitting.TailValues.{with_tails, get_or-tail}
use Rattle.cover_quotient.proofs.fitting.CoverValues.{entry_elements}
use Rattle.cover_quotient.proofs.fitting.JustifiedValues.{substituted-value}
use Rattle.cover_quotient.proofs.kept_tails.KeptValues.{AreCentral, cover-joined}
use Rattle.endo_lift.proofs.RangedWords.{within, ranged_group, value_in-ranged, power_in-ranged, joined-from_ranged, ranged-from_joined}
use Rattle.endo_lift.proofs.RangedWords.{ranged-central}

-- a central word of order p
pub record IsCentralOfOrder (Q : Presentation) (p : ℕ) (z : List ℤ) : Type 0 where
  pub central : IsCentral Q z
  pub order : Joined Q (copies z p) []

AreWords-append : (n : ℕ) (f g : List (List ℤ)) → AreWords n f → AreWords n g → AreWords n (f ++ g)
AreWords-append n [] g h i = i
AreWords-append n (u ∷ f) g h i = (h.0, AreWords-append n f g h.1 i)

module _ (Q : Presentation) (f : List (List ℤ)) (inside : AreWords Q.rank f) (A : Answer) (is : IsAnswer A) (ds : List Source)
    (part : IsPartOf ds (all_sources A))
    (each : (d : Source) → IsSourceOf A d → IsCentralOfOrder Q A.presentation.prime (sub (entry_word A d) f))
    (left_out : (d : Source) → IsSourceOf A d → place_in ds d ≡ None → Joined Q (sub (entry_word A d) f) [])
    (count : length f ≡ length A.names) where
  abbrev G : Group
  G = ranged_group Q

  -- what a word becomes
  letters-sub : (w : List ℤ) → HasLetters Q.rank (sub w f)
  letters-sub w = HasLetters-sub Q.rank w f inside

  element-central : (d : Source) → IsSourceOf A d → (x : List ℤ) → Commute G (value_in G f (entry_word A d)) x
  element-central d s x =
      subst (λ (z : List ℤ). Commute G z x) (sym (value_in-ranged Q f (entry_word A d)))
      (ranged-central Q (sub (entry_word A d) f) x (letters-sub (entry_word A d)) (each d s).central)

  element-order : (d : Source) → IsSourceOf A d → G.same (power_in G (value_in G f (entry_word A d)) A.presentation.prime) G.one
  element-order d s =
      let z : List ℤ = sub (entry_word A d) f in
      let power : power_in G (value_in G f (entry_word A d)) A.presentation.prime ≡ sub (copies (entry_word A d) A.presentation.prime) f =
      ap (λ (y : List ℤ). power_in G y A.presentation.prime) (value_in-ranged Q f (entry_word A d))
      ∙ power_in-ranged Q z A.presentation.prime ∙ sym (sub-copies (entry_word A d) A.presentation.prime f) in
      subst (λ (y : List ℤ). G.same y G.one) (sym power)
      (ranged-from_joined Q (sub (copies (entry_word A d) A.presentation.prime) f) []
      (letters-sub (copies (entry_word A d) A.presentation.prime)) tt
      (joined-trans (joined-from_equal Q (sub-copies (entry_word A d) A.presentation.prime f)) (each d s).order))

  elements-central : AreCentral (ranged_group Q) f A
  elements-central = record { central = element-central; order = element-order }

  element-left_out : (d : Source) → IsSourceOf A d → place_in ds d ≡ None → G.same (value_in G f (entry_word A d)) G.one
  element-left_out d s e =
      subst (λ (z : List ℤ). G.same z G.one) (sym (value_in-ranged Q f (entry_word A d)))
      (ranged-from_joined Q (sub (entry_word A d) f) [] (letters-sub (entry_word A d)) tt (left_out d s e))

  -- what the generators and the tails of the cover become
  abbrev pub carried_words : List (List ℤ)
  carried_words = with_tails (ranged_group Q) f A is (entry_elements (ranged_group Q) f A ds)

  pub carried_words-tail : (t : ℕ) → t < length ds
      → get_or carried_words (A.presentation.rank + t) [] ≡ sub (entry_word A (get_or ds t (image 0))) f
  carried_words-tail t l =
      get_or-tail G f A is (entry_elements G f A ds) t
      ∙ get_or-map (λ (d : Source). value_in G f (entry_word A d)) ds t (image 0) [] l
      ∙ value_in-ranged Q f (entry_word A (get_or ds t (image 0)))

  -- these are words over the generators
  values-letters : {X : Type 0} (g : X → List ℤ) (xs : List X) → AreWords Q.rank (map (λ (x : X). value_in G f (g x)) xs)
  values-letters g [] = tt
  values-letters g (x ∷ xs) =
      (subst (λ (y : List ℤ). HasLetters Q.rank y) (sym (value_in-ranged Q f (g x))) (letters-sub (g x)), values-letters g xs)

  carried_words-letters : AreWords Q.rank carried_words
  carried_words-letters =
      AreWords-append Q.rank (map (λ (y : List ℤ). value_in G f y) (spelling_words A)) (entry_elements G f A ds)
      (values-letters (λ (y : List ℤ). y) (spelling_words A)) (values-letters (entry_word A) ds)

  module _ (w : List ℤ) where
    abbrev under_images : List ℤ
    under_images = sub w (rowed_images (cover_on A ds))

    substituted : G.same (value_in G carried_words under_images) (value_in G f w)
    substituted = substituted-value G f A is is.presentation.prime ds part elements-central element-left_out count w

    -- a word that is joined to a word over the generators and tails
    ranged-carried : (v : List ℤ) → Joined (flat (rowed (cover_on A ds))) under_images v
        → Joined Q (within Q (sub w f)) (within Q (sub v carried_words))
    ranged-carried v c =
        let given : Joined Q (within Q (value_in G carried_words under_images)) (within Q (value_in G f w)) = substituted in
        let same : Joined Q (within Q (value_in G carried_words under_images)) (within Q (value_in G carried_words v)) =
        cover-joined G f A is is.presentation.prime ds part elements-central element-left_out {u = under_images} {v = v} c in
        let values : Joined Q (within Q (value_in G f w)) (within Q (value_in G carried_words v)) = joined-trans (joined-sym given) same in
        subst (λ (y : List ℤ). Joined Q (within Q y) (within Q (sub v carried_words))) (value_in-ranged Q f w)
        (subst (λ (y : List ℤ). Joined Q (within Q (value_in (ranged_group Q) f w)) (within Q y))
        (value_in-ranged Q carried_words v) values)

    pub row-carried : (x : List ℕ)
        → Joined (flat (rowed (cover_on A ds))) (sub w (rowed_images (cover_on A ds))) (word_from A.presentation.rank x)
        → Joined Q (sub w f) (sub (word_from A.presentation.rank x) carried_words)
    row-carried x c =
        joined-from_ranged Q (sub w f) (sub (word_from A.presentation.rank x) carried_words) (letters-sub w)
        (HasLetters-sub Q.rank (word_from A.presentation.rank x) carried_words carried_words-letters)
        (ranged-carried (word_from A.presentation.rank x) c)

    -- so a word that dies in the cover becomes a trivial word
    pub death-carried : Joined (flat (rowed (cover_on A ds))) (sub w (rowed_images (cover_on A ds))) [] → Joined Q (sub w f) []
    death-carried c = joined-from_ranged Q (sub w f) [] (letters-sub w) tt (ranged-carried [] c)
