-- The value of a word under images that were carried along endomorphisms is joined to the image of the word along them, under
-- the images at the start. So where such a value has no exponent the word of its row is joined in the cover to that image, and
-- over a consistent answer this is so exactly where the answer kills it.
use Rattle.std.proofs.Common.{◌≡◌, ◌↔◌, ℕ, zero, suc, ◌<◌, Bool, IsTrue, ℤ, List, [], ◌∷◌, ◌++◌, get_or, length, map, ap, sym, ◌∙◌, subst}
use Rattle.std.proofs.Common.{arith}
use Rattle.std.proofs.lemmas.List.{length-map}
use Rattle.pq_base.specs.SignedWord.{sub, HasLetters}
use Rattle.pq_base.specs.LPresentation.{endo_at, along, AreEndoNumbers, AreWords, AreEndos}
use Rattle.pq_base.specs.Presentation.{Presentation}
use Rattle.pq_base.specs.Joined.{Joined, IsConsistent}
use Rattle.pq_base.specs.Answer.{image_words}
use Rattle.pq_base.specs.Elementary.{zeros}
use Rattle.pq_base.proofs.words.JoinedLaws.{joined-refl, joined-trans, joined-from_equal}
use Rattle.pq_base.proofs.words.WordGroup.{joined-sub_same}
use Rattle.pq_base.proofs.words.AlongLaws.{sub-along, AreWords-endo_at, HasLetters-along}
use Rattle.pc_presentation.specs.Rowed.{RowedPresentation, IsRowed, flat}
use Rattle.pc_presentation.specs.Collection.{State, IsState, identity}
use Rattle.pc_presentation.specs.Arithmetic.{IsMeaning, word_of, evaluate_from, AreImages}
use Rattle.pc_presentation.specs.Tailed.{Element, rowed_presentation}
use Rattle.pc_presentation.specs.ImageElements.{states_of, AreImageElements}
use Rattle.pc_presentation.proofs.rows.RowLaws.{identity-state}
use Rattle.pc_presentation.proofs.quotients.TailedLaws.{rowed_presentation-is}
use Rattle.pc_presentation.proofs.quotients.TailedArithmetic.{big_prime}
use Rattle.pc_presentation.proofs.quotients.CollectorArithmetic.{collectors_have_arithmetic, identity-word}
use Rattle.pc_presentation.proofs.quotients.WordValues.{value-state}
use Rattle.pc_presentation.proofs.quotients.BaseValues.{value-joined_base, zero-exponents_joined}
use Rattle.pc_presentation.proofs.consistent.Reached.{state_word}
use Rattle.p_cover.specs.RowedAnswer.{rowed_images, tails_word}
use Rattle.p_cover.specs.Covers.{CoverOf, IsCover, cover_presentation, rowed_cover}
use Rattle.p_cover.specs.Images.{ImagesOf, AreLifted}
use Rattle.p_cover.specs.ImageValues.{value_under}
use Rattle.p_cover.specs.ImagesAlong.{composed_elements, AreComposed, AreCarried, IsFoundAlong, IsRowAlongEndos}
use Rattle.p_cover.specs.ImagesAlong.AreCarried.{nowhere, onward}
use Rattle.p_cover.proofs.ImageStates.{image_states-words, lifted-states, lifted-count, lifted-presentation}
use Rattle.p_cover.proofs.ImageValues.{row-joined}

-- an endomorphism has an image for each generator
AreEndos-count : (n : ℕ) (endos : List (List (List ℤ))) (i : ℕ) → AreEndos n endos → i < length endos → length (get_or endos i []) ≡ n
AreEndos-count n [] i h l = absurd (omega arith)
AreEndos-count n (f ∷ fs) zero h l = h.0
AreEndos-count n (f ∷ fs) (suc i) h l = AreEndos-count n fs i h.2 (omega arith)

endo_at-count : (n : ℕ) (endos : List (List (List ℤ))) (e : ℕ) (s : List ℕ) → AreEndos n endos → AreEndoNumbers (length endos) (e ∷ s)
    → length (endo_at endos e) ≡ n
endo_at-count n endos zero s h k = absurd k
endo_at-count n endos (suc i) s h k = AreEndos-count n endos i h k.0

later_numbers : (m e : ℕ) (s : List ℕ) → AreEndoNumbers m (e ∷ s) → AreEndoNumbers m s
later_numbers m zero s k = absurd k
later_numbers m (suc i) s k = k.1

module _ (C : CoverOf) (push : State → ℕ → State) where
  composed-count : (f g : ImagesOf) (endo : List (List ℤ)) → AreComposed C push f endo g → length g.elements ≡ length endo
  composed-count f g endo composed =
      ap (λ (es : List Element). length es) composed.elements
      ∙ length-map endo (λ (u : List ℤ). record { prime = C.answer.presentation.prime; state = value_under C push f u })

  -- carried images are images with their inverses, as many as before
  pub carried-images : (n : ℕ) (endos : List (List (List ℤ))) → AreEndos n endos → {f g : ImagesOf} {s : List ℕ}
      → AreEndoNumbers (length endos) s → length f.elements ≡ n → AreImageElements (cover_presentation C) push f.elements f.inverses
      → AreCarried C push endos f s g → (length g.elements ≡ n) × AreImageElements (cover_presentation C) push g.elements g.inverses
  carried-images n endos are numbers count images nowhere = (count, images)
  carried-images n endos are {f = f} numbers count images (onward {g = g} {s = s} e composed rest) =
      carried-images n endos are (later_numbers (length endos) e s numbers)
      (composed-count f g (endo_at endos e) composed ∙ endo_at-count n endos e s are numbers) composed.images rest

  -- one endomorphism more
  pub carried-further : {endos : List (List (List ℤ))} {f g : ImagesOf} {s : List ℕ} (h : ImagesOf) (e : ℕ) → AreCarried C push endos f s g
      → AreComposed C push g (endo_at endos e) h → AreCarried C push endos f (s ++ e ∷ []) h
  carried-further h e nowhere last = onward e last nowhere
  carried-further h e (onward d composed rest) last = onward d composed (carried-further h e rest last)

-- in a presentation in which the word of a value is joined to the word that was evaluated
module _ (C : CoverOf) (push : State → ℕ → State) (Q : Presentation) (word : State → List ℤ)
    (values : (f g : List State) (w : List ℤ) → AreImages (rowed_presentation (cover_presentation C)) push f g → HasLetters (length f) w
    → Joined Q (word (evaluate_from (rowed_presentation (cover_presentation C)) push f g
    (identity (rowed_presentation (cover_presentation C)) C.answer.presentation.rank) w)) (sub w (map word f))) where
  value-letters : (f : ImagesOf) (n : ℕ) (w : List ℤ) → length f.elements ≡ n → HasLetters n w
      → HasLetters (length (states_of f.elements)) w
  value-letters f n w count l =
      subst (λ (m : ℕ). HasLetters m w) (sym (length-map f.elements (λ (e : Element). e.state) ∙ count)) l

  -- the words of composed images
  composed-words : (f : ImagesOf) (n : ℕ) → length f.elements ≡ n → AreImageElements (cover_presentation C) push f.elements f.inverses
      → (endo : List (List ℤ)) → AreWords n endo → (i : ℕ)
      → Joined Q (get_or (map word (states_of (composed_elements C push f endo))) i [])
      (get_or (map (λ (u : List ℤ). sub u (map word (states_of f.elements))) endo) i [])
  composed-words f n count images [] ws i = joined-refl Q []
  composed-words f n count images (u ∷ us) ws zero =
      values (states_of f.elements) (states_of f.inverses) u images.states (value-letters f n u count ws.0)
  composed-words f n count images (u ∷ us) ws (suc i) = composed-words f n count images us ws.1 i

  pub carried-joined : (n : ℕ) (endos : List (List (List ℤ))) → AreEndos n endos → {f g : ImagesOf} {s : List ℕ}
      → AreEndoNumbers (length endos) s → length f.elements ≡ n → AreImageElements (cover_presentation C) push f.elements f.inverses
      → AreCarried C push endos f s g → (w : List ℤ) → HasLetters n w
      → Joined Q (word (value_under C push g w)) (sub (along endos s w) (map word (states_of f.elements)))
  carried-joined n endos are {f = f} numbers count images nowhere w l =
      values (states_of f.elements) (states_of f.inverses) w images.states (value-letters f n w count l)
  carried-joined n endos are {f = f} numbers count images (onward {g = g} {s = s} e composed rest) w l =
      let words : List (List ℤ) = map word (states_of f.elements) in
      let endo : List (List ℤ) = endo_at endos e in
      joined-trans
      (carried-joined n endos are (later_numbers (length endos) e s numbers)
      (composed-count C push f g endo composed ∙ endo_at-count n endos e s are numbers) composed.images rest w l)
      (joined-trans
      (joined-from_equal Q (ap (λ (es : List Element). sub (along endos s w) (map word (states_of es))) composed.elements))
      (joined-trans
      (joined-sub_same Q n (map word (states_of (composed_elements C push f (endo_at endos e))))
      (map (λ (u : List ℤ). sub u words) (endo_at endos e))
      (λ i m. composed-words f n count images (endo_at endos e) (AreWords-endo_at n endos e are) i)
      (along endos s w) (HasLetters-along n endos s w are l))
      (joined-from_equal Q (sym (sub-along endos e s w words)))))

-- from the images of the cover on
module _ (C : CoverOf) (is : IsCover C) (push : State → ℕ → State) (meaning : IsMeaning (rowed_presentation (cover_presentation C)) push)
    (f : ImagesOf) (lifted : AreLifted C push f) (endos : List (List (List ℤ))) (are : AreEndos (length C.answer.names) endos)
    (s : List ℕ) (numbers : AreEndoNumbers (length endos) s) (w : List ℤ) (l : HasLetters (length C.answer.names) w)
    (g : ImagesOf) (carried : AreCarried C push endos f s g) where
  abbrev Y : RowedPresentation
  Y = rowed_presentation (cover_presentation C)

  rows : IsRowed (rowed_presentation (cover_presentation C))
  rows = rowed_presentation-is (cover_presentation C) (lifted-presentation C is push f lifted)

  big : 1 < C.answer.presentation.prime
  big = big_prime (cover_presentation C) (lifted-presentation C is push f lifted)

  one-state : IsState Y C.answer.presentation.rank (identity Y C.answer.presentation.rank)
  one-state = let b = big in identity-state Y C.answer.presentation.rank (omega arith)

  -- in the cover
  values-joined : (f g : List State) (w : List ℤ) → AreImages Y push f g → HasLetters (length f) w
      → Joined (flat Y) (word_of Y (evaluate_from Y push f g (identity Y C.answer.presentation.rank) w)) (sub w (map (word_of Y) f))
  values-joined f g w images l =
      let a = collectors_have_arithmetic Y rows push meaning in
      joined-trans (a.values f g (identity Y C.answer.presentation.rank) w images one-state l)
      (joined-from_equal (flat Y) (ap (λ (v : List ℤ). v ++ sub w (map (word_of Y) f)) (identity-word Y rows big push meaning)))

  pub carried-joined_flat : Joined (flat Y) (word_of Y (value_under C push g w)) (sub (along endos s w) (rowed_images (rowed_cover C)))
  carried-joined_flat =
      joined-trans
      (carried-joined C push (flat Y) (word_of Y) values-joined (length C.answer.names) endos are numbers
      (lifted-count C is push f lifted) lifted.images carried w l)
      (joined-from_equal (flat Y) (ap (λ (ss : List State). sub (along endos s w) (map (word_of Y) ss)) (lifted-states C is push f lifted)))

  pub carried-row_joined : (value_under C push g w).exponents ≡ zeros C.answer.presentation.rank
      → Joined (flat Y) (sub (along endos s w) (rowed_images (rowed_cover C))) (tails_word (rowed_cover C) (value_under C push g w).row)
  carried-row_joined q = row-joined Y (value_under C push g w) (sub (along endos s w) (rowed_images (rowed_cover C))) carried-joined_flat q

  -- in the answer
  carried-joined_base : Joined C.answer.presentation (state_word (value_under C push g w)) (sub (along endos s w) (image_words C.answer))
  carried-joined_base =
      joined-trans
      (carried-joined C push C.answer.presentation state_word (value-joined_base Y rows big push meaning)
      (length C.answer.names) endos are numbers
      (lifted-count C is push f lifted) lifted.images carried w l)
      (joined-from_equal C.answer.presentation
      (ap (λ (ss : List State). sub (along endos s w) (map state_word ss)) (lifted-states C is push f lifted)
      ∙ ap (sub (along endos s w)) (image_states-words C is)))

  carried-value_state : IsState Y C.answer.presentation.rank (value_under C push g w)
  carried-value_state =
      let c = carried-images C push (length C.answer.names) endos are numbers (lifted-count C is push f lifted) lifted.images carried in
      value-state Y rows big push meaning (states_of g.elements) (states_of g.inverses)
      (identity Y C.answer.presentation.rank) w c.1.states one-state
      (subst (λ (n : ℕ). HasLetters n w) (sym (length-map g.elements (λ (e : Element). e.state) ∙ c.0)) l)

  pub carried-killed : IsConsistent C.answer.presentation
      → (value_under C push g w).exponents ≡ zeros C.answer.presentation.rank
      ↔ Joined C.answer.presentation (sub (along endos s w) (image_words C.answer)) []
  carried-killed consistent =
      let b = big in
      zero-exponents_joined Y (omega arith) consistent (value_under C push g w) (sub (along endos s w) (image_words C.answer))
      carried-value_state carried-joined_base

-- what is found along endomorphisms
module _ (C : CoverOf) (is : IsCover C) (push : State → ℕ → State) (meaning : IsMeaning (rowed_presentation (cover_presentation C)) push)
    (f : ImagesOf) (lifted : AreLifted C push f) (endos : List (List (List ℤ))) (are : AreEndos (length C.answer.names) endos)
    (s : List ℕ) (numbers : AreEndoNumbers (length endos) s) (w : List ℤ) (l : HasLetters (length C.answer.names) w)
    (b : Bool) (x : List ℕ) (found : IsFoundAlong C push endos f s w b x) where
  pub found_along-joined : IsTrue b
      → Joined (flat (rowed_presentation (cover_presentation C))) (sub (along endos s w) (rowed_images (rowed_cover C)))
      (tails_word (rowed_cover C) x)
  found_along-joined h =
      subst (λ (y : List ℕ). Joined (flat (rowed_presentation (cover_presentation C)))
      (sub (along endos s w) (rowed_images (rowed_cover C))) (tails_word (rowed_cover C) y))
      (sym (found.row h))
      (carried-row_joined C is push meaning f lifted endos are s numbers w l found.images found.carried (found.decided.0 h))

  pub found_along-killed : IsConsistent C.answer.presentation
      → IsTrue b ↔ Joined C.answer.presentation (sub (along endos s w) (image_words C.answer)) []
  found_along-killed consistent =
      let k = carried-killed C is push meaning f lifted endos are s numbers w l found.images found.carried consistent in
      (λ h. k.0 (found.decided.0 h), λ d. found.decided.1 (k.1 d))

-- what is found is the row of the word along them
pub found_along-row : (C : CoverOf) (push : State → ℕ → State) (endos : List (List (List ℤ))) (f : ImagesOf) → AreLifted C push f
    → (s : List ℕ) (w : List ℤ) (b : Bool) (x : List ℕ) → IsFoundAlong C push endos f s w b x → IsTrue b
    → IsRowAlongEndos C push endos s w x
found_along-row C push endos f lifted s w b x found h = record {
  start = f;
  lifted = lifted;
  images = found.images;
  carried = found.carried;
  zero = found.decided.0 h;
  row = found.row h;
}

-- the word of that row
pub row_along-joined : (C : CoverOf) → IsCover C → (push : State → ℕ → State) → IsMeaning (rowed_presentation (cover_presentation C)) push
    → (endos : List (List (List ℤ))) → AreEndos (length C.answer.names) endos → (s : List ℕ) → AreEndoNumbers (length endos) s
    → (w : List ℤ) → HasLetters (length C.answer.names) w → (x : List ℕ) → IsRowAlongEndos C push endos s w x
    → Joined (flat (rowed_presentation (cover_presentation C))) (sub (along endos s w) (rowed_images (rowed_cover C)))
    (tails_word (rowed_cover C) x)
row_along-joined C is push meaning endos are s numbers w l x h =
    subst (λ (y : List ℕ). Joined (flat (rowed_presentation (cover_presentation C))) (sub (along endos s w) (rowed_images (rowed_cover C)))
    (tails_word (rowed_cover C) y))
    (sym h.row) (carried-row_joined C is push meaning h.start h.lifted endos are s numbers w l h.images h.carried h.zero)
