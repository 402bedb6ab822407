-- Products, inverses, commutators and powers of elements that are values of words are the values of the words of these names, and
-- so is what a word has as its value under the images of the cover.
use Rattle.std.proofs.Common.{◌≡◌, ℕ, ◌+◌, ℤ, List, [], ◌++◌, length, map, replicate, refl, ap, ap₂, sym, ◌∙◌, subst, append_assoc, add-one}
use Rattle.std.proofs.lemmas.List.{append-nil}
use Rattle.pq_base.specs.SignedWord.{inv, copies, comm, sub}
use Rattle.pq_base.specs.Presentation.{Presentation}
use Rattle.pq_base.specs.Joined.{Joined}
use Rattle.pq_base.proofs.words.WordLaws.{sub-append, sub-inv, sub-copies, sub-comm, word_from-zeros, append-copies}
use Rattle.pq_base.proofs.words.JoinedLaws.{joined-trans, joined-from_equal, joined-append, joined-append_right}
use Rattle.pq_base.proofs.words.JoinedLaws.{joined-inv, joined-comm, joined-copies}
use Rattle.pc_presentation.specs.Pcp.{TailedPresentation}
use Rattle.pc_presentation.specs.Rowed.{RowedPresentation, flat}
use Rattle.pc_presentation.specs.Collection.{State, identity}
use Rattle.pc_presentation.specs.Arithmetic.{word_of}
use Rattle.pc_presentation.specs.Tailed.{Element, rowed_presentation, IsElement, with_state}
use Rattle.pc_presentation.specs.ImageElements.{states_of}
use Rattle.pc_presentation.proofs.quotients.TailedArithmetic.{cleared-identity, cleared-is_element}
use Rattle.p_cover.specs.RowedAnswer.{rowed_images}
use Rattle.p_cover.specs.Covers.{CoverOf, IsCover, cover_presentation, rowed_cover}
use Rattle.p_cover.specs.Images.{ImagesOf, AreLifted}
use Rattle.p_cover.proofs.ImageStates.{lifted-states}
use Rattle.p_cover.proofs.ImageValues.{tails-word_of}
use Rattle.endo_lift.specs.Values.{IsValue}

-- the word of zeros
pub one_word : (Y : RowedPresentation) → word_of Y (identity Y Y.base.rank) ≡ []
one_word Y = tails-word_of Y (identity Y Y.base.rank) refl ∙ word_from-zeros Y.base.rank Y.width

-- a power with one factor more
pub power-begun : (P : Presentation) (x u : List ℤ) → Joined P x (x ++ copies u 0)
power-begun P x u = joined-from_equal P (sym (append-nil x))

pub power-more : (P : Presentation) (x a b u : List ℤ) (n : ℕ) → Joined P x (a ++ u) → Joined P a (b ++ copies u n)
    → Joined P x (b ++ copies u (n + 1))
power-more P x a b u n j h =
    joined-trans j
    (joined-trans (joined-append_right u h)
    (joined-from_equal P
    (append_assoc b (copies u n) u
    ∙ ap (λ (w : List ℤ). b ++ w) (sym (append-copies u n) ∙ ap (copies u) (sym (add-one n))))))

-- the word of an element, and what it is joined to
abbrev pub word_in : TailedPresentation → Element → List ℤ
word_in T e = word_of (rowed_presentation T) e.state

abbrev pub StandsFor : TailedPresentation → Element → List ℤ → Type 0
StandsFor T e x = Joined (flat (rowed_presentation T)) (word_in T e) x

module _ (C : CoverOf) where
  -- in the flat reading of the cover
  abbrev Q : Presentation
  Q = flat (rowed_presentation (cover_presentation C))

  abbrev images : List (List ℤ)
  images = rowed_images (rowed_cover C)

  pub same_value : (u v : List ℤ) (e : Element) → u ≡ v → IsValue C u e → IsValue C v e
  same_value u v e q h = subst (λ (w : List ℤ). IsValue C w e) q h

  module _ (T : TailedPresentation) (t : T ≡ cover_presentation C) where
    -- a word x that is made in each presentation
    value-from : (w : List ℤ) (e : Element) (x : TailedPresentation → List ℤ) → IsElement T e → StandsFor T e (x T)
        → Joined (flat (rowed_presentation (cover_presentation C))) (x (cover_presentation C)) (sub w (rowed_images (rowed_cover C)))
        → IsValue C w e
    value-from w e x element j k =
        let moved : StandsFor (cover_presentation C) e (x (cover_presentation C)) =
        subst (λ (P : TailedPresentation). StandsFor P e (x P)) t j in
        record {
          element = subst (λ (P : TailedPresentation). IsElement P e) t element;
          joined = joined-trans moved k;
        }

    pub value-one : (e e' : Element) → IsElement T e
        → e' ≡ with_state e (record { exponents = replicate (length e.state.exponents) 0; row = replicate (length e.state.row) 0 })
        → IsValue C [] e'
    value-one e e' h q =
        let word : word_in T e' ≡ [] =
        ap (word_in T) (cleared-identity T h.presentation e e' h q) ∙ one_word (rowed_presentation T) in
        value-from [] e' (λ P. []) (cleared-is_element T h.presentation e e' h q) (joined-from_equal (flat (rowed_presentation T)) word)
        (joined-from_equal Q refl)

    pub value-product : (u v : List ℤ) (a b out : Element) → IsElement T out → StandsFor T out (word_in T a ++ word_in T b)
        → IsValue C u a → IsValue C v b → IsValue C (u ++ v) out
    value-product u v a b out element j h i =
        value-from (u ++ v) out (λ P. word_in P a ++ word_in P b) element j
        (joined-trans (joined-append h.joined i.joined) (joined-from_equal Q (sym (sub-append u v images))))

    pub value-inverse : (u : List ℤ) (a out : Element) → IsElement T out → StandsFor T out (inv (word_in T a))
        → IsValue C u a → IsValue C (inv u) out
    value-inverse u a out element j h =
        value-from (inv u) out (λ P. inv (word_in P a)) element j
        (joined-trans (joined-inv h.joined) (joined-from_equal Q (sym (sub-inv u images))))

    pub value-commutator : (u v : List ℤ) (a b out : Element) → IsElement T out → StandsFor T out (comm (word_in T a) (word_in T b))
        → IsValue C u a → IsValue C v b → IsValue C (comm u v) out
    value-commutator u v a b out element j h i =
        value-from (comm u v) out (λ P. comm (word_in P a) (word_in P b)) element j
        (joined-trans (joined-comm h.joined i.joined) (joined-from_equal Q (sym (sub-comm u v images))))

    pub value-power : (u : List ℤ) (n : ℕ) (a out : Element) → IsElement T out → StandsFor T out (copies (word_in T a) n)
        → IsValue C u a → IsValue C (copies u n) out
    value-power u n a out element j h =
        value-from (copies u n) out (λ P. copies (word_in P a) n) element j
        (joined-trans (joined-copies n h.joined) (joined-from_equal Q (sym (sub-copies u n images))))

    pub value-times_power : (u v : List ℤ) (n : ℕ) (a b out : Element) → IsElement T out
        → StandsFor T out (word_in T a ++ copies (word_in T b) n) → IsValue C u a → IsValue C v b → IsValue C (u ++ copies v n) out
    value-times_power u v n a b out element j h i =
        value-from (u ++ copies v n) out (λ P. word_in P a ++ copies (word_in P b) n) element j
        (joined-trans (joined-append h.joined (joined-copies n i.joined))
        (joined-from_equal Q
        (sym (sub-append u (copies v n) images ∙ ap (λ (w : List ℤ). sub u images ++ w) (sub-copies v n images)))))

    -- a word under the images of the cover
    pub value-evaluated : IsCover C → (push : State → ℕ → State) (f : ImagesOf) → AreLifted C push f
        → (w u : List ℤ) (fs : List Element) (out : Element) → u ≡ w → fs ≡ f.elements → IsElement T out
        → StandsFor T out (sub u (map (word_of (rowed_presentation T)) (states_of fs))) → IsValue C w out
    value-evaluated is push f lifted w u fs out same elements element j =
        let states : states_of fs ≡ states_of f.elements = ap states_of elements in
        value-from w out (λ P. sub u (map (word_of (rowed_presentation P)) (states_of fs))) element j
        (joined-from_equal Q
        (ap₂ (λ (v : List ℤ) (ss : List State). sub v (map (word_of (rowed_presentation (cover_presentation C))) ss)) same
        (states ∙ lifted-states C is push f lifted)))
