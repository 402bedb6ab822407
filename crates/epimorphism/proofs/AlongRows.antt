-- Images of a cover are carried along endomorphisms in the room that work has, and what is found under them is the row of the
-- word along them.
use Rattle.std.proofs.Common.{◌≡◌, ◌↔◌, ◌<◌, ◌+◌, ℕ, zero, suc, Bool, IsTrue, ℤ, List, [], ◌∷◌, get_or, length, take, ap, sym, ◌∙◌, subst}
use Rattle.std.proofs.Common.{arith}
use Rattle.std.proofs.lemmas.List.{take_more}
use Rattle.pq_base.specs.LPresentation.{AreEndoNumbers, endo_at}
use Rattle.pq_base.specs.Elementary.{zeros}
use Rattle.pc_presentation.specs.Pcp.{TailedPresentation}
use Rattle.pc_presentation.specs.Rowed.{RowedPresentation}
use Rattle.pc_presentation.specs.Collection.{State, identity}
use Rattle.pc_presentation.specs.Arithmetic.{evaluate_from}
use Rattle.pc_presentation.specs.Tailed.{Element, rowed_presentation}
use Rattle.pc_presentation.specs.Scratch.{Workspace, IsScratch}
use Rattle.pc_presentation.specs.ImageElements.{states_of, AreImageElements}
use Rattle.p_cover.specs.Covers.{CoverOf, IsCover, cover_presentation}
use Rattle.p_cover.specs.Images.{ImagesOf, AreLifted}
use Rattle.p_cover.specs.ImagesAlong.{AreComposed, AreCarried, IsFoundAlong}
use Rattle.p_cover.proofs.ImageStates.{lifted-count}
use Rattle.p_cover.proofs.ImagesAlong.{carried-further}
use Rattle.epimorphism.specs.Rooms.{IsRoom, Rooms, IsWork, AreAlike, value_elements}
use Rattle.epimorphism.proofs.RelatorRows.{Finds, finds-from}

-- an entry is the number of an endomorphism
pub AreEndoNumbers-get_or : (m : ℕ) (s : List ℕ) (i d : ℕ) → AreEndoNumbers m s → i < length s → AreEndoNumbers m (get_or s i d ∷ [])
AreEndoNumbers-get_or m [] i d h l = absurd (omega arith)
AreEndoNumbers-get_or m (zero ∷ s) i d h l = absurd h
AreEndoNumbers-get_or m (suc e ∷ s) zero d h l = (h.0, tt)
AreEndoNumbers-get_or m (suc e ∷ s) (suc i) d h l = AreEndoNumbers-get_or m s i d h.1 (omega arith)

-- the images of the cover fit in the first place
module _ (C : CoverOf) (is : IsCover C) (push : State → ℕ → State) (f : ImagesOf) (lifted : AreLifted C push f) (w : Rooms)
    (work : IsWork C w) where
  pub lifted-elements_alike : AreAlike f.elements w.first.elements
  lifted-elements_alike = record {
    presentation = cover_presentation C;
    left = lifted.images.images;
    right = work.first.elements;
    count = lifted-count C is push f lifted ∙ sym work.first.count;
  }

  pub lifted-inverses_alike : AreAlike f.inverses w.first.inverses
  lifted-inverses_alike = record {
    presentation = cover_presentation C;
    left = lifted.images.inverses;
    right = work.first.inverses;
    count = lifted.images.count ∙ lifted-count C is push f lifted ∙ sym work.first.inverse_count;
  }

  pub begun-work : (v : Rooms) → v.first ≡ f → v.second ≡ w.second → IsWork C v
  begun-work v a b =
      let room : IsRoom (cover_presentation C) (length C.answer.names) f = record {
        elements = lifted.images.images;
        inverses = lifted.images.inverses;
        count = lifted-count C is push f lifted;
        inverse_count = lifted.images.count ∙ lifted-count C is push f lifted;
      } in
      record {
        first = subst (IsRoom (cover_presentation C) (length C.answer.names)) (sym a) room;
        second = subst (IsRoom (cover_presentation C) (length C.answer.names)) (sym b) work.second;
      }

  pub begun-images : (v : Rooms) → v.first ≡ f → AreImageElements (cover_presentation C) push v.first.elements v.first.inverses
  begun-images v a = subst (λ (g : ImagesOf). AreImageElements (cover_presentation C) push g.elements g.inverses) (sym a) lifted.images

-- one endomorphism more
module _ (C : CoverOf) (push : State → ℕ → State) where
  pub carried-more : (endos : List (List (List ℤ))) (f g h : ImagesOf) (path : List ℕ) (i : ℕ) (endo : List (List ℤ)) → i < length path
      → AreCarried C push endos f (take i path) g → endo ≡ endo_at endos (get_or path i 0) → AreComposed C push g endo h
      → AreCarried C push endos f (take (i + 1) path) h
  carried-more endos f g h path i endo l carried same composed =
      subst (λ (s : List ℕ). AreCarried C push endos f s h) (sym (take_more path i 0 l))
      (carried-further C push h (get_or path i 0) carried (subst (λ (z : List (List ℤ)). AreComposed C push g z h) same composed))

  -- the two places exchanged, after images were composed into the second
  pub exchanged-work : (w v : Rooms) (h : ImagesOf) (n : ℕ) → IsWork C w → IsRoom (cover_presentation C) n h → n ≡ length C.answer.names
      → v.first ≡ h → v.second ≡ w.first → IsWork C v
  exchanged-work w v h n work room count a b =
      let fits : IsRoom (cover_presentation C) (length C.answer.names) h =
      subst (λ (m : ℕ). IsRoom (cover_presentation C) m h) count room in
      record {
        first = subst (IsRoom (cover_presentation C) (length C.answer.names)) (sym a) fits;
        second = subst (IsRoom (cover_presentation C) (length C.answer.names)) (sym b) work.first;
      }

-- the same presentation and the same lists
pub images-at : (meaning : RowedPresentation → State → ℕ → State) (S T : TailedPresentation) (f g d e : List Element) → T ≡ S → d ≡ f
    → e ≡ g
    → AreImageElements S (meaning (rowed_presentation S)) f g → AreImageElements T (meaning (rowed_presentation T)) d e
images-at meaning S T f g d e t p q images =
    let there : AreImageElements T (meaning (rowed_presentation T)) f g =
    subst (λ (P : TailedPresentation). AreImageElements P (meaning (rowed_presentation P)) f g) (sym t) images in
    let left : AreImageElements T (meaning (rowed_presentation T)) d g =
    subst (λ (es : List Element). AreImageElements T (meaning (rowed_presentation T)) es g) (sym p) there in
    subst (λ (es : List Element). AreImageElements T (meaning (rowed_presentation T)) d es) (sym q) left

-- composed images d and e, by what the calls before it say: g are the values, and h the inverses
pub composed-from : (C : CoverOf) (meaning : RowedPresentation → State → ℕ → State) (f : ImagesOf) (endo : List (List ℤ))
    (S T : TailedPresentation)
    (g h d e es : List Element) → S ≡ cover_presentation C → T ≡ cover_presentation C
    → g ≡ value_elements S (meaning (rowed_presentation S)) f.elements f.inverses endo → es ≡ g
    → AreImageElements T (meaning (rowed_presentation T)) es h → d ≡ g → e ≡ h
    → AreComposed C (meaning (rowed_presentation (cover_presentation C))) f endo (record { elements = d; inverses = e })
composed-from C meaning f endo S T g h d e es s t values same images p q = record {
  elements = p ∙ values ∙ ap (λ (P : TailedPresentation). value_elements P (meaning (rowed_presentation P)) f.elements f.inverses endo) s;
  images = images-at meaning T (cover_presentation C) es h d e (sym t) (p ∙ sym same) q images;
}

-- what is found, by what the calls before it say: images g were carried, an element e is the value under them, and b and x are
-- made from it
pub found_along-from : (C : CoverOf) (meaning : RowedPresentation → State → ℕ → State) (endos : List (List (List ℤ))) (f g : ImagesOf)
    (path : List ℕ) (w : List ℤ) (b : Bool) (x : List ℕ) (T : TailedPresentation) (fs gs : List Element) (u : List ℤ) (s : Workspace)
    (e : Element)
    → AreCarried C (meaning (rowed_presentation (cover_presentation C))) endos f path g
    → T ≡ cover_presentation C → fs ≡ g.elements → gs ≡ g.inverses → u ≡ w → IsScratch T s
    → s.left.state
    ≡ evaluate_from (rowed_presentation T) (meaning (rowed_presentation T)) (states_of fs) (states_of gs)
    (identity (rowed_presentation T) T.presentation.rank) u
    → e ≡ s.left → IsTrue b ↔ e.state.exponents ≡ zeros (length e.state.exponents) → (IsTrue b → x ≡ e.state.row)
    → IsFoundAlong C (meaning (rowed_presentation (cover_presentation C))) endos f path w b x
found_along-from C meaning endos f g path w b x T fs gs u s e carried t fq gq uq scratch value eq d r =
    let finds : Finds C (meaning (rowed_presentation (cover_presentation C))) g w b x =
    finds-from C meaning g w b x T fs gs u s e t fq gq uq scratch value eq d r in
    record { images = g; carried = carried; decided = finds.decided; row = finds.row }
