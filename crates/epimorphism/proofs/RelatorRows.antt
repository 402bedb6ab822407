-- What a call finds is the row of the word: where the value of the word lies in the tails alone, its tails.
use Rattle.std.proofs.Common.{◌≡◌, ◌↔◌, ℕ, Bool, IsTrue, ℤ, List, [], length, ap, sym, ◌∙◌, subst}
use Rattle.pq_base.specs.SignedWord.{sub, HasLetters}
use Rattle.pq_base.specs.Joined.{Joined, IsConsistent}
use Rattle.pq_base.specs.Answer.{image_words}
use Rattle.pq_base.specs.Elementary.{zeros}
use Rattle.pq_base.proofs.words.JoinedLaws.{joined-sym, joined-trans}
use Rattle.pc_presentation.specs.Pcp.{TailedPresentation}
use Rattle.pc_presentation.specs.Rowed.{RowedPresentation, flat}
use Rattle.pc_presentation.specs.Collection.{State, identity}
use Rattle.pc_presentation.specs.Arithmetic.{IsMeaning, evaluate_from}
use Rattle.pc_presentation.specs.Tailed.{Element, rowed_presentation}
use Rattle.pc_presentation.specs.Scratch.{Workspace, IsScratch}
use Rattle.pc_presentation.specs.ImageElements.{states_of}
use Rattle.p_cover.specs.RowedAnswer.{rowed_images, tails_word}
use Rattle.p_cover.specs.Covers.{CoverOf, IsCover, cover_presentation, rowed_cover}
use Rattle.p_cover.specs.Images.{ImagesOf, AreLifted}
use Rattle.p_cover.specs.ImageValues.{value_under}
use Rattle.p_cover.proofs.ImageValues.{value_under-row_joined, value_under-killed}
use Rattle.epimorphism.specs.RelatorRows.{KilledRelatorsHaveRows, RowsOfTwoCollectorsDifferByTrivialRows}

-- what a call finds: whether the value of a word is in the tails alone, and if so its row
pub record Finds (C : CoverOf) (push : State → ℕ → State) (f : ImagesOf) (w : List ℤ) (b : Bool) (x : List ℕ) : Type 0 where
  pub decided : IsTrue b ↔ (value_under C push f w).exponents ≡ zeros C.answer.presentation.rank
  pub row : IsTrue b → x ≡ (value_under C push f w).row

module _ (C : CoverOf) (is : IsCover C) (push : State → ℕ → State) (meaning : IsMeaning (rowed_presentation (cover_presentation C)) push)
    (f : ImagesOf) (lifted : AreLifted C push f) (w : List ℤ) (l : HasLetters (length C.answer.names) w)
    (b : Bool) (x : List ℕ) (finds : Finds C push f w b x) where
  pub found-row_joined : IsTrue b
      → Joined (flat (rowed_presentation (cover_presentation C))) (sub w (rowed_images (rowed_cover C))) (tails_word (rowed_cover C) x)
  found-row_joined h =
      subst (λ (y : List ℕ). Joined (flat (rowed_presentation (cover_presentation C))) (sub w (rowed_images (rowed_cover C)))
      (tails_word (rowed_cover C) y)) (sym (finds.row h))
      (value_under-row_joined C is push meaning f lifted w l (finds.decided.0 h))

  pub found-killed : IsConsistent C.answer.presentation → IsTrue b ↔ Joined C.answer.presentation (sub w (image_words C.answer)) []
  found-killed consistent =
      let k = value_under-killed C is push meaning f lifted w l consistent in
      (λ h. k.0 (finds.decided.0 h), λ d. finds.decided.1 (k.1 d))

-- what a call finds, by what the calls before it say: an element e is the value, and b and x are made from it
pub finds-from : (C : CoverOf) (meaning : RowedPresentation → State → ℕ → State) (f : ImagesOf) (w : List ℤ) (b : Bool) (x : List ℕ)
    (T : TailedPresentation) (fs gs : List Element) (u : List ℤ) (s : Workspace) (e : Element)
    → T ≡ cover_presentation C → fs ≡ f.elements → gs ≡ f.inverses → u ≡ w → IsScratch T s
    → s.left.state
    ≡ evaluate_from (rowed_presentation T) (meaning (rowed_presentation T)) (states_of fs) (states_of gs)
    (identity (rowed_presentation T) T.presentation.rank) u
    → e ≡ s.left → IsTrue b ↔ e.state.exponents ≡ zeros (length e.state.exponents) → (IsTrue b → x ≡ e.state.row)
    → Finds C (meaning (rowed_presentation (cover_presentation C))) f w b x
finds-from C meaning f w b x T fs gs u s e t fq gq uq scratch value eq d r =
    let made : TailedPresentation → List Element → List Element → List ℤ → State =
    λ P xs ys v. evaluate_from (rowed_presentation P) (meaning (rowed_presentation P)) (states_of xs) (states_of ys)
    (identity (rowed_presentation P) P.presentation.rank) v in
    let state : e.state ≡ value_under C (meaning (rowed_presentation (cover_presentation C))) f w =
    ap (λ (z : Element). z.state) eq ∙ value ∙ ap (λ (P : TailedPresentation). made P fs gs u) t
    ∙ ap (λ (xs : List Element). made (cover_presentation C) xs gs u) fq
    ∙ ap (λ (ys : List Element). made (cover_presentation C) f.elements ys u) gq
    ∙ ap (λ (v : List ℤ). made (cover_presentation C) f.elements f.inverses v) uq in
    let exponents : e.state.exponents ≡ (value_under C (meaning (rowed_presentation (cover_presentation C))) f w).exponents =
    ap (λ (z : State). z.exponents) state in
    let count : length e.state.exponents ≡ C.answer.presentation.rank =
    ap (λ (z : Element). length z.state.exponents) eq
    ∙ scratch.left.state.exponents.count ∙ ap (λ (P : TailedPresentation). P.presentation.rank) t in
    record {
      decided = (
        λ h. sym exponents ∙ d.0 h ∙ ap zeros count,
        λ q. d.1 (exponents ∙ q ∙ sym (ap zeros count)),
      );
      row = λ h. r h ∙ ap (λ (z : State). z.row) state;
    }

pub killed_relators_have_rows : KilledRelatorsHaveRows
killed_relators_have_rows C is consistent push meaning f lifted w l = value_under-killed C is push meaning f lifted w l consistent

pub rows_of_two_collectors_differ_by_trivial_rows : RowsOfTwoCollectorsDifferByTrivialRows
rows_of_two_collectors_differ_by_trivial_rows C is push push' meaning meaning' f f' lifted lifted' w l q q' =
    joined-trans (joined-sym (value_under-row_joined C is push meaning f lifted w l q))
    (value_under-row_joined C is push' meaning' f' lifted' w l q')
