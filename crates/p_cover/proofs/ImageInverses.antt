-- Elements beside elements whose products behind them are the identity: they are images with their inverses.
use Rattle.std.proofs.Common.{◌≡◌, ◌<◌, ◌≤◌, ◌+◌, ℕ, List, [], ◌∷◌, ◌++◌, get_or, length, take, ap₂, sym, ◌∙◌, subst, arith}
use Rattle.std.specs.Prelude.{All}
use Rattle.std.specs.List.{AllZip}
use Rattle.std.proofs.lemmas.List.{length-map, get_or-map, take_all}
use Rattle.std.proofs.lemmas.List.Elements.{All-from_get_or, length_all_zip, AllZip-get_or, all_zip_more}
use Rattle.pc_presentation.specs.Pcp.{TailedPresentation}
use Rattle.pc_presentation.specs.Collection.{State, IsState, identity}
use Rattle.pc_presentation.specs.Arithmetic.{product_by}
use Rattle.pc_presentation.specs.Tailed.{Element, rowed_presentation, IsElement}
use Rattle.pc_presentation.specs.ImageElements.{states_of, AreImageElements}
use Rattle.p_cover.specs.Lifted.{IsInverse}

-- elements with their inverses
images_with_inverses : (T : TailedPresentation) (push : State → ℕ → State) (f g : List Element) → All (IsElement T) f
    → AllZip (IsInverse T push) f g → AreImageElements T push f g
images_with_inverses T push f g all zip =
    let Y = rowed_presentation T in
    let d : State = identity Y T.presentation.rank in
    let none : Element = record { prime = 0; state = d } in
    let count : length f ≡ length g = length_all_zip (IsInverse T push) f g zip in
    let at : (i : ℕ) → i < length f → IsInverse T push (get_or f i none) (get_or g i none) =
    λ i l. AllZip-get_or (IsInverse T push) f g i none none zip l in
    let state_f : (i : ℕ) → i < length f → get_or (states_of f) i d ≡ (get_or f i none).state =
    λ i l. get_or-map (λ (e : Element). e.state) f i none d l in
    let state_g : (i : ℕ) → i < length f → get_or (states_of g) i d ≡ (get_or g i none).state =
    λ i l. get_or-map (λ (e : Element). e.state) g i none d (omega arith) in
    let long : length (states_of f) ≡ length f = length-map f (λ (e : Element). e.state) in
    record {
      count = sym count;
      images = all;
      inverses = All-from_get_or (IsElement T) g none (λ i l. (at i (omega arith)).element);
      states = record {
        states = λ i l. subst (IsState Y T.presentation.rank) (sym (state_f i (omega arith))) (all i none (omega arith)).state;
        inverse_states = λ i l. subst (IsState Y T.presentation.rank) (sym (state_g i (omega arith))) (at i (omega arith)).element.state;
        inverses = λ i l.
            ap₂ (λ (a b : State). product_by Y push a b) (state_f i (omega arith)) (state_g i (omega arith)) ∙ (at i (omega arith)).product;
      };
    }

module _ (T : TailedPresentation) (push : State → ℕ → State) (f : List Element) where
  -- one inverse more
  pub inverses-more : (g h : List Element) (i : ℕ) (u v : Element) → i < length f → u ≡ get_or f i u
      → AllZip (IsInverse T push) (take i f) g
      → IsInverse T push u v → h ≡ g ++ v ∷ [] → AllZip (IsInverse T push) (take (i + 1) f) h
  inverses-more g h i u v l is zip inverse e =
      subst (λ (es : List Element). AllZip (IsInverse T push) (take (i + 1) f) es) (sym e)
      (all_zip_more (IsInverse T push) f g i u v l is zip inverse)

  -- all of them are there in the end
  pub inverses-all : (g : List Element) (i : ℕ) → length f ≤ i → All (IsElement T) f → AllZip (IsInverse T push) (take i f) g
      → AreImageElements T push f g
  inverses-all g i h all zip =
      images_with_inverses T push f g all (subst (λ (es : List Element). AllZip (IsInverse T push) es g) (take_all i f h) zip)
