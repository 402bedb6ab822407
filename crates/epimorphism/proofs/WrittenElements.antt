-- Lists of elements that are written over from the front: by copies of others, by values of words, and by inverses.
use Rattle.std.proofs.Common.{◌≡◌, ◌<◌, ◌≤◌, ◌+◌, ℕ, ℤ, List, [], ◌∷◌, ◌++◌, get_or, length, take, set, ap, ap₂, sym, ◌∙◌, subst, arith}
use Rattle.std.specs.Prelude.{All}
use Rattle.std.specs.List.{AllZip}
use Rattle.std.proofs.lemmas.List.{length-set, length-map, get_or-map, get_or_default, take_more, take_more_set, take_all}
use Rattle.std.proofs.lemmas.List.Elements.{All-set}
use Rattle.pq_base.specs.SignedWord.{HasLetters}
use Rattle.pq_base.specs.LPresentation.{AreWords}
use Rattle.pq_base.proofs.words.LetterLaws.{HasLetters-get_or}
use Rattle.pc_presentation.specs.Pcp.{TailedPresentation}
use Rattle.pc_presentation.specs.Collection.{State, identity}
use Rattle.pc_presentation.specs.Arithmetic.{evaluate_from}
use Rattle.pc_presentation.specs.Tailed.{Element, rowed_presentation, IsElement}
use Rattle.pc_presentation.specs.ImageElements.{states_of, AreImageElements}
use Rattle.p_cover.specs.Lifted.{IsInverse}
use Rattle.p_cover.proofs.ImageInverses.{inverses-more, inverses-all}
use Rattle.epimorphism.specs.Rooms.{AreAlike, value_elements}

-- one entry more of a list
pub taken-more : (xs ys : List Element) (i : ℕ) (d e : Element) → i < length xs → length xs ≡ length ys → take i ys ≡ take i xs
    → e ≡ get_or xs i d → take (i + 1) (set ys i e) ≡ take (i + 1) xs
taken-more xs ys i d e l c h q =
    take_more_set ys i e (omega arith)
    ∙ ap₂ (λ (zs : List Element) (z : Element). zs ++ z ∷ []) h q
    ∙ sym (take_more xs i d l)

-- all of its entries
pub taken-all : (xs ys : List Element) (i : ℕ) → length xs ≤ i → length xs ≡ length ys → take i ys ≡ take i xs → ys ≡ xs
taken-all xs ys i l c h = sym (take_all i ys (omega arith)) ∙ h ∙ take_all i xs l

-- copies
module _ (f g : List Element) (a : AreAlike f g) (i : ℕ) (l : i < length f) (d e : Element) where
  pub alike-prime : (get_or f i d).prime ≡ (get_or g i e).prime
  alike-prime = let c = a.count in (a.left i d l).prime ∙ sym (a.right i e (omega arith)).prime

  pub alike-rank : length (get_or f i d).state.exponents ≡ length (get_or g i e).state.exponents
  alike-rank = let c = a.count in (a.left i d l).state.exponents.count ∙ sym (a.right i e (omega arith)).state.exponents.count

  pub alike-width : length (get_or f i d).state.row ≡ length (get_or g i e).state.row
  alike-width = let c = a.count in (a.left i d l).state.row.count ∙ sym (a.right i e (omega arith)).state.row.count

  pub alike-set : (u : Element) → u ≡ get_or f i d → AreAlike f (set g i u)
  alike-set u q = record {
    presentation = a.presentation;
    left = a.left;
    right = All-set (IsElement a.presentation) g i u (subst (IsElement a.presentation) (sym q) (a.left i d l)) a.right;
    count = a.count ∙ sym (length-set g i u);
  }

-- a word of a list
pub AreWords-at : (n : ℕ) (words : List (List ℤ)) (i : ℕ) (x u : List ℤ) → AreWords n words → i < length words → x ≡ get_or words i x
    → u ≡ x → HasLetters n u
AreWords-at n words i x u ws l at is =
    subst (HasLetters n) (sym (is ∙ at ∙ get_or_default words i x [] l)) (HasLetters-get_or n words i ws)

-- values
module _ (T : TailedPresentation) (push : State → ℕ → State) (f g : List Element) where
  pub value_elements-count : (words : List (List ℤ)) → length (value_elements T push f g words) ≡ length words
  value_elements-count words =
      length-map words (λ (u : List ℤ). record {
        prime = T.presentation.prime;
        state = evaluate_from (rowed_presentation T) push (states_of f) (states_of g)
            (identity (rowed_presentation T) T.presentation.rank) u;
      })

  -- an element of the presentation whose state is the value of a word
  value-element : (words : List (List ℤ)) (i : ℕ) (u : List ℤ) (d e : Element) → i < length words → u ≡ get_or words i [] → IsElement T e
      → e.state ≡ evaluate_from (rowed_presentation T) push (states_of f) (states_of g)
      (identity (rowed_presentation T) T.presentation.rank) u
      → e ≡ get_or (value_elements T push f g words) i d
  value-element words i u d e l w h q =
      let made : List ℤ → Element = λ (v : List ℤ). record {
        prime = T.presentation.prime;
        state = evaluate_from (rowed_presentation T) push (states_of f) (states_of g)
            (identity (rowed_presentation T) T.presentation.rank) v;
      } in
      let same : e ≡ made u = ap₂ (λ (p : ℕ) (s : State). record { prime = p; state = s }) h.prime q in
      same ∙ ap made w ∙ sym (get_or-map made words i [] d l)

  -- one value more
  pub value_elements-more : (words : List (List ℤ)) (out fs gs : List Element) (i : ℕ) (x u : List ℤ) (e : Element) → i < length words
      → length out ≡ length words → take i out ≡ take i (value_elements T push f g words) → x ≡ get_or words i x → u ≡ x → fs ≡ f → gs ≡ g
      → IsElement T e
      → e.state ≡ evaluate_from (rowed_presentation T) push (states_of fs) (states_of gs)
      (identity (rowed_presentation T) T.presentation.rank) u
      → take (i + 1) (set out i e) ≡ take (i + 1) (value_elements T push f g words)
  value_elements-more words out fs gs i x u e l c h at is fq gq element q =
      let n = value_elements-count words in
      let made : List Element → List Element → State = λ us vs. evaluate_from (rowed_presentation T) push (states_of us) (states_of vs)
      (identity (rowed_presentation T) T.presentation.rank) u in
      let state : e.state ≡ made f g = q ∙ ap (λ (us : List Element). made us gs) fq ∙ ap (λ (vs : List Element). made f vs) gq in
      taken-more (value_elements T push f g words) out i e e (omega arith) (n ∙ sym c) h
      (value-element words i u e e l (is ∙ at ∙ get_or_default words i x [] l) element state)

-- inverses
module _ (T : TailedPresentation) (push : State → ℕ → State) (f : List Element) where
  pub written_inverses-more : (out : List Element) (i : ℕ) (u v : Element) → i < length f → length out ≡ length f → u ≡ get_or f i u
      → AllZip (IsInverse T push) (take i f) (take i out) → IsInverse T push u v
      → AllZip (IsInverse T push) (take (i + 1) f) (take (i + 1) (set out i v))
  written_inverses-more out i u v l c is zip inverse =
      inverses-more T push f (take i out) (take (i + 1) (set out i v)) i u v l is zip inverse (take_more_set out i v (omega arith))

  pub written_inverses-all : (out : List Element) (i : ℕ) → length f ≤ i → length out ≡ length f → All (IsElement T) f
      → AllZip (IsInverse T push) (take i f) (take i out) → AreImageElements T push f out
  written_inverses-all out i l c all zip =
      subst (λ (es : List Element). AreImageElements T push f es) (take_all i out (omega arith))
      (inverses-all T push f (take i out) i l all zip)
