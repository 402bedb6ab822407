-- A homomorphism of group tables keeps the neutral element and inverses, so it carries the value of a word to the value of
-- the word.
use Rattle.std.proofs.Common.{◌≡◌, ℕ, zero, suc, ◌<◌, ℤ, pos, negsuc, List, [], ◌∷◌, get_or, ap, ap₂, sym, ◌∙◌}
use Rattle.pq_base.specs.SignedWord.{HasLetters}
use Rattle.pq_base.specs.Table.{Table, IsGroup, AllBelow, times, inverse, element_of, value}
use Rattle.pq_base.specs.Largest.{IsHomomorphism}
use Rattle.pq_base.proofs.tables.TableLaws.{times-inverse, inverse-below, inverse-unique, times-cancel_left, get_or-below, element-below}
use Rattle.pq_base.proofs.tables.TableLaws.{value-below}

module _ (T U : Table) (g : IsGroup T) (k : IsGroup U) (h : List ℕ) (is : IsHomomorphism T U h) where
  pub homomorphism-below : (a : ℕ) → get_or h a 0 < U.size
  homomorphism-below a = get_or-below U.size h a k.nonempty is.elements

  pub homomorphism-zero : get_or h 0 0 ≡ 0
  homomorphism-zero =
      let x : ℕ = get_or h 0 0 in
      let l : get_or h 0 0 < U.size = homomorphism-below 0 in
      times-cancel_left U k x x 0 l l k.nonempty
      (sym (is.products 0 0 g.nonempty g.nonempty)
      ∙ ap (λ (a : ℕ). get_or h a 0) (g.neutral_left 0 g.nonempty)
      ∙ sym (k.neutral_right x l))

  pub homomorphism-inverse : (a : ℕ) → a < T.size → get_or h (inverse T a) 0 ≡ inverse U (get_or h a 0)
  homomorphism-inverse a l =
      inverse-unique U k (get_or h a 0) (get_or h (inverse T a) 0) (homomorphism-below a) (homomorphism-below (inverse T a))
      (sym (is.products a (inverse T a) l (inverse-below T g a l))
      ∙ ap (λ (b : ℕ). get_or h b 0) (times-inverse T a)
      ∙ homomorphism-zero)

  module _ (e f : List ℕ) (below : AllBelow T.size e) (n : ℕ)
      (carries : (i : ℕ) → i < n → get_or h (get_or e i 0) 0 ≡ get_or f i 0) where
    homomorphism-element : (c : ℤ) (w : List ℤ) → HasLetters n (c ∷ w) → get_or h (element_of T e c) 0 ≡ element_of U f c
    homomorphism-element (pos zero) w l = absurd l.0
    homomorphism-element (pos (suc i)) w l = carries i l.0
    homomorphism-element (negsuc i) w l =
        homomorphism-inverse (get_or e i 0) (get_or-below T.size e i g.nonempty below) ∙ ap (inverse U) (carries i l.0)

    pub homomorphism-value : (w : List ℤ) → HasLetters n w → get_or h (value T e w) 0 ≡ value U f w
    homomorphism-value [] l = homomorphism-zero
    homomorphism-value (c ∷ w) l =
        is.products (element_of T e c) (value T e w) (element-below T g e below c) (value-below T g e below w)
        ∙ ap₂ (times U) (homomorphism-element c w l) (homomorphism-value w l.1)
