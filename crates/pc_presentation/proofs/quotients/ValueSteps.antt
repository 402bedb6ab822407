-- Evaluating a word letter by letter: what is left of it, from the new element on, has the value that it had before.
use Rattle.std.proofs.Common.{◌≡◌, ℕ, zero, suc, ◌+◌, ◌<◌, ℤ, pos, negsuc, List, ◌∷◌, get_or, length, drop, ap, sym, ◌∙◌, arith}
use Rattle.std.proofs.Math.ListN.{get_or-map}
use Rattle.std.proofs.lemmas.List.{drop_more}
use Rattle.pq_base.specs.SignedWord.{IsLetter}
use Rattle.pc_presentation.specs.Pcp.{TailedPresentation}
use Rattle.pc_presentation.specs.Collection.{State}
use Rattle.pc_presentation.specs.Arithmetic.{product_by, evaluate_from}
use Rattle.pc_presentation.specs.Tailed.{Element, rowed_presentation, IsElement, one_of, with_state}
use Rattle.pc_presentation.specs.ImageElements.{states_of, letter_value, AreImageElements}

module _ (T : TailedPresentation) (push : State → ℕ → State) (f g : List Element) where
  -- the element after a word
  abbrev pub evaluated : Element → List ℤ → Element
  evaluated e w = with_state e (evaluate_from (rowed_presentation T) push (states_of f) (states_of g) e.state w)

  pub value-element : (k : ℤ) → AreImageElements T push f g → IsLetter (length f) k → IsElement T (letter_value f g (one_of T) k)
  value-element (pos zero) h l = absurd l
  value-element (pos (suc i)) h l = h.images i (one_of T) l
  value-element (negsuc i) h l = let c = h.count in h.inverses i (one_of T) (omega arith)

  letter-evaluated : (e : Element) (k : ℤ) (w : List ℤ) → IsLetter (length f) k
      → evaluated e (k ∷ w)
      ≡ evaluated (with_state e (product_by (rowed_presentation T) push e.state (letter_value f g (one_of T) k).state)) w
  letter-evaluated e (pos zero) w l = absurd l
  letter-evaluated e (pos (suc i)) w l =
      ap (λ (s : State). evaluated (with_state e (product_by (rowed_presentation T) push e.state s)) w)
      (get_or-map (λ (x : Element). x.state) f i (one_of T))
  letter-evaluated e (negsuc i) w l =
      ap (λ (s : State). evaluated (with_state e (product_by (rowed_presentation T) push e.state s)) w)
      (get_or-map (λ (x : Element). x.state) g i (one_of T))

  pub letters-left : (e e' x : Element) (j : ℕ) (w : List ℤ) (d : ℤ) → j < length w → IsLetter (length f) (get_or w j d)
      → x ≡ letter_value f g (one_of T) (get_or w j d)
      → e' ≡ with_state e (product_by (rowed_presentation T) push e.state x.state)
      → evaluated e' (drop (j + 1) w) ≡ evaluated e (drop j w)
  letters-left e e' x j w d l h q r =
      ap (λ (z : Element). evaluated z (drop (j + 1) w)) r
      ∙ ap (λ (z : Element). evaluated (with_state e (product_by (rowed_presentation T) push e.state z.state)) (drop (j + 1) w)) q
      ∙ sym (letter-evaluated e (get_or w j d) (drop (j + 1) w) h)
      ∙ ap (evaluated e) (sym (drop_more w j d l))
