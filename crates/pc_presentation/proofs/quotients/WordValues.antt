-- Where states have words such that the word of a product is joined to the words of its factors, the word of a value is
-- joined to the word that was evaluated, under the words of the images.
use Rattle.std.proofs.Common.{◌≡◌, ℕ, zero, suc, ◌<◌, ℤ, pos, negsuc, List, [], ◌∷◌, ◌++◌, get_or, length, map, ap, sym, ◌∙◌, arith}
use Rattle.std.proofs.Common.{append_assoc}
use Rattle.std.proofs.lemmas.List.{append-nil, get_or_default, length-map}
use Rattle.std.proofs.Math.ListN.{get_or-map}
use Rattle.pq_base.specs.SignedWord.{inv, sub, HasLetters}
use Rattle.pq_base.specs.Presentation.{Presentation}
use Rattle.pq_base.specs.Joined.{Joined}
use Rattle.pq_base.proofs.words.JoinedLaws.{joined-sym, joined-trans, joined-from_equal, joined-append_left, joined-append_right}
use Rattle.pq_base.proofs.words.JoinedLaws.{joined-solve_right}
use Rattle.pc_presentation.specs.Rowed.{RowedPresentation, IsRowed}
use Rattle.pc_presentation.specs.Collection.{State, IsState, identity}
use Rattle.pc_presentation.specs.Arithmetic.{IsMeaning, product_by, evaluate_from, AreImages}
use Rattle.pc_presentation.proofs.quotients.Quotients.{product-state}

module _ (Y : RowedPresentation) (rowed : IsRowed Y) (big : 1 < Y.base.prime) (push : State → ℕ → State) (meaning : IsMeaning Y push) where
  -- a value is a state
  pub value-state : (f g : List State) (s : State) (w : List ℤ) → AreImages Y push f g → IsState Y Y.base.rank s → HasLetters (length f) w
      → IsState Y Y.base.rank (evaluate_from Y push f g s w)
  value-state f g s [] images h l = h
  value-state f g s (pos zero ∷ w) images h l = absurd l.0
  value-state f g s (pos (suc i) ∷ w) images h l =
      let x : State = get_or f i (identity Y Y.base.rank) in
      value-state f g (product_by Y push s x) w images (product-state Y rowed big push meaning s x h (images.states i l.0)) l.1
  value-state f g s (negsuc i ∷ w) images h l =
      let y : State = get_or g i (identity Y Y.base.rank) in
      value-state f g (product_by Y push s y) w images (product-state Y rowed big push meaning s y h (images.inverse_states i l.0)) l.1

  module _ (Q : Presentation) (word : State → List ℤ) (one : word (identity Y Y.base.rank) ≡ [])
      (products : (u v : State) → IsState Y Y.base.rank u → IsState Y Y.base.rank v
      → Joined Q (word (product_by Y push u v)) (word u ++ word v)) where
    pub inverse-joined : (u e : State) → IsState Y Y.base.rank u → IsState Y Y.base.rank e → product_by Y push u e ≡ identity Y Y.base.rank
        → Joined Q (word e) (inv (word u))
    inverse-joined u e h m q =
        let c : Joined Q (word u ++ word e) [] = joined-trans (joined-sym (products u e h m)) (joined-from_equal Q (ap word q ∙ one)) in
        joined-trans (joined-solve_right (word u) (word e) c) (joined-from_equal Q (append-nil (inv (word u))))

    image-word : (f : List State) (i : ℕ) → i < length f → get_or (map word f) i [] ≡ word (get_or f i (identity Y Y.base.rank))
    image-word f i l =
        let c : length (map word f) ≡ length f = length-map f word in
        get_or_default (map word f) i [] (word (identity Y Y.base.rank)) (omega arith) ∙ get_or-map word f i (identity Y Y.base.rank)

    pub value-joined : (f g : List State) (s : State) (w : List ℤ) → AreImages Y push f g → IsState Y Y.base.rank s
        → HasLetters (length f) w
        → Joined Q (word (evaluate_from Y push f g s w)) (word s ++ sub w (map word f))
    value-joined f g s [] images h l = joined-from_equal Q (sym (append-nil (word s)))
    value-joined f g s (pos zero ∷ w) images h l = absurd l.0
    value-joined f g s (pos (suc i) ∷ w) images h l =
        let x : State = get_or f i (identity Y Y.base.rank) in
        let xs = images.states i l.0 in
        let rest : List ℤ = sub w (map word f) in
        joined-trans (value-joined f g (product_by Y push s x) w images (product-state Y rowed big push meaning s x h xs) l.1)
        (joined-trans (joined-append_right rest (products s x h xs))
        (joined-from_equal Q
        (append_assoc (word s) (word x) rest
        ∙ ap (λ (z : List ℤ). word s ++ (z ++ sub w (map word f))) (sym (image-word f i l.0)))))
    value-joined f g s (negsuc i ∷ w) images h l =
        let x : State = get_or f i (identity Y Y.base.rank) in
        let y : State = get_or g i (identity Y Y.base.rank) in
        let xs = images.states i l.0 in
        let ys = images.inverse_states i l.0 in
        let rest : List ℤ = sub w (map word f) in
        let inverted : Joined Q (word y) (inv (get_or (map word f) i [])) =
        joined-trans (inverse-joined x y xs ys (images.inverses i l.0)) (joined-from_equal Q (ap inv (sym (image-word f i l.0)))) in
        joined-trans (value-joined f g (product_by Y push s y) w images (product-state Y rowed big push meaning s y h ys) l.1)
        (joined-trans (joined-append_right rest (products s y h ys))
        (joined-trans (joined-from_equal Q (append_assoc (word s) (word y) rest))
        (joined-append_left (word s) (joined-append_right rest inverted))))
