-- Words that are joined in the base once their tails are left out are joined in the flat reading up to the word of a row.
-- The proof goes along the chain of the base: a relator costs its row, a cancelling pair nothing.
use Rattle.std.proofs.Common.{◌≡◌, ℕ, zero, suc, ◌+◌, ◌-◌, ◌<◌, ℤ, pos, negsuc, neg_ℤ, List, [], ◌∷◌, ◌++◌, get_or, replicate, ap, sym, ◌∙◌}
use Rattle.std.proofs.Common.{subst, arith, inl, inr, append_assoc}
use Rattle.std.proofs.lemmas.List.{append-nil}
use Rattle.std.proofs.lemmas.Bool.{cases_lt}
use Rattle.pq_base.specs.SignedWord.{inv, copies, comm, sub, image_of, HasLetters}
use Rattle.pq_base.specs.Presentation.{IsNormal, IsRelatorOf, letter, word_from, power_word, commutator_word}
use Rattle.pq_base.specs.Presentation.IsRelatorOf.{power_relator, commutator_relator}
use Rattle.pq_base.specs.Joined.{IsTrivial, Joined}
use Rattle.pq_base.specs.Joined.IsTrivial.{pair, relator}
use Rattle.pq_base.specs.Canonical.{unit}
use Rattle.pq_base.proofs.words.WordLaws.{sub-append, inv-append, image_of-neg, word_from-zeros}
use Rattle.pq_base.proofs.words.LetterLaws.{HasLetters-weaken, HasLetters-append, HasLetters-inv, HasLetters-relator, HasLetters-power_word}
use Rattle.pq_base.proofs.words.LetterLaws.{HasLetters-commutator_word}
use Rattle.pq_base.proofs.words.ChainLaws.{IsWordEquivalence}
use Rattle.pq_base.proofs.words.JoinedLaws.{joined-refl, joined-from_equal, joined-sym, joined-trans, joined-append, joined-append_left}
use Rattle.pq_base.proofs.words.JoinedLaws.{joined-append_right, joined-inv, joined-solve_left, joined-induction, append-inv-joined}
use Rattle.pq_base.proofs.words.RangeLaws.{generators, sub-generators, HasLetters-sub_generators}
use Rattle.pq_base.proofs.UnitLaws.{length-unit, unit-below, word_from-unit}
use Rattle.fp_rows.specs.Rows.{negative_row}
use Rattle.pc_presentation.specs.Rowed.{RowedPresentation, IsRowed, power_row, commutator_row, row_sum, flat}
use Rattle.pc_presentation.proofs.rows.RowLaws.{row_sum-normal, zeros-normal, negative_row-normal}
use Rattle.pc_presentation.proofs.rows.TailLaws.{row_words-add}
use Rattle.pc_presentation.specs.RowedLaws.{IsUpToRow, ProjectionsLift, projection, projected}
use Rattle.pc_presentation.proofs.rows.RowsCentral.{row_word-commutes, row_word-inverse}
use Rattle.pc_presentation.proofs.rows.FlatWords.{power-with_row, commutator-with_row}
use Rattle.pc_presentation.proofs.rows.Projections.{get_or-projection, get_or-projection_past, HasLetters-projection}

-- a row that is no word
pub up_to_row-joined : (Z : RowedPresentation) → 0 < Z.base.prime → {u v : List ℤ} → Joined (flat Z) u v → IsUpToRow Z u v
up_to_row-joined Z positive {u} {v} c = record {
  row = replicate Z.width 0;
  normal = zeros-normal Z.base.prime Z.width positive;
  joined =
      joined-trans c
      (joined-from_equal (flat Z) (sym (ap (λ (w : List ℤ). v ++ w) (word_from-zeros Z.base.rank Z.width) ∙ append-nil v)));
}

module _ (Z : RowedPresentation) (is : IsRowed Z) (big : 1 < Z.base.prime) where
  positive_prime : 0 < Z.base.prime
  positive_prime = omega arith

  -- words that are the same up to a row are an equivalence
  pub up_to_row-refl : (u : List ℤ) → IsUpToRow Z u u
  up_to_row-refl u = up_to_row-joined Z positive_prime (joined-refl (flat Z) u)

  pub up_to_row-sym : {u v : List ℤ} → IsUpToRow Z u v → IsUpToRow Z v u
  up_to_row-sym {u} {v} r = record {
    row = negative_row Z.base.prime r.row;
    normal = negative_row-normal Z.base.prime Z.width r.row positive_prime r.normal;
    joined =
        joined-trans (joined-solve_left v (word_from Z.base.rank r.row) (joined-sym r.joined))
        (joined-append_left u (row_word-inverse Z is positive_prime r.row r.normal));
  }

  -- the words of two rows behind each other
  two_rows : (w : List ℤ) (x y : List ℕ) → IsNormal Z.base.prime Z.width x → IsNormal Z.base.prime Z.width y
      → Joined (flat Z) ((w ++ word_from Z.base.rank x) ++ word_from Z.base.rank y) (w ++ word_from Z.base.rank (row_sum Z.base.prime x y))
  two_rows w x y h i =
      joined-trans (joined-from_equal (flat Z) (append_assoc w (word_from Z.base.rank x) (word_from Z.base.rank y)))
      (joined-append_left w (row_words-add Z is x y h.count i.count))

  pub up_to_row-trans : {u v w : List ℤ} → IsUpToRow Z u v → IsUpToRow Z v w → IsUpToRow Z u w
  up_to_row-trans {w = w} r s = record {
    row = row_sum Z.base.prime s.row r.row;
    normal = row_sum-normal Z.base.prime Z.width s.row r.row positive_prime s.normal r.normal;
    joined =
        joined-trans r.joined
        (joined-trans (joined-append_right (word_from Z.base.rank r.row) s.joined) (two_rows w s.row r.row s.normal r.normal));
  }

  -- products and inverses keep them
  pub up_to_row-append : {u v a b : List ℤ} → HasLetters (Z.base.rank + Z.width) b → IsUpToRow Z u v → IsUpToRow Z a b
      → IsUpToRow Z (u ++ a) (v ++ b)
  up_to_row-append {v = v} {b = b} h r s =
      let x : List ℤ = word_from Z.base.rank r.row in
      let y : List ℤ = word_from Z.base.rank s.row in
      let passed : Joined (flat Z) (v ++ ((x ++ b) ++ y)) (v ++ ((b ++ x) ++ y)) =
      joined-append_left v (joined-append_right y (row_word-commutes Z is r.row b r.normal.count h)) in
      let before : (v ++ x) ++ (b ++ y) ≡ v ++ ((x ++ b) ++ y) =
      append_assoc v x (b ++ y) ∙ ap (λ (w : List ℤ). v ++ w) (sym (append_assoc x b y)) in
      let behind : v ++ ((b ++ x) ++ y) ≡ ((v ++ b) ++ x) ++ y =
      sym (append_assoc v (b ++ x) y) ∙ ap (λ (w : List ℤ). w ++ y) (sym (append_assoc v b x)) in
      record {
        row = row_sum Z.base.prime r.row s.row;
        normal = row_sum-normal Z.base.prime Z.width r.row s.row positive_prime r.normal s.normal;
        joined =
            joined-trans (joined-append r.joined s.joined)
            (joined-trans (joined-from_equal (flat Z) before)
            (joined-trans passed
            (joined-trans (joined-from_equal (flat Z) behind) (two_rows (v ++ b) r.row s.row r.normal s.normal))));
      }

  pub up_to_row-inv : {u v : List ℤ} → HasLetters (Z.base.rank + Z.width) v → IsUpToRow Z u v → IsUpToRow Z (inv u) (inv v)
  up_to_row-inv {v = v} h r =
      let y : List ℕ = negative_row Z.base.prime r.row in
      let n : IsNormal Z.base.prime Z.width (negative_row Z.base.prime r.row) =
      negative_row-normal Z.base.prime Z.width r.row positive_prime r.normal in
      record {
        row = y;
        normal = n;
        joined =
            joined-trans (joined-inv r.joined)
            (joined-trans (joined-from_equal (flat Z) (inv-append v (word_from Z.base.rank r.row)))
            (joined-trans (joined-append_right (inv v) (row_word-inverse Z is positive_prime r.row r.normal))
            (row_word-commutes Z is y (inv v) n.count (HasLetters-inv (Z.base.rank + Z.width) v h))));
      }

  pub up_to_row-quotient : {u v : List ℤ} → HasLetters (Z.base.rank + Z.width) v → IsUpToRow Z u v → IsUpToRow Z (u ++ inv v) []
  up_to_row-quotient {v = v} h r =
      up_to_row-trans
      (up_to_row-append (HasLetters-inv (Z.base.rank + Z.width) v h) r (up_to_row-refl (inv v)))
      (up_to_row-joined Z positive_prime (append-inv-joined (flat Z) v))

  -- a word over the generators is one over the generators and the tails
  with_tails : (w : List ℤ) → HasLetters Z.base.rank w → HasLetters (Z.base.rank + Z.width) w
  with_tails w h = HasLetters-weaken Z.base.rank (Z.base.rank + Z.width) w (omega arith) h

  -- a relator of the base costs its row
  relator-up_to_row : {r : List ℤ} → IsRelatorOf Z.base r → IsUpToRow Z r []
  relator-up_to_row (power_relator i l) =
      up_to_row-quotient {u = copies (letter i) Z.base.prime} {v = power_word Z.base i}
      (with_tails (power_word Z.base i) (HasLetters-power_word Z.base is.base i l))
      (record { row = power_row Z i; normal = is.power_rows i l; joined = power-with_row Z is i l })
  relator-up_to_row (commutator_relator j i l m) =
      up_to_row-quotient {u = comm (letter j) (letter i)} {v = commutator_word Z.base j i}
      (with_tails (commutator_word Z.base j i) (HasLetters-commutator_word Z.base is.base j i l m))
      (record { row = commutator_row Z j i; normal = is.commutator_rows j i l m; joined = commutator-with_row Z is j i l m })

  -- a trivial word, of which letters beyond the generators are left out
  trivial-up_to_row : (x : List ℤ) → IsTrivial Z.base x → IsUpToRow Z (sub x (generators Z.base.rank)) []
  trivial-up_to_row x (pair k) =
      let y : List ℤ = image_of (generators Z.base.rank) k in
      up_to_row-joined Z positive_prime
      (joined-trans
      (joined-from_equal (flat Z)
      (ap (λ (w : List ℤ). y ++ w) (append-nil (image_of (generators Z.base.rank) (neg_ℤ k)) ∙ image_of-neg (generators Z.base.rank) k)))
      (append-inv-joined (flat Z) y))
  trivial-up_to_row x (relator r h) =
      subst (λ (w : List ℤ). IsUpToRow Z w []) (sym (sub-generators Z.base.rank r (HasLetters-relator Z.base is.base h)))
      (relator-up_to_row h)

  -- along a chain of the base
  chain-up_to_row : {u v : List ℤ} → Joined Z.base u v → IsUpToRow Z (sub u (generators Z.base.rank)) (sub v (generators Z.base.rank))
  chain-up_to_row c =
      joined-induction (λ (u v : List ℤ). IsUpToRow Z (sub u (generators Z.base.rank)) (sub v (generators Z.base.rank))) equivalence
      at_insertion c
    where
      equivalence : IsWordEquivalence (λ (u v : List ℤ). IsUpToRow Z (sub u (generators Z.base.rank)) (sub v (generators Z.base.rank)))
      equivalence = record {
        reflexive = λ u. up_to_row-refl (sub u (generators Z.base.rank));
        symmetric = λ u v r. up_to_row-sym r;
        transitive = λ u v w r s. up_to_row-trans r s;
      }

      at_insertion : (a x b : List ℤ) → IsTrivial Z.base x
          → IsUpToRow Z (sub (a ++ b) (generators Z.base.rank)) (sub (a ++ (x ++ b)) (generators Z.base.rank))
      at_insertion a x b e =
          let f : List (List ℤ) = generators Z.base.rank in
          let in_range : (w : List ℤ) → HasLetters (Z.base.rank + Z.width) (sub w (generators Z.base.rank)) =
          λ w. with_tails (sub w (generators Z.base.rank)) (HasLetters-sub_generators Z.base.rank w) in
          let inserted : IsUpToRow Z ([] ++ sub b f) (sub x f ++ sub b f) =
          up_to_row-append (in_range b) (up_to_row-sym (trivial-up_to_row x e)) (up_to_row-refl (sub b f)) in
          let whole : IsUpToRow Z (sub a f ++ sub b f) (sub a f ++ (sub x f ++ sub b f)) =
          up_to_row-append (HasLetters-append (Z.base.rank + Z.width) (sub x f) (sub b f) (in_range x) (in_range b))
          (up_to_row-refl (sub a f)) inserted in
          subst (λ (w : List ℤ). IsUpToRow Z w (sub (a ++ (x ++ b)) (generators Z.base.rank))) (sym (sub-append a b f))
          (subst (λ (w : List ℤ). IsUpToRow Z (sub a (generators Z.base.rank) ++ sub b (generators Z.base.rank)) w)
          (sym (sub-append a (x ++ b) f ∙ ap (λ (w : List ℤ). sub a (generators Z.base.rank) ++ w) (sub-append x b f))) whole)

  -- a word and the word without its tails
  letter-without_tails : (k : ℕ) → k < Z.base.rank + Z.width → IsUpToRow Z (letter k) (get_or (projection Z.base.rank Z.width) k [])
  letter-without_tails k l = elim (cases_lt k Z.base.rank) [
    | inl h ↦
        subst (λ (w : List ℤ). IsUpToRow Z (letter k) w) (sym (get_or-projection Z.base.rank Z.width k h)) (up_to_row-refl (letter k))
    | inr h ↦
        let t : ℕ = k - Z.base.rank in
        let place : Z.base.rank + t ≡ k = omega arith in
        let unit_row : IsNormal Z.base.prime Z.width (unit Z.width t) =
        record { count = length-unit Z.width t; below = unit-below Z.base.prime Z.width t (omega arith) } in
        let is_tail : IsUpToRow Z (letter (Z.base.rank + t)) [] =
        record {
          row = unit Z.width t;
          normal = unit_row;
          joined = joined-from_equal (flat Z) (sym (word_from-unit Z.base.rank Z.width t (omega arith)));
        } in
        subst (λ (m : ℕ). IsUpToRow Z (letter m) (get_or (projection Z.base.rank Z.width) m [])) place
        (subst (λ (w : List ℤ). IsUpToRow Z (letter (Z.base.rank + t)) w) (sym (get_or-projection_past Z.base.rank Z.width t)) is_tail)
  ]

  in_range_projected : (w : List ℤ) → HasLetters (Z.base.rank + Z.width) (projected Z w)
  in_range_projected w = with_tails (projected Z w) (HasLetters-projection Z.base.rank Z.width w)

  pub without_tails : (w : List ℤ) → HasLetters (Z.base.rank + Z.width) w → IsUpToRow Z w (projected Z w)
  without_tails [] h = up_to_row-refl []
  without_tails (pos zero ∷ w) h = absurd h.0
  without_tails (pos (suc k) ∷ w) h =
      up_to_row-append {u = letter k} (in_range_projected w) (letter-without_tails k h.0) (without_tails w h.1)
  without_tails (negsuc k ∷ w) h =
      let image : List ℤ = get_or (projection Z.base.rank Z.width) k [] in
      let here : IsUpToRow Z (letter k) image = letter-without_tails k h.0 in
      let image_in_range : HasLetters (Z.base.rank + Z.width) image =
      subst (λ (u : List ℤ). HasLetters (Z.base.rank + Z.width) u) (append-nil image) (in_range_projected (letter k)) in
      up_to_row-append {u = inv (letter k)} (in_range_projected w) (up_to_row-inv image_in_range here) (without_tails w h.1)

  pub lifted : (u v : List ℤ) → HasLetters (Z.base.rank + Z.width) u → HasLetters (Z.base.rank + Z.width) v
      → Joined Z.base (projected Z u) (projected Z v) → IsUpToRow Z u v
  lifted u v h i c =
      let stays : (w : List ℤ) → sub (projected Z w) (generators Z.base.rank) ≡ projected Z w =
      λ w. sub-generators Z.base.rank (projected Z w) (HasLetters-projection Z.base.rank Z.width w) in
      let between : IsUpToRow Z (projected Z u) (projected Z v) =
      subst (λ (w : List ℤ). IsUpToRow Z w (projected Z v)) (stays u)
      (subst (λ (w : List ℤ). IsUpToRow Z (sub (projected Z u) (generators Z.base.rank)) w) (stays v) (chain-up_to_row c)) in
      up_to_row-trans (without_tails u h) (up_to_row-trans between (up_to_row-sym (without_tails v i)))

pub projections_lift : ProjectionsLift
projections_lift Z is u v h i c = lifted Z is is.base.prime u v h i c
