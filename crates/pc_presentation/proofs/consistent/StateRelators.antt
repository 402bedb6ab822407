-- Where the relations act, each relator of the flat reading has value one in the group of states, and the value of a normal
-- word is the state of its exponents. So joined normal words are equal.
use Rattle.std.proofs.Common.{◌≡◌, ℕ, suc, ◌+◌, ◌-◌, ◌<◌, ℤ, pos, List, [], ◌∷◌, ◌++◌, length, take, drop, replicate, ap, sym, ◌∙◌, subst}
use Rattle.std.proofs.Common.{arith, inl, inr, length-drop}
use Rattle.std.proofs.Math.Nat.{mod_self}
use Rattle.std.proofs.lemmas.List.{take-append-drop, length-take-le}
use Rattle.std.proofs.lemmas.Bool.{cases_lt}
use Rattle.pq_base.specs.SignedWord.{copies, comm}
use Rattle.pq_base.specs.Presentation.{IsRelatorOf, IsNormal, letter, word_from, normal_word, power_side, commutator_side, power_word}
use Rattle.pq_base.specs.Presentation.{commutator_word}
use Rattle.pq_base.specs.Presentation.IsRelatorOf.{power_relator, commutator_relator}
use Rattle.pq_base.specs.Joined.{Joined}
use Rattle.pq_base.proofs.words.WordLaws.{word_from-append, word_from-zeros}
use Rattle.pq_base.proofs.groups.Groups.{Group, value_in, value_in-append, value_in-letter, value_in-joined}
use Rattle.fp_rows.proofs.BelowLaws.{AllBelow-take, AllBelow-drop}
use Rattle.pc_presentation.specs.Rowed.{RowedPresentation, IsRowed, power_row, commutator_row, flat}
use Rattle.pc_presentation.specs.NormalTable.{single}
use Rattle.pc_presentation.specs.Collection.{State, IsState, identity, spelled, configuration_of, add_row}
use Rattle.pc_presentation.proofs.rows.RowLaws.{identity-state, zeros-row_sum}
use Rattle.pc_presentation.proofs.collecting.PushLaws.{push_configuration-add_row}
use Rattle.pc_presentation.proofs.collecting.PlainRule.{plain, plain-rides, plain-spelled}
use Rattle.pc_presentation.proofs.collecting.PlainRuns.{AllBelow-replicate, AllBelow-spelled}
use Rattle.pc_presentation.proofs.collecting.RunLaws.ReplacementFrom.{swap_from, power_from}
use Rattle.pc_presentation.proofs.collecting.StateProducts.{star, RelationsAct, star-identity_left}
use Rattle.pc_presentation.proofs.consistent.StateGroup.{ValidState}
use Rattle.pc_presentation.proofs.consistent.LetterWords.{letters-replicate, letters-spelled, word_from-side_and_row}
use Rattle.pc_presentation.proofs.rows.FlatLaws.{power_side-flat, power_side-tail, commutator_side-flat, commutator_side-tail}
use Rattle.pc_presentation.proofs.rows.SingleRows.{single-zero, single-normal}
use Rattle.pc_presentation.proofs.consistent.GroupRelators.{relator-one, commutator-value}
use Rattle.pc_presentation.proofs.consistent.StateValues as Values

module _ (Y : RowedPresentation) (rowed : IsRowed Y) (big : 1 < Y.base.prime) (acts : RelationsAct Y Y.base.rank 0) where
  abbrev states : Group
  states = Values.states Y rowed big acts

  abbrev all_states : List (ValidState Y Y.base.rank)
  all_states = Values.all_states Y rowed big acts

  abbrev state_value : List ℤ → State
  state_value w = Values.state_value Y rowed big acts w

  abbrev row_state : List ℕ → State
  row_state x = Values.row_state Y rowed big acts x

  -- a letter of a tail commutes with each word
  pub value-letter_of_tail : (t : ℕ) → t < Y.width → state_value (letter (Y.base.rank + t)) ≡ row_state (single Y.width t 1)
  value-letter_of_tail t l = value_in-letter states all_states (pos (suc (Y.base.rank + t))) ∙ Values.all_states-tail Y rowed big acts t l

  row_state-star : (x : List ℕ) (s : State) → IsNormal Y.base.prime Y.width x → IsState Y Y.base.rank s
      → star Y Y.base.rank 0 (row_state x) s ≡ add_row Y.base.prime x s
  row_state-star x s n h =
      ap (λ (y : List ℕ). star Y Y.base.rank 0 (row_state y) s) (sym (zeros-row_sum Y.base.prime Y.width x n))
      ∙ push_configuration-add_row Y (plain Y Y.base.rank 0) (plain-rides Y Y.base.rank 0) x (identity Y Y.base.rank) (configuration_of s)
      ∙ ap (add_row Y.base.prime x) (star-identity_left Y Y.base.rank 0 s h)

  pub value-tail_commutes : (t : ℕ) (w : List ℤ) → t < Y.width
      → state_value (letter (Y.base.rank + t) ++ w) ≡ state_value (w ++ letter (Y.base.rank + t))
  value-tail_commutes t w l =
      let z : List ℤ = letter (Y.base.rank + t) in
      let x : List ℕ = single Y.width t 1 in
      let v : ValidState Y Y.base.rank = value_in states all_states w in
      value_in-append states all_states z w
      ∙ ap (λ (s : State). star Y Y.base.rank 0 s (state_value w)) (value-letter_of_tail t l)
      ∙ row_state-star x v.state (single-normal Y.base.prime Y.width t 1 big) v.valid
      ∙ sym (value_in-append states all_states w z
      ∙ ap (star Y Y.base.rank 0 (state_value w)) (value-letter_of_tail t l)
      ∙ Values.star-row_state Y rowed big acts v.state x)

  -- relators have value one
  power-value : (i : ℕ) → i < Y.base.rank → state_value (copies (letter i) Y.base.prime) ≡ state_value (power_word (flat Y) i)
  power-value i l =
      let p : ℕ = Y.base.prime in
      let side : List ℕ = power_side Y.base i in
      let row : List ℕ = power_row Y i in
      let c = (rowed.base.power_sides i l).count in
      ap state_value (sym (letters-replicate p i))
      ∙ Values.value-letters Y rowed big acts (replicate p i) (AllBelow-replicate Y.base.rank p i l)
      ∙ acts (identity Y Y.base.rank) (identity-state Y Y.base.rank (Values.is_positive Y rowed big acts)) (replicate Y.base.prime i)
      (spelled (suc i) side) row (power_from i i (omega arith) l)
      ∙ sym (Values.value-with_row Y rowed big acts (spelled (suc i) side) row (AllBelow-spelled Y.base.rank (suc i) side (omega arith))
      (rowed.power_rows i l))
      ∙ ap state_value (sym (ap (word_from (suc i)) (power_side-flat Y rowed i l) ∙ word_from-side_and_row Y.base.rank i side row c))

  swap-value : (j i : ℕ) → j < Y.base.rank → i < j
      → state_value (letter j ++ letter i) ≡ state_value (letter i ++ (letter j ++ commutator_word (flat Y) j i))
  swap-value j i l m =
      let side : List ℕ = commutator_side Y.base j i in
      let row : List ℕ = commutator_row Y j i in
      let c = (rowed.base.commutator_sides j i l m).count in
      Values.value-letters Y rowed big acts (j ∷ i ∷ []) (l, (omega arith, tt))
      ∙ acts (identity Y Y.base.rank) (identity-state Y Y.base.rank (Values.is_positive Y rowed big acts)) (j ∷ i ∷ [])
      (i ∷ j ∷ spelled (suc j) side) row
      (swap_from j i j i (omega arith) (omega arith) l m)
      ∙ sym (Values.value-with_row Y rowed big acts (i ∷ j ∷ spelled (suc j) side) row
      (omega arith, (l, AllBelow-spelled Y.base.rank (suc j) side (omega arith))) (rowed.commutator_rows j i l m))
      ∙ ap (λ (w : List ℤ). state_value (letter i ++ (letter j ++ w)))
      (sym (ap (word_from (suc j)) (commutator_side-flat Y rowed j i l) ∙ word_from-side_and_row Y.base.rank j side row c))

  tail_power-value : (t : ℕ) → t < Y.width
      → state_value (copies (letter (Y.base.rank + t)) Y.base.prime) ≡ state_value (power_word (flat Y) (Y.base.rank + t))
  tail_power-value t l =
      let r : ℕ = Y.width - suc t in
      Values.value-copies_of_tail Y rowed big acts t Y.base.prime l
      ∙ ap (λ (m : ℕ). row_state (single Y.width t m)) (mod_self Y.base.prime)
      ∙ ap row_state (single-zero Y.width t)
      ∙ ap state_value (sym (ap (word_from (suc (Y.base.rank + t))) (power_side-tail Y rowed t r (omega arith))
      ∙ word_from-zeros (suc (Y.base.rank + t)) r))

  tail_swap-value : (t i : ℕ) → t < Y.width → i < Y.base.rank + t
      → state_value (letter (Y.base.rank + t) ++ letter i)
      ≡ state_value (letter i ++ (letter (Y.base.rank + t) ++ commutator_word (flat Y) (Y.base.rank + t) i))
  tail_swap-value t i l m =
      let r : ℕ = Y.width - suc t in
      value-tail_commutes t (letter i) l
      ∙ ap (λ (w : List ℤ). state_value (letter i ++ (letter (Y.base.rank + t) ++ w)))
      (sym (ap (word_from (suc (Y.base.rank + t))) (commutator_side-tail Y rowed t r i (omega arith) m)
      ∙ word_from-zeros (suc (Y.base.rank + t)) r))

  all_power-value : (i : ℕ) → i < Y.base.rank + Y.width → state_value (copies (letter i) Y.base.prime) ≡ state_value (power_word (flat Y) i)
  all_power-value i l = elim (cases_lt i Y.base.rank) [
    | inl h ↦ power-value i h
    | inr h ↦
        let t : ℕ = i - Y.base.rank in
        subst (λ (m : ℕ). state_value (copies (letter m) Y.base.prime) ≡ state_value (power_word (flat Y) m))
        (let e : Y.base.rank + t ≡ i = omega arith in e)
        (tail_power-value t (omega arith))
  ]

  all_swap-value : (j i : ℕ) → j < Y.base.rank + Y.width → i < j
      → state_value (letter j ++ letter i) ≡ state_value (letter i ++ (letter j ++ commutator_word (flat Y) j i))
  all_swap-value j i l m = elim (cases_lt j Y.base.rank) [
    | inl h ↦ swap-value j i h m
    | inr h ↦
        let t : ℕ = j - Y.base.rank in
        subst (λ (a : ℕ). state_value (letter a ++ letter i) ≡ state_value (letter i ++ (letter a ++ commutator_word (flat Y) a i)))
        (let e : Y.base.rank + t ≡ j = omega arith in e)
        (tail_swap-value t i (omega arith) (omega arith))
  ]

  pub relators-one : (r : List ℤ) → IsRelatorOf (flat Y) r → state_value r ≡ identity Y Y.base.rank
  relators-one _ (power_relator i l) =
      relator-one states all_states (copies (letter i) Y.base.prime) (power_word (flat Y) i) (all_power-value i l)
  relators-one _ (commutator_relator j i l m) =
      relator-one states all_states (comm (letter j) (letter i)) (commutator_word (flat Y) j i)
      (commutator-value states all_states (letter j) (letter i) (commutator_word (flat Y) j i) (all_swap-value j i l m))

  pub joined-values : {u v : List ℤ} → Joined (flat Y) u v → state_value u ≡ state_value v
  joined-values c = value_in-joined states (flat Y) all_states relators-one c

  -- the value of a normal word
  pub value-normal_word : (h x : List ℕ) → IsNormal Y.base.prime Y.base.rank h → IsNormal Y.base.prime Y.width x
      → state_value (normal_word (h ++ x)) ≡ record { exponents = h; row = x }
  value-normal_word h x a b =
      let c = a.count in
      ap state_value
      (word_from-append 0 h x
      ∙ ap (λ (m : ℕ). word_from 0 h ++ word_from m x) (let e : 0 + length h ≡ Y.base.rank = omega arith in e)
      ∙ ap (λ (w : List ℤ). w ++ word_from Y.base.rank x) (sym (letters-spelled 0 h)))
      ∙ Values.value-with_row Y rowed big acts (spelled 0 h) x (AllBelow-spelled Y.base.rank 0 h (omega arith)) b
      ∙ ap (add_row Y.base.prime x) (plain-spelled Y Y.base.rank 0 h (replicate Y.width 0) a)
      ∙ ap (λ (y : List ℕ). record { exponents = h; row = y }) (zeros-row_sum Y.base.prime Y.width x b)

  -- exponents of the flat reading are exponents and a row
  value-normal : (e : List ℕ) → IsNormal Y.base.prime (Y.base.rank + Y.width) e
      → state_value (normal_word e) ≡ record { exponents = take Y.base.rank e; row = drop Y.base.rank e }
  value-normal e h =
      let c = h.count in
      let front : IsNormal Y.base.prime Y.base.rank (take Y.base.rank e) = record {
        count = length-take-le Y.base.rank e (omega arith);
        below = AllBelow-take Y.base.prime Y.base.rank e h.below;
      } in
      let back : IsNormal Y.base.prime Y.width (drop Y.base.rank e) = record {
        count = length-drop Y.base.rank e ∙ (let d : length e - Y.base.rank ≡ Y.width = omega arith in d);
        below = AllBelow-drop Y.base.prime Y.base.rank e h.below;
      } in
      ap (λ (u : List ℕ). state_value (normal_word u)) (sym (take-append-drop Y.base.rank e))
      ∙ value-normal_word (take Y.base.rank e) (drop Y.base.rank e) front back

  -- so joined normal words are equal
  pub normal_words-unique : (e f : List ℕ) → IsNormal Y.base.prime (Y.base.rank + Y.width) e
      → IsNormal Y.base.prime (Y.base.rank + Y.width) f
      → Joined (flat Y) (normal_word e) (normal_word f) → e ≡ f
  normal_words-unique e f h i c =
      let same : record { exponents = take Y.base.rank e; row = drop Y.base.rank e }
      ≡ record { exponents = take Y.base.rank f; row = drop Y.base.rank f } =
      sym (value-normal e h) ∙ joined-values c ∙ value-normal f i in
      sym (take-append-drop Y.base.rank e) ∙ ap (λ (s : State). s.exponents ++ s.row) same ∙ take-append-drop Y.base.rank f
