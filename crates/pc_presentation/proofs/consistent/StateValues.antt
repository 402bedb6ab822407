-- Where the relations act, the generators and the tails are states of the group of states. The value of a word of
-- generators is the state that its letters lead to, and that of a word of tails is its row.
use Rattle.std.proofs.Common.{◌≡◌, ℕ, zero, suc, ◌+◌, ◌%◌, ◌<◌, ℤ, List, [], ◌∷◌, ◌++◌, get_or, length, replicate, refl, ap, sym, ◌∙◌}
use Rattle.std.proofs.Common.{arith, mod-eq_of_lt}
use Rattle.std.proofs.Math.Nat.{zero-mod, add-mod-mod}
use Rattle.std.proofs.lemmas.List.{append-nil, get_or_append_left, get_or-append-add}
use Rattle.pq_base.specs.SignedWord.{copies}
use Rattle.pq_base.specs.Table.{AllBelow}
use Rattle.pq_base.specs.Presentation.{IsNormal, letter, word_from}
use Rattle.pq_base.proofs.groups.Groups.{Group, value_in, value_in-append}
use Rattle.pc_presentation.specs.Rowed.{RowedPresentation, IsRowed, row_sum}
use Rattle.pc_presentation.specs.NormalTable.{list_from, single}
use Rattle.pc_presentation.specs.Collection.{State, IsState, identity, letters, add_row, push_word}
use Rattle.pc_presentation.proofs.rows.RowLaws.{identity-state, zeros-normal}
use Rattle.pc_presentation.proofs.collecting.PlainRule.{plain, plain-state, spelled-zeros}
use Rattle.pc_presentation.proofs.collecting.StateProducts.{star, RelationsAct, star-push_word, star-push, star-identity_right}
use Rattle.pc_presentation.proofs.consistent.StateGroup.{ValidState, state_group}
use Rattle.pc_presentation.proofs.rows.SingleRows.{length-list_from, get_or-list_from, single-zero, single-normal, single-sum, single-front}

module _ (Y : RowedPresentation) (rowed : IsRowed Y) (big : 1 < Y.base.prime) (acts : RelationsAct Y Y.base.rank 0) where
  pub is_positive : 0 < Y.base.prime
  is_positive = omega arith

  pub whole_size : 0 + Y.base.rank ≡ Y.base.rank
  whole_size = omega arith

  abbrev pub states : Group
  states = state_group Y rowed is_positive Y.base.rank 0 whole_size acts

  pub generator-valid : (i : ℕ) → IsState Y Y.base.rank (plain Y Y.base.rank 0 (identity Y Y.base.rank) i)
  generator-valid i = plain-state Y rowed is_positive Y.base.rank 0 (identity Y Y.base.rank) i (identity-state Y Y.base.rank is_positive)

  abbrev pub row_state : List ℕ → State
  row_state x = record { exponents = replicate Y.base.rank 0; row = x }

  pub row_state-valid : (x : List ℕ) → IsNormal Y.base.prime Y.width x → IsState Y Y.base.rank (row_state x)
  row_state-valid x h = record { exponents = zeros-normal Y.base.prime Y.base.rank is_positive; row = h }

  -- a generator, and a tail
  abbrev pub generator_state : ℕ → ValidState Y Y.base.rank
  generator_state i = record { state = plain Y Y.base.rank 0 (identity Y Y.base.rank) i; valid = generator-valid i }

  abbrev pub tail_state : ℕ → ValidState Y Y.base.rank
  tail_state t =
      record {
        state = row_state (single Y.width t 1);
        valid = row_state-valid (single Y.width t 1) (single-normal Y.base.prime Y.width t 1 big);
      }

  abbrev pub all_states : List (ValidState Y Y.base.rank)
  all_states = list_from generator_state 0 Y.base.rank ++ list_from tail_state 0 Y.width

  abbrev pub state_value : List ℤ → State
  state_value w = (value_in states all_states w).state

  all_states-generator : (i : ℕ) → i < Y.base.rank
      → (get_or all_states i states.one).state ≡ plain Y Y.base.rank 0 (identity Y Y.base.rank) i
  all_states-generator i l =
      let c = length-list_from generator_state 0 Y.base.rank in
      ap (λ (x : ValidState Y Y.base.rank). x.state)
      (get_or_append_left (list_from generator_state 0 Y.base.rank) (list_from tail_state 0 Y.width) states.one i (omega arith)
      ∙ get_or-list_from generator_state 0 Y.base.rank i states.one l)
      ∙ ap (plain Y Y.base.rank 0 (identity Y Y.base.rank)) (let e : 0 + i ≡ i = omega arith in e)

  pub all_states-tail : (t : ℕ) → t < Y.width → (get_or all_states (Y.base.rank + t) states.one).state ≡ row_state (single Y.width t 1)
  all_states-tail t l =
      ap (λ (x : ValidState Y Y.base.rank). x.state)
      (ap (λ (m : ℕ). get_or all_states (m + t) states.one) (sym (length-list_from generator_state 0 Y.base.rank))
      ∙ get_or-append-add (list_from generator_state 0 Y.base.rank) (list_from tail_state 0 Y.width) t states.one
      ∙ get_or-list_from tail_state 0 Y.width t states.one l)
      ∙ ap (λ (m : ℕ). row_state (single Y.width m 1)) (let e : 0 + t ≡ t = omega arith in e)

  -- a state of a row alone: a product behind s adds the row
  pub star-row_state : (s : State) (x : List ℕ) → star Y Y.base.rank 0 s (row_state x) ≡ add_row Y.base.prime x s
  star-row_state s x = ap (λ (u : List ℕ). add_row Y.base.prime x (push_word (plain Y Y.base.rank 0) s u)) (spelled-zeros 0 Y.base.rank)

  -- values of words of generators
  pub value-letters : (u : List ℕ) → AllBelow Y.base.rank u
      → state_value (letters u) ≡ push_word (plain Y Y.base.rank 0) (identity Y Y.base.rank) u
  value-letters [] h = refl
  value-letters (i ∷ u) h =
      let one : State = identity Y Y.base.rank in
      let ones = identity-state Y Y.base.rank is_positive in
      let g : State = plain Y Y.base.rank 0 one i in
      ap (λ (s : State). star Y Y.base.rank 0 s (state_value (letters u))) (all_states-generator i h.0)
      ∙ ap (star Y Y.base.rank 0 g) (value-letters u h.1)
      ∙ star-push_word Y rowed is_positive Y.base.rank 0 whole_size acts (plain Y Y.base.rank 0)
      (plain-state Y rowed is_positive Y.base.rank 0)
      (star-push Y rowed is_positive Y.base.rank 0 whole_size acts) g one u (generator-valid i) ones
      ∙ ap (λ (s : State). push_word (plain Y Y.base.rank 0) s u) (star-identity_right Y Y.base.rank 0 g (generator-valid i))

  -- and of words of tails
  pub value-copies_of_tail : (t c : ℕ) → t < Y.width
      → state_value (copies (letter (Y.base.rank + t)) c) ≡ row_state (single Y.width t (c % Y.base.prime))
  value-copies_of_tail t zero l =
      ap row_state (sym (single-zero Y.width t) ∙ ap (single Y.width t) (sym (zero-mod Y.base.prime)))
  value-copies_of_tail t (suc c) l =
      let m : ℕ = c % Y.base.prime in
      let e : 1 + c ≡ suc c = omega arith in
      ap (λ (s : State). star Y Y.base.rank 0 s (state_value (copies (letter (Y.base.rank + t)) c))) (all_states-tail t l)
      ∙ ap (star Y Y.base.rank 0 (row_state (single Y.width t 1))) (value-copies_of_tail t c l)
      ∙ star-row_state (row_state (single Y.width t 1)) (single Y.width t m)
      ∙ ap row_state (single-sum Y.base.prime Y.width t 1 m is_positive)
      ∙ ap (λ (x : ℕ). row_state (single Y.width t x)) (add-mod-mod 1 c Y.base.prime ∙ ap (λ (x : ℕ). x % Y.base.prime) e)

  value-tails_from : (t : ℕ) (x : List ℕ) → t + length x ≡ Y.width → AllBelow Y.base.prime x
      → state_value (word_from (Y.base.rank + t) x) ≡ row_state (replicate t 0 ++ x)
  value-tails_from t [] e h =
      let g : t ≡ Y.width = omega arith in
      ap (λ (m : ℕ). row_state (replicate m 0)) (sym g) ∙ ap row_state (sym (append-nil (replicate t 0)))
  value-tails_from t (c ∷ x) e h =
      let n : ℕ = Y.base.rank in
      let rest : state_value (word_from (suc (Y.base.rank + t)) x) ≡ row_state (replicate (suc t) 0 ++ x) =
      ap (λ (m : ℕ). state_value (word_from m x)) (let g : suc (Y.base.rank + t) ≡ Y.base.rank + suc t = omega arith in g)
      ∙ value-tails_from (suc t) x (omega arith) h.1 in
      value_in-append states all_states (copies (letter (n + t)) c) (word_from (suc (n + t)) x)
      ∙ ap (λ (s : State). star Y Y.base.rank 0 s (state_value (word_from (suc (Y.base.rank + t)) x)))
      (value-copies_of_tail t c (omega arith) ∙ ap (λ (m : ℕ). row_state (single Y.width t m)) (mod-eq_of_lt h.0))
      ∙ ap (star Y Y.base.rank 0 (row_state (single Y.width t c))) rest
      ∙ star-row_state (row_state (single Y.width t c)) (replicate (suc t) 0 ++ x)
      ∙ ap (λ (q : ℕ). row_state (row_sum Y.base.prime (single q t c) (replicate (suc t) 0 ++ x)))
      (let g : Y.width ≡ t + suc (length x) = omega arith in g)
      ∙ ap row_state (single-front Y.base.prime t c x h.0 h.1)

  pub value-tails : (x : List ℕ) → IsNormal Y.base.prime Y.width x → state_value (word_from Y.base.rank x) ≡ row_state x
  value-tails x h =
      ap (λ (m : ℕ). state_value (word_from m x)) (let e : Y.base.rank ≡ Y.base.rank + 0 = omega arith in e)
      ∙ value-tails_from 0 x (let c = h.count in omega arith) h.below

  -- letters of generators and a row
  pub value-with_row : (u x : List ℕ) → AllBelow Y.base.rank u → IsNormal Y.base.prime Y.width x
      → state_value (letters u ++ word_from Y.base.rank x)
      ≡ add_row Y.base.prime x (push_word (plain Y Y.base.rank 0) (identity Y Y.base.rank) u)
  value-with_row u x h n =
      value_in-append states all_states (letters u) (word_from Y.base.rank x)
      ∙ ap (λ (s : State). star Y Y.base.rank 0 s (state_value (word_from Y.base.rank x))) (value-letters u h)
      ∙ ap (star Y Y.base.rank 0 (push_word (plain Y Y.base.rank 0) (identity Y Y.base.rank) u)) (value-tails x n)
      ∙ star-row_state (push_word (plain Y Y.base.rank 0) (identity Y Y.base.rank) u) x
