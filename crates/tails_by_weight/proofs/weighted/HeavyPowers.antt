-- Overlaps of the p-th power of the generator at place k with a later generator or with itself agree by their weights alone, where these
-- have a sum of at least the greatest and the relations of the later generators act.
use Rattle.std.proofs.Common.{◌≡◌, ℕ, zero, suc, pred, ◌+◌, ◌<◌, ◌≤◌, List, [], ◌∷◌, ◌++◌, length, get_or, replicate, refl, ap, sym, ◌∙◌}
use Rattle.std.proofs.Common.{arith}
use Rattle.std.proofs.lemmas.List.{replicate-append-replicate}
use Rattle.fp_rows.specs.Rows.{scale_row}
use Rattle.fp_rows.proofs.RowLaws.{length-scale_row}
use Rattle.pq_base.specs.Presentation.{IsNormal, power_side, commutator_side}
use Rattle.pc_presentation.specs.Rowed.{RowedPresentation, IsRowed, power_row, commutator_row}
use Rattle.pc_presentation.specs.Collection.{State, IsState, identity, spelled, add_row, before, push_word}
use Rattle.pc_presentation.proofs.rows.RowLaws.{identity-state}
use Rattle.pc_presentation.proofs.rows.RowsCentral.{scale_row-normal}
use Rattle.pc_presentation.proofs.collecting.PushLaws.{push_word-append}
use Rattle.pc_presentation.proofs.collecting.PlainRule.{plain, plain-later, plain-later_word, plain-rides, plain-state, spelled-suc}
use Rattle.pc_presentation.proofs.collecting.StateProducts.{star, RelationsAct, star-identity_right, star-push}
use Rattle.pc_presentation.proofs.collecting.PassedStates.{past, passed, passed_times, full_power, past-state, passed-identity}
use Rattle.pc_presentation.proofs.collecting.PassedStates.{passed-add_row, passed_times-identity, passed_times-add, passed_times-state}
use Rattle.pc_presentation.proofs.collecting.PassedStates.{full_power-state, first-raise, first-times, first-carry}
use Rattle.tails_by_weight.specs.WeightedRows.{ObeysWeightsTo}
use Rattle.tails_by_weight.proofs.weighted.HeavyWords.{IsHeavy, AreHeavy, heavy-lower, heavy-multiple, power-heavy}
use Rattle.tails_by_weight.proofs.weighted.Exchange.{multiple, multiple-none, multiple-full, exchange_letter, multiple-once_more}
use Rattle.tails_by_weight.proofs.weighted.PassedWords.{spells_later, spells_letter, passed-word, past-heavy}
use Rattle.tails_by_weight.proofs.weighted.HeavyOverlaps.{side-heavy}

module _ (Y : RowedPresentation) (rowed : IsRowed Y) (big : 1 < Y.base.prime) (weights : List ℕ) (e : ℕ)
    (obeys : ObeysWeightsTo Y weights e) (n k : ℕ) (size : suc k + n ≡ Y.base.rank) (acts : RelationsAct Y n (suc k)) where
  -- the weights of the generator and of later ones
  abbrev own_weight : ℕ
  own_weight = get_or weights k 0

  abbrev weight : ℕ → ℕ
  weight j = get_or weights (suc k + j) 0

  -- pushes of later letters, of the generator too, and the right side of its power
  abbrev push : State → List ℕ → State
  push s u = push_word (plain Y n (suc k)) s u

  abbrev push_all : State → List ℕ → State
  push_all s u = push_word (plain Y (suc n) k) s u

  abbrev power_letters : List ℕ
  power_letters = spelled 0 (power_side Y.base k)

  abbrev exponents : ℕ → List ℕ
  exponents j = commutator_side Y.base (suc (k + j)) k

  abbrev row : ℕ → List ℕ
  row j = commutator_row Y (suc (k + j)) k

  one-state : IsState Y n (identity Y n)
  one-state = identity-state Y n (omega arith)

  row-normal : (j : ℕ) → j < n → IsNormal Y.base.prime Y.width (row j)
  row-normal j l = rowed.commutator_rows (suc (k + j)) k (omega arith) (omega arith)

  power_letters-heavy : AreHeavy weights n (suc k) (suc own_weight) power_letters
  power_letters-heavy = power-heavy Y rowed weights e obeys n (suc k) size 0 k (omega arith) (omega arith)

  -- the state of a later letter
  abbrev generator : ℕ → State
  generator j = plain Y n (suc k) (identity Y n) j

  generator-state : (j : ℕ) → IsState Y n (generator j)
  generator-state j = plain-state Y rowed (omega arith) n (suc k) (identity Y n) j one-state

  -- passed m times
  passed_times-generator : (m j : ℕ) → j < n → e ≤ weight j + own_weight
      → passed_times Y n k m (generator j) ≡ multiple Y n (suc k) (suc j) m (exponents j) (row j) (generator j)
  passed_times-generator zero j l w =
      sym (multiple-none Y n (suc k) (suc j) (exponents j) (row j) (generator j) (omega arith) (generator-state j) (row-normal j l))
  passed_times-generator (suc m) j l w =
      let p : ℕ = Y.base.prime in
      let one : State = identity Y n in
      let x : List ℕ = exponents j in
      let q : ℕ = length x in
      let more : List ℕ = scale_row p m x in
      let sides = rowed.base.commutator_sides (suc (k + j)) k (omega arith) (omega arith) in
      let count = sides.count in
      let long = length-scale_row p m x in
      let normal : IsNormal p (length x) x = record { count = refl; below = sides.below } in
      let sj = heavy-lower weights n (suc k) (weight j + own_weight) e (spelled (suc j) x) w
      (side-heavy Y rowed big weights e obeys n k size acts j l) in
      let one_more : m + 1 ≡ suc m = omega arith in
      let own = obeys.from_one k (omega arith) in
      ap (λ (i : ℕ). passed_times Y n k i (generator j)) (sym one_more)
      ∙ passed_times-add Y rowed (omega arith) n k m 1 (generator j)
      ∙ ap (passed Y n k) (passed_times-generator m j l w)
      ∙ passed-add_row Y rowed (omega arith) n k (scale_row p m (row j)) (push one (j ∷ spelled (suc j) more))
      ∙ ap (add_row p (scale_row p m (row j)))
      (passed-word Y rowed big n k size (j ∷ spelled (suc j) more)
      (spells_letter p n j more big (omega arith) (scale_row-normal p q m x (omega arith) normal).below)
      ∙ past-heavy Y rowed big n k size weights e obeys e (past Y n k one j) (spelled (suc j) more) (omega arith)
      (past-state Y rowed (omega arith) n k one j one-state) (heavy-multiple weights n (suc k) e p m (suc j) x (omega arith) sj))
      ∙ multiple-once_more Y rowed big weights e obeys n (suc k) size acts (suc j) m q x (row j) (generator j) (generator-state j) normal
      (row-normal j l) sj

  -- the p-th power behind a state, and its right side behind an exponent
  power_behind : (s : State) → IsState Y n s
      → push_all (before 0 s) (replicate Y.base.prime 0)
      ≡ before 0 (star Y n (suc k) (full_power Y n k) (passed_times Y n k Y.base.prime s))
  power_behind s h =
      let d : ℕ = pred Y.base.prime in
      let q : d + 1 ≡ Y.base.prime = omega arith in
      let ds = passed_times-state Y rowed (omega arith) n k d s h in
      ap (push_all (before 0 s)) (ap (λ (m : ℕ). replicate m 0) (sym q) ∙ sym (replicate-append-replicate {A = ℕ} d 1 0))
      ∙ push_word-append (plain Y (suc n) k) (before 0 s) (replicate d 0) (0 ∷ [])
      ∙ ap (λ (y : State). plain Y (suc n) k y 0) (first-times Y rowed (omega arith) n k 0 d d s (omega arith) (omega arith) h)
      ∙ first-carry Y rowed (omega arith) n k size acts d (passed_times Y n k d s) (omega arith) ds
      ∙ ap (λ (y : State). before 0 (star Y n (suc k) (full_power Y n k) y))
      (sym (passed_times-add Y rowed (omega arith) n k d 1 s) ∙ ap (λ (m : ℕ). passed_times Y n k m s) q)

  abbrev push_side : State → State
  push_side s = add_row Y.base.prime (power_row Y k) (push_all s (spelled 1 (power_side Y.base k)))

  side_behind : (c : ℕ) (s : State) → push_side (before c s) ≡ before c (add_row Y.base.prime (power_row Y k) (push s power_letters))
  side_behind c s =
      ap (λ (u : List ℕ). add_row Y.base.prime (power_row Y k) (push_all (before c s) u)) (spelled-suc 0 (power_side Y.base k))
      ∙ ap (add_row Y.base.prime (power_row Y k)) (plain-later_word Y n k c s power_letters)

  -- a later generator commutes with the right side, and is passed p times unchanged
  pub right_agrees : (j : ℕ) → j < n → e ≤ weight j + own_weight
      → push_all (identity Y (suc n)) (suc j ∷ replicate Y.base.prime 0)
      ≡ add_row Y.base.prime (power_row Y k) (push_all (identity Y (suc n)) (suc j ∷ spelled 1 (power_side Y.base k)))
  right_agrees j l w =
      let one : State = identity Y n in
      let power : State = full_power Y n k in
      let ps = full_power-state Y rowed (omega arith) n k in
      let hj : IsHeavy weights n (suc k) (weight j) j = record { below = l; weight = omega arith } in
      ap (λ (y : State). push_all y (replicate Y.base.prime 0)) (plain-later Y n k 0 one j)
      ∙ power_behind (generator j) (generator-state j)
      ∙ ap (before 0)
      (ap (star Y n (suc k) power) (passed_times-generator Y.base.prime j l w
      ∙ multiple-full Y n (suc k) (suc j) (exponents j) (row j) (generator j) (generator-state j) (row-normal j l))
      ∙ star-push Y rowed (omega arith) n (suc k) size acts power one j ps one-state
      ∙ ap (λ (y : State). plain Y n (suc k) y j) (star-identity_right Y n (suc k) power ps)
      ∙ plain-rides Y n (suc k) (power_row Y k) (push one power_letters) j
      ∙ ap (add_row Y.base.prime (power_row Y k))
      (sym (exchange_letter Y rowed big weights e obeys n (suc k) size acts (weight j) (suc own_weight) one j power_letters
      (omega arith) one-state hj power_letters-heavy)))
      ∙ sym (side_behind 0 (generator j))
      ∙ ap push_side (sym (plain-later Y n k 0 one j))

  -- the right side is passed unchanged by the generator itself
  full_power-passed : e ≤ own_weight + own_weight → passed Y n k (full_power Y n k) ≡ full_power Y n k
  full_power-passed w =
      let one : State = identity Y n in
      let sides = rowed.base.power_sides k (omega arith) in
      let count = sides.count in
      let spells = spells_later Y.base.prime n 0 (power_side Y.base k) (omega arith) (omega arith) sides.below in
      passed-add_row Y rowed (omega arith) n k (power_row Y k) (push one power_letters)
      ∙ ap (add_row Y.base.prime (power_row Y k))
      (passed-word Y rowed big n k size power_letters spells
      ∙ past-heavy Y rowed big n k size weights e obeys (suc own_weight) one power_letters (omega arith) one-state power_letters-heavy)

  pub own_agrees : e ≤ own_weight + own_weight
      → push_all (identity Y (suc n)) (0 ∷ replicate Y.base.prime 0)
      ≡ add_row Y.base.prime (power_row Y k) (push_all (identity Y (suc n)) (0 ∷ spelled 1 (power_side Y.base k)))
  own_agrees w =
      let p : ℕ = Y.base.prime in
      let one : State = identity Y n in
      let power : State = full_power Y n k in
      let ps = full_power-state Y rowed (omega arith) n k in
      let q : p + 1 ≡ suc p = omega arith in
      let letters : ◌≡◌ {A = List ℕ} (0 ∷ replicate p 0) (replicate p 0 ++ 0 ∷ []) =
      ap (λ (m : ℕ). replicate m 0) (sym q) ∙ sym (replicate-append-replicate {A = ℕ} p 1 0) in
      let raised : plain Y (suc n) k (before 0 one) 0 ≡ before 1 one =
      first-raise Y rowed (omega arith) n k 0 one big one-state ∙ ap (before 1) (passed-identity Y rowed (omega arith) n k) in
      ap (push_all (before 0 one)) letters
      ∙ push_word-append (plain Y (suc n) k) (before 0 one) (replicate p 0) (0 ∷ [])
      ∙ ap (λ (y : State). plain Y (suc n) k y 0)
      (power_behind one one-state
      ∙ ap (λ (y : State). before 0 (star Y n (suc k) power y)) (passed_times-identity Y rowed (omega arith) n k p)
      ∙ ap (before 0) (star-identity_right Y n (suc k) power ps))
      ∙ first-raise Y rowed (omega arith) n k 0 power big ps
      ∙ ap (before 1) (full_power-passed w)
      ∙ sym (side_behind 1 one)
      ∙ ap push_side (sym raised)
