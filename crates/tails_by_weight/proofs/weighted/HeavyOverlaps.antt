-- Where the relations of the generators after place k act, a word of two later generators, or of p copies of one, may be collected before
-- the generator at place k passes it or behind that, if the weights of the overlap have a sum above the greatest.
use Rattle.std.proofs.Common.{◌≡◌, ℕ, zero, suc, ◌+◌, ◌<◌, ◌≤◌, List, [], ◌∷◌, length, get_or, replicate, refl, ap, sym, ◌∙◌, subst, arith}
use Rattle.pq_base.specs.Presentation.{IsNormal, power_side, commutator_side}
use Rattle.pc_presentation.specs.Rowed.{RowedPresentation, IsRowed, power_row, commutator_row}
use Rattle.pc_presentation.specs.Collection.{State, IsState, identity, spelled, add_row, push_word}
use Rattle.pc_presentation.proofs.rows.RowLaws.{identity-state, add_row-swap}
use Rattle.pc_presentation.proofs.collecting.PushLaws.{push_word-add_row}
use Rattle.pc_presentation.proofs.collecting.PlainRule.{plain, plain-rides}
use Rattle.pc_presentation.proofs.collecting.RunLaws.ReplacementFrom.{swap_from, power_from}
use Rattle.pc_presentation.proofs.collecting.StateProducts.{RelationsAct}
use Rattle.pc_presentation.proofs.collecting.PassedStates.{past, passed, past-rides, past-state, passed-add_row}
use Rattle.pc_presentation.proofs.collecting.OverlapsAct.{spells_pair}
use Rattle.tails_by_weight.specs.WeightedRows.{ObeysWeightsTo}
use Rattle.tails_by_weight.proofs.weighted.HeavyWords.{IsHeavy, AreHeavy, heavy-replicate, heavy-lower, heavy-one, commutator-heavy}
use Rattle.tails_by_weight.proofs.weighted.HeavyWords.{power-heavy}
use Rattle.tails_by_weight.proofs.weighted.Exchange.{multiple, multiple-none, multiple-full, pushed-state, exchange_letter, exchange}
use Rattle.tails_by_weight.proofs.weighted.Exchange.{multiple-once_more}
use Rattle.tails_by_weight.proofs.weighted.PassedWords.{spells_later, passed-word, past-heavy}

module _ (Y : RowedPresentation) (rowed : IsRowed Y) (big : 1 < Y.base.prime) (weights : List ℕ) (e : ℕ)
    (obeys : ObeysWeightsTo Y weights e) (n k : ℕ) (size : suc k + n ≡ Y.base.rank) (acts : RelationsAct Y n (suc k)) where
  -- the weights of the generator and of later ones
  abbrev own_weight : ℕ
  own_weight = get_or weights k 0

  abbrev weight : ℕ → ℕ
  weight j = get_or weights (suc k + j) 0

  -- pushes of later letters, and of letters that have been passed
  abbrev push : State → List ℕ → State
  push s u = push_word (plain Y n (suc k)) s u

  abbrev push_passed : State → List ℕ → State
  push_passed s u = push_word (past Y n k) s u

  -- the right side of the commutator of a later generator with it
  abbrev exponents : ℕ → List ℕ
  exponents j = commutator_side Y.base (suc (k + j)) k

  abbrev side : ℕ → List ℕ
  side j = spelled (suc j) (exponents j)

  abbrev row : ℕ → List ℕ
  row j = commutator_row Y (suc (k + j)) k

  -- and of the commutator of two later ones
  abbrev both_side : ℕ → ℕ → List ℕ
  both_side c j = spelled (suc c) (commutator_side Y.base (suc k + c) (suc k + j))

  abbrev both_row : ℕ → ℕ → List ℕ
  both_row c j = commutator_row Y (suc k + c) (suc k + j)

  one-state : IsState Y n (identity Y n)
  one-state = identity-state Y n (omega arith)

  kept : (s : State) (u : List ℕ) → IsState Y n s → IsState Y n (push s u)
  kept s u h = pushed-state Y rowed big weights e obeys n (suc k) size acts s u h

  -- a row that comes out of a push
  row-out : (t : List ℕ) (s : State) (u : List ℕ) → push (add_row Y.base.prime t s) u ≡ add_row Y.base.prime t (push s u)
  row-out t s u = push_word-add_row Y.base.prime (plain Y n (suc k)) (plain-rides Y n (suc k)) t s u

  letter-heavy : (j : ℕ) → j < n → IsHeavy weights n (suc k) (weight j) j
  letter-heavy j l = record { below = l; weight = omega arith }

  pub side-heavy : (j : ℕ) → j < n → AreHeavy weights n (suc k) (weight j + own_weight) (side j)
  side-heavy j l =
      let place : suc (k + j) ≡ suc k + j = omega arith in
      subst (λ (x : ℕ). AreHeavy weights n (suc k) (get_or weights x 0 + get_or weights k 0) (side j)) place
      (commutator-heavy Y rowed weights e obeys n (suc k) size (suc j) (suc (k + j)) k (omega arith) (omega arith) (omega arith))

  both_side-heavy : (c j : ℕ) → j < c → c < n → AreHeavy weights n (suc k) (weight c + weight j) (both_side c j)
  both_side-heavy c j l m =
      commutator-heavy Y rowed weights e obeys n (suc k) size (suc c) (suc k + c) (suc k + j) (omega arith) (omega arith) (omega arith)

  both-swap : (c j : ℕ) (s : State) → j < c → c < n → IsState Y n s
      → push s (c ∷ j ∷ []) ≡ add_row Y.base.prime (both_row c j) (push s (j ∷ c ∷ both_side c j))
  both-swap c j s l m h =
      acts s h (c ∷ j ∷ []) (j ∷ c ∷ both_side c j) (both_row c j) (swap_from c j (suc k + c) (suc k + j) refl refl (omega arith) l)

  -- the commutator of two later generators goes behind those with the generator, and the one of them behind the other's
  sides-exchanged : (c j : ℕ) (s : State) → j < c → c < n → e < weight c + weight j + own_weight → IsState Y n s
      → push (push (push s (j ∷ c ∷ both_side c j)) (side j)) (side c) ≡ push (push (push s (j ∷ side j)) (c ∷ side c)) (both_side c j)
  sides-exchanged c j s l m w h =
      let y : State = push s (j ∷ c ∷ []) in
      let ys : IsState Y n y = kept s (j ∷ c ∷ []) h in
      let sc = side-heavy c m in
      let sj = side-heavy j (omega arith) in
      let sb = both_side-heavy c j l m in
      ap (λ (z : State). push z (side c))
      (exchange Y rowed big weights e obeys n (suc k) size acts (weight c + weight j) (weight j + own_weight) y (both_side c j) (side j)
      (omega arith) ys sb sj)
      ∙ exchange Y rowed big weights e obeys n (suc k) size acts (weight c + weight j) (weight c + own_weight) (push y (side j))
      (both_side c j) (side c) (omega arith) (kept y (side j) ys) sb sc
      ∙ ap (λ (z : State). push (push z (side c)) (both_side c j))
      (exchange_letter Y rowed big weights e obeys n (suc k) size acts (weight c) (weight j + own_weight) (push s (j ∷ [])) c (side j)
      (omega arith) (kept s (j ∷ []) h) (letter-heavy c m) sj)

  -- the generators in the other order, each with its commutator behind it
  pairs-exchanged : (c j : ℕ) (s : State) → j < c → c < n → e < weight c + weight j + own_weight → IsState Y n s
      → push (push s (c ∷ side c)) (j ∷ side j)
      ≡ add_row Y.base.prime (both_row c j) (push (push (push s (j ∷ side j)) (c ∷ side c)) (both_side c j))
  pairs-exchanged c j s l m w h =
      let y : State = push s (j ∷ c ∷ both_side c j) in
      let t : List ℕ = both_row c j in
      let sj = heavy-lower weights n (suc k) (weight j + own_weight) (weight j) (side j) (omega arith) (side-heavy j (omega arith)) in
      exchange Y rowed big weights e obeys n (suc k) size acts (weight c + own_weight) (weight j) (push s (c ∷ [])) (side c) (j ∷ side j)
      (omega arith) (kept s (c ∷ []) h) (side-heavy c m) (letter-heavy j (omega arith), sj)
      ∙ ap (λ (z : State). push (push z (side j)) (side c)) (both-swap c j s l m h)
      ∙ ap (λ (z : State). push z (side c)) (row-out t y (side j))
      ∙ row-out t (push y (side j)) (side c)
      ∙ ap (add_row Y.base.prime t) (sides-exchanged c j s l m w h)

  rows-turned : (p : ℕ) (x y z : List ℕ) (s : State) → add_row p x (add_row p y (add_row p z s)) ≡ add_row p z (add_row p y (add_row p x s))
  rows-turned p x y z s =
      ap (add_row p x) (add_row-swap p y z s) ∙ add_row-swap p x z (add_row p y s) ∙ ap (add_row p z) (add_row-swap p x y s)

  -- two later generators
  pub triple-passed : (c j : ℕ) → j < c → c < n → e < weight c + weight j + own_weight
      → passed Y n k (push (identity Y n) (c ∷ j ∷ [])) ≡ push_passed (identity Y n) (c ∷ j ∷ [])
  triple-passed c j l m w =
      let p : ℕ = Y.base.prime in
      let one : State = identity Y n in
      let t : List ℕ = both_row c j in
      let x : State = push (push one (j ∷ side j)) (c ∷ side c) in
      let entries : List ℕ = commutator_side Y.base (suc k + c) (suc k + j) in
      let sides = rowed.base.commutator_sides (suc k + c) (suc k + j) (omega arith) (omega arith) in
      let count = sides.count in
      let keeps = past-state Y rowed (omega arith) n k in
      ap (passed Y n k) (both-swap c j one l m one-state)
      ∙ passed-add_row Y rowed (omega arith) n k t (push one (j ∷ c ∷ both_side c j))
      ∙ ap (add_row p t)
      (passed-word Y rowed big n k size (j ∷ c ∷ both_side c j) (spells_pair p n j c entries big l (omega arith) sides.below)
      ∙ past-heavy Y rowed big n k size weights e obeys (weight c + weight j) (push_passed one (j ∷ c ∷ [])) (both_side c j) w
      (keeps (past Y n k one j) c (keeps one j one-state)) (both_side-heavy c j l m)
      ∙ ap (λ (z : State). push z (both_side c j)) (past-rides Y n k (row j) (push one (j ∷ side j)) c)
      ∙ row-out (row j) (add_row p (row c) x) (both_side c j)
      ∙ ap (add_row p (row j)) (row-out (row c) x (both_side c j)))
      ∙ rows-turned p t (row j) (row c) (push x (both_side c j))
      ∙ ap (λ (z : State). add_row p (row c) (add_row p (row j) z)) (sym (pairs-exchanged c j one l m w one-state))
      ∙ sym (past-rides Y n k (row c) (push one (c ∷ side c)) j)

  -- copies of a later generator
  row-normal : (j : ℕ) → j < n → IsNormal Y.base.prime Y.width (row j)
  row-normal j l = rowed.commutator_rows (suc (k + j)) k (omega arith) (omega arith)

  copies-passed : (m j : ℕ) (s : State) → j < n → e ≤ weight j + own_weight → IsState Y n s
      → push_passed s (replicate m j) ≡ multiple Y n (suc k) (suc j) m (exponents j) (row j) (push s (replicate m j))
  copies-passed zero j s l w h = sym (multiple-none Y n (suc k) (suc j) (exponents j) (row j) s (omega arith) h (row-normal j l))
  copies-passed (suc m) j s l w h =
      let letters : List ℕ = replicate m j in
      let letters_heavy = heavy-replicate weights n (suc k) (weight j) m j (λ _. letter-heavy j l) in
      let one_heavy = heavy-one Y rowed weights e obeys n (suc k) size (weight j) letters letters_heavy in
      let sj = heavy-lower weights n (suc k) (weight j + own_weight) e (side j) w (side-heavy j l) in
      let c = rowed.base.commutator_sides (suc (k + j)) k (omega arith) (omega arith) in
      copies-passed m j (past Y n k s j) l w (past-state Y rowed (omega arith) n k s j h)
      ∙ ap (multiple Y n (suc k) (suc j) m (exponents j) (row j))
      (row-out (row j) (push s (j ∷ side j)) letters
      ∙ ap (add_row Y.base.prime (row j))
      (exchange Y rowed big weights e obeys n (suc k) size acts e 1 (push s (j ∷ [])) (side j) letters
      (omega arith) (kept s (j ∷ []) h) sj one_heavy))
      ∙ multiple-once_more Y rowed big weights e obeys n (suc k) size acts (suc j) m (length (exponents j)) (exponents j) (row j)
      (push s (j ∷ letters)) (kept s (j ∷ letters) h) (record { count = refl; below = c.below }) (row-normal j l) sj

  pub left-passed : (j : ℕ) → j < n → e ≤ weight j + own_weight
      → passed Y n k (push (identity Y n) (replicate Y.base.prime j)) ≡ push_passed (identity Y n) (replicate Y.base.prime j)
  left-passed j l w =
      let p : ℕ = Y.base.prime in
      let one : State = identity Y n in
      let letters : List ℕ = replicate p j in
      let entries : List ℕ = power_side Y.base (suc k + j) in
      let word : List ℕ = spelled (suc j) entries in
      let t : List ℕ = power_row Y (suc k + j) in
      let sides = rowed.base.power_sides (suc k + j) (omega arith) in
      let count = sides.count in
      let power = acts one one-state letters word t (power_from j (suc k + j) refl (omega arith)) in
      ap (passed Y n k) power
      ∙ passed-add_row Y rowed (omega arith) n k t (push one word)
      ∙ ap (add_row p t)
      (passed-word Y rowed big n k size word (spells_later p n (suc j) entries (omega arith) (omega arith) sides.below)
      ∙ past-heavy Y rowed big n k size weights e obeys (suc (weight j)) one word (omega arith) one-state
      (power-heavy Y rowed weights e obeys n (suc k) size (suc j) (suc k + j) (omega arith) (omega arith)))
      ∙ sym power
      ∙ sym (copies-passed p j one l w one-state
      ∙ multiple-full Y n (suc k) (suc j) (exponents j) (row j) (push one letters) (kept one letters one-state) (row-normal j l))
