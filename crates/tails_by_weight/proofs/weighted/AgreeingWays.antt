-- Two ways of an overlap that agree by some chains of pushes agree by the plain rule of the generators from place k on, where its least
-- generator is the one at place k and the relations of the later generators act.
use Rattle.std.proofs.Common.{◌≡◌, ℕ, zero, suc, ◌+◌, ◌<◌, List, [], ◌∷◌, ◌++◌, map, replicate, refl, ap, sym, ◌∙◌, subst, arith}
use Rattle.std.proofs.lemmas.List.{map-append}
use Rattle.pc_presentation.specs.Rowed.{RowedPresentation, IsRowed}
use Rattle.pc_presentation.specs.Collection.{State, IsState, identity, spelled, configuration_of, add_row, before, push_word}
use Rattle.pc_presentation.specs.Overlaps.{Overlap, left_way, right_way, PushChain, Agrees}
use Rattle.pc_presentation.specs.Overlaps.PushChain.{no_push, then_push}
use Rattle.pc_presentation.proofs.rows.RowLaws.{identity-state, is_before, before-injective}
use Rattle.pc_presentation.proofs.collecting.PushLaws.{push_word-keeps}
use Rattle.pc_presentation.proofs.collecting.PlainRule.{plain, plain-state}
use Rattle.pc_presentation.proofs.collecting.RunLaws.{RunFrom, replacement_from, run-weaken}
use Rattle.pc_presentation.proofs.collecting.StateProducts.{RelationsAct}
use Rattle.pc_presentation.proofs.collecting.AnyRun.{any_run}
use Rattle.pc_presentation.proofs.collecting.LaterRuns.{push-behind}
use Rattle.tails_by_weight.proofs.weighted.Exchange.{add_row-zeros}

-- a state behind d zeros
abbrev behind : ℕ → State → State
behind zero s = s
behind (suc d) s = before 0 (behind d s)

behind-injective : (d : ℕ) (s t : State) → behind d s ≡ behind d t → s ≡ t
behind-injective zero s t q = q
behind-injective (suc d) s t q = behind-injective d s t (before-injective 0 (behind d s) (behind d t) q)

behind-add_row : (p d : ℕ) (x : List ℕ) (s : State) → behind d (add_row p x s) ≡ add_row p x (behind d s)
behind-add_row p zero x s = refl
behind-add_row p (suc d) x s = ap (before 0) (behind-add_row p d x s)

behind-identity : (Y : RowedPresentation) (d n : ℕ) → behind d (identity Y n) ≡ identity Y (d + n)
behind-identity Y zero n = ap (identity Y) (let e : n ≡ 0 + n = omega arith in e)
behind-identity Y (suc d) n =
    ap (before 0) (behind-identity Y d n) ∙ ap (identity Y) (let e : suc (d + n) ≡ suc d + n = omega arith in e)

-- the letters of a word, counted from d places before
abbrev pub letters_behind : ℕ → List ℕ → List ℕ
letters_behind d u = map (λ (i : ℕ). d + i) u

pub replicate-behind : (d m i : ℕ) → letters_behind d (replicate m i) ≡ replicate m (d + i)
replicate-behind d zero i = refl
replicate-behind d (suc m) i = ap (λ (u : List ℕ). (d + i) ∷ u) (replicate-behind d m i)

pub spelled-behind : (d i : ℕ) (h : List ℕ) → letters_behind d (spelled i h) ≡ spelled (d + i) h
spelled-behind d i [] = refl
spelled-behind d i (e ∷ h) =
    map-append (λ (j : ℕ). d + j) (replicate e i) (spelled (suc i) h)
    ∙ ap (λ (u : List ℕ). u ++ letters_behind d (spelled (suc i) h)) (replicate-behind d e i)
    ∙ ap (λ (u : List ℕ). replicate e (d + i) ++ u)
    (spelled-behind d (suc i) h ∙ ap (λ (j : ℕ). spelled j h) (let q : d + suc i ≡ suc (d + i) = omega arith in q))

-- a run that pushes the letter i on s and ends at t
abbrev PushRun : RowedPresentation → ℕ → State → ℕ → State → Type 0
PushRun Y k s i t = RunFrom Y k (record { word = spelled 0 s.exponents ++ i ∷ []; row = s.row }) (configuration_of t)

module _ (Y : RowedPresentation) (rowed : IsRowed Y) (big : 1 < Y.base.prime) (n k : ℕ) (size : suc k + n ≡ Y.base.rank)
    (acts : RelationsAct Y n (suc k)) where
  abbrev push : State → List ℕ → State
  push s u = push_word (plain Y (suc n) k) s u

  -- a run that pushes a letter behind zeros is the plain rule's
  pushed-behind : (d m : ℕ) (s t : State) (i : ℕ) → m + d ≡ k → IsState Y (suc n) s → IsState Y (d + suc n) t
      → PushRun Y m (behind d s) (d + i) t → t ≡ behind d (plain Y (suc n) k s i)
  pushed-behind zero m s t i q h g run =
      let here : 0 + i ≡ i = omega arith in
      let level : m ≡ k = omega arith in
      let count : 0 + suc n ≡ suc n = omega arith in
      any_run Y rowed big n k acts s t i h (subst (λ (z : ℕ). IsState Y z t) count g)
      (subst (λ (z : ℕ). PushRun Y z s i t) level (subst (λ (z : ℕ). PushRun Y m s z t) here run))
  pushed-behind (suc d) m s t i q h g run =
      let here : suc d + i ≡ suc (d + i) = omega arith in
      let count : suc d + suc n ≡ suc (d + suc n) = omega arith in
      let b = is_before Y (d + suc n) t (subst (λ (z : ℕ). IsState Y z t) count g) in
      let run' : PushRun Y m (before 0 (behind d s)) (suc (d + i)) (before b.exponent b.rest) =
      subst (λ (z : ℕ). PushRun Y m (before 0 (behind d s)) z (before b.exponent b.rest)) here
      (subst (λ (z : State). PushRun Y m (before 0 (behind d s)) (suc d + i) z) b.same run) in
      let r = push-behind Y m 0 b.exponent (behind d s) b.rest (d + i) (omega arith) run' in
      b.same ∙ ap (λ (z : ℕ). before z b.rest) r.0 ∙ ap (before 0) (pushed-behind d (suc m) s b.rest i (omega arith) h b.state r.1)

  -- and so is a chain
  chain-behind : (s : State) (u : List ℕ) {s' t : State} {w : List ℕ} → IsState Y (suc n) s → s' ≡ behind k s → w ≡ letters_behind k u
      → PushChain Y s' w t → t ≡ behind k (push s u)
  chain-behind s [] h q f no_push = q
  chain-behind s (i ∷ u) h q f no_push = cc
  chain-behind s [] h q f (then_push o c) = cc
  chain-behind s (i ∷ u) h q f (then_push {s = s'} {t = t} {i = i'} {w = w} o c) =
      let i_is : i' ≡ k + i = cc in
      let w_is : w ≡ letters_behind k u = cc in
      let count : Y.base.rank ≡ k + suc n = omega arith in
      let run : PushRun Y 0 s' i' t = run-weaken (replacement_from Y) o.run in
      let run' : PushRun Y 0 (behind k s) (k + i) t =
      subst (λ (j : ℕ). PushRun Y 0 (behind k s) j t) i_is (subst (λ (z : State). PushRun Y 0 z i' t) q run) in
      let t_is : t ≡ behind k (plain Y (suc n) k s i) =
      pushed-behind k 0 s t i (omega arith) h (subst (λ (z : ℕ). IsState Y z t) count o.state) run' in
      chain-behind (plain Y (suc n) k s i) u (plain-state Y rowed (omega arith) (suc n) k s i h) t_is w_is c

  one_is : identity Y Y.base.rank ≡ behind k (identity Y (suc n))
  one_is = ap (identity Y) (let q : Y.base.rank ≡ k + suc n = omega arith in q) ∙ sym (behind-identity Y k (suc n))

  -- so both ways agree plainly
  pub agree-behind : (o : Overlap) (u v : List ℕ) → (left_way Y o).word ≡ letters_behind k u → (left_way Y o).row ≡ replicate Y.width 0
      → (right_way Y o).word ≡ letters_behind k v → Agrees Y o
      → push (identity Y (suc n)) u ≡ add_row Y.base.prime (right_way Y o).row (push (identity Y (suc n)) v)
  agree-behind o u v f r g h =
      let p : ℕ = Y.base.prime in
      let one : State = identity Y (suc n) in
      let ones : IsState Y (suc n) one = identity-state Y (suc n) (omega arith) in
      let t : List ℕ = (right_way Y o).row in
      let xs : IsState Y (suc n) (push one u) =
      push_word-keeps (plain Y (suc n) k) (IsState Y (suc n)) (plain-state Y rowed (omega arith) (suc n) k) one u ones in
      behind-injective k (push one u) (add_row p t (push one v))
      (ap (behind k) (sym (add_row-zeros Y (suc n) (push one u) xs) ∙ ap (λ (z : List ℕ). add_row p z (push one u)) (sym r))
      ∙ behind-add_row p k (left_way Y o).row (push one u)
      ∙ ap (add_row p (left_way Y o).row) (sym (chain-behind one u ones one_is f h.left_chain))
      ∙ h.same
      ∙ ap (add_row p t) (chain-behind one v ones one_is g h.right_chain)
      ∙ sym (behind-add_row p k t (push one v)))
