-- A push of the plain rule is a directed run: the letter goes left past the later letters, each of which is followed by
-- its commutator then, a full power is replaced, and the letters that have come are pushed one after the other.
use Rattle.std.proofs.Common.{◌≡◌, ℕ, zero, suc, ◌+◌, ◌<◌, ◌≤◌, List, [], ◌∷◌, ◌++◌, length, map, replicate, refl, ap, sym, ◌∙◌, subst}
use Rattle.std.proofs.Common.{arith, append_assoc, inl, inr}
use Rattle.std.proofs.lemmas.List.{map-append, append-nil}
use Rattle.std.proofs.lemmas.Bool.{cases_lt}
use Rattle.pq_base.specs.Table.{AllBelow}
use Rattle.pq_base.specs.Presentation.{power_side, commutator_side}
use Rattle.fp_rows.proofs.BelowLaws.{AllBelow-append}
use Rattle.pc_presentation.specs.Rowed.{RowedPresentation, IsRowed, power_row, commutator_row, row_sum}
use Rattle.pc_presentation.specs.Collection.{Configuration, State, IsState, spelled, configuration_of, add_row, before, push_word}
use Rattle.pc_presentation.specs.Collection.{push_power, push_past, plain_push, DirectedRun}
use Rattle.pc_presentation.specs.Collection.Run.{stop}
use Rattle.pc_presentation.proofs.rows.RowLaws.{row_sum-nil, row_sum-comm, row_sum-assoc, add_row-swap, add_row-add_row, is_before}
use Rattle.pc_presentation.proofs.rows.RowLaws.{zeros-normal, row_sum-addable, commutator_row-addable, power_row-addable, IsAddable}
use Rattle.pc_presentation.proofs.collecting.PushLaws.{Rides, push_word-append, push_word-add_row}
use Rattle.pc_presentation.proofs.collecting.PlainRule.{plain, plain-later, plain-raise, plain-carry, plain-rides, plain-state, spelled-suc}
use Rattle.pc_presentation.proofs.collecting.PlainRule.{spelled-zeros}
use Rattle.pc_presentation.proofs.collecting.RunLaws.{RunFrom, replacement_at_start, run-trans, run-prefix, run-suffix, run-replacement}
use Rattle.pc_presentation.proofs.collecting.RunLaws.{run-later, run-weaken}
use Rattle.pc_presentation.proofs.collecting.RunLaws.ReplacementFrom.{swap_from, power_from}

-- letters below a number
pub AllBelow-replicate : (n e i : ℕ) → i < n → AllBelow n (replicate e i)
AllBelow-replicate n zero i h = tt
AllBelow-replicate n (suc e) i h = (h, AllBelow-replicate n e i h)

pub AllBelow-spelled : (n i : ℕ) (h : List ℕ) → i + length h ≤ n → AllBelow n (spelled i h)
AllBelow-spelled n i [] l = tt
AllBelow-spelled n i (e ∷ h) l =
    AllBelow-append n (replicate e i) (spelled (suc i) h) (AllBelow-replicate n e i (omega arith))
    (AllBelow-spelled n (suc i) h (omega arith))

-- what stands behind the generator at place k after it has passed a word of later letters, and the row that this adds
abbrev pub moved : RowedPresentation → ℕ → List ℕ → List ℕ
moved Y k [] = []
moved Y k (j ∷ u) = j ∷ (spelled (suc j) (commutator_side Y.base (suc (k + j)) k) ++ moved Y k u)

abbrev pub moved_row : RowedPresentation → ℕ → List ℕ → List ℕ
moved_row Y k [] = []
moved_row Y k (j ∷ u) = row_sum Y.base.prime (commutator_row Y (suc (k + j)) k) (moved_row Y k u)

past-moved : (Y : RowedPresentation) (push : State → ℕ → State) (k : ℕ) → Rides Y.base.prime push → (s : State) (u : List ℕ)
    → push_word (push_past Y push k) s u ≡ add_row Y.base.prime (moved_row Y k u) (push_word push s (moved Y k u))
past-moved Y push k r s [] = ap (λ (x : List ℕ). record { exponents = s.exponents; row = x }) (sym (row_sum-nil Y.base.prime s.row))
past-moved Y push k r s (j ∷ u) =
    let w : List ℕ = spelled (suc j) (commutator_side Y.base (suc (k + j)) k) in
    let t : List ℕ = commutator_row Y (suc (k + j)) k in
    past-moved Y push k r (push_past Y push k s j) u
    ∙ ap (add_row Y.base.prime (moved_row Y k u)) (push_word-add_row Y.base.prime push r t (push_word push (push s j) w) (moved Y k u))
    ∙ add_row-add_row Y.base.prime (moved_row Y k u) t (push_word push (push_word push (push s j) w) (moved Y k u))
    ∙ ap (add_row Y.base.prime (row_sum Y.base.prime t (moved_row Y k u))) (sym (push_word-append push (push s j) w (moved Y k u)))

append-replicate : (e i : ℕ) (u : List ℕ) → replicate e i ++ i ∷ u ≡ i ∷ (replicate e i ++ u)
append-replicate zero i u = refl
append-replicate (suc e) i u = ap (λ (v : List ℕ). i ∷ v) (append-replicate e i u)

moved_row-addable : (Y : RowedPresentation) → IsRowed Y → 0 < Y.base.prime → (k : ℕ) (u : List ℕ)
    → IsAddable Y.base.prime Y.width (moved_row Y k u)
moved_row-addable Y r h k [] = inl refl
moved_row-addable Y r h k (j ∷ u) =
    sum_of (commutator_row Y (suc (k + j)) k) (moved_row Y k u) (commutator_row-addable Y r (suc (k + j)) k) (moved_row-addable Y r h k u)
  where
    sum_of : (t m : List ℕ) → IsAddable Y.base.prime Y.width t → IsAddable Y.base.prime Y.width m
        → IsAddable Y.base.prime Y.width (row_sum Y.base.prime t m)
    sum_of t m (inl e) b = subst (λ (y : List ℕ). IsAddable Y.base.prime Y.width (row_sum Y.base.prime y m)) (sym e) b
    sum_of t m (inr i) b = inr (row_sum-addable Y.base.prime Y.width t m h i b)

module _ (Y : RowedPresentation) (rowed : IsRowed Y) (positive : 0 < Y.base.prime) (n k : ℕ) (size : k + suc n ≡ Y.base.rank) where
  moved-below : (u : List ℕ) → AllBelow n u → AllBelow n (moved Y k u)
  moved-below [] h = tt
  moved-below (j ∷ u) h =
      let c = (rowed.base.commutator_sides (suc (k + j)) k (let l = h.0 in omega arith) (omega arith)).count in (
        h.0,
        AllBelow-append n (spelled (suc j) (commutator_side Y.base (suc (k + j)) k)) (moved Y k u)
            (AllBelow-spelled n (suc j) (commutator_side Y.base (suc (k + j)) k) (omega arith)) (moved-below u h.1),
      )

  power-below : AllBelow n (spelled 0 (power_side Y.base k))
  power-below = let c = (rowed.base.power_sides k (omega arith)).count in AllBelow-spelled n 0 (power_side Y.base k) (omega arith)

  -- the generator passes later letters
  pass : (u x : List ℕ) → AllBelow n u
      → RunFrom Y k (record { word = map suc u ++ 0 ∷ []; row = x })
      (record { word = 0 ∷ map suc (moved Y k u); row = row_sum Y.base.prime x (moved_row Y k u) })
  pass [] x h =
      subst (λ (y : List ℕ). RunFrom Y k (record { word = 0 ∷ []; row = x }) (record { word = 0 ∷ []; row = y }))
      (sym (row_sum-nil Y.base.prime x)) stop
  pass (j ∷ u) x h =
      let l = h.0 in
      let side : List ℕ = commutator_side Y.base (suc (k + j)) k in
      let t : List ℕ = commutator_row Y (suc (k + j)) k in
      let y : List ℕ = row_sum Y.base.prime x (moved_row Y k u) in
      let first : RunFrom Y k (record { word = suc j ∷ (map suc u ++ 0 ∷ []); row = x })
      (record { word = suc j ∷ 0 ∷ map suc (moved Y k u); row = y }) =
      run-prefix (suc j ∷ []) (pass u x h.1) in
      let second : RunFrom Y k (record { word = suc j ∷ 0 ∷ map suc (moved Y k u); row = y })
      (record { word = 0 ∷ suc j ∷ (spelled (suc (suc j)) side ++ map suc (moved Y k u)); row = row_sum Y.base.prime y t }) =
      run-replacement (suc j ∷ 0 ∷ []) (0 ∷ suc j ∷ spelled (suc (suc j)) side) (map suc (moved Y k u)) t y
      (swap_from (suc j) 0 (suc (k + j)) k (omega arith) (omega arith) (omega arith) (omega arith)) in
      let words : spelled (suc (suc j)) side ++ map suc (moved Y k u) ≡ map suc (spelled (suc j) side ++ moved Y k u) =
      ap (λ (w : List ℕ). w ++ map suc (moved Y k u)) (spelled-suc (suc j) side)
      ∙ sym (map-append suc (spelled (suc j) side) (moved Y k u)) in
      let rows : row_sum Y.base.prime y t ≡ row_sum Y.base.prime x (row_sum Y.base.prime t (moved_row Y k u)) =
      row_sum-assoc Y.base.prime x (moved_row Y k u) t ∙ ap (row_sum Y.base.prime x) (row_sum-comm Y.base.prime (moved_row Y k u) t) in
      run-trans first
      (subst (λ (z : List ℕ). RunFrom Y k (record { word = suc j ∷ 0 ∷ map suc (moved Y k u); row = y })
      (record { word = 0 ∷ suc j ∷ map suc (spelled (suc j) side ++ moved Y k u); row = z })) rows
      (subst (λ (w : List ℕ). RunFrom Y k (record { word = suc j ∷ 0 ∷ map suc (moved Y k u); row = y })
      (record { word = 0 ∷ suc j ∷ w; row = row_sum Y.base.prime y t })) words second))

  module _ (inner : (s : State) (i : ℕ) → IsState Y n s → i < n
      → RunFrom Y (suc k) (record { word = spelled 0 s.exponents ++ i ∷ []; row = s.row }) (configuration_of (plain Y n (suc k) s i))) where
    -- letters pushed on a state one after the other
    feed : (s : State) (u : List ℕ) → IsState Y n s → AllBelow n u
        → RunFrom Y (suc k) (record { word = spelled 0 s.exponents ++ u; row = s.row })
        (configuration_of (push_word (plain Y n (suc k)) s u))
    feed s [] h i =
        subst (λ (w : List ℕ). RunFrom Y (suc k) (record { word = w; row = s.row }) (configuration_of s))
        (sym (append-nil (spelled 0 s.exponents))) stop
    feed s (i ∷ u) h b =
        let first : RunFrom Y (suc k) (record { word = (spelled 0 s.exponents ++ i ∷ []) ++ u; row = s.row })
        (record { word = spelled 0 (plain Y n (suc k) s i).exponents ++ u; row = (plain Y n (suc k) s i).row }) =
        run-suffix u (inner s i h b.0) in
        let first' : RunFrom Y (suc k) (record { word = spelled 0 s.exponents ++ i ∷ u; row = s.row })
        (record { word = spelled 0 (plain Y n (suc k) s i).exponents ++ u; row = (plain Y n (suc k) s i).row }) =
        subst (λ (w : List ℕ). RunFrom Y (suc k) (record { word = w; row = s.row })
        (record { word = spelled 0 (plain Y n (suc k) s i).exponents ++ u; row = (plain Y n (suc k) s i).row }))
        (append_assoc (spelled 0 s.exponents) (i ∷ []) u) first in
        run-trans first' (feed (plain Y n (suc k) s i) u (plain-state Y rowed positive n (suc k) s i h) b.1)

    -- letters pushed on the state of zeros, behind copies of the generator
    feed_behind : (e : ℕ) (u x : List ℕ) → IsState Y n (record { exponents = replicate n 0; row = x }) → AllBelow n u
        → RunFrom Y k (record { word = replicate e 0 ++ map suc u; row = x })
        (configuration_of (before e (push_word (plain Y n (suc k)) (record { exponents = replicate n 0; row = x }) u)))
    feed_behind e u x h b =
        let z : State = record { exponents = replicate n 0; row = x } in
        let s : State = push_word (plain Y n (suc k)) z u in
        let low : RunFrom Y (suc k) (record { word = spelled 0 (replicate n 0) ++ u; row = x }) (configuration_of s) = feed z u h b in
        let low' : RunFrom Y (suc k) (record { word = u; row = x }) (configuration_of s) =
        subst (λ (w : List ℕ). RunFrom Y (suc k) (record { word = w ++ u; row = x }) (configuration_of s)) (spelled-zeros 0 n) low in
        let high : RunFrom Y k (record { word = replicate e 0 ++ map suc u; row = x })
        (record { word = replicate e 0 ++ map suc (spelled 0 s.exponents); row = s.row }) =
        run-prefix (replicate e 0) (run-later Y k low') in
        subst (λ (w : List ℕ). RunFrom Y k (record { word = replicate e 0 ++ map suc u; row = x })
        (record { word = replicate e 0 ++ w; row = s.row }))
        (sym (spelled-suc 0 s.exponents)) high

    -- the generator itself: it passes the later letters
    gathered : (e : ℕ) (r : State) → IsState Y n r
        → RunFrom Y k (record { word = spelled 0 (e ∷ r.exponents) ++ 0 ∷ []; row = r.row })
        (record {
          word = replicate (suc e) 0 ++ map suc (moved Y k (spelled 0 r.exponents));
          row = row_sum Y.base.prime r.row (moved_row Y k (spelled 0 r.exponents));
        })
    gathered e r h =
        let u : List ℕ = spelled 0 r.exponents in
        let c = h.exponents.count in
        let end : Configuration =
        record { word = replicate (suc e) 0 ++ map suc (moved Y k u); row = row_sum Y.base.prime r.row (moved_row Y k u) } in
        let m : RunFrom Y k (record { word = replicate e 0 ++ (map suc u ++ 0 ∷ []); row = r.row })
        (record { word = replicate e 0 ++ 0 ∷ map suc (moved Y k u); row = row_sum Y.base.prime r.row (moved_row Y k u) }) =
        run-prefix (replicate e 0) (pass u r.row (AllBelow-spelled n 0 r.exponents (omega arith))) in
        let words : replicate e 0 ++ (map suc u ++ 0 ∷ []) ≡ spelled 0 (e ∷ r.exponents) ++ 0 ∷ [] =
        ap (λ (w : List ℕ). replicate e 0 ++ (w ++ 0 ∷ [])) (sym (spelled-suc 0 r.exponents))
        ∙ sym (append_assoc (replicate e 0) (spelled 1 r.exponents) (0 ∷ [])) in
        subst (λ (w : List ℕ). RunFrom Y k (record { word = w; row = r.row }) end) words
        (subst (λ (w : List ℕ). RunFrom Y k (record { word = replicate e 0 ++ (map suc u ++ 0 ∷ []); row = r.row })
        (record { word = w; row = row_sum Y.base.prime r.row (moved_row Y k u) })) (append-replicate e 0 (map suc (moved Y k u))) m)

    gathered-state : (r : State) → IsState Y n r
        → IsState Y n (record { exponents = replicate n 0; row = row_sum Y.base.prime r.row (moved_row Y k (spelled 0 r.exponents)) })
    gathered-state r h = record {
      exponents = zeros-normal Y.base.prime n positive;
      row = row_sum-addable Y.base.prime Y.width r.row (moved_row Y k (spelled 0 r.exponents)) positive h.row
          (moved_row-addable Y rowed positive k (spelled 0 r.exponents));
    }

    raise_run : (e : ℕ) (r : State) → suc e < Y.base.prime → IsState Y n r
        → RunFrom Y k (record { word = spelled 0 (e ∷ r.exponents) ++ 0 ∷ []; row = r.row })
        (configuration_of (plain Y (suc n) k (before e r) 0))
    raise_run e r l h =
        let u : List ℕ = spelled 0 r.exponents in
        let c = h.exponents.count in
        let push : State → ℕ → State = plain Y n (suc k) in
        let z : State = record { exponents = replicate n 0; row = r.row } in
        let y : List ℕ = row_sum Y.base.prime r.row (moved_row Y k u) in
        let same : push_word (plain Y n (suc k)) (record { exponents = replicate n 0; row = y }) (moved Y k u)
        ≡ push_word (push_past Y (plain Y n (suc k)) k) z u =
        push_word-add_row Y.base.prime (plain Y n (suc k)) (plain-rides Y n (suc k)) (moved_row Y k u) z (moved Y k u)
        ∙ sym (past-moved Y (plain Y n (suc k)) k (plain-rides Y n (suc k)) z u) in
        run-trans (gathered e r h)
        (subst (λ (t : State). RunFrom Y k (record { word = replicate (suc e) 0 ++ map suc (moved Y k u); row = y }) (configuration_of t))
        (ap (before (suc e)) same ∙ sym (plain-raise Y n k e r l))
        (feed_behind (suc e) (moved Y k u) y (gathered-state r h) (moved-below u (AllBelow-spelled n 0 r.exponents (omega arith)))))

    carry_run : (e : ℕ) (r : State) → suc e ≡ Y.base.prime → IsState Y n r
        → RunFrom Y k (record { word = spelled 0 (e ∷ r.exponents) ++ 0 ∷ []; row = r.row })
        (configuration_of (plain Y (suc n) k (before e r) 0))
    carry_run e r l h =
        let u : List ℕ = spelled 0 r.exponents in
        let c = h.exponents.count in
        let p : ℕ = Y.base.prime in
        let z : State = record { exponents = replicate n 0; row = r.row } in
        let side : List ℕ = power_side Y.base k in
        let t : List ℕ = power_row Y k in
        let y : List ℕ = row_sum Y.base.prime r.row (moved_row Y k u) in
        let y' : List ℕ = row_sum Y.base.prime y t in
        let state : IsState Y n (record { exponents = replicate n 0; row = y' }) = record {
          exponents = zeros-normal Y.base.prime n positive;
          row = row_sum-addable Y.base.prime Y.width y t positive (gathered-state r h).row (power_row-addable Y rowed k);
        } in
        let replaced : RunFrom Y k (record { word = replicate Y.base.prime 0 ++ map suc (moved Y k u); row = y })
        (record { word = spelled 1 side ++ map suc (moved Y k u); row = y' }) =
        run-replacement (replicate Y.base.prime 0) (spelled 1 side) (map suc (moved Y k u)) t y
        (power_from 0 k (omega arith) (omega arith)) in
        let words : spelled 1 side ++ map suc (moved Y k u) ≡ map suc (spelled 0 side ++ moved Y k u) =
        ap (λ (w : List ℕ). w ++ map suc (moved Y k u)) (spelled-suc 0 side) ∙ sym (map-append suc (spelled 0 side) (moved Y k u)) in
        let replaced' : RunFrom Y k (record { word = replicate (suc e) 0 ++ map suc (moved Y k u); row = y })
        (record { word = map suc (spelled 0 side ++ moved Y k u); row = y' }) =
        subst (λ (m : ℕ). RunFrom Y k (record { word = replicate m 0 ++ map suc (moved Y k u); row = y })
        (record { word = map suc (spelled 0 side ++ moved Y k u); row = y' })) (sym l)
        (subst (λ (w : List ℕ). RunFrom Y k (record { word = replicate Y.base.prime 0 ++ map suc (moved Y k u); row = y })
        (record { word = w; row = y' })) words replaced) in
        let fed : RunFrom Y k (record { word = map suc (spelled 0 side ++ moved Y k u); row = y' })
        (configuration_of (before 0
        (push_word (plain Y n (suc k)) (record { exponents = replicate n 0; row = y' }) (spelled 0 side ++ moved Y k u)))) =
        feed_behind 0 (spelled 0 side ++ moved Y k u) y' state
        (AllBelow-append n (spelled 0 side) (moved Y k u) power-below (moved-below u (AllBelow-spelled n 0 r.exponents (omega arith)))) in
        let all : State = push_word (plain Y n (suc k)) z (spelled 0 side ++ moved Y k u) in
        let same : push_word (plain Y n (suc k)) (record { exponents = replicate n 0; row = y' }) (spelled 0 side ++ moved Y k u)
        ≡ push_word (push_past Y (plain Y n (suc k)) k) (push_power Y (plain Y n (suc k)) k z) u =
        push_word-add_row Y.base.prime (plain Y n (suc k)) (plain-rides Y n (suc k)) t (record { exponents = replicate n 0; row = y })
        (spelled 0 side ++ moved Y k u)
        ∙ ap (add_row Y.base.prime t)
        (push_word-add_row Y.base.prime (plain Y n (suc k)) (plain-rides Y n (suc k)) (moved_row Y k u) z (spelled 0 side ++ moved Y k u))
        ∙ add_row-swap Y.base.prime t (moved_row Y k u) (push_word (plain Y n (suc k)) z (spelled 0 side ++ moved Y k u))
        ∙ ap (λ (s : State). add_row Y.base.prime (moved_row Y k u) (add_row Y.base.prime t s))
        (push_word-append (plain Y n (suc k)) z (spelled 0 side) (moved Y k u))
        ∙ ap (add_row Y.base.prime (moved_row Y k u))
        (sym (push_word-add_row Y.base.prime (plain Y n (suc k)) (plain-rides Y n (suc k)) t
        (push_word (plain Y n (suc k)) z (spelled 0 side)) (moved Y k u)))
        ∙ sym (past-moved Y (plain Y n (suc k)) k (plain-rides Y n (suc k)) (push_power Y (plain Y n (suc k)) k z) u) in
        run-trans (gathered e r h)
        (run-trans replaced'
        (subst (λ (s : State). RunFrom Y k (record { word = map suc (spelled 0 side ++ moved Y k u); row = y' }) (configuration_of s))
        (ap (before 0) same ∙ sym (plain-carry Y n k e r l)) fed))

    before_run : (e : ℕ) (r : State) (i : ℕ) → e < Y.base.prime → IsState Y n r → i < suc n
        → RunFrom Y k (record { word = spelled 0 (e ∷ r.exponents) ++ i ∷ []; row = r.row })
        (configuration_of (plain Y (suc n) k (before e r) i))
    before_run e r zero l h m = elim (cases_lt (suc e) Y.base.prime) [
      | inl a ↦ raise_run e r a h
      | inr a ↦ carry_run e r (omega arith) h
    ]
    before_run e r (suc i) l h m =
        let low : RunFrom Y k (record { word = replicate e 0 ++ map suc (spelled 0 r.exponents ++ i ∷ []); row = r.row })
        (record { word = replicate e 0 ++ map suc (spelled 0 (plain Y n (suc k) r i).exponents); row = (plain Y n (suc k) r i).row }) =
        run-prefix (replicate e 0) (run-later Y k (inner r i h (omega arith))) in
        let words : replicate e 0 ++ map suc (spelled 0 r.exponents ++ i ∷ []) ≡ spelled 0 (e ∷ r.exponents) ++ suc i ∷ [] =
        ap (λ (w : List ℕ). replicate e 0 ++ w) (map-append suc (spelled 0 r.exponents) (i ∷ [])
        ∙ ap (λ (w : List ℕ). w ++ suc i ∷ []) (sym (spelled-suc 0 r.exponents)))
        ∙ sym (append_assoc (replicate e 0) (spelled 1 r.exponents) (suc i ∷ [])) in
        subst (λ (s : State). RunFrom Y k (record { word = spelled 0 (e ∷ r.exponents) ++ suc i ∷ []; row = r.row }) (configuration_of s))
        (sym (plain-later Y n k e r i))
        (subst (λ (w : List ℕ). RunFrom Y k (record { word = w; row = r.row }) (configuration_of (before e (plain Y n (suc k) r i)))) words
        (subst (λ (w : List ℕ). RunFrom Y k (record { word = replicate e 0 ++ map suc (spelled 0 r.exponents ++ i ∷ []); row = r.row })
        (record { word = replicate e 0 ++ w; row = (plain Y n (suc k) r i).row }))
        (sym (spelled-suc 0 (plain Y n (suc k) r i).exponents)) low))

pub plain-run : (Y : RowedPresentation) → IsRowed Y → 0 < Y.base.prime → (n k : ℕ) → k + n ≡ Y.base.rank → (s : State) (i : ℕ)
    → IsState Y n s → i < n
    → RunFrom Y k (record { word = spelled 0 s.exponents ++ i ∷ []; row = s.row }) (configuration_of (plain Y n k s i))
plain-run Y r h zero k e s i v l = absurd (omega arith)
plain-run Y r h (suc n) k e s i v l =
    let b = is_before Y n s v in
    subst (λ (z : State). RunFrom Y k (record { word = spelled 0 z.exponents ++ i ∷ []; row = z.row })
    (configuration_of (plain Y (suc n) k z i))) (sym b.same)
    (before_run Y r h n k e (plain-run Y r h n (suc k) (omega arith)) b.exponent b.rest i b.below b.state l)

-- at the first generator
pub plain_push-run : (Y : RowedPresentation) → IsRowed Y → 0 < Y.base.prime → (s : State) (i : ℕ) → IsState Y Y.base.rank s
    → i < Y.base.rank
    → DirectedRun Y (record { word = spelled 0 s.exponents ++ i ∷ []; row = s.row }) (configuration_of (plain_push Y s i))
plain_push-run Y r h s i v l = run-weaken (replacement_at_start Y) (plain-run Y r h Y.base.rank 0 (omega arith) s i v l)
