-- What keeps an element one of its presentation: exponents below the prime, cleared exponents, rows of tails, and pushes of
-- a collector.
use Rattle.std.proofs.Common.{◌≡◌, ℕ, zero, suc, ◌-◌, ◌<◌, ◌≤◌, Option, List, [], ◌∷◌, ◌++◌, get_or, length, replicate, take, ap, ◌∙◌}
use Rattle.std.proofs.Common.{arith}
use Rattle.std.proofs.Math.ListN.{set}
use Rattle.std.proofs.lemmas.List.{length-set, length-replicate}
use Rattle.fp_rows.proofs.BelowLaws.{AllBelow-set, AllBelow-append, AllBelow-take}
use Rattle.pq_base.specs.Presentation.{IsNormal}
use Rattle.pq_base.proofs.tables.TableLaws.{get_or-below}
use Rattle.pc_presentation.specs.Pcp.{TailedPresentation, row_of}
use Rattle.pc_presentation.specs.Collection.{State, IsState, add_row, plain_push}
use Rattle.pc_presentation.specs.Tailed.{Element, rowed_presentation, IsElement, with_state, cleared_after}
use Rattle.pq_base.proofs.PrimeLaws.{positive_prime}
use Rattle.pc_presentation.proofs.rows.TailRowLaws.{row_of-normal}
use Rattle.pc_presentation.proofs.rows.RowLaws.{AllBelow-zeros, row_sum-normal}
use Rattle.pc_presentation.proofs.collecting.PlainRule.{plain-state}
use Rattle.pc_presentation.proofs.quotients.TailedLaws.{rowed_presentation-is}

length-cleared : (i : ℕ) (xs : List ℕ) → i ≤ length xs → length (cleared_after i xs) ≡ length xs
length-cleared zero xs h =
    let all : length xs - 0 ≡ length xs = omega arith in
    length-replicate (length xs - 0) 0 ∙ all
length-cleared (suc i) [] h = absurd (omega arith)
length-cleared (suc i) (x ∷ xs) h =
    let n : length (x ∷ xs) - suc i ≡ length xs - i = omega arith in
    ap (λ (k : ℕ). suc (length (take i xs ++ replicate {A = ℕ} k 0))) n ∙ ap suc (length-cleared i xs (omega arith))

module _ (T : TailedPresentation) (e : Element) (h : IsElement T e) where
  pub prime-positive : 1 ≤ T.presentation.prime
  prime-positive = positive_prime T.presentation h.presentation.presentation

  -- each exponent is below the prime
  pub exponent-below_prime : (i : ℕ) → get_or e.state.exponents i 0 < T.presentation.prime
  exponent-below_prime i =
      let one : 1 ≤ T.presentation.prime = prime-positive in
      get_or-below T.presentation.prime e.state.exponents i (omega arith) h.state.exponents.below

  pub with_state-element : (s : State) → IsState (rowed_presentation T) T.presentation.rank s → IsElement T (with_state e s)
  with_state-element s i = record { presentation = h.presentation; prime = h.prime; state = i }

  pub set-element : (i x : ℕ) → x < T.presentation.prime
      → IsElement T (with_state e (record { exponents = set e.state.exponents i x; row = e.state.row }))
  set-element i x l = with_state-element (record { exponents = set e.state.exponents i x; row = e.state.row }) (record {
    exponents = record {
      count = length-set e.state.exponents i x ∙ h.state.exponents.count;
      below = AllBelow-set T.presentation.prime e.state.exponents i x l h.state.exponents.below;
    };
    row = h.state.row;
  })

  pub cleared-element : (i : ℕ) → i ≤ T.presentation.rank
      → IsElement T (with_state e (record { exponents = cleared_after i e.state.exponents; row = e.state.row }))
  cleared-element i l =
      let count : length e.state.exponents ≡ T.presentation.rank = h.state.exponents.count in
      let one : 1 ≤ T.presentation.prime = prime-positive in
      with_state-element (record { exponents = cleared_after i e.state.exponents; row = e.state.row }) (record {
        exponents = record {
          count = length-cleared i e.state.exponents (omega arith) ∙ count;
          below = AllBelow-append T.presentation.prime (take i e.state.exponents) (replicate (length e.state.exponents - i) 0)
              (AllBelow-take T.presentation.prime i e.state.exponents h.state.exponents.below)
              (AllBelow-zeros T.presentation.prime (length e.state.exponents - i) (omega arith));
        };
        row = h.state.row;
      })

  pub add_row-element : (x : List ℕ) → IsNormal T.presentation.prime T.tails x
      → IsElement T (with_state e (add_row T.presentation.prime x e.state))
  add_row-element x n =
      let one : 1 ≤ T.presentation.prime = prime-positive in
      with_state-element (add_row T.presentation.prime x e.state) (record {
        exponents = h.state.exponents;
        row = row_sum-normal T.presentation.prime T.tails e.state.row x (omega arith) h.state.row n;
      })

  pub add_tail-element : (t : Option ℕ) → IsElement T (with_state e (add_row T.presentation.prime (row_of T.tails t) e.state))
  add_tail-element t =
      add_row-element (row_of T.tails t) (row_of-normal T.presentation.prime T.tails t h.presentation.presentation.prime)

  pub plain_push-element : (i : ℕ) → IsElement T (with_state e (plain_push (rowed_presentation T) e.state i))
  plain_push-element i =
      let one : 1 ≤ T.presentation.prime = prime-positive in
      with_state-element (plain_push (rowed_presentation T) e.state i)
      (plain-state (rowed_presentation T) (rowed_presentation-is T h.presentation) (omega arith) T.presentation.rank 0 e.state i h.state)
