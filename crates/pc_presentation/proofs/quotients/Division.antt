-- Dividing in place: exponent after exponent is replaced by how often its generator has to be pushed, so that the pushes
-- so far give the exponents so far of the dividend; the row of what they reach is subtracted at the end.
use Rattle.std.proofs.Common.{◌≡◌, ◌≢◌, ℕ, suc, ◌+◌, ◌-◌, ◌%◌, ◌<◌, ◌≤◌, List, [], ◌∷◌, ◌++◌, get_or, length, replicate, take, append_assoc}
use Rattle.std.proofs.Common.{refl, ap, ap₂, sym, ◌∙◌, subst, arith, inl, inr}
use Rattle.std.proofs.Math.ListN.{set}
use Rattle.std.proofs.lemmas.List.{append-nil, length-take-le, take_all, take_more_set, get_or-set_other}
use Rattle.std.proofs.lemmas.Bool.{cases_lt}
use Rattle.pq_base.specs.Table.{AllBelow}
use Rattle.pq_base.specs.Presentation.{IsNormal}
use Rattle.fp_rows.proofs.RowLaws.{scaled-negative}
use Rattle.fp_rows.specs.Rows.{add_scaled, negative_row}
use Rattle.pc_presentation.specs.Pcp.{TailedPresentation, IsTailedPresentation}
use Rattle.pc_presentation.specs.Rowed.{row_sum}
use Rattle.pc_presentation.specs.Collection.{State, spelled, push_word}
use Rattle.pc_presentation.specs.Arithmetic.{IsMeaning, product_by}
use Rattle.pc_presentation.specs.Tailed.{Element, rowed_presentation, IsElement, with_state}
use Rattle.pc_presentation.proofs.collecting.PushLaws.{push_word-append}
use Rattle.pc_presentation.proofs.rows.RowLaws.{row_sum-normal, negative_row-normal}
use Rattle.pc_presentation.proofs.quotients.Quotients.{AfterCopies, push-copies, same_exponents, row_difference}
use Rattle.pc_presentation.proofs.quotients.TailedLaws.{rowed_presentation-is}
use Rattle.pc_presentation.proofs.quotients.ElementConditions.{with_state-element, set-element}

pub add_scaled-negative : (p : ℕ) (x y : List ℕ) → length x ≡ length y → AllBelow p x
    → add_scaled p (p - 1) y x ≡ row_sum p y (negative_row p x)
add_scaled-negative p [] [] c h = refl
add_scaled-negative p [] (b ∷ y) c h = absurd (omega arith)
add_scaled-negative p (a ∷ x) [] c h = absurd (omega arith)
add_scaled-negative p (a ∷ x) (b ∷ y) c h =
    ap₂ (λ (n : ℕ) (l : List ℕ). (b + n) % p ∷ l) (scaled-negative p a h.0) (add_scaled-negative p x y (omega arith) h.1)

-- the letters of exponents with one more
pub spelled-snoc : (k x : ℕ) (e : List ℕ) → spelled k (e ++ x ∷ []) ≡ spelled k e ++ replicate x (k + length e)
spelled-snoc k x [] =
    let place : k ≡ k + 0 = omega arith in
    append-nil (replicate x k) ∙ ap (replicate x) place
spelled-snoc k x (y ∷ e) =
    let place : suc k + length e ≡ k + suc (length e) = omega arith in
    ap (λ (w : List ℕ). replicate y k ++ w) (spelled-snoc (suc k) x e ∙ ap (λ (m : ℕ). spelled (suc k) e ++ replicate x m) place)
    ∙ sym (append_assoc (replicate y k) (spelled (suc k) e) (replicate x (k + suc (length e))))

-- the exponents before place j are found: out has them, and the other exponents and the row of the dividend
pub record Divided (T : TailedPresentation) (push : State → ℕ → State) (from dividend at out : Element) (j : ℕ) : Type 0 where
  pub at_element : IsElement T at
  pub out_element : IsElement T out
  pub row : out.state.row ≡ dividend.state.row
  pub later : (k : ℕ) → j ≤ k → get_or out.state.exponents k 0 ≡ get_or dividend.state.exponents k 0
  pub reached : at.state ≡ push_word push from.state (spelled 0 (take j out.state.exponents))
  pub agreed : (k : ℕ) → k < j → get_or at.state.exponents k 0 ≡ get_or dividend.state.exponents k 0

module _ (T : TailedPresentation) (push : State → ℕ → State) (from dividend : Element) where
  pub division-begun : IsElement T from → IsElement T dividend → Divided T push from dividend from dividend 0
  division-begun h i = record {
    at_element = h;
    out_element = i;
    row = refl;
    later = λ k l. refl;
    reached = refl;
    agreed = λ k l. absurd (omega arith);
  }

  module _ (is : IsTailedPresentation T) (meaning : IsMeaning (rowed_presentation T) push) where
    big_prime : 1 < T.presentation.prime
    big_prime = is.presentation.prime

    -- one exponent more
    module _ (at out : Element) (j times : ℕ) (d : Divided T push from dividend at out j) (l : j < T.presentation.rank)
        (small : times < T.presentation.prime)
        (sum : (get_or at.state.exponents j 0 + times) % T.presentation.prime ≡ get_or out.state.exponents j 0) where
      abbrev pub pushed : State
      pushed = push_word push at.state (replicate times j)

      abbrev pub written : List ℕ
      written = set out.state.exponents j times

      copies : AfterCopies (rowed_presentation T) (rowed_presentation-is T is) big_prime push meaning at.state j times pushed
      copies = push-copies (rowed_presentation T) (rowed_presentation-is T is) big_prime push meaning times j at.state d.at_element.state l

      reached_next : pushed ≡ push_word push from.state (spelled 0 (take (j + 1) written))
      reached_next =
          let e : List ℕ = out.state.exponents in
          let count : length out.state.exponents ≡ T.presentation.rank = d.out_element.state.exponents.count in
          let front : length (take j out.state.exponents) ≡ j = length-take-le j out.state.exponents (omega arith) in
          let place : 0 + length (take j out.state.exponents) ≡ j = omega arith in
          let letters : spelled 0 (take (j + 1) (set out.state.exponents j times))
          ≡ spelled 0 (take j out.state.exponents) ++ replicate times j =
          ap (spelled 0) (take_more_set e j times (omega arith))
          ∙ spelled-snoc 0 times (take j e)
          ∙ ap (λ (m : ℕ). spelled 0 (take j out.state.exponents) ++ replicate times m) place in
          ap (λ (s : State). push_word push s (replicate times j)) d.reached
          ∙ sym (push_word-append push from.state (spelled 0 (take j e)) (replicate times j))
          ∙ ap (push_word push from.state) (sym letters)

      agreed_next : (k : ℕ) → k < j + 1 → get_or pushed.exponents k 0 ≡ get_or dividend.state.exponents k 0
      agreed_next k m = elim (cases_lt k j) [
        | inl b ↦ copies.earlier k b ∙ d.agreed k b
        | inr b ↦
            let e : j ≡ k = omega arith in
            subst (λ (i : ℕ). get_or pushed.exponents i 0 ≡ get_or dividend.state.exponents i 0) e
            (copies.own ∙ sum ∙ d.later j (omega arith))
      ]

      pub division-step : (at' out' : Element) → at' ≡ with_state at pushed
          → out' ≡ with_state out (record { exponents = written; row = out.state.row })
          → Divided T push from dividend at' out' (j + 1)
      division-step at' out' q r =
          subst (λ (z : Element). Divided T push from dividend z out' (j + 1)) (sym q)
          (subst (λ (z : Element). Divided T push from dividend (with_state at pushed) z (j + 1)) (sym r) (record {
            at_element = with_state-element T at d.at_element pushed copies.state;
            out_element = set-element T out d.out_element j times small;
            row = d.row;
            later = λ k m.
                let ne : k ≢ j = λ e. omega arith in
                get_or-set_other out.state.exponents j k times 0 ne ∙ d.later k (omega arith);
            reached = reached_next;
            agreed = agreed_next;
          }))

    -- the same where a place is written in another way
    pub division-next : (at out at' out' : Element) (i j times : ℕ) → i ≡ j → Divided T push from dividend at out j
        → j < T.presentation.rank
        → times < T.presentation.prime
        → (get_or at.state.exponents i 0 + times) % T.presentation.prime ≡ get_or out.state.exponents i 0
        → at' ≡ with_state at (push_word push at.state (replicate times i))
        → out' ≡ with_state out (record { exponents = set out.state.exponents i times; row = out.state.row })
        → Divided T push from dividend at' out' (j + 1)
    division-next at out at' out' i j times e d l small =
        subst (λ (k : ℕ). (get_or at.state.exponents k 0 + times) % T.presentation.prime ≡ get_or out.state.exponents k 0
        → at' ≡ with_state at (push_word push at.state (replicate times k))
        → out' ≡ with_state out (record { exponents = set out.state.exponents k times; row = out.state.row })
        → Divided T push from dividend at' out' (j + 1)) (sym e)
        (λ sum q r. division-step at out j times d l small sum at' out' q r)

    -- all exponents
    module _ (dividend_element : IsElement T dividend) (at out : Element) (j : ℕ) (d : Divided T push from dividend at out j)
        (past : T.presentation.rank ≤ j) where
      abbrev pub row_left : List ℕ
      row_left = add_scaled T.presentation.prime (T.presentation.prime - 1) out.state.row at.state.row

      row_left-is : row_left ≡ row_sum T.presentation.prime out.state.row (negative_row T.presentation.prime at.state.row)
      row_left-is =
          let a = d.at_element.state.row in
          let o = d.out_element.state.row in
          add_scaled-negative T.presentation.prime at.state.row out.state.row (a.count ∙ sym o.count) a.below

      pub quotient-made : product_by (rowed_presentation T) push from.state (record { exponents = out.state.exponents; row = row_left })
          ≡ dividend.state
      quotient-made =
          let p : ℕ = T.presentation.prime in
          let count : length out.state.exponents ≡ T.presentation.rank = d.out_element.state.exponents.count in
          let whole : push_word push from.state (spelled 0 out.state.exponents) ≡ at.state =
          ap (λ (e : List ℕ). push_word push from.state (spelled 0 e)) (sym (take_all j out.state.exponents (omega arith)))
          ∙ sym d.reached in
          let same : at.state.exponents ≡ dividend.state.exponents =
          same_exponents (rowed_presentation T) (rowed_presentation-is T is) big_prime push meaning at.state dividend.state
          d.at_element.state dividend_element.state
          (λ k l. d.agreed k (omega arith)) in
          let rows : row_sum T.presentation.prime at.state.row row_left ≡ dividend.state.row =
          ap (row_sum p at.state.row) row_left-is
          ∙ row_difference p T.tails at.state.row out.state.row d.at_element.state.row d.out_element.state.row
          ∙ d.row in
          ap (λ (s : State). record { exponents = s.exponents; row = row_sum T.presentation.prime s.row row_left }) whole
          ∙ ap (λ (e : List ℕ). record { exponents = e; row = row_sum T.presentation.prime at.state.row row_left }) same
          ∙ ap (λ (x : List ℕ). record { exponents = dividend.state.exponents; row = x }) rows

      pub quotient-element : IsElement T (with_state out (record { exponents = out.state.exponents; row = row_left }))
      quotient-element =
          let two = big_prime in
          let normal : IsNormal T.presentation.prime T.tails
          (row_sum T.presentation.prime out.state.row (negative_row T.presentation.prime at.state.row)) =
          row_sum-normal T.presentation.prime T.tails out.state.row (negative_row T.presentation.prime at.state.row)
          (omega arith) d.out_element.state.row
          (negative_row-normal T.presentation.prime T.tails at.state.row (omega arith) d.at_element.state.row) in
          with_state-element T out d.out_element (record { exponents = out.state.exponents; row = row_left }) (record {
            exponents = d.out_element.state.exponents;
            row = subst (IsNormal T.presentation.prime T.tails) (sym row_left-is) normal;
          })

      pub quotient-ended : (out' : Element) (q k : ℕ) (x : List ℕ) → q ≡ T.presentation.prime → k ≡ T.presentation.prime → x ≡ at.state.row
          → out' ≡ with_state out (record { exponents = out.state.exponents; row = add_scaled q (k - 1) out.state.row x })
          → IsElement T out' × (product_by (rowed_presentation T) push from.state out'.state ≡ dividend.state)
      quotient-ended out' q k x a b e r =
          let end : Element = with_state out (record { exponents = out.state.exponents; row = row_left }) in
          let same : out' ≡ end =
          r
          ∙ ap (λ (m : ℕ). with_state out (record { exponents = out.state.exponents; row = add_scaled m (k - 1) out.state.row x })) a
          ∙ ap (λ (m : ℕ). with_state out
          (record { exponents = out.state.exponents; row = add_scaled T.presentation.prime (m - 1) out.state.row x })) b
          ∙ ap (λ (y : List ℕ). with_state out
          (record { exponents = out.state.exponents; row = add_scaled T.presentation.prime (T.presentation.prime - 1) out.state.row y }))
          e in
          subst (λ (z : Element). IsElement T z × (product_by (rowed_presentation T) push from.state z.state ≡ dividend.state)) (sym same)
          (quotient-element, quotient-made)
