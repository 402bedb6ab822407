-- Shortcuts of the plain rule on elements: letters that commute with all that comes stay in place, and copies of a generator are
-- pushed together, added to its exponent, or past the prime.
use Rattle.std.proofs.Common.{◌≡◌, ℕ, suc, ◌+◌, ◌-◌, ◌<◌, ◌≤◌, List, ◌++◌, get_or, length, take, drop, replicate, ap, sym, ◌∙◌, arith}
use Rattle.std.proofs.lemmas.List.{drop-take, length-append, length-take-le, length-replicate, length-drop}
use Rattle.fp_rows.proofs.BelowLaws.{AllBelow-append, AllBelow-take, AllBelow-drop}
use Rattle.pc_presentation.specs.declared.relation.Relation.TheVariants.{Power}
use Rattle.pc_presentation.specs.Pcp.{TailedPresentation, right_side, tail_of, row_of}
use Rattle.pc_presentation.specs.Rowed.{RowedPresentation, IsRowed}
use Rattle.pc_presentation.specs.Collection.{Configuration, State, spelled, add_row, push_word, plain_push}
use Rattle.pc_presentation.specs.PushSteps.{with_exponent, raised, passed}
use Rattle.pc_presentation.specs.Commuting.{IsFirstCommuting, cleared_between}
use Rattle.pc_presentation.specs.CommutingLaws.{PassesBarely}
use Rattle.pc_presentation.specs.Tailed.{Element, rowed_presentation, IsElement, with_state}
use Rattle.pc_presentation.proofs.presentations.RelationSides.{power_side-numbered}
use Rattle.pc_presentation.proofs.rows.RowLaws.{AllBelow-zeros}
use Rattle.pc_presentation.proofs.quotients.TailedLaws.{rowed_presentation-is}
use Rattle.pc_presentation.proofs.quotients.ElementConditions.{prime-positive, with_state-element}
use Rattle.pc_presentation.proofs.quotients.PushesLeft.{after}
use Rattle.pc_presentation.proofs.commuting.ShortcutLaws.{powers_are_added, powers_wrap, commuting_letters_stay}

length-cleared_between : (i z : ℕ) (xs : List ℕ) → i < z → z ≤ length xs
    → length (take (suc i) xs ++ (replicate (z - suc i) 0 ++ drop z xs)) ≡ length xs
length-cleared_between i z xs less within =
    let zeros : List ℕ = replicate (z - suc i) 0 in
    let whole : length (take (suc i) xs ++ (zeros ++ drop z xs)) ≡ length (take (suc i) xs) + length (zeros ++ drop z xs) =
    length-append (take (suc i) xs) (zeros ++ drop z xs) in
    let later : length (zeros ++ drop z xs) ≡ length zeros + length (drop z xs) = length-append zeros (drop z xs) in
    let first : length (take (suc i) xs) ≡ suc i = length-take-le (suc i) xs (omega arith) in
    let between : length zeros ≡ z - suc i = length-replicate (z - suc i) 0 in
    let last : length (drop z xs) ≡ length xs - z = length-drop z xs in
    omega arith

module _ (T : TailedPresentation) (e : Element) (h : IsElement T e) where
  -- the exponents between two places cleared
  pub cleared_between-element : (i z : ℕ) → i < z → z ≤ T.presentation.rank
      → IsElement T (with_state e (record { exponents = cleared_between i z e.state.exponents; row = e.state.row }))
  cleared_between-element i z less within =
      let count : length e.state.exponents ≡ T.presentation.rank = h.state.exponents.count in
      let one : 1 ≤ T.presentation.prime = prime-positive T e h in
      let first : List ℕ = take (suc i) e.state.exponents in
      let zeros : List ℕ = replicate (z - suc i) 0 in
      let last : List ℕ = drop z e.state.exponents in
      with_state-element T e h (record { exponents = cleared_between i z e.state.exponents; row = e.state.row }) (record {
        exponents = record {
          count = length-cleared_between i z e.state.exponents less (omega arith) ∙ count;
          below = AllBelow-append T.presentation.prime first (zeros ++ last)
              (AllBelow-take T.presentation.prime (suc i) e.state.exponents h.state.exponents.below)
              (AllBelow-append T.presentation.prime zeros last (AllBelow-zeros T.presentation.prime (z - suc i) (omega arith))
              (AllBelow-drop T.presentation.prime z e.state.exponents h.state.exponents.below));
        };
        row = h.state.row;
      })

  -- a push of the generator with number g passes the letters before place z
  pub commuting_letters_stay-numbered : (g z : ℕ) → 1 ≤ g → g ≤ T.presentation.rank → IsFirstCommuting (rowed_presentation T) (g - 1) z
      → push_word (passed (rowed_presentation T) (g - 1))
      (raised (rowed_presentation T) (record { exponents = cleared_between (g - 1) z e.state.exponents; row = e.state.row }) (g - 1))
      (spelled g (drop g (take z e.state.exponents)))
      ≡ plain_push (rowed_presentation T) e.state (g - 1)
  commuting_letters_stay-numbered g z one last first =
      let Y : RowedPresentation = rowed_presentation T in
      let rowed : IsRowed (rowed_presentation T) = rowed_presentation-is T h.presentation in
      let xs : List ℕ = take z e.state.exponents in
      let after_g : g - 1 < z = first.after in
      let cleared : State = record { exponents = cleared_between (g - 1) z e.state.exponents; row = e.state.row } in
      let a : suc (g - 1) ≡ g = omega arith in
      let far : suc (g - 1) + (z - suc (g - 1)) ≡ z = omega arith in
      let letters : take (z - suc (g - 1)) (drop (suc (g - 1)) e.state.exponents) ≡ drop (suc (g - 1)) (take z e.state.exponents) =
      sym (drop-take (suc (g - 1)) (z - suc (g - 1)) e.state.exponents)
      ∙ ap (λ (m : ℕ). drop (suc (g - 1)) (take m e.state.exponents)) far in
      sym (commuting_letters_stay Y e.state (g - 1) z rowed h.state (omega arith) after_g first.within first.commute
      ∙ ap (λ (v : List ℕ). push_word (passed Y (g - 1)) (raised Y cleared (g - 1)) (spelled (suc (g - 1)) v)) letters
      ∙ ap (λ (k : ℕ). push_word (passed Y (g - 1)) (raised Y cleared (g - 1)) (spelled k (drop k xs))) a)

  -- copies of the generator with number g
  module _ (g n : ℕ) (one : 1 ≤ g) (last : g ≤ T.presentation.rank) where
    pub copies-added : (x : ℕ) (e' : Element) → PassesBarely (rowed_presentation T) e.state (g - 1)
        → x ≡ get_or e.state.exponents (g - 1) 0 + n
        → x < T.presentation.prime → e' ≡ with_state e (with_exponent e.state (g - 1) x)
        → e' ≡ after (plain_push (rowed_presentation T)) e (replicate n (g - 1))
    copies-added x e' passes total below q =
        let Y : RowedPresentation = rowed_presentation T in
        let rowed : IsRowed (rowed_presentation T) = rowed_presentation-is T h.presentation in
        q
        ∙ ap (λ (y : ℕ). with_state e (with_exponent e.state (g - 1) y)) total
        ∙ ap (with_state e) (sym (powers_are_added Y e.state (g - 1) n rowed h.state (omega arith) passes (omega arith)))

    module _ (rest : ℕ) (total : get_or e.state.exponents (g - 1) 0 + n ≡ T.presentation.prime + rest)
        (below : rest < T.presentation.prime) where
      pub copies-wrapped : (m e' : Element) → PassesBarely (rowed_presentation T) e.state (g - 1)
          → right_side T.presentation (Power g) ≡ replicate (T.presentation.rank - g) 0
          → m ≡ with_state e (with_exponent e.state (g - 1) rest)
          → e' ≡ with_state m (add_row T.presentation.prime (row_of T.tails (tail_of T (Power g))) m.state)
          → e' ≡ after (plain_push (rowed_presentation T)) e (replicate n (g - 1))
      copies-wrapped m e' passes zeros p q =
          let Y : RowedPresentation = rowed_presentation T in
          let rowed : IsRowed (rowed_presentation T) = rowed_presentation-is T h.presentation in
          let next : g ≡ suc (g - 1) = omega arith in
          q
          ∙ ap (λ (z : Element). with_state z (add_row T.presentation.prime (row_of T.tails (tail_of T (Power g))) z.state)) p
          ∙ ap (λ (c : Configuration). with_state e (add_row T.presentation.prime c.row (with_exponent e.state (g - 1) rest)))
          (power_side-numbered T h.presentation g one last)
          ∙ ap (with_state e) (sym (powers_wrap Y e.state (g - 1) n rest rowed h.state (omega arith) passes total below
          (zeros ∙ ap (λ (k : ℕ). replicate (T.presentation.rank - k) 0) next)))
