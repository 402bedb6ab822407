-- Words of later letters that the generator at place k passes. Letters whose weights with that of the generator have a sum above the
-- greatest stay as they are, and passing goes letter by letter along each normal word.
use Rattle.std.proofs.Common.{◌≡◌, ℕ, suc, ◌+◌, ◌<◌, List, [], ◌∷◌, ◌++◌, length, get_or, map, replicate, refl, ap, sym, ◌∙◌, subst, arith}
use Rattle.pq_base.specs.Table.{AllBelow}
use Rattle.pq_base.specs.Presentation.{IsNormal, commutator_side}
use Rattle.pc_presentation.specs.Rowed.{RowedPresentation, IsRowed, commutator_row}
use Rattle.pc_presentation.specs.Collection.{State, IsState, identity, spelled, add_row, before, push_word}
use Rattle.pc_presentation.proofs.rows.RowLaws.{identity-state}
use Rattle.pc_presentation.proofs.collecting.PushLaws.{push_word-append, push_word-keeps}
use Rattle.pc_presentation.proofs.collecting.PlainRule.{plain, plain-later, plain-later_word, plain-state, plain-spelled, spelled-suc}
use Rattle.pc_presentation.proofs.collecting.PassedStates.{past, passed, past-state, first-raise}
use Rattle.pc_presentation.proofs.collecting.OverlapsAct.{Spells, spells_whole}
use Rattle.tails_by_weight.specs.WeightedRows.{ObeysWeightsTo}
use Rattle.tails_by_weight.proofs.weighted.HeavyWords.{AreHeavy, bare_commutator}
use Rattle.tails_by_weight.proofs.weighted.Exchange.{add_row-zeros}

-- the exponents of the generators from some place on
pub spells_later : (p n i : ℕ) (h : List ℕ) → 0 < p → i + length h ≡ n → AllBelow p h → Spells p n 0 (spelled i h)
spells_later p n i h l c b = spells_whole p n i (spelled i h) l (record { exponents = h; is = refl; count = c; below = b })

-- a letter, and exponents of generators behind it
pub spells_letter : (p n i : ℕ) (h : List ℕ) → 1 < p → suc i + length h ≡ n → AllBelow p h → Spells p n 0 (i ∷ spelled (suc i) h)
spells_letter p n i h l c b =
    spells_whole p n i (i ∷ spelled (suc i) h) (omega arith)
    (record { exponents = 1 ∷ h; is = refl; count = omega arith; below = (l, b) })

module _ (Y : RowedPresentation) (rowed : IsRowed Y) (big : 1 < Y.base.prime) (n k : ℕ) (size : suc k + n ≡ Y.base.rank) where
  -- pushes of later letters, of letters that have been passed, and of all letters
  abbrev push : State → List ℕ → State
  push s u = push_word (plain Y n (suc k)) s u

  abbrev push_passed : State → List ℕ → State
  push_passed s u = push_word (past Y n k) s u

  abbrev push_all : State → List ℕ → State
  push_all s u = push_word (plain Y (suc n) k) s u

  one-state : IsState Y n (identity Y n)
  one-state = identity-state Y n (omega arith)

  -- a normal word, passed
  pub passed-word : (u : List ℕ) → Spells Y.base.prime n 0 u → passed Y n k (push (identity Y n) u) ≡ push_passed (identity Y n) u
  passed-word u s =
      let c = s.count in
      let h : IsNormal Y.base.prime n s.exponents = record { count = omega arith; below = s.below } in
      let w : List ℕ = spelled 0 s.exponents in
      let v = push_word-keeps (past Y n k) (IsState Y n) (past-state Y rowed (omega arith) n k) (identity Y n) w one-state in
      ap (λ (z : List ℕ). passed Y n k (push (identity Y n) z)) (sym s.is)
      ∙ ap (passed Y n k) (plain-spelled Y n (suc k) s.exponents (replicate Y.width 0) h)
      ∙ add_row-zeros Y n (push_passed (identity Y n) w) v
      ∙ ap (push_passed (identity Y n)) s.is

  -- so the generator may be pushed before the last letter j of a normal word
  pub swap_last : (b : List ℕ) (j : ℕ) → Spells Y.base.prime n 0 b
      → passed Y n k (push (identity Y n) (b ++ j ∷ [])) ≡ push_passed (identity Y n) (b ++ j ∷ [])
      → push_all (identity Y (suc n)) (map suc b ++ suc j ∷ 0 ∷ [])
      ≡ add_row Y.base.prime (commutator_row Y (suc (k + j)) k)
      (push_all (identity Y (suc n)) (map suc b ++ 0 ∷ suc j ∷ spelled (suc (suc j)) (commutator_side Y.base (suc (k + j)) k)))
  swap_last b j s q =
      let one : State = identity Y (suc n) in
      let z : State = push (identity Y n) b in
      let keeps = plain-state Y rowed (omega arith) n (suc k) in
      let zs : IsState Y n z = push_word-keeps (plain Y n (suc k)) (IsState Y n) keeps (identity Y n) b one-state in
      let side : List ℕ = commutator_side Y.base (suc (k + j)) k in
      let row : List ℕ = commutator_row Y (suc (k + j)) k in
      let start : (u : List ℕ) → push_all one (map suc b ++ u) ≡ push_all (before 0 z) u =
      λ u. push_word-append (plain Y (suc n) k) one (map suc b) u
      ∙ ap (λ (y : State). push_all y u) (plain-later_word Y n k 0 (identity Y n) b) in
      let left : push_all one (map suc b ++ suc j ∷ 0 ∷ []) ≡ before 1 (passed Y n k (plain Y n (suc k) z j)) =
      start (suc j ∷ 0 ∷ [])
      ∙ ap (λ (y : State). plain Y (suc n) k y 0) (plain-later Y n k 0 z j)
      ∙ first-raise Y rowed (omega arith) n k 0 (plain Y n (suc k) z j) big (keeps z j zs) in
      let right : push_all one (map suc b ++ 0 ∷ suc j ∷ spelled (suc (suc j)) side)
      ≡ before 1 (push (passed Y n k z) (j ∷ spelled (suc j) side)) =
      start (0 ∷ suc j ∷ spelled (suc (suc j)) side)
      ∙ ap (λ (y : State). push_all y (suc j ∷ spelled (suc (suc j)) side)) (first-raise Y rowed (omega arith) n k 0 z big zs)
      ∙ ap (λ (u : List ℕ). push_all (before 1 (passed Y n k z)) (suc j ∷ u)) (spelled-suc (suc j) side)
      ∙ plain-later_word Y n k 1 (passed Y n k z) (j ∷ spelled (suc j) side) in
      left
      ∙ ap (before 1)
      (ap (passed Y n k) (sym (push_word-append (plain Y n (suc k)) (identity Y n) b (j ∷ [])))
      ∙ q
      ∙ push_word-append (past Y n k) (identity Y n) b (j ∷ [])
      ∙ ap (λ (y : State). past Y n k y j) (sym (passed-word b s)))
      ∙ ap (add_row Y.base.prime row) (sym right)

  module _ (weights : List ℕ) (e : ℕ) (obeys : ObeysWeightsTo Y weights e) where
    -- a letter and a word that stay as they are
    past-letter : (s : State) (j : ℕ) → IsState Y n s → j < n → e < get_or weights (suc k + j) 0 + get_or weights k 0
        → past Y n k s j ≡ plain Y n (suc k) s j
    past-letter s j h l w =
        let a : ℕ = suc (k + j) in
        let place : suc k + j ≡ a = omega arith in
        let v : e < get_or weights a 0 + get_or weights k 0 = subst (λ (x : ℕ). e < get_or weights x 0 + get_or weights k 0) place w in
        ap (λ (u : List ℕ). add_row Y.base.prime (commutator_row Y a k) (push s (j ∷ u)))
        (bare_commutator Y rowed weights e obeys n (suc k) size (suc j) a k (omega arith) (omega arith) (omega arith) v)
        ∙ ap (λ (x : List ℕ). add_row Y.base.prime x (plain Y n (suc k) s j)) (obeys.commutator_rows a k (omega arith) (omega arith) v)
        ∙ add_row-zeros Y n (plain Y n (suc k) s j) (plain-state Y rowed (omega arith) n (suc k) s j h)

    pub past-heavy : (c : ℕ) (s : State) (u : List ℕ) → e < c + get_or weights k 0 → IsState Y n s → AreHeavy weights n (suc k) c u
        → push_passed s u ≡ push s u
    past-heavy c s [] l h f = refl
    past-heavy c s (j ∷ u) l h f =
        let w = f.0.weight in
        ap (λ (z : State). push_passed z u) (past-letter s j h f.0.below (omega arith))
        ∙ past-heavy c (plain Y n (suc k) s j) u l (plain-state Y rowed (omega arith) n (suc k) s j h) f.1
