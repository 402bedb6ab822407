-- Runs of replacements compose, and go on inside a longer word and beside a further row. The replacements between the
-- generators from place k on are replacements between those from an earlier place on.
use Rattle.std.proofs.Common.{◌≡◌, ℕ, suc, ◌+◌, ◌<◌, List, [], ◌∷◌, ◌++◌, map, replicate, sym, subst, arith, append_assoc}
use Rattle.std.proofs.lemmas.List.{map-append}
use Rattle.pq_base.specs.Presentation.{power_side, commutator_side}
use Rattle.pc_presentation.specs.Rowed.{RowedPresentation, power_row, commutator_row, row_sum}
use Rattle.pc_presentation.specs.Collection.{Configuration, Step, Run, Replacement, spelled}
use Rattle.pc_presentation.specs.Collection.Step.{replace}
use Rattle.pc_presentation.specs.Collection.Run.{stop, move}
use Rattle.pc_presentation.specs.Collection.Replacement.{swap, power}
use Rattle.pc_presentation.proofs.rows.RowLaws.{row_sum-swap}
use Rattle.pc_presentation.proofs.collecting.PlainRule.{spelled-suc, map-replicate}

module _ {p : ℕ} {R : List ℕ → List ℕ → List ℕ → Type 0} where
  pub run-trans : {c d e : Configuration} → Run p R c d → Run p R d e → Run p R c e
  run-trans stop m = m
  run-trans (move s n) m = move s (run-trans n m)

  -- a word in front
  step-prefix : (a : List ℕ) {c d : Configuration} → Step p R c d
      → Step p R (record { word = a ++ c.word; row = c.row }) (record { word = a ++ d.word; row = d.row })
  step-prefix a (replace a' l r b t x h) =
      let m : Step p R (record { word = (a ++ a') ++ (l ++ b); row = x }) (record { word = (a ++ a') ++ (r ++ b); row = row_sum p x t }) =
      replace (a ++ a') l r b t x h in
      simp append_assoc at m

  pub run-prefix : (a : List ℕ) {c d : Configuration} → Run p R c d
      → Run p R (record { word = a ++ c.word; row = c.row }) (record { word = a ++ d.word; row = d.row })
  run-prefix a stop = stop
  run-prefix a (move s m) = move (step-prefix a s) (run-prefix a m)

  -- a word behind
  step-suffix : (b : List ℕ) {c d : Configuration} → Step p R c d
      → Step p R (record { word = c.word ++ b; row = c.row }) (record { word = d.word ++ b; row = d.row })
  step-suffix b (replace a l r b' t x h) =
      let m : Step p R (record { word = a ++ (l ++ (b' ++ b)); row = x }) (record { word = a ++ (r ++ (b' ++ b)); row = row_sum p x t }) =
      replace a l r (b' ++ b) t x h in
      simp append_assoc m

  pub run-suffix : (b : List ℕ) {c d : Configuration} → Run p R c d
      → Run p R (record { word = c.word ++ b; row = c.row }) (record { word = d.word ++ b; row = d.row })
  run-suffix b stop = stop
  run-suffix b (move s m) = move (step-suffix b s) (run-suffix b m)

  -- a further row
  step-row : (z : List ℕ) {c d : Configuration} → Step p R c d
      → Step p R (record { word = c.word; row = row_sum p c.row z }) (record { word = d.word; row = row_sum p d.row z })
  step-row z (replace a l r b t x h) =
      subst (λ (y : List ℕ). Step p R (record { word = a ++ (l ++ b); row = row_sum p x z }) (record { word = a ++ (r ++ b); row = y }))
      (row_sum-swap p x z t) (replace a l r b t (row_sum p x z) h)

  pub run-row : (z : List ℕ) {c d : Configuration} → Run p R c d
      → Run p R (record { word = c.word; row = row_sum p c.row z }) (record { word = d.word; row = row_sum p d.row z })
  run-row z stop = stop
  run-row z (move s m) = move (step-row z s) (run-row z m)

  -- one replacement
  pub run-replacement : (l r b t x : List ℕ) → R l r t
      → Run p R (record { word = l ++ b; row = x }) (record { word = r ++ b; row = row_sum p x t })
  run-replacement l r b t x h =
      let s : Step p R (record { word = [] ++ (l ++ b); row = x }) (record { word = [] ++ (r ++ b); row = row_sum p x t }) =
      replace [] l r b t x h in
      move s stop

-- other replacements
pub run-weaken : {p : ℕ} {R S : List ℕ → List ℕ → List ℕ → Type 0} → ((l r t : List ℕ) → R l r t → S l r t)
    → {c d : Configuration} → Run p R c d → Run p S c d
run-weaken f stop = stop
run-weaken {p} {R} {S} f (move s m) = move (step-weaken s) (run-weaken f m)
  where
    step-weaken : {c d : Configuration} → Step p R c d → Step p S c d
    step-weaken (replace a l r b t x h) = replace a l r b t x (f l r t h)

-- the replacements between the generators from place k on, with letters counted from there
pub data ReplacementFrom (Y : RowedPresentation) (k : ℕ) : List ℕ → List ℕ → List ℕ → Type 0 where
  swap_from : (j i a b : ℕ) → a ≡ k + j → b ≡ k + i → a < Y.base.rank → i < j
      → ReplacementFrom Y k (j ∷ i ∷ []) (i ∷ j ∷ spelled (suc j) (commutator_side Y.base a b)) (commutator_row Y a b)
  power_from : (i a : ℕ) → a ≡ k + i → a < Y.base.rank
      → ReplacementFrom Y k (replicate Y.base.prime i) (spelled (suc i) (power_side Y.base a)) (power_row Y a)

abbrev pub RunFrom : RowedPresentation → ℕ → Configuration → Configuration → Type 0
RunFrom Y k c d = Run Y.base.prime (ReplacementFrom Y k) c d

pub replacement_from : (Y : RowedPresentation) (l r t : List ℕ) → Replacement Y l r t → ReplacementFrom Y 0 l r t
replacement_from Y _ _ _ (swap j i h m) = swap_from j i j i (omega arith) (omega arith) h m
replacement_from Y _ _ _ (power i h) = power_from i i (omega arith) h

pub replacement_at_start : (Y : RowedPresentation) (l r t : List ℕ) → ReplacementFrom Y 0 l r t → Replacement Y l r t
replacement_at_start Y _ _ _ (swap_from j i a b e f h m) =
    let g : j ≡ a = omega arith in
    let g' : i ≡ b = omega arith in
    subst (λ (z : ℕ). Replacement Y (j ∷ i ∷ []) (i ∷ j ∷ spelled (suc j) (commutator_side Y.base a z)) (commutator_row Y a z)) g'
    (subst (λ (z : ℕ). Replacement Y (j ∷ i ∷ []) (i ∷ j ∷ spelled (suc j) (commutator_side Y.base z i)) (commutator_row Y z i)) g
    (swap j i (omega arith) m))
replacement_at_start Y _ _ _ (power_from i a e h) =
    let g : i ≡ a = omega arith in
    subst (λ (z : ℕ). Replacement Y (replicate Y.base.prime i) (spelled (suc i) (power_side Y.base z)) (power_row Y z)) g
    (power i (omega arith))

-- the letters of later generators, counted from one place before
abbrev pub later : Configuration → Configuration
later c = record { word = map suc c.word; row = c.row }

pub replacement-later : (Y : RowedPresentation) (k : ℕ) {l r t : List ℕ} → ReplacementFrom Y (suc k) l r t
    → ReplacementFrom Y k (map suc l) (map suc r) t
replacement-later Y k (swap_from j i a b e f h m) =
    subst (λ (w : List ℕ). ReplacementFrom Y k (suc j ∷ suc i ∷ []) (suc i ∷ suc j ∷ w) (commutator_row Y a b))
    (spelled-suc (suc j) (commutator_side Y.base a b))
    (swap_from (suc j) (suc i) a b (omega arith) (omega arith) h (omega arith))
replacement-later Y k (power_from i a e h) =
    subst (λ (w : List ℕ). ReplacementFrom Y k w (map suc (spelled (suc i) (power_side Y.base a))) (power_row Y a))
    (sym (map-replicate Y.base.prime i))
    (subst (λ (w : List ℕ). ReplacementFrom Y k (replicate Y.base.prime (suc i)) w (power_row Y a))
    (spelled-suc (suc i) (power_side Y.base a))
    (power_from (suc i) a (omega arith) h))

step-later : (Y : RowedPresentation) (k : ℕ) {c d : Configuration} → Step Y.base.prime (ReplacementFrom Y (suc k)) c d
    → Step Y.base.prime (ReplacementFrom Y k) (later c) (later d)
step-later Y k (replace a l r b t x h) =
    let m : Step Y.base.prime (ReplacementFrom Y k) (record { word = map suc a ++ (map suc l ++ map suc b); row = x })
    (record { word = map suc a ++ (map suc r ++ map suc b); row = row_sum Y.base.prime x t }) =
    replace (map suc a) (map suc l) (map suc r) (map suc b) t x (replacement-later Y k h) in
    simp map-append m

pub run-later : (Y : RowedPresentation) (k : ℕ) {c d : Configuration} → RunFrom Y (suc k) c d → RunFrom Y k (later c) (later d)
run-later Y k stop = stop
run-later Y k (move s m) = move (step-later Y k s) (run-later Y k m)
