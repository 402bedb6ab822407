-- All trials of a line keep their limits exactly where those of its parts do and the presentation with this line keeps
-- the limits on presentations.
use Rattle.std.proofs.Common.{◌≡◌, ◌≤◌, ℕ, suc, ◌+◌, List, [], ◌∷◌, map, length, arith}
use Rattle.std.specs.List.{AllByRecursion}
use Rattle.std.proofs.lemmas.List.Sums.{sum_by-cons}
use Rattle.lpres_reader.specs.Items.{Mapping}
use Rattle.lpres_reader.specs.Limits.{letters_in}
use Rattle.lpres_reader.specs.Trees.{RelatorTree, ArrowTree, Sort, word_meaning, relator_meaning, arrow_meaning}
use Rattle.lpres_reader.specs.Trials.{tried, Total, AreKept, most, word_trials, relator_trials, sort_limit, relators_trials, arrows_trials}
use Rattle.lpres_reader.specs.Trials.{names_trials}
use Rattle.lpres_reader.proofs.trees.TreeWords.{kept_append, kept_parts}
use Rattle.lpres_reader.proofs.trees.TreeItems.{RelatorsKept, ArrowsKept}
use Rattle.lpres_reader.proofs.items.GivesEachLaws.{letters_of}

module _ (names : List (List ℕ)) where
  pub relators_kept : (s : Sort) (count total : ℕ) (rs : List RelatorTree) → RelatorsKept names rs
      → count + length rs ≤ most (sort_limit s) → total + letters_in (map (relator_meaning names) rs) ≤ most Total
      → AreKept (relators_trials names s count total rs)
  relators_kept s count total [] h few small = tt
  relators_kept s count total (r ∷ rs) h few small =
      let w = length (relator_meaning names r) in
      let sum : letters_in (map (relator_meaning names) (r ∷ rs)) ≡ w + letters_in (map (relator_meaning names) rs) =
      sum_by-cons length (relator_meaning names r) (map (relator_meaning names) rs) in
      kept_append (relator_trials names r) _ h.0
      (omega arith, (omega arith, relators_kept s (suc count) (total + w) rs h.1 (omega arith) (omega arith)))

  pub relators_parts : (s : Sort) (count total : ℕ) (rs : List RelatorTree) → count ≤ most (sort_limit s) → total ≤ most Total
      → AreKept (relators_trials names s count total rs)
      → RelatorsKept names rs × (count + length rs ≤ most (sort_limit s))
      × (total + letters_in (map (relator_meaning names) rs) ≤ most Total)
  relators_parts s count total [] few small h = (tt, omega arith, omega arith)
  relators_parts s count total (r ∷ rs) few small h =
      let w = length (relator_meaning names r) in
      let sum : letters_in (map (relator_meaning names) (r ∷ rs)) ≡ w + letters_in (map (relator_meaning names) rs) =
      sum_by-cons length (relator_meaning names r) (map (relator_meaning names) rs) in
      let parts =
      kept_parts (relator_trials names r)
      (tried (sort_limit s) (suc count) ∷ tried Total (total + w) ∷ relators_trials names s (suc count) (total + w) rs) h in
      let rest = relators_parts s (suc count) (total + w) rs parts.1.0 parts.1.1.0 parts.1.1.1 in
      let few_more = rest.1 in
      let small_more = rest.2 in
      ((parts.0, rest.0), omega arith, omega arith)

  pub arrows_kept : (total : ℕ) (qs : List ArrowTree) → ArrowsKept names qs → total + letters_of (map (arrow_meaning names) qs) ≤ most Total
      → AreKept (arrows_trials names total qs)
  arrows_kept total [] h small = tt
  arrows_kept total (q ∷ qs) h small =
      let w = length (word_meaning names q.to) in
      let sum : letters_of (map (arrow_meaning names) (q ∷ qs)) ≡ w + letters_of (map (arrow_meaning names) qs) =
      sum_by-cons (λ (m : Mapping). length m.to) (arrow_meaning names q) (map (arrow_meaning names) qs) in
      kept_append (word_trials names q.to) _ h.0 (omega arith, arrows_kept (total + w) qs h.1 (omega arith))

  pub arrows_parts : (total : ℕ) (qs : List ArrowTree) → total ≤ most Total → AreKept (arrows_trials names total qs)
      → ArrowsKept names qs × (total + letters_of (map (arrow_meaning names) qs) ≤ most Total)
  arrows_parts total [] small h = (tt, omega arith)
  arrows_parts total (q ∷ qs) small h =
      let w = length (word_meaning names q.to) in
      let sum : letters_of (map (arrow_meaning names) (q ∷ qs)) ≡ w + letters_of (map (arrow_meaning names) qs) =
      sum_by-cons (λ (m : Mapping). length m.to) (arrow_meaning names q) (map (arrow_meaning names) qs) in
      let parts = kept_parts (word_trials names q.to) (tried Total (total + w) ∷ arrows_trials names (total + w) qs) h in
      let rest = arrows_parts (total + w) qs parts.1.0 parts.1.1 in
      let small_more = rest.1 in
      ((parts.0, rest.0), omega arith)

-- the trials of names
pub names_kept : (count : ℕ) (names : List (List ℕ)) → AllByRecursion (λ n. length n ≤ 32) names → count + length names ≤ 32
    → AreKept (names_trials count names)
names_kept count [] h few = tt
names_kept count (n ∷ ns) h few = (h.0, (omega arith, names_kept (suc count) ns h.1 (omega arith)))

pub names_parts : (count : ℕ) (names : List (List ℕ)) → count ≤ 32 → AreKept (names_trials count names)
    → AllByRecursion (λ n. length n ≤ 32) names × (count + length names ≤ 32)
names_parts count [] few h = (tt, omega arith)
names_parts count (n ∷ ns) few h =
    let rest = names_parts (suc count) ns h.1.0 h.1.1 in
    let few_more = rest.1 in
    ((h.0, rest.0), omega arith)
