-- One relator more, or one arrow more: what is gathered, and the trials.
use Rattle.std.proofs.Common.{◌≡◌, ◌≤◌, ◌<◌, ◌+◌, ℕ, suc, leb, ℤ, List, [], ◌∷◌, ◌++◌, length, map, append_assoc, Option, Some, None, Ok}
use Rattle.std.proofs.Common.{refl, ap, ap₂, sym, subst, ◌∙◌, arith}
use Rattle.std.specs.Prelude.{sum_by}
use Rattle.std.proofs.lemmas.List.{append-nil, map-append, length-append}
use Rattle.std.proofs.lemmas.List.Sums.{sum_by-cons, sum_by-append}
use Rattle.std.proofs.lemmas.Bool.{leb-true, leb-false}
use Rattle.pq_base.specs.LPresentation.{LPresentation}
use Rattle.lpres_reader.specs.declared.fault.Which.TheVariants as which
use Rattle.lpres_reader.specs.declared.gathered.Arrow.{Arrow}
use Rattle.lpres_reader.specs.Stops.{which_of}
use Rattle.lpres_reader.specs.Gatherings.{Gathering}
use Rattle.lpres_reader.specs.Limits.{letters_in, total_letters}
use Rattle.lpres_reader.specs.Trees.{WordTree, RelatorTree, word, equation, ArrowTree, Sort, fixed_sort, iterated_sort, place_of}
use Rattle.lpres_reader.specs.Trees.{known_place, word_meaning, relator_meaning}
use Rattle.lpres_reader.specs.Trials.{Trial, tried, Endos, Total, reported, most, AreKept, letters_tried, word_trials, relator_trials}
use Rattle.lpres_reader.specs.Trials.{relators_trials, arrows_trials, relators_of, sort_limit}
use Rattle.lpres_reader.specs.Parser.{relator_of}
use Rattle.lpres_reader.specs.Values as v
use Rattle.lpres_reader.specs.Meanings.{arrow_value, sort_which, relators_gathered, arrows_gathered}
use Rattle.lpres_reader.proofs.trees.ParsedMeanings.{left_value}
use Rattle.lpres_reader.proofs.faults.Tried.{Tried, passed, passes_now, one_more, tried_same, tried_then, tried_map, tried_fits}
use Rattle.lpres_reader.proofs.faults.Tried.{tried_letters, tried_if}

letters_push : {X : Type 0} (f : X → ℕ) (xs : List X) (x : X) → sum_by f (xs ++ x ∷ []) ≡ sum_by f xs + f x
letters_push f xs x = sum_by-append f xs (x ∷ []) ∙ omega (arith, sum_by-cons f x [])

-- the trials of one relator more
pub relators_trials-push : (names : List (List ℕ)) (s : Sort) (count total : ℕ) (rs : List RelatorTree) (r : RelatorTree)
    → relators_trials names s count total (rs ++ r ∷ []) ≡ relators_trials names s count total rs ++ (relator_trials names r
    ++ (tried (sort_limit s) (count + length rs + 1)
    ∷ tried Total (total + letters_in (map (relator_meaning names) rs) + length (relator_meaning names r)) ∷ []))
relators_trials-push names s count total [] r =
    let n : suc count ≡ count + 0 + 1 = omega arith in
    let t : total + length (relator_meaning names r) ≡ total + 0 + length (relator_meaning names r) = omega arith in
    ap₂ (λ (x y : ℕ). relator_trials names r ++ (tried (sort_limit s) x ∷ tried Total y ∷ [])) n t
relators_trials-push names s count total (q ∷ rs) r =
    let w = length (relator_meaning names q) in
    let sum : letters_in (map (relator_meaning names) (q ∷ rs)) ≡ w + letters_in (map (relator_meaning names) rs) =
    sum_by-cons length (relator_meaning names q) (map (relator_meaning names) rs) in
    let n : suc count + length rs + 1 ≡ count + suc (length rs) + 1 = omega arith in
    let t : (total + w) + letters_in (map (relator_meaning names) rs) + length (relator_meaning names r)
    ≡ total + letters_in (map (relator_meaning names) (q ∷ rs)) + length (relator_meaning names r) = omega arith in
    ap (λ (l : List Trial). relator_trials names q ++ (tried (sort_limit s) (suc count) ∷ tried Total (total + w) ∷ l))
    (relators_trials-push names s (suc count) (total + w) rs r
    ∙ ap₂ (λ (x y : ℕ). relators_trials names s (suc count) (total + w) rs
    ++ (relator_trials names r ++ (tried (sort_limit s) x ∷ tried Total y ∷ []))) n t)
    ∙ sym (append_assoc (relator_trials names q)
    (tried (sort_limit s) (suc count) ∷ tried Total (total + w) ∷ relators_trials names s (suc count) (total + w) rs) _)

pub arrows_trials-push : (names : List (List ℕ)) (total : ℕ) (qs : List ArrowTree) (q : ArrowTree)
    → arrows_trials names total (qs ++ q ∷ [])
    ≡ arrows_trials names total qs
    ++ (word_trials names q.to ++ tried Total (total + sum_by (λ p. length (word_meaning names p.to)) qs + length (word_meaning names q.to))
    ∷ [])
arrows_trials-push names total [] q =
    let t : total + length (word_meaning names q.to) ≡ total + 0 + length (word_meaning names q.to) = omega arith in
    ap (λ (y : ℕ). word_trials names q.to ++ tried Total y ∷ []) t
arrows_trials-push names total (p ∷ qs) q =
    let w = length (word_meaning names p.to) in
    let all = sum_by (λ (r : ArrowTree). length (word_meaning names r.to)) qs in
    let sum : sum_by (λ (r : ArrowTree). length (word_meaning names r.to)) (p ∷ qs) ≡ w + all =
    sum_by-cons (λ (r : ArrowTree). length (word_meaning names r.to)) p qs in
    let t : (total + w) + all + length (word_meaning names q.to)
    ≡ total + sum_by (λ (r : ArrowTree). length (word_meaning names r.to)) (p ∷ qs) + length (word_meaning names q.to) = omega arith in
    ap (λ (l : List Trial). word_trials names p.to ++ (tried Total (total + w) ∷ l))
    (arrows_trials-push names (total + w) qs q
    ∙ ap (λ (y : ℕ). arrows_trials names (total + w) qs ++ (word_trials names q.to ++ tried Total y ∷ [])) t)
    ∙ sym (append_assoc (word_trials names p.to) (tried Total (total + w) ∷ arrows_trials names (total + w) qs) _)

-- the trials of a word before, where there is one
abbrev pub start_trials : List (List ℕ) → Option WordTree → List Trial
start_trials names None = []
start_trials names (Some w) = word_trials names w

abbrev counted : Sort → ℕ → ℕ → List (List ℤ) → Gathering
counted s n t ws = record { which = sort_which s; count = n; total = t; relators = ws; arrows = [] }

abbrev sized : ℕ → List Arrow → Gathering
sized t qs = record { which = which.Endos; count = 0; total = t; relators = []; arrows = qs }

sort_most : (s : Sort) → most (sort_limit s) ≡ 4096
sort_most fixed_sort = refl
sort_most iterated_sort = refl

sort_is : (s : Sort) → which_of (sort_which s) ≡ sort_limit s
sort_is fixed_sort = refl
sort_is iterated_sort = refl

sort_reported : (s : Sort) (n : ℕ) → n ≡ reported (sort_limit s) n
sort_reported fixed_sort n = refl
sort_reported iterated_sort n = refl

module _ (M : LPresentation) where
  relators_gathered-push : (s : Sort) (rs : List RelatorTree) (r : RelatorTree)
      → counted s (length (relators_of M s) + length rs + 1)
      (total_letters M + letters_in (map (relator_meaning M.names) rs) + length (relator_meaning M.names r))
      (map (relator_meaning M.names) rs ++ relator_meaning M.names r ∷ [])
      ≡ relators_gathered M s (rs ++ r ∷ [])
  relators_gathered-push s rs r =
      let f = relator_meaning M.names in
      let words : map f rs ++ f r ∷ [] ≡ map f (rs ++ r ∷ []) = sym (map-append f rs (r ∷ [])) in
      let n : length (relators_of M s) + length rs + 1 ≡ length (relators_of M s) + length (rs ++ r ∷ []) =
      omega (arith, length-append rs (r ∷ [])) in
      let sum : letters_in (map f (rs ++ r ∷ [])) ≡ letters_in (map f rs) + length (f r) =
      ap letters_in (sym words) ∙ letters_push length (map f rs) (f r) in
      let t : total_letters M + letters_in (map f rs) + length (f r) ≡ total_letters M + letters_in (map f (rs ++ r ∷ [])) = omega arith in
      ap (λ (x : ℕ). counted s x (total_letters M + letters_in (map f rs) + length (f r)) (map f rs ++ f r ∷ [])) n
      ∙ ap (λ (x : ℕ). counted s (length (relators_of M s) + length (rs ++ r ∷ [])) x (map f rs ++ f r ∷ [])) t
      ∙ ap (λ (x : List (List ℤ)).
      counted s (length (relators_of M s) + length (rs ++ r ∷ [])) (total_letters M + letters_in (map f (rs ++ r ∷ []))) x) words

  -- what is tried at the end of a relator
  abbrev pub end_trials : Sort → List RelatorTree → RelatorTree → List Trial
  end_trials s rs r =
      tried (sort_limit s) (length (relators_of M s) + length rs + 1)
      ∷ tried Total (total_letters M + letters_in (map (relator_meaning M.names) rs) + length (relator_meaning M.names r)) ∷ []

  relator_added : (ts : List Trial) (s : Sort) (rs : List RelatorTree) (r : RelatorTree) → AreKept ts
      → Tried (ts ++ end_trials s rs r) (relators_gathered M s (rs ++ r ∷ []))
      (v.with_relator (relators_gathered M s rs) (relator_meaning M.names r))
  relator_added ts s rs r h =
      let w = relator_meaning M.names r in
      let n = length (relators_of M s) + length rs + 1 in
      let total = total_letters M + letters_in (map (relator_meaning M.names) rs) in
      let count = tried (sort_limit s) n in
      let all = relators_gathered M s (rs ++ r ∷ []) in
      tried_if (ts ++ end_trials s rs r) [] all (leb n 4096) _ _
      (λ e.
      let small : n ≤ most (sort_limit s) = subst (λ (m : ℕ). n ≤ m) (sym (sort_most s)) (leb-true n 4096 e) in
      let first = one_more ts count h small in
      let us = (ts ++ count ∷ []) ++ tried Total (total + length w) ∷ [] in
      let g = λ (t : ℕ). counted s n t (map (relator_meaning M.names) rs ++ w ∷ []) in
      tried_same us (ts ++ end_trials s rs r) all (append_assoc ts (count ∷ []) (tried Total (total + length w) ∷ []))
      (subst (λ (x : Gathering). Tried us x (v.followed (v.more_letters total w) (λ t. Ok (g t)))) (relators_gathered-push s rs r)
      (tried_map us (total + length w) g (tried_letters (ts ++ count ∷ []) total w first))))
      (λ e.
      let large : most (sort_limit s) < n = subst (λ (m : ℕ). m < n) (sym (sort_most s)) (leb-false n 4096 e) in
      passed (sort_which s) n (passes_now ts (tried Total (total + length w) ∷ []) count (sort_which s) n h large (sort_is s)
      (sort_reported s n)))

  abbrev relators_tried : Sort → List RelatorTree → List Trial
  relators_tried s rs = relators_trials M.names s (length (relators_of M s)) (total_letters M) rs

  pub relator_gathers : (s : Sort) (rs : List RelatorTree) (left : Option WordTree) (w : WordTree)
      → AreKept ((relators_tried s rs ++ start_trials M.names left) ++ word_trials M.names w)
      → Tried (relators_tried s (rs ++ relator_of left w ∷ [])) (relators_gathered M s (rs ++ relator_of left w ∷ []))
      (v.followed (v.relator (left_value M.names left) (word_meaning M.names w)) (λ x. v.with_relator (relators_gathered M s rs) x))
  relator_gathers s rs None w h =
      let r : RelatorTree = word w in
      let ts = (relators_tried s rs ++ []) ++ word_trials M.names w in
      let front : ts ≡ relators_tried s rs ++ word_trials M.names w =
      ap (λ (l : List Trial). l ++ word_trials M.names w) (append-nil (relators_tried s rs)) in
      let same : ts ++ end_trials s rs r ≡ relators_tried s (rs ++ r ∷ []) =
      ap (λ (l : List Trial). l ++ end_trials s rs r) front ∙ append_assoc (relators_tried s rs) (word_trials M.names w) (end_trials s rs r)
      ∙ sym (relators_trials-push M.names s (length (relators_of M s)) (total_letters M) rs r) in
      tried_same (ts ++ end_trials s rs r) (relators_tried s (rs ++ r ∷ [])) (relators_gathered M s (rs ++ r ∷ [])) same
      (relator_added ts s rs r h)
  relator_gathers s rs (Some u) w h =
      let r : RelatorTree = equation u w in
      let m = relator_meaning M.names r in
      let all = relators_gathered M s (rs ++ r ∷ []) in
      let ts = (relators_tried s rs ++ word_trials M.names u) ++ word_trials M.names w in
      let us = ts ++ letters_tried m in
      let push = relators_trials-push M.names s (length (relators_of M s)) (total_letters M) rs r in
      let front : us ++ end_trials s rs r ≡ relators_tried s rs ++ (relator_trials M.names r ++ end_trials s rs r) = simp append_assoc in
      tried_same (us ++ end_trials s rs r) (relators_tried s (rs ++ r ∷ [])) all (front ∙ sym push)
      (tried_then us (end_trials s rs r) m all (λ x. v.with_relator (relators_gathered M s rs) x) (tried_fits ts m h)
      (λ k. relator_added us s rs r k))

  abbrev pub arrow_end_trials : List ArrowTree → ArrowTree → List Trial
  arrow_end_trials qs q =
      tried Total (total_letters M + sum_by (λ p. length (word_meaning M.names p.to)) qs + length (word_meaning M.names q.to)) ∷ []

  abbrev arrows_tried : List ArrowTree → List Trial
  arrows_tried qs = tried Endos (suc (length M.endos)) ∷ arrows_trials M.names (total_letters M) qs

  pub arrow_gathers : (qs : List ArrowTree) (q : ArrowTree) → AreKept (arrows_tried qs ++ word_trials M.names q.to)
      → Tried (arrows_tried (qs ++ q ∷ [])) (arrows_gathered M (qs ++ q ∷ []))
      (v.with_arrow (arrows_gathered M qs) (known_place (place_of M.names q.from)) (word_meaning M.names q.to))
  arrow_gathers qs q h =
      let w = word_meaning M.names q.to in
      let size = λ (p : ArrowTree). length (word_meaning M.names p.to) in
      let total = total_letters M + sum_by size qs in
      let ts = arrows_tried qs ++ word_trials M.names q.to in
      let us = ts ++ tried Total (total + length w) ∷ [] in
      let g = λ (t : ℕ). sized t (map (arrow_value M.names) qs ++ arrow_value M.names q ∷ []) in
      let same : us ≡ arrows_tried (qs ++ q ∷ []) = ap (λ (l : List Trial). tried Endos (suc (length M.endos)) ∷ l)
      (append_assoc (arrows_trials M.names (total_letters M) qs) (word_trials M.names q.to) (tried Total (total + length w) ∷ [])
      ∙ sym (arrows_trials-push M.names (total_letters M) qs q)) in
      let more : total + length w ≡ total_letters M + sum_by size (qs ++ q ∷ []) = omega (arith, letters_push size qs q) in
      let is : g (total + length w) ≡ arrows_gathered M (qs ++ q ∷ []) =
      ap (λ (t : ℕ). sized t (map (arrow_value M.names) qs ++ arrow_value M.names q ∷ [])) more
      ∙ ap (λ (xs : List Arrow). sized (total_letters M + sum_by size (qs ++ q ∷ [])) xs)
      (sym (map-append (arrow_value M.names) qs (q ∷ []))) in
      tried_same us (arrows_tried (qs ++ q ∷ [])) (arrows_gathered M (qs ++ q ∷ [])) same
      (subst (λ (x : Gathering). Tried us x (v.followed (v.more_letters total w) (λ t. Ok (g t)))) is
      (tried_map us (total + length w) g (tried_letters ts total w h)))
