-- A presentation with tails that has none is its presentation without rows.
use Rattle.std.proofs.Common.{◌≡◌, ℕ, suc, ◌<◌, List, [], ◌∷◌, length, get_or, map, refl, ap, ap₂, sym, ◌∙◌, subst, arith}
use Rattle.pc_presentation.specs.Pcp.{TailedPresentation, IsTailedPresentation}
use Rattle.pc_presentation.specs.Rowed.{RowedPresentation, IsRowed, without_rows, power_row, commutator_row}
use Rattle.pc_presentation.specs.Tailed.{rowed_presentation}
use Rattle.pc_presentation.proofs.quotients.TailedLaws.{rowed_presentation-is}

pub no_entries : (x : List ℕ) → length x ≡ 0 → x ≡ []
no_entries [] e = refl
no_entries (a ∷ x) e = absurd (omega arith)

-- empty rows, as many as there are lists of another kind
empty-rows : (xs ys : List (List ℕ)) → length xs ≡ length ys → ((i : ℕ) → i < length xs → get_or xs i [] ≡ [])
    → xs ≡ map (λ (e : List ℕ). []) ys
empty-rows [] [] e h = refl
empty-rows [] (y ∷ ys) e h = absurd (omega arith)
empty-rows (x ∷ xs) [] e h = absurd (omega arith)
empty-rows (x ∷ xs) (y ∷ ys) e h =
    ap₂ (λ (a : List ℕ) (rest : List (List ℕ)). a ∷ rest) (h 0 (omega arith))
    (empty-rows xs ys (omega arith) (λ i l. h (suc i) (omega arith)))

empty-tables : (xs ys : List (List (List ℕ))) → length xs ≡ length ys
    → ((j : ℕ) → j < length xs → length (get_or xs j []) ≡ length (get_or ys j []))
    → ((j i : ℕ) → j < length xs → i < length (get_or xs j []) → get_or (get_or xs j []) i [] ≡ [])
    → xs ≡ map (λ (r : List (List ℕ)). map (λ (e : List ℕ). []) r) ys
empty-tables [] [] e counts h = refl
empty-tables [] (y ∷ ys) e counts h = absurd (omega arith)
empty-tables (x ∷ xs) [] e counts h = absurd (omega arith)
empty-tables (x ∷ xs) (y ∷ ys) e counts h =
    ap₂ (λ (a : List (List ℕ)) (rest : List (List (List ℕ))). a ∷ rest)
    (empty-rows x y (counts 0 (omega arith)) (λ i l. h 0 i (omega arith) l))
    (empty-tables xs ys (omega arith) (λ j l. counts (suc j) (omega arith)) (λ j i l m. h (suc j) i (omega arith) m))

pub tailless : (T : TailedPresentation) → IsTailedPresentation T → T.tails ≡ 0 → rowed_presentation T ≡ without_rows T.presentation
tailless T is none =
    let rowed : IsRowed (rowed_presentation T) = rowed_presentation-is T is in
    let Y = rowed_presentation T in
    let P = T.presentation in
    let make : ℕ → List (List ℕ) → List (List (List ℕ)) → RowedPresentation =
    λ w x y. record { base = P; width = w; power_rows = x; commutator_rows = y } in
    ap (λ (w : ℕ). make w Y.power_rows Y.commutator_rows) none
    ∙ ap (λ (x : List (List ℕ)). make 0 x Y.commutator_rows)
    (empty-rows Y.power_rows P.powers (rowed.power_count ∙ sym is.presentation.power_count)
    (λ i l. no_entries (power_row Y i) ((rowed.power_rows i (subst (λ (n : ℕ). i < n) rowed.power_count l)).count ∙ none)))
    ∙ ap (λ (y : List (List (List ℕ))). make 0 (map (λ (e : List ℕ). []) P.powers) y)
    (empty-tables Y.commutator_rows P.commutators (rowed.commutator_count ∙ sym is.presentation.commutator_count)
    (λ j l. let m = subst (λ (n : ℕ). j < n) rowed.commutator_count l in rowed.commutator_counts j m
    ∙ sym (is.presentation.commutator_counts j m))
    (λ j i l m.
    let k = subst (λ (n : ℕ). j < n) rowed.commutator_count l in
    no_entries (commutator_row Y j i) ((rowed.commutator_rows j i k (subst (λ (n : ℕ). i < n) (rowed.commutator_counts j k) m)).count
    ∙ none)))
