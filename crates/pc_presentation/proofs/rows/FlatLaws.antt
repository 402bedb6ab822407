-- The flat reading of a presentation with rows is a presentation: a right side is followed by its row, and the right
-- sides of tails are empty. A presentation without rows is its own flat reading.
use Rattle.std.proofs.Common.{◌≡◌, ℕ, zero, suc, ◌+◌, ◌-◌, ◌<◌, List, [], ◌∷◌, ◌++◌, get_or, length, map, replicate, refl, ap, sym, ◌∙◌}
use Rattle.std.proofs.Common.{subst, arith, inl, inr, length-append}
use Rattle.std.proofs.lemmas.List.{append-nil, length-replicate, length-map, get_or-replicate, get_or_append_left, get_or-append-add}
use Rattle.std.proofs.lemmas.Bool.{cases_lt}
use Rattle.std.proofs.Math.ListN.{get_or-map}
use Rattle.pq_base.specs.Presentation.{Presentation, IsPresentation, IsLaterSide, IsNormal, power_side, commutator_side}
use Rattle.fp_rows.proofs.BelowLaws.{AllBelow-append}
use Rattle.pc_presentation.specs.Rowed.{RowedPresentation, IsRowed, power_row, commutator_row, without_rows, followed_by}
use Rattle.pc_presentation.specs.Rowed.{tables_followed_by, tail_powers, tail_commutators, flat}
use Rattle.pc_presentation.proofs.rows.RowLaws.{AllBelow-zeros}

-- lists followed by lists
pub length-followed_by : (xs ys : List (List ℕ)) → length xs ≡ length ys → length (followed_by xs ys) ≡ length xs
length-followed_by [] ys e = refl
length-followed_by (x ∷ xs) [] e = absurd (omega arith)
length-followed_by (x ∷ xs) (y ∷ ys) e = ap suc (length-followed_by xs ys (omega arith))

pub get_or-followed_by : (xs ys : List (List ℕ)) (i : ℕ) → length xs ≡ length ys
    → get_or (followed_by xs ys) i [] ≡ get_or xs i [] ++ get_or ys i []
get_or-followed_by [] [] i e = refl
get_or-followed_by [] (y ∷ ys) i e = absurd (omega arith)
get_or-followed_by (x ∷ xs) [] i e = absurd (omega arith)
get_or-followed_by (x ∷ xs) (y ∷ ys) zero e = refl
get_or-followed_by (x ∷ xs) (y ∷ ys) (suc i) e = get_or-followed_by xs ys i (omega arith)

-- tables followed by tables
pub length-tables_followed_by : (xs ys : List (List (List ℕ))) → length xs ≡ length ys → length (tables_followed_by xs ys) ≡ length xs
length-tables_followed_by [] ys e = refl
length-tables_followed_by (x ∷ xs) [] e = absurd (omega arith)
length-tables_followed_by (x ∷ xs) (y ∷ ys) e = ap suc (length-tables_followed_by xs ys (omega arith))

pub get_or-tables_followed_by : (xs ys : List (List (List ℕ))) (i : ℕ) → length xs ≡ length ys
    → get_or (tables_followed_by xs ys) i [] ≡ followed_by (get_or xs i []) (get_or ys i [])
get_or-tables_followed_by [] [] i e = refl
get_or-tables_followed_by [] (y ∷ ys) i e = absurd (omega arith)
get_or-tables_followed_by (x ∷ xs) [] i e = absurd (omega arith)
get_or-tables_followed_by (x ∷ xs) (y ∷ ys) zero e = refl
get_or-tables_followed_by (x ∷ xs) (y ∷ ys) (suc i) e = get_or-tables_followed_by xs ys i (omega arith)

-- the right sides of tails: as many powers as tails, and as many lists of commutators
pub length-tail_powers : (q : ℕ) → length (tail_powers q) ≡ q
length-tail_powers zero = refl
length-tail_powers (suc q) = ap suc (length-tail_powers q)

get_or-tail_powers : (q t r : ℕ) → suc t + r ≡ q → get_or (tail_powers q) t [] ≡ replicate r 0
get_or-tail_powers zero t r e = absurd (omega arith)
get_or-tail_powers (suc q) zero r e = ap (λ (m : ℕ). replicate m 0) (let h : q ≡ r = omega arith in h)
get_or-tail_powers (suc q) (suc t) r e = get_or-tail_powers q t r (omega arith)

pub length-tail_commutators : (n q : ℕ) → length (tail_commutators n q) ≡ q
length-tail_commutators n zero = refl
length-tail_commutators n (suc q) = ap suc (length-tail_commutators (suc n) q)

get_or-tail_commutators : (n q t r : ℕ) → suc t + r ≡ q → get_or (tail_commutators n q) t [] ≡ replicate (n + t) (replicate r 0)
get_or-tail_commutators n zero t r e = absurd (omega arith)
get_or-tail_commutators n (suc q) zero r e =
    let h : q ≡ r = omega arith in
    let g : n ≡ n + 0 = omega arith in
    ap (λ (m : ℕ). replicate n (replicate m 0)) h ∙ ap (λ (m : ℕ). replicate m (replicate r 0)) g
get_or-tail_commutators n (suc q) (suc t) r e =
    get_or-tail_commutators (suc n) q t r (omega arith)
    ∙ ap (λ (m : ℕ). replicate m (replicate r 0)) (let h : suc n + t ≡ n + suc t = omega arith in h)

module _ (Y : RowedPresentation) (rowed : IsRowed Y) where
  same_powers : length Y.base.powers ≡ length Y.power_rows
  same_powers = rowed.base.power_count ∙ sym rowed.power_count

  same_commutators : length Y.base.commutators ≡ length Y.commutator_rows
  same_commutators = rowed.base.commutator_count ∙ sym rowed.commutator_count

  flat_powers_count : length (followed_by Y.base.powers Y.power_rows) ≡ Y.base.rank
  flat_powers_count = length-followed_by Y.base.powers Y.power_rows same_powers ∙ rowed.base.power_count

  flat_commutators_count : length (tables_followed_by Y.base.commutators Y.commutator_rows) ≡ Y.base.rank
  flat_commutators_count = length-tables_followed_by Y.base.commutators Y.commutator_rows same_commutators ∙ rowed.base.commutator_count

  pub power_side-flat : (i : ℕ) → i < Y.base.rank → power_side (flat Y) i ≡ power_side Y.base i ++ power_row Y i
  power_side-flat i l =
      let c = flat_powers_count in
      get_or_append_left (followed_by Y.base.powers Y.power_rows) (tail_powers Y.width) [] i (omega arith)
      ∙ get_or-followed_by Y.base.powers Y.power_rows i same_powers

  pub power_side-tail : (t r : ℕ) → suc t + r ≡ Y.width → power_side (flat Y) (Y.base.rank + t) ≡ replicate r 0
  power_side-tail t r e =
      ap (λ (m : ℕ). get_or (followed_by Y.base.powers Y.power_rows ++ tail_powers Y.width) (m + t) []) (sym flat_powers_count)
      ∙ get_or-append-add (followed_by Y.base.powers Y.power_rows) (tail_powers Y.width) t []
      ∙ get_or-tail_powers Y.width t r e

  flat_commutators : (j : ℕ) → j < Y.base.rank
      → get_or (flat Y).commutators j [] ≡ followed_by (get_or Y.base.commutators j []) (get_or Y.commutator_rows j [])
  flat_commutators j l =
      let c = flat_commutators_count in
      get_or_append_left (tables_followed_by Y.base.commutators Y.commutator_rows) (tail_commutators Y.base.rank Y.width) [] j (omega arith)
      ∙ get_or-tables_followed_by Y.base.commutators Y.commutator_rows j same_commutators

  same_row : (j : ℕ) → j < Y.base.rank → length (get_or Y.base.commutators j []) ≡ length (get_or Y.commutator_rows j [])
  same_row j l = rowed.base.commutator_counts j l ∙ sym (rowed.commutator_counts j l)

  pub commutator_side-flat : (j i : ℕ) → j < Y.base.rank → commutator_side (flat Y) j i ≡ commutator_side Y.base j i ++ commutator_row Y j i
  commutator_side-flat j i l =
      ap (λ (x : List (List ℕ)). get_or x i []) (flat_commutators j l)
      ∙ get_or-followed_by (get_or Y.base.commutators j []) (get_or Y.commutator_rows j []) i (same_row j l)

  tail_commutators-flat : (t r : ℕ) → suc t + r ≡ Y.width
      → get_or (flat Y).commutators (Y.base.rank + t) [] ≡ replicate (Y.base.rank + t) (replicate r 0)
  tail_commutators-flat t r e =
      ap (λ (m : ℕ). get_or (tables_followed_by Y.base.commutators Y.commutator_rows ++ tail_commutators Y.base.rank Y.width) (m + t) [])
      (sym flat_commutators_count)
      ∙ get_or-append-add (tables_followed_by Y.base.commutators Y.commutator_rows) (tail_commutators Y.base.rank Y.width) t []
      ∙ get_or-tail_commutators Y.base.rank Y.width t r e

  pub commutator_side-tail : (t r i : ℕ) → suc t + r ≡ Y.width → i < Y.base.rank + t
      → commutator_side (flat Y) (Y.base.rank + t) i ≡ replicate r 0
  commutator_side-tail t r i e l =
      ap (λ (x : List (List ℕ)). get_or x i []) (tail_commutators-flat t r e)
      ∙ get_or-replicate (Y.base.rank + t) i (replicate r 0) [] l

  -- so it is a presentation
  module _ (positive : 0 < Y.base.prime) where
    followed_side : (i : ℕ) (e x : List ℕ) → IsLaterSide Y.base i e → IsNormal Y.base.prime Y.width x → IsLaterSide (flat Y) i (e ++ x)
    followed_side i e x h n =
        let c = h.count in
        let d = n.count in
        record { count = simp length-append (omega arith); below = AllBelow-append Y.base.prime e x h.below n.below }

    tail_side : (t r : ℕ) → suc t + r ≡ Y.width → IsLaterSide (flat Y) (Y.base.rank + t) (replicate r 0)
    tail_side t r e =
        let c : length (replicate {A = ℕ} r 0) ≡ r = length-replicate {A = ℕ} r 0 in
        record { count = omega arith; below = AllBelow-zeros Y.base.prime r positive }

    pub flat-presentation : IsPresentation (flat Y)
    flat-presentation = record {
      prime = rowed.base.prime;
      power_count = simp length-append (let c = flat_powers_count in let d = length-tail_powers Y.width in omega arith);
      power_sides = λ i l. elim (cases_lt i Y.base.rank) [
        | inl h ↦
            subst (λ (e : List ℕ). IsLaterSide (flat Y) i e) (sym (power_side-flat i h))
            (followed_side i (power_side Y.base i) (power_row Y i) (rowed.base.power_sides i h) (rowed.power_rows i h))
        | inr h ↦
            let t : ℕ = i - Y.base.rank in
            let r : ℕ = Y.width - suc t in
            let e : Y.base.rank + t ≡ i = omega arith in
            subst (λ (m : ℕ). IsLaterSide (flat Y) m (power_side (flat Y) m)) e
            (subst (λ (x : List ℕ). IsLaterSide (flat Y) (Y.base.rank + t) x) (sym (power_side-tail t r (omega arith)))
            (tail_side t r (omega arith)))
      ];
      commutator_count =
          simp length-append (let c = flat_commutators_count in let d = length-tail_commutators Y.base.rank Y.width in omega arith);
      commutator_counts = λ j l. elim (cases_lt j Y.base.rank) [
        | inl h ↦
            ap length (flat_commutators j h)
            ∙ length-followed_by (get_or Y.base.commutators j []) (get_or Y.commutator_rows j []) (same_row j h)
            ∙ rowed.base.commutator_counts j h
        | inr h ↦
            let t : ℕ = j - Y.base.rank in
            let r : ℕ = Y.width - suc t in
            let e : Y.base.rank + t ≡ j = omega arith in
            subst (λ (m : ℕ). length (get_or (flat Y).commutators m []) ≡ m) e
            (ap length (tail_commutators-flat t r (omega arith)) ∙ length-replicate (Y.base.rank + t) (replicate r 0))
      ];
      commutator_sides = λ j i l m. elim (cases_lt j Y.base.rank) [
        | inl h ↦
            subst (λ (e : List ℕ). IsLaterSide (flat Y) j e) (sym (commutator_side-flat j i h))
            (followed_side j (commutator_side Y.base j i) (commutator_row Y j i) (rowed.base.commutator_sides j i h m)
            (rowed.commutator_rows j i h m))
        | inr h ↦
            let t : ℕ = j - Y.base.rank in
            let r : ℕ = Y.width - suc t in
            let e : Y.base.rank + t ≡ j = omega arith in
            subst (λ (a : ℕ). IsLaterSide (flat Y) a (commutator_side (flat Y) a i)) e
            (subst (λ (x : List ℕ). IsLaterSide (flat Y) (Y.base.rank + t) x) (sym (commutator_side-tail t r i (omega arith) (omega arith)))
            (tail_side t r (omega arith)))
      ];
    }

-- without rows
abbrev pub nothing : List ℕ → List ℕ
nothing e = []

pub no_rows : (i : ℕ) (xs : List (List ℕ)) → get_or (map nothing xs) i [] ≡ []
no_rows i xs = get_or-map nothing xs i []

pub without_rows-rowed : (P : Presentation) → IsPresentation P → IsRowed (without_rows P)
without_rows-rowed P h = record {
  base = h;
  power_count = length-map P.powers nothing ∙ h.power_count;
  power_rows = λ i l. subst (λ (x : List ℕ). IsNormal P.prime 0 x) (sym (no_rows i P.powers)) (record { count = refl; below = tt });
  commutator_count = length-map P.commutators (λ (r : List (List ℕ)). map nothing r) ∙ h.commutator_count;
  commutator_counts = λ j l.
      ap length (get_or-map (λ (r : List (List ℕ)). map nothing r) P.commutators j [])
      ∙ length-map (get_or P.commutators j []) nothing ∙ h.commutator_counts j l;
  commutator_rows = λ j i l m.
      subst (λ (x : List ℕ). IsNormal P.prime 0 x)
      (sym (ap (λ (r : List (List ℕ)). get_or r i []) (get_or-map (λ (r : List (List ℕ)). map nothing r) P.commutators j [])
      ∙ no_rows i (get_or P.commutators j [])))
      (record { count = refl; below = tt });
}

followed_by-nothing : (xs : List (List ℕ)) → followed_by xs (map nothing xs) ≡ xs
followed_by-nothing [] = refl
followed_by-nothing (x ∷ xs) =
    ap (λ (y : List ℕ). y ∷ followed_by xs (map nothing xs)) (append-nil x) ∙ ap (λ (ys : List (List ℕ)). x ∷ ys) (followed_by-nothing xs)

tables_followed_by-nothing : (xs : List (List (List ℕ))) → tables_followed_by xs (map (λ (r : List (List ℕ)). map nothing r) xs) ≡ xs
tables_followed_by-nothing [] = refl
tables_followed_by-nothing (x ∷ xs) =
    ap (λ (y : List (List ℕ)). y ∷ tables_followed_by xs (map (λ (r : List (List ℕ)). map nothing r) xs)) (followed_by-nothing x)
    ∙ ap (λ (ys : List (List (List ℕ))). x ∷ ys) (tables_followed_by-nothing xs)

pub flat-without_rows : (P : Presentation) → flat (without_rows P) ≡ P
flat-without_rows P =
    let rank_is : P.rank + 0 ≡ P.rank = omega arith in
    let powers_is = append-nil (followed_by P.powers (map nothing P.powers)) ∙ followed_by-nothing P.powers in
    let commutators_is =
    append-nil (tables_followed_by P.commutators (map (λ (r : List (List ℕ)). map nothing r) P.commutators))
    ∙ tables_followed_by-nothing P.commutators in
    ap (λ (n : ℕ). record {
      prime = P.prime;
      rank = n;
      powers = followed_by P.powers (map nothing P.powers) ++ [];
      commutators = tables_followed_by P.commutators (map (λ (r : List (List ℕ)). map nothing r) P.commutators) ++ [];
    }) rank_is
    ∙ ap (λ (xs : List (List ℕ)). record {
      prime = P.prime;
      rank = P.rank;
      powers = xs;
      commutators = tables_followed_by P.commutators (map (λ (r : List (List ℕ)). map nothing r) P.commutators) ++ [];
    }) powers_is
    ∙ ap (λ (xs : List (List (List ℕ))). record { prime = P.prime; rank = P.rank; powers = P.powers; commutators = xs }) commutators_is
