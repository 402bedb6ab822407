-- Each step of the loops by lanes looks up residues, and writes the next part of the result.
use Rattle.std.proofs.Common.{◌≡◌, ℕ, ◌+◌, ◌<◌, ◌≤◌, List, [], ◌∷◌, ◌++◌, length, get_or, take, drop, map, refl, ap, sym, subst, ◌∙◌, arith}
use lib.Lanes.{chunk, put_chunk}
use Rattle.pq_base.specs.Table.{AllBelow}
use Rattle.fp_rows.specs.Rows.{add_rows, scale_row, add_scaled}
use Rattle.fp_rows.specs.Lanes.{lane_numbers}
use Rattle.fp_rows.proofs.RowLaws.{length-scale_row, length-add_scaled, scale_row-below}
use Rattle.fp_rows.proofs.BelowLaws.{AllBelow-take, AllBelow-drop}
use Rattle.fp_rows.proofs.LaneLaws.{multiples-looked_up}
use Rattle.fp_rows.proofs.RowParts.{part-scale_row, part-add_rows, written_part, written_last, part_not_written}

AllBelow-weaker : (p q : ℕ) (xs : List ℕ) → p ≤ q → AllBelow p xs → AllBelow q xs
AllBelow-weaker p q [] h below = tt
AllBelow-weaker p q (x ∷ xs) h below = (omega arith, AllBelow-weaker p q xs h below.1)

pub AllBelow-chunk : (p i : ℕ) (xs : List ℕ) → AllBelow p xs → AllBelow p (chunk i 16 xs)
AllBelow-chunk p i xs below = AllBelow-take p 16 (drop i xs) (AllBelow-drop p i xs below)

-- residues can be looked up
pub chunk_fits : (p i : ℕ) (xs : List ℕ) → p ≤ 13 → AllBelow p xs → AllBelow 16 (chunk i 16 xs)
chunk_fits p i xs few below = AllBelow-weaker p 16 (chunk i 16 xs) (omega arith) (AllBelow-chunk p i xs below)

-- what is looked up are multiples, which are residues
pub multiples_are : (p k : ℕ) (table ys : List ℕ) (i : ℕ) → p ≤ 13 → 0 < p → table ≡ scale_row p k lane_numbers → AllBelow p ys
    → map (λ y. get_or table y 0) (chunk i 16 ys) ≡ scale_row p k (chunk i 16 ys)
multiples_are p k table ys i few some is below = multiples-looked_up p k table (chunk i 16 ys) some is (chunk_fits p i ys few below)

pub multiples-below : (p k : ℕ) (table ys products : List ℕ) (i : ℕ) → p ≤ 13 → 0 < p → table ≡ scale_row p k lane_numbers → AllBelow p ys
    → products ≡ map (λ y. get_or table y 0) (chunk i 16 ys) → AllBelow p products
multiples-below p k table ys products i few some is below made =
    subst (AllBelow p) (sym (made ∙ multiples_are p k table ys i few some is below)) (scale_row-below p k (chunk i 16 ys) some)

-- a vector of sums and one of multiples are parts of the result
pub added_part : (p k : ℕ) (xs ys table products sums : List ℕ) (i : ℕ) → p ≤ 13 → 0 < p → table ≡ scale_row p k lane_numbers
    → AllBelow p ys → products ≡ map (λ y. get_or table y 0) (chunk i 16 ys) → sums ≡ add_rows p (chunk i 16 xs) products
    → sums ≡ chunk i 16 (add_scaled p k xs ys)
added_part p k xs ys table products sums i few some is below made summed =
    summed
    ∙ ap (add_rows p (chunk i 16 xs)) (made ∙ multiples_are p k table ys i few some is below ∙ sym (part-scale_row p k i 16 ys))
    ∙ sym (part-add_rows p i 16 xs (scale_row p k ys))

pub scaled_part : (p k : ℕ) (xs table products : List ℕ) (i : ℕ) → p ≤ 13 → 0 < p → table ≡ scale_row p k lane_numbers
    → AllBelow p xs → products ≡ map (λ x. get_or table x 0) (chunk i 16 xs) → products ≡ chunk i 16 (scale_row p k xs)
scaled_part p k xs table products i few some is below made =
    made ∙ multiples_are p k table xs i few some is below ∙ sym (part-scale_row p k i 16 xs)

module _ (p k : ℕ) (xs ys zs : List ℕ) (i : ℕ) (some : 0 < p) (few : p ≤ 13) (e : length xs ≡ length ys)
    (written : zs ≡ take i (add_scaled p k xs ys) ++ drop i xs) where
  added_read : chunk i 16 zs ≡ chunk i 16 xs
  added_read = ap (chunk i 16) written ∙ part_not_written (add_scaled p k xs ys) xs i 16 (length-add_scaled p k xs ys e)

  pub added_read-below : AllBelow p xs → AllBelow p (chunk i 16 zs)
  added_read-below below = subst (AllBelow p) (sym added_read) (AllBelow-chunk p i xs below)

  pub added_more : (table products sums : List ℕ) → table ≡ scale_row p k lane_numbers → AllBelow p ys
      → products ≡ map (λ y. get_or table y 0) (chunk i 16 ys) → sums ≡ add_rows p (chunk i 16 zs) products → i + 16 ≤ length xs
      → put_chunk i zs sums ≡ take (i + 16) (add_scaled p k xs ys) ++ drop (i + 16) xs
  added_more table products sums is below made summed h =
      ap (λ (l : List ℕ). put_chunk i l sums) written
      ∙ written_part (add_scaled p k xs ys) xs sums i 16 (i + 16) (length-add_scaled p k xs ys e) refl h
      (added_part p k xs ys table products sums i few some is below made
      (summed ∙ ap (λ (l : List ℕ). add_rows p l products) added_read))

  pub added_last : (table products sums : List ℕ) (last : ℕ) → table ≡ scale_row p k lane_numbers → AllBelow p ys
      → products ≡ map (λ y. get_or table y 0) (chunk last 16 ys) → sums ≡ add_rows p (chunk last 16 xs) products
      → last + 16 ≡ length xs → last ≤ i → put_chunk last zs sums ≡ add_scaled p k xs ys
  added_last table products sums last is below made summed whole h =
      ap (λ (l : List ℕ). put_chunk last l sums) written
      ∙ written_last (add_scaled p k xs ys) xs sums i last 16 (length-add_scaled p k xs ys e) whole h
      (added_part p k xs ys table products sums last few some is below made summed)

module _ (p k : ℕ) (xs zs : List ℕ) (i : ℕ) (some : 0 < p) (few : p ≤ 13) (written : zs ≡ take i (scale_row p k xs) ++ drop i xs) where
  scaled_read : chunk i 16 zs ≡ chunk i 16 xs
  scaled_read = ap (chunk i 16) written ∙ part_not_written (scale_row p k xs) xs i 16 (length-scale_row p k xs)

  pub scaled_read-fits : AllBelow p xs → AllBelow 16 (chunk i 16 zs)
  scaled_read-fits below = subst (AllBelow 16) (sym scaled_read) (chunk_fits p i xs few below)

  pub scaled_more : (table products : List ℕ) → table ≡ scale_row p k lane_numbers → AllBelow p xs
      → products ≡ map (λ x. get_or table x 0) (chunk i 16 zs) → i + 16 ≤ length xs
      → put_chunk i zs products ≡ take (i + 16) (scale_row p k xs) ++ drop (i + 16) xs
  scaled_more table products is below made h =
      ap (λ (l : List ℕ). put_chunk i l products) written
      ∙ written_part (scale_row p k xs) xs products i 16 (i + 16) (length-scale_row p k xs) refl h
      (scaled_part p k xs table products i few some is below (made ∙ ap (map (λ x. get_or table x 0)) scaled_read))

  pub scaled_last : (table products : List ℕ) (last : ℕ) → table ≡ scale_row p k lane_numbers → AllBelow p xs
      → products ≡ map (λ x. get_or table x 0) (chunk last 16 xs) → last + 16 ≡ length xs → last ≤ i
      → put_chunk last zs products ≡ scale_row p k xs
  scaled_last table products last is below made whole h =
      ap (λ (l : List ℕ). put_chunk last l products) written
      ∙ written_last (scale_row p k xs) xs products i last 16 (length-scale_row p k xs) whole h
      (scaled_part p k xs table products last few some is below made)
