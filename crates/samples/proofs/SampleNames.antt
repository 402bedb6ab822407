-- The names of a sample are distinct names.
use Rattle.std.proofs.Common.{◌≡◌, ◌<◌, ◌+◌, ◌%◌, ◌^◌, ℕ, true, List, [], ◌∷◌, ◌++◌, get_or, length, All, codes, decimal, refl, sym, ◌∙◌}
use Rattle.std.proofs.Common.{subst, arith}
use Rattle.std.specs.List.{list_all}
use Rattle.std.proofs.lemmas.Fmt.{decimal_by_steps, decimal_injective, length-decimal-le}
use Rattle.std.proofs.lemmas.List.{append_cancel_left}
use Rattle.std.proofs.lemmas.Bool.Decides.{nat_tests}
use Rattle.std.proofs.lemmas.List.Elements.{All-from_get_or}
use Rattle.std.proofs.lemmas.List.Folds.{list_all-append}
use Rattle.pq_base.specs.Name.{is_name_byte, IsName}
use Rattle.pq_base.specs.LPresentation.{AreDistinct}
use Rattle.pq_base.proofs.NumberLists.{get_or-map_numbers}
use Rattle.samples.specs.Samples.{sample_names}

digit_is_name_byte : (d : ℕ) → d < 10 → is_name_byte (48 + d) ≡ true
digit_is_name_byte d small = grind (arith, nat_tests)

-- digits are bytes of names
decimal-name_bytes : (n : ℕ) → n < 2 ^ 64 → list_all is_name_byte (decimal n) ≡ true
decimal-name_bytes n small = decimal_by_steps (λ m ds. list_all is_name_byte ds ≡ true)
    (λ d h. rw (digit_is_name_byte d h) refl)
    (λ m ds h all. list_all-append is_name_byte ds ((48 + m % 10) ∷ [])
    ∙ rw (all, digit_is_name_byte (m % 10) (omega arith)) refl)
    n small

-- x and a number
abbrev pub name_of_number : ℕ → List ℕ
name_of_number i = codes "x" ++ decimal i

pub IsName-of_number : (i : ℕ) → i < 1000 → IsName (name_of_number i)
IsName-of_number i small = record {
  text = decimal-name_bytes i (omega arith);
  count = let short = length-decimal-le 3 i (omega arith) (omega arith) (omega arith) in omega arith;
}

number-of_name : (i j : ℕ) → i < 100 → j < 100 → name_of_number i ≡ name_of_number j → i ≡ j
number-of_name i j hi hj same =
    decimal_injective i j (omega arith) (omega arith) (append_cancel_left (codes "x") (decimal i) (decimal j) same)

pub length-sample_names : length sample_names ≡ 32
unfolding sample_names
length-sample_names = refl

get_or-sample_names : (i : ℕ) → i < 32 → get_or sample_names i [] ≡ name_of_number (1 + i)
unfolding sample_names
get_or-sample_names i inside = get_or-map_numbers name_of_number 1 32 i [] inside

pub sample_names_are_distinct : AreDistinct sample_names
sample_names_are_distinct i j before below same =
    let inside : j < 32 = rw length-sample_names at below in
    let numbers = number-of_name (1 + i) (1 + j) (omega arith) (omega arith)
    (sym (get_or-sample_names i (omega arith)) ∙ same ∙ get_or-sample_names j inside) in
    omega arith

pub All-sample_names : All IsName sample_names
All-sample_names = All-from_get_or IsName sample_names [] (λ i below.
    let inside : i < 32 = rw length-sample_names at below in
    subst IsName (sym (get_or-sample_names i inside)) (IsName-of_number (1 + i) (omega arith)))
