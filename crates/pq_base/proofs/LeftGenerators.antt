-- The generators that are left where some are dropped: their places among the given generators, and their definitions.
use Rattle.std.proofs.Common.{◌≡◌, ℕ, zero, suc, ◌+◌, ◌<◌, Bool, true, false, List, [], ◌∷◌, get_or, length, refl, ap, sym, ◌∙◌, arith}
use Rattle.std.proofs.Common.{true≢false}
use Rattle.std.proofs.lemmas.List.{get_or_past}
use Rattle.pq_base.specs.Answer.Definition.{image}
use Rattle.pq_base.specs.ClassOne.{left_count, class_one_definitions}

-- how many generators are left before place i
abbrev pub left_before : List Bool → ℕ → ℕ
left_before [] i = 0
left_before (b ∷ flags) zero = 0
left_before (true ∷ flags) (suc i) = left_before flags i
left_before (false ∷ flags) (suc i) = suc (left_before flags i)

-- generator m of those that are left is the given generator at this place
pub record LeftPlace (flags : List Bool) (m : ℕ) : Type 0 where
  pub place : ℕ
  pub within : place < length flags
  pub left : get_or flags place true ≡ false
  pub before : left_before flags place ≡ m

pub not_left_past : (i : ℕ) → get_or [] i true ≡ false → ⊥
not_left_past i e = true≢false (sym (get_or_past [] i true (omega arith)) ∙ e)

pub left_before-below : (flags : List Bool) (i : ℕ) → get_or flags i true ≡ false → left_before flags i < left_count flags
left_before-below [] i e = absurd (not_left_past i e)
left_before-below (true ∷ flags) zero e = cc
left_before-below (true ∷ flags) (suc i) e = left_before-below flags i e
left_before-below (false ∷ flags) zero e = omega arith
left_before-below (false ∷ flags) (suc i) e = omega (arith, left_before-below flags i e)

pub left_place : (flags : List Bool) (m : ℕ) → m < left_count flags → LeftPlace flags m
left_place [] m h = absurd (omega arith)
left_place (true ∷ flags) m h =
    let rest = left_place flags m h in
    let within : rest.place < length flags = rest.within in
    record { place = suc rest.place; within = omega arith; left = rest.left; before = rest.before }
left_place (false ∷ flags) zero h = record { place = 0; within = omega arith; left = refl; before = refl }
left_place (false ∷ flags) (suc m) h =
    let rest = left_place flags m (omega arith) in
    let within : rest.place < length flags = rest.within in
    record { place = suc rest.place; within = omega arith; left = rest.left; before = ap suc rest.before }

-- definitions
pub length-class_one_definitions : (s : ℕ) (flags : List Bool) → length (class_one_definitions s flags) ≡ left_count flags
length-class_one_definitions s [] = refl
length-class_one_definitions s (true ∷ flags) = length-class_one_definitions (suc s) flags
length-class_one_definitions s (false ∷ flags) = ap suc (length-class_one_definitions (suc s) flags)

pub get_or-class_one_definitions : (s : ℕ) (flags : List Bool) (i : ℕ) → get_or flags i true ≡ false
    → get_or (class_one_definitions s flags) (left_before flags i) (image 0) ≡ image (s + i)
get_or-class_one_definitions s [] i e = absurd (not_left_past i e)
get_or-class_one_definitions s (true ∷ flags) zero e = cc
get_or-class_one_definitions s (true ∷ flags) (suc i) e =
    let place : suc s + i ≡ s + suc i = omega arith in
    get_or-class_one_definitions (suc s) flags i e ∙ ap image place
get_or-class_one_definitions s (false ∷ flags) zero e = let place : s ≡ s + 0 = omega arith in ap image place
get_or-class_one_definitions s (false ∷ flags) (suc i) e =
    let place : suc s + i ≡ s + suc i = omega arith in
    get_or-class_one_definitions (suc s) flags i e ∙ ap image place
