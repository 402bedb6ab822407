-- The bytes of a name are ASCII, and so they are a text.
use Rattle.std.proofs.Common.{◌≡◌, ◌<◌, ◌≤◌, ℕ, Bool, true, false, ◌&&◌, ◌||◌, List, [], ◌∷◌, ◌⊎◌, inl, inr, All, refl, arith}
use Rattle.std.specs.Prelude.{nat_le, ◌==◌}
use Rattle.std.specs.Str.{IsUtf8}
use Rattle.std.specs.List.{list_all}
use Rattle.std.proofs.lemmas.Bool.{leb-true, and_parts}
use Rattle.std.proofs.lemmas.List.Elements.{All-nil, All-cons}
use Rattle.std.proofs.lemmas.Str.{IsUtf8-from_ascii}
use Rattle.std.proofs.lemmas.Str.Ascii.{IsAscii-from_all}
use borrow.Author.Tests.{eqb-true}
use Rattle.pq_base.specs.Name.{is_letter, is_name_byte, is_name_text, IsName}

either : (a b : Bool) → (a || b) ≡ true → (a ≡ true) ⊎ (b ≡ true)
either true b h = inl refl
either false b h = inr h

at_most : (n m b : ℕ) → (nat_le n b && nat_le b m) ≡ true → b ≤ m
at_most n m b h = leb-true b m (and_parts (nat_le n b) (nat_le b m) h).1

letter-below : (b : ℕ) → is_letter b ≡ true → b < 128
letter-below b h = elim (either (nat_le 65 b && nat_le b 90) (nat_le 97 b && nat_le b 122) h) [
  | inl upper ↦ let l : b ≤ 90 = at_most 65 90 b upper in omega arith
  | inr lower ↦ let l : b ≤ 122 = at_most 97 122 b lower in omega arith
]

name_byte-below : (b : ℕ) → is_name_byte b ≡ true → b < 128
name_byte-below b h = elim (either (is_letter b) ((nat_le 48 b && nat_le b 57) || (b == 95)) h) [
  | inl letter ↦ letter-below b letter
  | inr other ↦ elim (either (nat_le 48 b && nat_le b 57) (b == 95) other) [
    | inl digit ↦ let l : b ≤ 57 = at_most 48 57 b digit in omega arith
    | inr line ↦ let l : b ≡ 95 = eqb-true b 95 line in omega arith
  ]
]

name_bytes-below : (bs : List ℕ) → list_all is_name_byte bs ≡ true → All (λ b. b < 128) bs
name_bytes-below [] h = All-nil (λ (b : ℕ). b < 128)
name_bytes-below (b ∷ bs) h =
    let parts : (is_name_byte b ≡ true) × (list_all is_name_byte bs ≡ true) = and_parts (is_name_byte b) (list_all is_name_byte bs) h in
    All-cons (λ (b : ℕ). b < 128) b bs (name_byte-below b parts.0) (name_bytes-below bs parts.1)

name_text-below : (bs : List ℕ) → is_name_text bs ≡ true → All (λ b. b < 128) bs
name_text-below [] h = cc
name_text-below (b ∷ bs) h =
    let parts : (is_letter b ≡ true) × (list_all is_name_byte bs ≡ true) = and_parts (is_letter b) (list_all is_name_byte bs) h in
    All-cons (λ (b : ℕ). b < 128) b bs (letter-below b parts.0) (name_bytes-below bs parts.1)

pub IsUtf8-name : (bs : List ℕ) → IsName bs → IsUtf8 bs
IsUtf8-name bs name = IsUtf8-from_ascii bs (IsAscii-from_all bs (name_text-below bs name.text))
