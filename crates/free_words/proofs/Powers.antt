-- A power is made of as many copies as the exponent is in size.
use Rattle.std.proofs.Common.{◌≡◌, ℕ, ◌+◌, ℤ, pos, negsuc, ◌<ℤ◌, ◌≤ℤ◌, List, [], ◌∷◌, ◌++◌, length, unsigned_abs, refl, ap, ◌∙◌, add-one}
use Rattle.std.proofs.Common.{arith}
use Rattle.std.proofs.lemmas.Int.{ints}
use Rattle.pq_base.proofs.words.WordLaws.{append-copies, copies-nil}
use Rattle.pq_base.specs.SignedWord.{inv, copies, pow}

pub pow-nonnegative : (u : List ℤ) (n : ℤ) → pos 0 ≤ℤ n → pow u n ≡ copies u (unsigned_abs n)
pow-nonnegative u (pos n) h = refl
pow-nonnegative u (negsuc n) h = absurd (omega (arith, ints))

pub pow-negative : (u : List ℤ) (n : ℤ) → n <ℤ pos 0 → pow u n ≡ copies (inv u) (unsigned_abs n)
pow-negative u (pos n) h = absurd (omega (arith, ints))
pow-negative u (negsuc n) h = refl

-- one copy more at the end
pub copies_more : (u : List ℤ) (n : ℕ) → copies u (n + 1) ≡ copies u n ++ u
copies_more u n = ap (copies u) (add-one n) ∙ append-copies u n

pub copies-empty : (u : List ℤ) (n : ℕ) → length u ≡ 0 → copies u n ≡ []
copies-empty [] n h = copies-nil n
copies-empty (k ∷ u) n h = absurd (omega arith)
