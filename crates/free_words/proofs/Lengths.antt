-- How long the words are that are made from words.
use Rattle.std.proofs.Common.{◌≡◌, ℕ, zero, suc, ◌+◌, ◌*◌, ℤ, pos, negsuc, List, [], ◌∷◌, length, unsigned_abs, refl, ap, sym, ◌∙◌, arith}
use Rattle.std.proofs.lemmas.List.{length-append}
use Rattle.std.proofs.Math.Nat.{zero-mul, suc-mul}
use Rattle.pq_base.specs.SignedWord.{inv, copies, pow, comm, conj}

pub length-inv : (u : List ℤ) → length (inv u) ≡ length u
length-inv [] = refl
length-inv (k ∷ u) = simp (length-append, length-inv u) (omega arith)

pub length-copies : (u : List ℤ) (n : ℕ) → length (copies u n) ≡ n * length u
length-copies u zero = sym (zero-mul (length u))
length-copies u (suc n) =
    length-append u (copies u n) ∙ ap (λ (m : ℕ). length u + m) (length-copies u n) ∙ omega (arith, suc-mul n (length u))

pub length-pow : (u : List ℤ) (n : ℤ) → length (pow u n) ≡ unsigned_abs n * length u
length-pow u (pos n) = length-copies u n
length-pow u (negsuc n) = length-copies (inv u) (suc n) ∙ ap (λ (m : ℕ). suc n * m) (length-inv u)

pub length-conj : (u v : List ℤ) → length (conj u v) ≡ length u + 2 * length v
length-conj u v = simp (length-append, length-inv) (omega arith)

pub length-comm : (u v : List ℤ) → length (comm u v) ≡ 2 * (length u + length v)
length-comm u v = simp (length-append, length-inv) (omega arith)

-- for `search`
pub ruleset word_lengths = (length-inv, length-pow, length-conj, length-comm)
