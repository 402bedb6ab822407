-- The letters of exponents as signed words.
use Rattle.std.proofs.Common.{◌≡◌, ℕ, zero, suc, ◌+◌, ℤ, pos, List, [], ◌∷◌, ◌++◌, length, replicate, refl, ap, sym, ◌∙◌}
use Rattle.pq_base.specs.SignedWord.{copies}
use Rattle.pq_base.specs.Presentation.{letter, word_from}
use Rattle.pq_base.proofs.words.WordLaws.{word_from-append}
use Rattle.pc_presentation.specs.Collection.{spelled, letters}

pub letters-append : (u v : List ℕ) → letters (u ++ v) ≡ letters u ++ letters v
letters-append [] v = refl
letters-append (i ∷ u) v = ap (λ (w : List ℤ). pos (suc i) ∷ w) (letters-append u v)

pub letters-replicate : (e i : ℕ) → letters (replicate e i) ≡ copies (letter i) e
letters-replicate zero i = refl
letters-replicate (suc e) i = ap (λ (w : List ℤ). pos (suc i) ∷ w) (letters-replicate e i)

pub letters-spelled : (k : ℕ) (e : List ℕ) → letters (spelled k e) ≡ word_from k e
letters-spelled k [] = refl
letters-spelled k (x ∷ e) =
    letters-append (replicate x k) (spelled (suc k) e)
    ∙ ap (λ (w : List ℤ). w ++ letters (spelled (suc k) e)) (letters-replicate x k)
    ∙ ap (λ (w : List ℤ). copies (letter k) x ++ w) (letters-spelled (suc k) e)

-- a right side that is followed by a row
pub word_from-side_and_row : (n i : ℕ) (e x : List ℕ) → suc i + length e ≡ n
    → word_from (suc i) (e ++ x) ≡ letters (spelled (suc i) e) ++ word_from n x
word_from-side_and_row n i e x c =
    word_from-append (suc i) e x
    ∙ ap (λ (m : ℕ). word_from (suc i) e ++ word_from m x) c
    ∙ ap (λ (w : List ℤ). w ++ word_from n x) (sym (letters-spelled (suc i) e))
