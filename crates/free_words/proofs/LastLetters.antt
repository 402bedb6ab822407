-- A letter off the end of one word, and its inverse put at the end of another.
use Rattle.std.proofs.Common.{◌≡◌, ℤ, neg_ℤ, List, [], ◌∷◌, ◌++◌, ap, sym, ◌∙◌, append_assoc}
use Rattle.pq_base.specs.SignedWord.{inv}
use Rattle.pq_base.proofs.words.WordLaws.{inv-append}

pub append-inv_last : (out more rest before : List ℤ) (k : ℤ) → rest ≡ before ++ k ∷ [] → more ≡ out ++ neg_ℤ k ∷ []
    → more ++ inv before ≡ out ++ inv rest
append-inv_last out more rest before k split put =
    ap (λ (x : List ℤ). x ++ inv before) put ∙ append_assoc out (neg_ℤ k ∷ []) (inv before)
    ∙ sym (ap (λ (x : List ℤ). out ++ x) (ap inv split ∙ inv-append before (k ∷ [])))
