-- Texts with the same bytes between any two of them, where some are written and the others are left.
use Rattle.std.proofs.Common.{◌≡◌, ◌<◌, ◌≤◌, ℕ, zero, suc, List, [], ◌∷◌, ◌++◌, get_or, length, drop, refl, ap, sym, ◌∙◌, arith}
use Rattle.std.proofs.Common.{append_assoc}
use Rattle.std.specs.Prelude.{ℤ}
use Rattle.std.proofs.Math.Seq.{drop-cons}
use Rattle.lpres_reader.specs.CanonicalText.{preceded, separated, arrow_text, arrow_texts}

-- the texts that are left behind n others
abbrev pub left_after : ℕ → List ℕ → List (List ℕ) → List ℕ
left_after zero s ts = separated s ts
left_after (suc n) s ts = preceded s ts

-- what stands between n texts and one more
abbrev pub between : ℕ → List ℕ → List ℕ
between zero s = []
between (suc n) s = s

left_after-cons : (n : ℕ) (s t : List ℕ) (ts : List (List ℕ)) → left_after n s (t ∷ ts) ≡ between n s ++ (t ++ left_after (suc n) s ts)
left_after-cons zero s t ts = refl
left_after-cons (suc n) s t ts = refl

pub between-some : (n : ℕ) (s : List ℕ) → 0 < n → between n s ≡ s
between-some zero s h = absurd (omega arith)
between-some (suc n) s h = refl

pub between-none : (n : ℕ) (s : List ℕ) → n ≤ 0 → between n s ≡ []
between-none zero s h = refl
between-none (suc n) s h = absurd (omega arith)

two_more : (out mid new all g t rest : List ℕ) → mid ≡ out ++ g → new ≡ mid ++ t → out ++ (g ++ (t ++ rest)) ≡ all → new ++ rest ≡ all
two_more out mid new all g t rest gap text so_far = rw (text, gap) (simp append_assoc so_far)

-- a writer that wrote the next arrow
pub arrow_texts-next : (k j : ℕ) (s : List ℕ) (names : List (List ℕ)) (ws : List (List ℤ)) (out mid new all : List ℕ) → j ≡ suc k
    → k < length ws
    → mid ≡ out ++ between k s → new ≡ mid ++ arrow_text names j (get_or ws k [])
    → out ++ left_after k s (arrow_texts names k (drop k ws)) ≡ all → new ++ left_after j s (arrow_texts names j (drop j ws)) ≡ all
arrow_texts-next k j s names ws out mid new all next inside gap arrow so_far =
    let t : List ℕ = arrow_text names (suc k) (get_or ws k []) in
    let ts : List (List ℕ) = arrow_texts names (suc k) (drop (suc k) ws) in
    let cut : left_after k s (arrow_texts names k (drop k ws)) ≡ left_after k s (t ∷ ts) =
    ap (λ (vs : List (List ℤ)). left_after k s (arrow_texts names k vs)) (drop-cons ws k [] inside) in
    let parts : out ++ (between k s ++ (t ++ left_after (suc k) s ts)) ≡ all =
    ap (λ (x : List ℕ). out ++ x) (sym (cut ∙ left_after-cons k s t ts)) ∙ so_far in
    let written : new ≡ mid ++ t = arrow ∙ ap (λ (n : ℕ). mid ++ arrow_text names n (get_or ws k [])) next in
    ap (λ (n : ℕ). new ++ left_after n s (arrow_texts names n (drop n ws))) next
    ∙ two_more out mid new all (between k s) t (left_after (suc k) s ts) gap written parts
