-- The line of a tail tells what it says, and is one line.
use Rattle.std.proofs.Common.{◌≡◌, ◌<◌, ℕ, suc, true, ◌&&◌, List, [], ◌∷◌, ◌++◌, drop, length, decimal, refl, ap, ap₂, sym, ◌∙◌}
use Rattle.std.proofs.Common.{append_assoc, arith}
use Rattle.std.specs.Prelude.{leb, ltb, codes}
use Rattle.std.proofs.lemmas.Bool.{ltb-true, and_parts}
use Rattle.derivation_log.specs.Certificates.{TailLine}
use Rattle.derivation_log.specs.CertificateForms.{is_number_from, are_pairs, are_at_most, are_kept_below, is_tail_line}
use Rattle.answer_text.proofs.Splits.{first-apart, avoids, avoids-append}
use Rattle.cert_text.specs.CertificateText.{pair_text, further_pairs_text, pairs_text, kept_text, tail_line}
use Rattle.cert_text.proofs.texts.NumberTexts.{greatest, StartsWell, is_no_digit, cut-same, AllFail-decimal, decimal-told, no-number}
use Rattle.cert_text.proofs.texts.NumberTexts.{avoids-any_decimal}
use Rattle.cert_text.proofs.texts.SourceTexts.{number-below}

-- a pair that a text can hold
abbrev pub IsWrittenPair : ℕ × ℕ → Type 0
IsWrittenPair a = (a.0 < greatest) × (a.1 < greatest)

abbrev pub AreWrittenPairs : List (ℕ × ℕ) → Type 0
AreWrittenPairs [] = Unit {0}
AreWrittenPairs (a ∷ pairs) = IsWrittenPair a × AreWrittenPairs pairs

pub AreWrittenPairs-are_pairs : (p least : ℕ) (pairs : List (ℕ × ℕ)) → p < 100 → are_pairs p least pairs ≡ true → AreWrittenPairs pairs
AreWrittenPairs-are_pairs p least [] small h = tt
AreWrittenPairs-are_pairs p least (a ∷ pairs) small h =
    let first = and_parts (is_number_from least a.0) (leb 1 a.1 && (ltb a.1 p && are_pairs p (suc a.0) pairs)) h in
    let second = and_parts (leb 1 a.1) (ltb a.1 p && are_pairs p (suc a.0) pairs) first.1 in
    let third = and_parts (ltb a.1 p) (are_pairs p (suc a.0) pairs) second.1 in
    let below : a.1 < p = ltb-true a.1 p third.0 in
    ((number-below least a.0 first.0, omega arith), AreWrittenPairs-are_pairs p (suc a.0) pairs small third.1)

-- a pair in front of what no digit begins
pub pair-told : (a b : ℕ × ℕ) (us vs : List ℕ) → IsWrittenPair a → IsWrittenPair b → StartsWell is_no_digit us → StartsWell is_no_digit vs
    → pair_text a ++ us ≡ pair_text b ++ vs → (a ≡ b) × (us ≡ vs)
pair-told a b us vs h g s t e =
    let whole : decimal a.0 ++ (58 ∷ (decimal a.1 ++ us)) ≡ decimal b.0 ++ (58 ∷ (decimal b.1 ++ vs)) =
    sym (append_assoc (decimal a.0) (58 ∷ decimal a.1) us) ∙ e ∙ append_assoc (decimal b.0) (58 ∷ decimal b.1) vs in
    let number = decimal-told a.0 b.0 (58 ∷ (decimal a.1 ++ us)) (58 ∷ (decimal b.1 ++ vs)) h.0 g.0 refl refl whole in
    let coefficient = decimal-told a.1 b.1 us vs h.1 g.1 s t (ap (λ (x : List ℕ). drop 1 x) number.1) in
    (ap₂ (λ (x y : ℕ). (x, y)) number.0 coefficient.0, coefficient.1)

-- where one text has a pair in front and the other has none, the other has a colon in front
pub no-pair : (a : ℕ × ℕ) (us vs : List ℕ) → StartsWell is_no_digit us → us ≡ pair_text a ++ vs → us ≡ 58 ∷ (decimal a.1 ++ vs)
no-pair a us vs s e = no-number a.0 us (58 ∷ (decimal a.1 ++ vs)) s refl (e ∙ append_assoc (decimal a.0) (58 ∷ decimal a.1) vs)

-- what stands behind the tails
abbrev by_sums : List ℕ → List ℕ
by_sums x = codes " by " ++ x

pub further-start : (pairs : List (ℕ × ℕ)) (x : List ℕ) → StartsWell is_no_digit (further_pairs_text pairs ++ by_sums x)
further-start [] x = refl
further-start (a ∷ pairs) x = refl

further_pairs-same : (xs ys : List (ℕ × ℕ)) (x y : List ℕ) → AreWrittenPairs xs → AreWrittenPairs ys
    → further_pairs_text xs ++ by_sums x ≡ further_pairs_text ys ++ by_sums y → (xs ≡ ys) × (x ≡ y)
further_pairs-same [] [] x y h g e = (refl, ap (λ (t : List ℕ). drop 4 t) e)
further_pairs-same [] (b ∷ ys) x y h g e =
    let behind : codes "by " ++ x ≡ pair_text b ++ (further_pairs_text ys ++ by_sums y) =
    ap (λ (t : List ℕ). drop 1 t) e ∙ append_assoc (pair_text b) (further_pairs_text ys) (by_sums y) in
    absurd (first-apart 98 58 _ _ refl (no-pair b (codes "by " ++ x) (further_pairs_text ys ++ by_sums y) refl behind))
further_pairs-same (a ∷ xs) [] x y h g e =
    let behind : codes "by " ++ y ≡ pair_text a ++ (further_pairs_text xs ++ by_sums x) =
    ap (λ (t : List ℕ). drop 1 t) (sym e) ∙ append_assoc (pair_text a) (further_pairs_text xs) (by_sums x) in
    absurd (first-apart 98 58 _ _ refl (no-pair a (codes "by " ++ y) (further_pairs_text xs ++ by_sums x) refl behind))
further_pairs-same (a ∷ xs) (b ∷ ys) x y h g e =
    let whole : pair_text a ++ (further_pairs_text xs ++ by_sums x) ≡ pair_text b ++ (further_pairs_text ys ++ by_sums y) =
    sym (append_assoc (pair_text a) (further_pairs_text xs) (by_sums x)) ∙ ap (λ (t : List ℕ). drop 1 t) e
    ∙ append_assoc (pair_text b) (further_pairs_text ys) (by_sums y) in
    let first = pair-told a b (further_pairs_text xs ++ by_sums x) (further_pairs_text ys ++ by_sums y) h.0 g.0 (further-start xs x)
    (further-start ys y) whole in
    let more = further_pairs-same xs ys x y h.1 g.1 first.1 in
    (ap₂ (λ (c : ℕ × ℕ) (cs : List (ℕ × ℕ)). c ∷ cs) first.0 more.0, more.1)

-- pairs in front of the sums
pairs-same : (a b : ℕ × ℕ) (xs ys : List (ℕ × ℕ)) (x y : List ℕ) → AreWrittenPairs (a ∷ xs) → AreWrittenPairs (b ∷ ys)
    → pairs_text (a ∷ xs) ++ by_sums x ≡ pairs_text (b ∷ ys) ++ by_sums y → (a ∷ xs ≡ b ∷ ys) × (x ≡ y)
pairs-same a b xs ys x y h g e =
    let whole : pair_text a ++ (further_pairs_text xs ++ by_sums x) ≡ pair_text b ++ (further_pairs_text ys ++ by_sums y) =
    sym (append_assoc (pair_text a) (further_pairs_text xs) (by_sums x)) ∙ e ∙ append_assoc (pair_text b) (further_pairs_text ys)
    (by_sums y) in
    let first = pair-told a b (further_pairs_text xs ++ by_sums x) (further_pairs_text ys ++ by_sums y) h.0 g.0 (further-start xs x)
    (further-start ys y) whole in
    let more = further_pairs-same xs ys x y h.1 g.1 first.1 in
    (ap₂ (λ (c : ℕ × ℕ) (cs : List (ℕ × ℕ)). c ∷ cs) first.0 more.0, more.1)

-- a pair doesn't begin as 0 and a blank do
pub no-zero : (a : ℕ × ℕ) (us vs : List ℕ) → codes "0 " ++ us ≡ pair_text a ++ vs → ⊥
no-zero a us vs e =
    let whole : codes "0 " ++ us ≡ decimal a.0 ++ (58 ∷ (decimal a.1 ++ vs)) = e ∙ append_assoc (decimal a.0) (58 ∷ decimal a.1) vs in
    first-apart 32 58 _ _ refl (cut-same is_no_digit (48 ∷ []) (decimal a.0) (32 ∷ us) (58 ∷ (decimal a.1 ++ vs)) (refl, tt)
    (AllFail-decimal a.0) refl refl whole).1

pub kept-same : (xs ys : List (ℕ × ℕ)) (x y : List ℕ) → AreWrittenPairs xs → AreWrittenPairs ys
    → kept_text xs ++ by_sums x ≡ kept_text ys ++ by_sums y → (xs ≡ ys) × (x ≡ y)
kept-same [] [] x y h g e = (refl, ap (λ (t : List ℕ). drop 5 t) e)
kept-same [] (b ∷ ys) x y h g e =
    absurd (no-zero b (codes "by " ++ x) (further_pairs_text ys ++ by_sums y)
    (e ∙ append_assoc (pair_text b) (further_pairs_text ys) (by_sums y)))
kept-same (a ∷ xs) [] x y h g e =
    absurd (no-zero a (codes "by " ++ y) (further_pairs_text xs ++ by_sums x)
    (sym e ∙ append_assoc (pair_text a) (further_pairs_text xs) (by_sums x)))
kept-same (a ∷ xs) (b ∷ ys) x y h g e = pairs-same a b xs ys x y h g e

-- the sums end the line
sums-same : (xs ys : List (ℕ × ℕ)) → AreWrittenPairs xs → AreWrittenPairs ys → pairs_text xs ≡ pairs_text ys → xs ≡ ys
sums-same [] [] h g e = refl
sums-same [] (b ∷ ys) h g e = absurd (nothing (no-pair b [] (further_pairs_text ys) tt e)) where
  nothing : {us : List ℕ} → [] ≡ 58 ∷ us → ⊥
  nothing e = cc
sums-same (a ∷ xs) [] h g e = absurd (nothing (no-pair a [] (further_pairs_text xs) tt (sym e))) where
  nothing : {us : List ℕ} → [] ≡ 58 ∷ us → ⊥
  nothing e = cc
sums-same (a ∷ xs) (b ∷ ys) h g e = (pairs-same a b xs ys [] [] h g (ap (λ (t : List ℕ). t ++ by_sums []) e)).0

-- the numbers of a tail line that a text can hold
pub record IsWrittenTail (l : TailLine) : Type 0 where
  pub tail : l.tail < greatest
  pub kept : AreWrittenPairs l.kept
  pub sums : AreWrittenPairs l.sums

pub IsWrittenTail-is_tail_line : (p n least : ℕ) (lines : List TailLine) (l : TailLine) → p < 100 → is_number_from least l.tail ≡ true
    → is_tail_line p n lines l ≡ true → IsWrittenTail l
IsWrittenTail-is_tail_line p n least lines l small number h =
    let first = and_parts (are_pairs p 1 l.kept)
    (are_kept_below lines l.tail l.kept && (ltb 0 (length l.sums) && (are_pairs p 1 l.sums && are_at_most n l.sums))) h in
    let second =
    and_parts (are_kept_below lines l.tail l.kept) (ltb 0 (length l.sums) && (are_pairs p 1 l.sums && are_at_most n l.sums)) first.1 in
    let third = and_parts (ltb 0 (length l.sums)) (are_pairs p 1 l.sums && are_at_most n l.sums) second.1 in
    let last = and_parts (are_pairs p 1 l.sums) (are_at_most n l.sums) third.1 in
    record {
      tail = number-below least l.tail number;
      kept = AreWrittenPairs-are_pairs p 1 l.kept small first.0;
      sums = AreWrittenPairs-are_pairs p 1 l.sums small last.0;
    }

same_line : (l m : TailLine) → l.tail ≡ m.tail → l.kept ≡ m.kept → l.sums ≡ m.sums → l ≡ m
same_line l m a b c = λ i. record { tail = a i; kept = b i; sums = c i }

pub tail_line-same : (l m : TailLine) → IsWrittenTail l → IsWrittenTail m → tail_line l ≡ tail_line m → l ≡ m
tail_line-same l m h g e =
    let number = decimal-told l.tail m.tail (codes " = " ++ (kept_text l.kept ++ by_sums (pairs_text l.sums)))
    (codes " = " ++ (kept_text m.kept ++ by_sums (pairs_text m.sums)))
    h.tail g.tail refl refl (ap (λ (t : List ℕ). drop 5 t) e) in
    let kept = kept-same l.kept m.kept (pairs_text l.sums) (pairs_text m.sums) h.kept g.kept (ap (λ (t : List ℕ). drop 3 t) number.1) in
    same_line l m number.0 kept.0 (sums-same l.sums m.sums h.sums g.sums kept.1)

avoids-pair : (a : ℕ × ℕ) → avoids 10 (pair_text a) ≡ true
avoids-pair a = avoids-append 10 (decimal a.0) (58 ∷ decimal a.1) (avoids-any_decimal 10 a.0 refl) (avoids-any_decimal 10 a.1 refl)

avoids-further : (pairs : List (ℕ × ℕ)) → avoids 10 (further_pairs_text pairs) ≡ true
avoids-further [] = refl
avoids-further (a ∷ pairs) = avoids-append 10 (pair_text a) (further_pairs_text pairs) (avoids-pair a) (avoids-further pairs)

avoids-pairs : (pairs : List (ℕ × ℕ)) → avoids 10 (pairs_text pairs) ≡ true
avoids-pairs [] = refl
avoids-pairs (a ∷ pairs) = avoids-append 10 (pair_text a) (further_pairs_text pairs) (avoids-pair a) (avoids-further pairs)

avoids-kept : (pairs : List (ℕ × ℕ)) → avoids 10 (kept_text pairs) ≡ true
avoids-kept [] = refl
avoids-kept (a ∷ pairs) = avoids-pairs (a ∷ pairs)

pub avoids-tail_line : (l : TailLine) → avoids 10 (tail_line l) ≡ true
avoids-tail_line l =
    avoids-append 10 (decimal l.tail) (codes " = " ++ (kept_text l.kept ++ by_sums (pairs_text l.sums))) (avoids-any_decimal 10 l.tail refl)
    (avoids-append 10 (kept_text l.kept) (by_sums (pairs_text l.sums)) (avoids-kept l.kept) (avoids-pairs l.sums))
