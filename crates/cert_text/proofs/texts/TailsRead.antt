-- A tail line is read from its numbers, and from no others.
use Rattle.std.proofs.Common.{◌≡◌, ◌<◌, ◌≤◌, ℕ, suc, true, ◌&&◌, List, [], ◌∷◌, ◌++◌, drop, length, decimal, refl, ap, sym, ◌∙◌}
use Rattle.std.proofs.Common.{append_assoc, append-nil, lit<, arith}
use Rattle.std.specs.Prelude.{codes, leb, ltb}
use Rattle.std.proofs.lemmas.Bool.{and_parts, ltb-true}
use Rattle.pq_base.specs.declared.prime.Prime.{Prime}
use Rattle.pq_base.specs.declared.prime.Prime.TheVariants.{P2, P3, P5, P7}
use Rattle.pq_base.specs.Prime.{prime_value}
use Rattle.derivation_log.specs.Certificates.{TailLine}
use Rattle.derivation_log.specs.CertificateForms.{is_number_from, are_pairs, are_at_most, are_kept_below, are_tail_lines}
use Rattle.answer_text.proofs.Splits.{first-apart}
use Rattle.cert_text.specs.CertificateText.{pair_text, further_pairs_text, pairs_text, kept_text, tail_line}
use Rattle.cert_text.specs.NumberFronts.{is_no_digit, StartsWell}
use Rattle.cert_text.specs.WrittenNumbers.{IsSmallPair, AreSmallPairs, IsSmallTail, EndsPairs}
use Rattle.cert_text.proofs.texts.NumberTexts.{decimal-told}
use Rattle.cert_text.proofs.texts.SourceTexts.{number-below}
use Rattle.cert_text.proofs.texts.TailTexts.{IsWrittenTail, no-pair, kept-same, tail_line-same}
use Rattle.cert_text.proofs.texts.PairsRead.{AreWritten-small, further-start, further_pairs-told}
use Rattle.cert_text.proofs.lines.FormLaws.{last-line}

abbrev by_sums : List ℕ → List ℕ
by_sums x = codes " by " ++ x

-- neither the keyword `by` nor the end of a text begins a pair
EndsPairs-by : (x : List ℕ) → EndsPairs (by_sums x)
EndsPairs-by x = record {
  no_digit = refl;
  no_pair = λ a more h well e. first-apart 98 58 _ _ refl (no-pair a (codes "by " ++ x) more refl (ap (λ (t : List ℕ). drop 1 t) e));
}

EndsPairs-nil : EndsPairs []
EndsPairs-nil = record { no_digit = tt; no_pair = λ a more h well e. cc }

-- pairs behind a blank
pairs_text-further : (xs : List (ℕ × ℕ)) (us : List ℕ) → 1 ≤ length xs → further_pairs_text xs ++ us ≡ 32 ∷ (pairs_text xs ++ us)
pairs_text-further [] us some = absurd (omega arith)
pairs_text-further (x ∷ xs) us some = refl

kept_text-pairs : (xs : List (ℕ × ℕ)) → 1 ≤ length xs → kept_text xs ≡ pairs_text xs
kept_text-pairs [] some = absurd (omega arith)
kept_text-pairs (x ∷ xs) some = refl

-- pairs that were read in front of the sums
pub kept-read : (text rest more : List ℕ) (xs : List (ℕ × ℕ)) → 32 ∷ text ≡ further_pairs_text xs ++ rest → 1 ≤ length xs
    → rest ≡ by_sums more
    → text ≡ kept_text xs ++ by_sums more
kept-read text rest more xs read some cut =
    ap (λ (t : List ℕ). drop 1 t) (read ∙ ap (λ (t : List ℕ). further_pairs_text xs ++ t) cut ∙ pairs_text-further xs (by_sums more) some)
    ∙ ap (λ (t : List ℕ). t ++ by_sums more) (sym (kept_text-pairs xs some))

pub sums-read : (text rest : List ℕ) (xs : List (ℕ × ℕ)) → 32 ∷ text ≡ further_pairs_text xs ++ rest → 1 ≤ length xs → rest ≡ []
    → text ≡ pairs_text xs
sums-read text rest xs read some none =
    ap (λ (t : List ℕ). drop 1 t) (read ∙ ap (λ (t : List ℕ). further_pairs_text xs ++ t) none ∙ pairs_text-further xs [] some)
    ∙ append-nil (pairs_text xs)

-- where no pair begins the text
pub no-kept : (text : List ℕ) → ((rest : List ℕ) → ¬ (text ≡ codes "0 by " ++ rest))
    → ((a : ℕ × ℕ) (rest : List ℕ) → IsSmallPair a → StartsWell is_no_digit rest → ¬ (text ≡ pair_text a ++ rest))
    → (xs : List (ℕ × ℕ)) (more : List ℕ) → AreSmallPairs xs → ¬ (text ≡ kept_text xs ++ by_sums more)
no-kept text zero pair [] more h e = zero more e
no-kept text zero pair (x ∷ xs) more h e =
    pair x (further_pairs_text xs ++ by_sums more) h.0 (further-start xs (by_sums more) refl)
    (e ∙ append_assoc (pair_text x) (further_pairs_text xs) (by_sums more))

-- and where no keyword ends those that do
pub no-by : (text rest : List ℕ) (ps : List (ℕ × ℕ)) → ((more : List ℕ) → ¬ (text ≡ codes "0 by " ++ more))
    → 32 ∷ text ≡ further_pairs_text ps ++ rest → AreSmallPairs ps
    → EndsPairs rest → ((more : List ℕ) → ¬ (rest ≡ by_sums more)) → (xs : List (ℕ × ℕ)) (more : List ℕ) → AreSmallPairs xs
    → ¬ (text ≡ kept_text xs ++ by_sums more)
no-by text rest ps zero read small ends none [] more h e = zero more e
no-by text rest ps zero read small ends none (x ∷ xs) more h e =
    let same : further_pairs_text ps ++ rest ≡ further_pairs_text (x ∷ xs) ++ by_sums more = sym read ∙ ap (λ (t : List ℕ). 32 ∷ t) e in
    none more (further_pairs-told ps (x ∷ xs) rest (by_sums more) small h ends (EndsPairs-by more) same).1

pub no-sums : (text : List ℕ) → ((a : ℕ × ℕ) (rest : List ℕ) → IsSmallPair a → StartsWell is_no_digit rest → ¬ (text ≡ pair_text a ++ rest))
    → (xs : List (ℕ × ℕ)) → AreSmallPairs xs → 1 ≤ length xs → ¬ (text ≡ pairs_text xs)
no-sums text none [] h some e = absurd (omega arith)
no-sums text none (x ∷ xs) h some e = none x (further_pairs_text xs) h.0 (start xs) e where
  start : (ys : List (ℕ × ℕ)) → StartsWell is_no_digit (further_pairs_text ys)
  start [] = tt
  start (y ∷ ys) = refl

pub more-sums : (text rest : List ℕ) (ps : List (ℕ × ℕ)) → 32 ∷ text ≡ further_pairs_text ps ++ rest → AreSmallPairs ps → EndsPairs rest
    → (rest ≡ [] → ⊥)
    → (xs : List (ℕ × ℕ)) → AreSmallPairs xs → 1 ≤ length xs → ¬ (text ≡ pairs_text xs)
more-sums text rest ps read small ends some [] h one e = absurd (omega arith)
more-sums text rest ps read small ends some (x ∷ xs) h one e =
    let same : further_pairs_text ps ++ rest ≡ further_pairs_text (x ∷ xs) ++ [] = sym read ∙ ap (λ (t : List ℕ). 32 ∷ t) e
    ∙ sym (append-nil (further_pairs_text (x ∷ xs))) in
    some (further_pairs-told ps (x ∷ xs) rest [] small h ends EndsPairs-nil same).1

-- the sums behind what is kept
pub sums-behind : (text rest : List ℕ) (ps xs : List (ℕ × ℕ)) (more : List ℕ) → text ≡ kept_text ps ++ by_sums rest → AreSmallPairs ps
    → AreSmallPairs xs
    → text ≡ kept_text xs ++ by_sums more → rest ≡ more
sums-behind text rest ps xs more read h g e = (kept-same ps xs rest more (AreWritten-small ps h) (AreWritten-small xs g) (sym read ∙ e)).1

-- what stands behind a tail's number
pub tail-number : (line text rest : List ℕ) (n : ℕ) (l : TailLine) → line ≡ codes "tail " ++ text → text ≡ decimal n ++ rest → n < 65536
    → StartsWell is_no_digit rest → IsSmallTail l
    → line ≡ tail_line l → rest ≡ codes " = " ++ (kept_text l.kept ++ by_sums (pairs_text l.sums))
tail-number line text rest n l cut read small stops h e =
    (decimal-told n l.tail rest (codes " = " ++ (kept_text l.kept ++ by_sums (pairs_text l.sums))) small h.tail stops refl
    (sym read ∙ ap (λ (t : List ℕ). drop 5 t) (sym cut ∙ e))).1

AreSmallPairs-are_pairs : (p least : ℕ) (pairs : List (ℕ × ℕ)) → p < 100 → are_pairs p least pairs ≡ true → AreSmallPairs pairs
AreSmallPairs-are_pairs p least [] small h = tt
AreSmallPairs-are_pairs p least (a ∷ pairs) small h =
    let first = and_parts (is_number_from least a.0) (leb 1 a.1 && (ltb a.1 p && are_pairs p (suc a.0) pairs)) h in
    let second = and_parts (leb 1 a.1) (ltb a.1 p && are_pairs p (suc a.0) pairs) first.1 in
    let third = and_parts (ltb a.1 p) (are_pairs p (suc a.0) pairs) second.1 in
    let below : a.1 < p = ltb-true a.1 p third.0 in
    ((number-below least a.0 first.0, omega arith), AreSmallPairs-are_pairs p (suc a.0) pairs small third.1)

-- the numbers of a line that may stand behind others
pub small-tail : (p n : ℕ) (lines : List TailLine) (l : TailLine) → p < 100
    → are_tail_lines p n (lines ++ l ∷ []) 1 (lines ++ l ∷ []) ≡ true → IsSmallTail l × (1 ≤ length l.sums)
small-tail p n lines l small h =
    let last = last-line p n 1 (lines ++ l ∷ []) lines l h in
    let first = and_parts (are_pairs p 1 l.kept)
    (are_kept_below (lines ++ l ∷ []) l.tail l.kept && (ltb 0 (length l.sums) && (are_pairs p 1 l.sums && are_at_most n l.sums)))
    last.2 in
    let second = and_parts (are_kept_below (lines ++ l ∷ []) l.tail l.kept)
    (ltb 0 (length l.sums) && (are_pairs p 1 l.sums && are_at_most n l.sums)) first.1 in
    let third = and_parts (ltb 0 (length l.sums)) (are_pairs p 1 l.sums && are_at_most n l.sums) second.1 in
    let some : 0 < length l.sums = ltb-true 0 (length l.sums) third.0 in (
      record {
        tail = number-below last.0 l.tail last.1;
        kept = AreSmallPairs-are_pairs p 1 l.kept small first.0;
        sums = AreSmallPairs-are_pairs p 1 l.sums small (and_parts (are_pairs p 1 l.sums) (are_at_most n l.sums) third.1).0;
      },
      omega arith,
    )

written-tail : (l : TailLine) → IsSmallTail l → IsWrittenTail l
written-tail l h = record { tail = h.tail; kept = AreWritten-small l.kept h.kept; sums = AreWritten-small l.sums h.sums }

-- a tail that was read is the one of the line
pub tail-read : (line : List ℕ) (l m : TailLine) → line ≡ tail_line l → IsSmallTail l → IsSmallTail m → line ≡ tail_line m → l ≡ m
tail-read line l m read h g e = tail_line-same l m (written-tail l h) (written-tail m g) (sym read ∙ e)

pub small-prime : (q : Prime) → prime_value q < 100
small-prime P2 = lit< tt
small-prime P3 = lit< tt
small-prime P5 = lit< tt
small-prime P7 = lit< tt
