-- Pairs are read from their digits, and from no others.
use Rattle.std.proofs.Common.{◌≡◌, ◌<◌, ℕ, List, [], ◌∷◌, ◌++◌, drop, decimal, refl, ap, ap₂, sym, ◌∙◌, append_assoc, append-nil, arith}
use Rattle.cert_text.specs.CertificateText.{pair_text, further_pairs_text}
use Rattle.cert_text.specs.NumberFronts.{is_no_digit, StartsWell}
use Rattle.cert_text.specs.WrittenNumbers.{IsSmallPair, AreSmallPairs, EndsPairs}
use Rattle.cert_text.proofs.texts.NumberTexts.{decimal-told}
use Rattle.cert_text.proofs.texts.TailTexts.{IsWrittenPair, AreWrittenPairs, pair-told}

pub written : (a : ℕ × ℕ) → IsSmallPair a → IsWrittenPair a
written a h = (h.0, omega (arith, h.1))

pub AreWritten-small : (pairs : List (ℕ × ℕ)) → AreSmallPairs pairs → AreWrittenPairs pairs
AreWritten-small [] h = tt
AreWritten-small (a ∷ pairs) h = (written a h.0, AreWritten-small pairs h.1)

-- a number behind which a pair goes on
pub pair-number : (text rest more : List ℕ) (n : ℕ) (a : ℕ × ℕ) → text ≡ decimal n ++ rest → n < 65536 → StartsWell is_no_digit rest
    → IsSmallPair a
    → text ≡ pair_text a ++ more → (n ≡ a.0) × (rest ≡ 58 ∷ (decimal a.1 ++ more))
pair-number text rest more n a e small stops h same =
    decimal-told n a.0 rest (58 ∷ (decimal a.1 ++ more)) small h.0 stops refl
    (sym e ∙ same ∙ append_assoc (decimal a.0) (58 ∷ decimal a.1) more)

-- and its coefficient
pub pair-coefficient : (text colon rest more tail : List ℕ) (n m : ℕ) (a : ℕ × ℕ) → text ≡ decimal n ++ rest → n < 65536
    → StartsWell is_no_digit rest → rest ≡ 58 ∷ colon
    → colon ≡ decimal m ++ tail → m < 65536 → StartsWell is_no_digit tail → IsSmallPair a → StartsWell is_no_digit more
    → text ≡ pair_text a ++ more → m ≡ a.1
pair-coefficient text colon rest more tail n m a e small stops cut digits low ends h well same =
    let first = pair-number text rest more n a e small stops h same in
    let behind : colon ≡ decimal a.1 ++ more = ap (λ (t : List ℕ). drop 1 t) (sym cut ∙ first.1) in
    (decimal-told m a.1 tail more low (omega (arith, h.1)) ends well (sym digits ∙ behind)).0

pub further-start : (xs : List (ℕ × ℕ)) (us : List ℕ) → StartsWell is_no_digit us → StartsWell is_no_digit (further_pairs_text xs ++ us)
further-start [] us stops = stops
further-start (x ∷ xs) us stops = refl

first-further : (x : ℕ × ℕ) (xs : List (ℕ × ℕ)) (us : List ℕ)
    → further_pairs_text (x ∷ xs) ++ us ≡ 32 ∷ (pair_text x ++ (further_pairs_text xs ++ us))
first-further x xs us = ap (λ (t : List ℕ). 32 ∷ t) (append_assoc (pair_text x) (further_pairs_text xs) us)

-- pairs are told by what ends them
pub further_pairs-told : (xs ys : List (ℕ × ℕ)) (us vs : List ℕ) → AreSmallPairs xs → AreSmallPairs ys → EndsPairs us → EndsPairs vs
    → further_pairs_text xs ++ us ≡ further_pairs_text ys ++ vs → (xs ≡ ys) × (us ≡ vs)
further_pairs-told [] [] us vs h g s t e = (refl, e)
further_pairs-told [] (y ∷ ys) us vs h g s t e =
    absurd (s.no_pair y (further_pairs_text ys ++ vs) g.0 (further-start ys vs t.no_digit) (e ∙ first-further y ys vs))
further_pairs-told (x ∷ xs) [] us vs h g s t e =
    absurd (t.no_pair x (further_pairs_text xs ++ us) h.0 (further-start xs us s.no_digit) (sym e ∙ first-further x xs us))
further_pairs-told (x ∷ xs) (y ∷ ys) us vs h g s t e =
    let whole = ap (λ (r : List ℕ). drop 1 r) (sym (first-further x xs us) ∙ e ∙ first-further y ys vs) in
    let first = pair-told x y (further_pairs_text xs ++ us) (further_pairs_text ys ++ vs) (written x h.0) (written y g.0)
    (further-start xs us s.no_digit) (further-start ys vs t.no_digit) whole in
    let more = further_pairs-told xs ys us vs h.1 g.1 s t first.1 in
    (ap₂ (λ (z : ℕ × ℕ) (zs : List (ℕ × ℕ)). z ∷ zs) first.0 more.0, more.1)

pub further_pairs-append : (xs ys : List (ℕ × ℕ)) → further_pairs_text (xs ++ ys) ≡ further_pairs_text xs ++ further_pairs_text ys
further_pairs-append [] ys = refl
further_pairs-append (x ∷ xs) ys =
    ap (λ (t : List ℕ). 32 ∷ (pair_text x ++ t)) (further_pairs-append xs ys)
    ∙ ap (λ (t : List ℕ). 32 ∷ t) (sym (append_assoc (pair_text x) (further_pairs_text xs) (further_pairs_text ys)))

-- one pair more was read
pub further_pairs-next : (all rest more : List ℕ) (xs ys : List (ℕ × ℕ)) (x : ℕ × ℕ) → ys ≡ xs ++ x ∷ [] → rest ≡ 32 ∷ (pair_text x ++ more)
    → all ≡ further_pairs_text xs ++ rest → all ≡ further_pairs_text ys ++ more
further_pairs-next all rest more xs ys x pushed e so_far =
    so_far ∙ ap (λ (t : List ℕ). further_pairs_text xs ++ t) e
    ∙ ap (λ (t : List ℕ). further_pairs_text xs ++ 32 ∷ (t ++ more)) (sym (append-nil (pair_text x)))
    ∙ sym (append_assoc (further_pairs_text xs) (further_pairs_text (x ∷ [])) more)
    ∙ ap (λ (t : List ℕ). t ++ more) (sym (further_pairs-append xs (x ∷ [])))
    ∙ ap (λ (zs : List (ℕ × ℕ)). further_pairs_text zs ++ more) (sym pushed)

pub AreSmallPairs-next : (xs : List (ℕ × ℕ)) (x : ℕ × ℕ) → AreSmallPairs xs → IsSmallPair x → AreSmallPairs (xs ++ x ∷ [])
AreSmallPairs-next [] x h small = (small, tt)
AreSmallPairs-next (y ∷ xs) x h small = (h.0, AreSmallPairs-next xs x h.1 small)
