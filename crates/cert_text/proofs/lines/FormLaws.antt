-- A line that has the form of a line in its place has no newline in it, and leads to one place only.
use Rattle.std.proofs.Common.{◌≡◌, ◌<◌, ◌≤◌, ℕ, suc, true, false, ◌&&◌, List, [], ◌∷◌, ◌++◌, length, drop, refl, ap, sym, subst, ◌∙◌, arith}
use Rattle.std.proofs.lemmas.Bool.{and_parts}
use Rattle.pq_base.specs.LPresentation.{LPresentation}
use Rattle.pq_base.specs.Limits.{max_class}
use Rattle.pq_base.specs.Prime.{IsOffered}
use Rattle.pq_base.proofs.PrimeLaws.{offered-small}
use Rattle.lpres_reader.specs.CanonicalText.{canonical_lines}
use Rattle.answer_text.specs.AnswerPlaces.{prime_line, class_line}
use Rattle.answer_text.specs.AnswerPlaces as answers
use Rattle.answer_text.specs.AnswerPlaces.Place.{at_end}
use Rattle.answer_text.proofs.FormLaws as answer_forms
use Rattle.answer_text.proofs.Splits.{first-apart, avoids}
use Rattle.derivation_log.specs.declared.source.RowSource.{RowSource}
use Rattle.derivation_log.specs.Certificates.{TailLine, StepLines}
use Rattle.derivation_log.specs.CertificateForms.{is_number_from, is_tail_line, are_tail_lines}
use Rattle.cert_text.specs.CertificatePlaces.{Place, HasForm, IsEnd, Head, IsHead, with_source, with_tail}
use Rattle.cert_text.specs.CertificatePlaces.Place.{in_presentation, for_class, for_run, in_run, in_answer}
use Rattle.cert_text.specs.CertificatePlaces.HasForm.{version, generators, item, prime, class, first_of_two_runs, only_run, step, source}
use Rattle.cert_text.specs.CertificatePlaces.HasForm.{tail, second_run, answer, of_answer}
use Rattle.cert_text.proofs.texts.NumberTexts.{decimal-told, avoids-any_decimal}
use Rattle.cert_text.proofs.texts.SourceTexts.{IsWrittenSource-in, source_line-same, avoids-source_line}
use Rattle.cert_text.proofs.texts.TailTexts.{IsWrittenTail, IsWrittenTail-is_tail_line, tail_line-same, avoids-tail_line}
use Rattle.answer_text.proofs.lines.LineByLine.{TellsPlaces}
use Rattle.cert_text.proofs.lines.PresentationLines.{canonical_lines-same, avoids-item, no_prime-item, begins_with_p}

pub avoids-form : {P Q : Place} {l : List ℕ} → HasForm P l Q → avoids 10 l ≡ true
avoids-form version = avoids-any_decimal 10 1 refl
avoids-form (generators L line a e) = avoids-item L [] line a e
avoids-form (item L M line a e) = avoids-item M (canonical_lines L) line a e
avoids-form (prime L p o) = avoids-any_decimal 10 p refl
avoids-form (class L p c a b) = avoids-any_decimal 10 c refl
avoids-form (first_of_two_runs H two) = refl
avoids-form (only_run H one) = refl
avoids-form (step H run earlier ss) = avoids-any_decimal 10 (suc (length ss)) refl
avoids-form (source H run earlier s ss a h none inside) = avoids-source_line a
avoids-form (tail H run earlier s ss l h lines) = avoids-tail_line l
avoids-form (second_run H ss) = refl
avoids-form (answer H earlier ss) = refl
avoids-form (of_answer H earlier steps P line Q f) = answer_forms.avoids-form f

-- the last of some tail lines is one
pub last-line : (p n least : ℕ) (lines before : List TailLine) (l : TailLine) → are_tail_lines p n lines least (before ++ l ∷ []) ≡ true
    → (m : ℕ) × (is_number_from m l.tail ≡ true) × (is_tail_line p n lines l ≡ true)
last-line p n least lines [] l h =
    let parts = and_parts (is_number_from least l.tail) (is_tail_line p n lines l && true) h in
    (least, parts.0, (and_parts (is_tail_line p n lines l) true parts.1).0)
last-line p n least lines (k ∷ before) l h =
    let parts =
    and_parts (is_number_from least k.tail) (is_tail_line p n lines k && are_tail_lines p n lines (suc k.tail) (before ++ l ∷ [])) h in
    last-line p n (suc k.tail) lines before l
    (and_parts (is_tail_line p n lines k) (are_tail_lines p n lines (suc k.tail) (before ++ l ∷ [])) parts.1).1

written-tail : (H : Head) (s : StepLines) (l : TailLine) → IsHead H
    → are_tail_lines H.prime (length s.sources) (s.tails ++ l ∷ []) 1 (s.tails ++ l ∷ []) ≡ true → IsWrittenTail l
written-tail H s l h lines =
    let small : H.prime < 8 = offered-small H.prime h.offered in
    let last = last-line H.prime (length s.sources) 1 (s.tails ++ l ∷ []) s.tails l lines in
    IsWrittenTail-is_tail_line H.prime (length s.sources) last.0 (s.tails ++ l ∷ []) l (omega arith) last.1 last.2

-- a line of the presentation isn't that of a prime
not-prime : (L M : LPresentation) (line : List ℕ) (p : ℕ) → canonical_lines M ≡ canonical_lines L ++ line ∷ [] → line ≡ prime_line p → ⊥
not-prime L M line p e h = let bad : true ≡ false = ap begins_with_p (sym h) ∙ no_prime-item M (canonical_lines L) line e in cc

prime_line-same : (p q : ℕ) → IsOffered p → IsOffered q → prime_line p ≡ prime_line q → p ≡ q
prime_line-same p q a b e =
    let small : p < 8 = offered-small p a in
    let low : q < 8 = offered-small q b in
    (decimal-told p q [] [] (omega arith) (omega arith) tt tt (ap (λ (t : List ℕ). drop 6 t ++ []) e)).0

pub class_line-same : (c d : ℕ) → c ≤ max_class → d ≤ max_class → class_line c ≡ class_line d → c ≡ d
class_line-same c d a b e = (decimal-told c d [] [] (omega arith) (omega arith) tt tt (ap (λ (t : List ℕ). drop 6 t ++ []) e)).0

pub form-same : {P Q R : Place} {l k : List ℕ} → HasForm P l Q → HasForm P k R → l ≡ k → Q ≡ R
form-same version version h = refl
form-same (generators L line a e) (generators M other b f) h =
    ap (λ (x : LPresentation). in_presentation x) (canonical_lines-same L M a b (e ∙ ap (λ (l : List ℕ). l ∷ []) h ∙ sym f))
form-same (item L M line a e) (item L2 N other b f) h =
    ap (λ (x : LPresentation). in_presentation x)
    (canonical_lines-same M N a b (e ∙ ap (λ (l : List ℕ). canonical_lines L ++ l ∷ []) h ∙ sym f))
form-same (item L M line a e) (prime L2 p o) h = absurd (not-prime L M line p e h)
form-same (prime L p o) (item L2 N other b f) h = absurd (not-prime L N other p f (sym h))
form-same (prime L p o) (prime L2 q u) h = ap (λ (x : ℕ). for_class L x) (prime_line-same p q o u h)
form-same (class L p c a b) (class L2 q d e f) h = ap (λ (x : ℕ). for_run (record { presentation = L; prime = p; class = x }))
    (class_line-same c d b f h)
form-same (first_of_two_runs H two) (first_of_two_runs H2 too) h = refl
form-same (first_of_two_runs H two) (only_run H2 one) h = let bad : true ≡ false = sym two ∙ one in cc
form-same (only_run H one) (first_of_two_runs H2 two) h = let bad : true ≡ false = sym two ∙ one in cc
form-same (only_run H one) (only_run H2 also) h = refl
form-same (step H run earlier ss) (step H2 run2 earlier2 ss2) h = refl
form-same (step H run earlier ss) (source H2 run2 earlier2 s2 ss2 a i none inside) h =
    absurd (first-apart 116 111 _ _ refl (ap (λ (t : List ℕ). drop 1 t) h))
form-same (step H run earlier ss) (tail H2 run2 earlier2 s2 ss2 l i lines) h = absurd (first-apart 115 116 _ _ refl h)
form-same (step H run earlier ss) (second_run H2 ss2) h = absurd (first-apart 115 114 _ _ refl h)
form-same (step H run earlier ss) (answer H2 earlier2 ss2) h = absurd (first-apart 115 97 _ _ refl h)
form-same (source H run earlier s ss a i none inside) (step H2 run2 earlier2 ss2) h =
    absurd (first-apart 111 116 _ _ refl (ap (λ (t : List ℕ). drop 1 t) h))
form-same (source H run earlier s ss a i none inside) (source H2 run2 earlier2 s2 ss2 b j none2 inside2) h =
    let limits = i.presentation.limits in
    let same : a ≡ b = source_line-same a b (IsWrittenSource-in H.presentation run a limits inside)
    (IsWrittenSource-in H.presentation run b limits inside2) h in
    ap (λ (x : RowSource). in_run H run earlier (with_source s x ∷ ss)) same
form-same (source H run earlier s ss a i none inside) (tail H2 run2 earlier2 s2 ss2 l j lines) h = absurd (first-apart 115 116 _ _ refl h)
form-same (source H run earlier s ss a i none inside) (second_run H2 ss2) h = absurd (first-apart 115 114 _ _ refl h)
form-same (source H run earlier s ss a i none inside) (answer H2 earlier2 ss2) h = absurd (first-apart 115 97 _ _ refl h)
form-same (tail H run earlier s ss l i lines) (step H2 run2 earlier2 ss2) h = absurd (first-apart 116 115 _ _ refl h)
form-same (tail H run earlier s ss l i lines) (source H2 run2 earlier2 s2 ss2 a j none inside) h = absurd (first-apart 116 115 _ _ refl h)
form-same (tail H run earlier s ss l i lines) (tail H2 run2 earlier2 s2 ss2 m j others) h =
    ap (λ (x : TailLine). in_run H run earlier (with_tail s x ∷ ss))
    (tail_line-same l m (written-tail H s l i lines) (written-tail H s m j others) h)
form-same (tail H run earlier s ss l i lines) (second_run H2 ss2) h = absurd (first-apart 116 114 _ _ refl h)
form-same (tail H run earlier s ss l i lines) (answer H2 earlier2 ss2) h = absurd (first-apart 116 97 _ _ refl h)
form-same (second_run H ss) (step H2 run2 earlier2 ss2) h = absurd (first-apart 114 115 _ _ refl h)
form-same (second_run H ss) (source H2 run2 earlier2 s2 ss2 a i none inside) h = absurd (first-apart 114 115 _ _ refl h)
form-same (second_run H ss) (tail H2 run2 earlier2 s2 ss2 l i lines) h = absurd (first-apart 114 116 _ _ refl h)
form-same (second_run H ss) (second_run H2 ss2) h = refl
form-same (answer H earlier ss) (step H2 run2 earlier2 ss2) h = absurd (first-apart 97 115 _ _ refl h)
form-same (answer H earlier ss) (source H2 run2 earlier2 s2 ss2 a i none inside) h = absurd (first-apart 97 115 _ _ refl h)
form-same (answer H earlier ss) (tail H2 run2 earlier2 s2 ss2 l i lines) h = absurd (first-apart 97 116 _ _ refl h)
form-same (answer H earlier ss) (answer H2 earlier2 ss2) h = refl
form-same (of_answer H earlier steps P line Q f) (of_answer H2 earlier2 steps2 P2 other R g) h =
    ap (λ (x : answers.Place). in_answer H earlier steps x) (answer_forms.form-same f g h)

at_end_ends : (P : answers.Place) (line : List ℕ) (Q : answers.Place) → answers.HasForm P line Q → P ≡ at_end → ⊥
at_end_ends P line Q f e = elim (subst (λ (x : answers.Place). answers.HasForm x line Q) e f) [ ]

pub no-form-IsEnd : (P Q : Place) (l : List ℕ) → IsEnd P → HasForm P l Q → ⊥
no-form-IsEnd P Q l end version = absurd end
no-form-IsEnd P Q l end (generators L line a e) = absurd end
no-form-IsEnd P Q l end (item L M line a e) = absurd end
no-form-IsEnd P Q l end (prime L p o) = absurd end
no-form-IsEnd P Q l end (class L p c a b) = absurd end
no-form-IsEnd P Q l end (first_of_two_runs H two) = absurd end
no-form-IsEnd P Q l end (only_run H one) = absurd end
no-form-IsEnd P Q l end (step H run earlier ss) = absurd end
no-form-IsEnd P Q l end (source H run earlier s ss a h none inside) = absurd end
no-form-IsEnd P Q l end (tail H run earlier s ss t h lines) = absurd end
no-form-IsEnd P Q l end (second_run H ss) = absurd end
no-form-IsEnd P Q l end (answer H earlier ss) = absurd end
no-form-IsEnd P Q l end (of_answer H earlier steps A line B f) = at_end_ends A line B f end

pub tells_places : TellsPlaces Place HasForm IsEnd
tells_places = record {
  avoids_newline = λ P Q l f. avoids-form f;
  leads_to_one = λ P Q R l k f g e. form-same f g e;
  nothing_follows = no-form-IsEnd;
}
