-- The lines of a presentation's canonical text: each is one line, begins with no `p`, and makes a presentation of those before it; and
-- all of them tell the presentation.
use Rattle.std.proofs.Common.{◌≡◌, ◌≤◌, ℕ, true, false, List, [], ◌∷◌, ◌++◌, All, length, codes, refl, sym, ap, subst}
use Rattle.std.specs.Prelude.{ℤ, eqb, ◌==◌}
use Rattle.std.specs.List.{AllByRecursion}
use Rattle.std.proofs.lemmas.List.Elements.{All-head, All-tail}
use Rattle.pq_base.specs.LPresentation.{LPresentation, AreWords, AreEndos}
use Rattle.pq_base.specs.Name.{IsName}
use Rattle.pq_base.specs.Lines.{text_of_lines}
use Rattle.lpres_reader.specs.CanonicalText.{word_text, generators_line, relator_lines, endo_line, endo_lines, canonical_lines}
use Rattle.lpres_reader.specs.CanonicalText.{canonical_text}
use Rattle.lpres_reader.specs.Limits.{AreShort}
use Rattle.lpres_reader.specs.Reads.{Reads}
use Rattle.lpres_reader.specs.Tokens.{Token}
use Rattle.lpres_reader.proofs.canonical_texts.CanonicalLines.{IsWritten, generators-written, fixed-written, iterated-written, endo-written}
use Rattle.lpres_reader.proofs.canonical_texts.CanonicalReads.{canonical_texts_read_back}
use Rattle.lpres_reader.proofs.faults.ReaderLaws.{each_text_reads_or_fails}
use Rattle.lpres_reader.proofs.texts.LineBytes.{line_is_plain, plain_is_one_line}
use Rattle.answer_text.proofs.Splits.{avoids}
use Rattle.cert_text.specs.CertificateText.{HasText}
pub use Rattle.cert_text.specs.ReadSoFar.{begins_with_p}

-- a presentation is told by the lines of its canonical text
pub canonical_lines-same : (L M : LPresentation) → HasText L → HasText M → canonical_lines L ≡ canonical_lines M → L ≡ M
unfolding canonical_text
canonical_lines-same L M a b e =
    let same : canonical_text L ≡ canonical_text M = ap (λ (ls : List (List ℕ)). text_of_lines ls) e in
    let first : Reads (canonical_text L) L = canonical_texts_read_back L a.names a.presentation a.limits in
    let second : Reads (canonical_text M) M = canonical_texts_read_back M b.names b.presentation b.limits in
    (each_text_reads_or_fails (canonical_text L)).one_presentation L M first (subst (λ (t : List ℕ). Reads t M) (sym same) second)

avoids-all : (c : ℕ) (line : List ℕ) → All (λ b. (b == c) ≡ false) line → avoids c line ≡ true
avoids-all c [] h = refl
avoids-all c (b ∷ line) h =
    rw (All-head (λ d. (d == c) ≡ false) b line h) (avoids-all c line (All-tail (λ d. (d == c) ≡ false) b line h))

written-avoids : (form : List Token → Type 0) (line : List ℕ) → IsWritten form line → avoids 10 line ≡ true
written-avoids form line w = avoids-all 10 line (plain_is_one_line line (line_is_plain w.spelled w.plain))

abbrev IsOneLine : List ℕ → Type 0
IsOneLine line = avoids 10 line ≡ true

module _ {X : Type 0} (P : X → Type 0) where
  each-append : (xs ys : List X) → AllByRecursion P xs → AllByRecursion P ys → AllByRecursion P (xs ++ ys)
  each-append [] ys a b = b
  each-append (x ∷ xs) ys a b = (a.0, each-append xs ys a.1 b)

  each-last : (xs : List X) (x : X) → AllByRecursion P (xs ++ x ∷ []) → P x
  each-last [] x a = a.0
  each-last (y ∷ xs) x a = each-last xs x a.1

relators-one_line : (names : List (List ℕ)) (keyword : List ℕ) (form : List ℤ → List Token → Type 0)
    → ((w : List ℤ) → length w ≤ 65536 → AreWords (length names) (w ∷ []) → IsWritten (form w) (keyword ++ word_text names w))
    → (ws : List (List ℤ)) → AreWords (length names) ws → AreShort ws → AllByRecursion IsOneLine (relator_lines keyword names ws)
relators-one_line names keyword form one [] h short = tt
relators-one_line names keyword form one (w ∷ ws) h short = (
  written-avoids (form w) (keyword ++ word_text names w) (one w (All-head (λ v. length v ≤ 65536) w ws short) (h.0, tt)),
  relators-one_line names keyword form one ws h.1 (All-tail (λ v. length v ≤ 65536) w ws short),
)

endos-one_line : (names : List (List ℕ)) → All IsName names → 1 ≤ length names → (fs : List (List (List ℤ))) → AreEndos (length names) fs
    → All AreShort fs
    → AllByRecursion IsOneLine (endo_lines names fs)
endos-one_line names are some [] h short = tt
endos-one_line names are some (f ∷ fs) h short = (
  written-avoids _ (endo_line names f) (endo-written names are f some h.0 h.1 (All-head AreShort f fs short)),
  endos-one_line names are some fs h.2 (All-tail AreShort f fs short),
)

pub lines-one_line : (L : LPresentation) → HasText L → AllByRecursion IsOneLine (canonical_lines L)
lines-one_line L a = (
  written-avoids _ (generators_line L.names) (generators-written L.names a.names a.limits.some_generator),
  each-append IsOneLine (relator_lines (codes "fixed ") L.names L.fixed)
      (relator_lines (codes "iterated ") L.names L.iterated ++ endo_lines L.names L.endos)
      (relators-one_line L.names (codes "fixed ") _ (λ w short h. fixed-written L.names a.names w h.0 short) L.fixed
      a.presentation.fixed_words a.limits.fixed_letters)
      (each-append IsOneLine (relator_lines (codes "iterated ") L.names L.iterated) (endo_lines L.names L.endos)
      (relators-one_line L.names (codes "iterated ") _ (λ w short h. iterated-written L.names a.names w h.0 short) L.iterated
      a.presentation.iterated_words a.limits.iterated_letters)
      (endos-one_line L.names a.names a.limits.some_generator L.endos a.presentation.endo_words a.limits.endo_letters)),
)

-- the last line of a presentation
pub avoids-item : (L : LPresentation) (before : List (List ℕ)) (line : List ℕ) → HasText L → canonical_lines L ≡ before ++ line ∷ []
    → avoids 10 line ≡ true
avoids-item L before line a e = each-last IsOneLine before line (subst (AllByRecursion IsOneLine) e (lines-one_line L a))

abbrev NoPrime : List ℕ → Type 0
NoPrime line = begins_with_p line ≡ false

relators-no_prime : (names : List (List ℕ)) (byte : ℕ) (keyword : List ℕ) → eqb byte 112 ≡ false → (ws : List (List ℤ))
    → AllByRecursion NoPrime (relator_lines (byte ∷ keyword) names ws)
relators-no_prime names byte keyword other [] = tt
relators-no_prime names byte keyword other (w ∷ ws) = (other, relators-no_prime names byte keyword other ws)

endos-no_prime : (names : List (List ℕ)) (fs : List (List (List ℤ))) → AllByRecursion NoPrime (endo_lines names fs)
endos-no_prime names [] = tt
endos-no_prime names (f ∷ fs) = (refl, endos-no_prime names fs)

pub no_prime-item : (L : LPresentation) (before : List (List ℕ)) (line : List ℕ) → canonical_lines L ≡ before ++ line ∷ []
    → begins_with_p line ≡ false
no_prime-item L before line e = each-last NoPrime before line (subst (AllByRecursion NoPrime) e all) where
  all : AllByRecursion NoPrime (canonical_lines L)
  all = (
    refl,
    each-append NoPrime (relator_lines (codes "fixed ") L.names L.fixed)
        (relator_lines (codes "iterated ") L.names L.iterated ++ endo_lines L.names L.endos)
        (relators-no_prime L.names 102 (codes "ixed ") refl L.fixed)
        (each-append NoPrime (relator_lines (codes "iterated ") L.names L.iterated) (endo_lines L.names L.endos)
        (relators-no_prime L.names 105 (codes "terated ") refl L.iterated) (endos-no_prime L.names L.endos)),
  )
