-- The lines in front of that of the prime are those of a presentation, or the first of them that makes no presentation of those before it
-- is the fault.
use Rattle.std.proofs.Common.{◌≡◌, ◌<◌, ◌≤◌, ◌+◌, ◌-◌, ℕ, zero, suc, true, false, List, [], ◌∷◌, ◌++◌, get_or, drop, take, length, refl, ap}
use Rattle.std.proofs.Common.{sym, subst, ◌∙◌, append_assoc, append-nil, arith, inl, inr}
use Rattle.std.specs.Prelude.{◌⊎◌}
use Rattle.std.specs.List.{AllByRecursion}
use Rattle.std.proofs.lemmas.Bool.{cases_lt}
use Rattle.std.proofs.lemmas.List.{take-append-drop, length-append, length-take-le, take_all, take_at}
use Rattle.std.proofs.Math.Seq.{take-suc, drop-cons}
use Rattle.pq_base.specs.LPresentation.{LPresentation}
use Rattle.pq_base.specs.Lines.{text_of_lines}
use Rattle.pq_base.proofs.LineLaws.{text_of_lines-append}
use Rattle.lpres_reader.specs.CanonicalText.{canonical_text, canonical_lines}
use Rattle.answer_text.proofs.Splits.{avoids}
use Rattle.cert_text.specs.CertificateText.{HasText}
use Rattle.answer_text.specs.LineByLine.{Leads}
use Rattle.cert_text.specs.CertificatePlaces.{Place, HasForm, IsEnd}
use Rattle.cert_text.specs.CertificatePlaces.Place.{for_generators, in_presentation}
use Rattle.cert_text.specs.CertificatePlaces.HasForm.{generators, item, prime}
use Rattle.cert_text.specs.declared.fault.CertFault.TheVariants.{Line}
use Rattle.cert_text.specs.ReadSoFar.{begins_with_p, GoesOnWithP, IsItemLine, AreItemLines, first_lines, IsCanonical, IsCanonicalTo}
use Rattle.cert_text.specs.ReadSoFar.{IsPresentationRead, IsBadAt}
use Rattle.cert_text.proofs.lines.FirstLines.{first_lines-take, lines-same, one_lines}
use Rattle.cert_text.proofs.lines.WrittenLines.{canonical_text-lines}
use Rattle.cert_text.proofs.lines.PresentationLines.{lines-one_line, no_prime-item, avoids-item}
use Rattle.cert_text.proofs.lines.PresentationLeads.{presentation-leads}
use Rattle.cert_text.proofs.lines.BadLines.{IsBadAt-behind, line-bad, IsBadAt-here}

module _ {X : Type 0} (P : X → Type 0) where
  AllByRecursion-at : (xs : List X) (i : ℕ) (d : X) → AllByRecursion P xs → i < length xs → P (get_or xs i d)
  AllByRecursion-at [] i d a inside = absurd (omega arith)
  AllByRecursion-at (x ∷ xs) zero d a inside = a.0
  AllByRecursion-at (x ∷ xs) (suc i) d a inside = AllByRecursion-at xs i d a.1 (omega arith)

  AllByRecursion-take : (n : ℕ) (xs : List X) → AllByRecursion P xs → AllByRecursion P (take n xs)
  AllByRecursion-take zero xs a = tt
  AllByRecursion-take (suc n) [] a = tt
  AllByRecursion-take (suc n) (x ∷ xs) a = (a.0, AllByRecursion-take n xs a.1)

-- lines are those of a canonical text where their text is one
canonical-lines : (ls : List (List ℕ)) (L : LPresentation) → AllByRecursion (λ l. avoids 10 l ≡ true) ls → HasText L
    → text_of_lines ls ≡ canonical_text L → ls ≡ canonical_lines L
canonical-lines ls L one text e = lines-same ls (canonical_lines L) one (lines-one_line L text) (e ∙ canonical_text-lines L)

-- the bytes in front of what follows the lines are theirs
pub block-lines : (text rest : List ℕ) (count : ℕ) (items : AreItemLines text count rest)
    → take (length text - length rest) text ≡ text_of_lines items.0
block-lines text rest count items =
    let front : List ℕ = text_of_lines items.0 in
    let sizes : length text ≡ length front + length rest = ap (λ (t : List ℕ). length t) items.3 ∙ length-append front rest in
    ap (λ (t : List ℕ). take (length text - length rest) t) items.3 ∙ take_at front rest (length text - length rest) (omega arith)

pub presentation-read : (text lines rest : List ℕ) (count first : ℕ) (L : LPresentation) (items : AreItemLines text count rest)
    → lines ≡ text_of_lines items.0 → HasText L → lines ≡ canonical_text L
    → GoesOnWithP rest → IsPresentationRead text first L rest (first + count)
presentation-read text lines rest count first L items cut has e goes_on =
    let ls : List (List ℕ) = items.0 in
    let are : ls ≡ canonical_lines L = canonical-lines ls L (one_lines ls items.1) has (sym cut ∙ e) in
    let counted : length ls ≡ count = items.2 in
    let as_many : length ls ≡ length (canonical_lines L) = ap (λ (xs : List (List ℕ)). length xs) are in record {
      presentation = has;
      lines = items.3 ∙ ap (λ (xs : List (List ℕ)). text_of_lines xs ++ rest) are;
      numbered = omega arith;
      goes_on = goes_on;
    }

module _ (lines : List ℕ) (ls : List (List ℕ)) (are : AllByRecursion IsItemLine ls) (cut : lines ≡ text_of_lines ls) where
  pub front-lines : (k : ℕ) → k ≤ length ls → first_lines k lines ≡ text_of_lines (take k ls)
  front-lines k h = ap (λ (t : List ℕ). first_lines k t) (cut ∙ sym (append-nil (text_of_lines ls)))
      ∙ first_lines-take k ls [] h (one_lines ls are)

  pub all-lines : (k : ℕ) → k ≡ length ls → first_lines k lines ≡ lines
  all-lines k e = front-lines k (omega arith) ∙ ap (λ (xs : List (List ℕ)). text_of_lines xs) (take_all k ls (omega arith)) ∙ sym cut

  module _ (text rest : List ℕ) (whole : text ≡ text_of_lines ls ++ rest) (k first : ℕ) (to : IsCanonicalTo lines k) where
    -- the first line that makes no presentation of those before it
    inside-bad : k < length ls → IsBadAt for_generators text first (Line (first + k))
    inside-bad inside = by to.lines where
      l : List ℕ
      l = get_or ls k []

      more : List ℕ
      more = text_of_lines (drop (suc k) ls) ++ rest

      split : text ≡ text_of_lines (take k ls) ++ (l ++ 10 ∷ more)
      split =
          whole ∙ ap (λ (xs : List (List ℕ)). text_of_lines xs ++ rest)
          (sym (take-append-drop k ls) ∙ ap (λ (xs : List (List ℕ)). take k ls ++ xs) (drop-cons ls k [] inside))
          ∙ ap (λ (t : List ℕ). t ++ rest) (text_of_lines-append (take k ls) (l ∷ drop (suc k) ls))
          ∙ append_assoc (text_of_lines (take k ls)) (l ++ 10 ∷ text_of_lines (drop (suc k) ls)) rest
          ∙ ap (λ (t : List ℕ). text_of_lines (take k ls) ++ t) (append_assoc l (10 ∷ text_of_lines (drop (suc k) ls)) rest)

      item-line : IsItemLine l
      item-line = AllByRecursion-at IsItemLine ls k [] are inside

      -- the lines up to this one are no presentation's
      no_more : (N : LPresentation) → HasText N → canonical_lines N ≡ take k ls ++ l ∷ [] → ⊥
      no_more N text e = to.no_further (
        N,
        text,
        front-lines (suc k) (omega arith)
            ∙ ap (λ (xs : List (List ℕ)). text_of_lines xs) (take-suc ls k [] inside ∙ sym e) ∙ sym (canonical_text-lines N),
      )

      stuck : (P : Place) → Leads Place HasForm for_generators (take k ls) P → (IsEnd P → ⊥) → ((Q : Place) → HasForm P l Q → ⊥)
          → IsBadAt for_generators text first (Line (first + k))
      stuck P lead unfinished none =
          let count : length (take k ls) ≡ k = length-take-le k ls (omega arith) in
          IsBadAt-behind for_generators P (take k ls) text (l ++ 10 ∷ more) first (first + k) (Line (first + k)) lead split (omega arith)
          (line-bad P (l ++ 10 ∷ more) l more (first + k) refl item-line.0 none unfinished)

      first-line : k ≡ 0 → (Q : Place) → HasForm for_generators l Q → ⊥
      first-line none Q f = by_form l Q refl f where
        by_form : (m : List ℕ) (R : Place) → l ≡ m → HasForm for_generators m R → ⊥
        by_form m R e (generators L line has is) =
            no_more L has (is ∙ ap (λ (n : ℕ). take n ls ++ m ∷ []) (sym none) ∙ ap (λ (x : List ℕ). take k ls ++ x ∷ []) (sym e))

      next-line : (M : LPresentation) → canonical_lines M ≡ take k ls → (Q : Place) → HasForm (in_presentation M) l Q → ⊥
      next-line M before Q f = by_form l M Q before refl f where
        by_form : (m : List ℕ) (L : LPresentation) (R : Place) → canonical_lines L ≡ take k ls → l ≡ m → HasForm (in_presentation L) m R → ⊥
        by_form m L R front e (item L2 N line has is) =
            no_more N has (is ∙ ap (λ (xs : List (List ℕ)). xs ++ m ∷ []) front ∙ ap (λ (x : List ℕ). take k ls ++ x ∷ []) (sym e))
        by_form m L R front e (prime L2 p o) = let bad : true ≡ false = ap begins_with_p (sym e) ∙ item-line.1 in cc

      by : (k ≡ 0) ⊎ IsCanonical (first_lines k lines) → IsBadAt for_generators text first (Line (first + k))
      by (inl none) = stuck for_generators
          (subst (λ (n : ℕ). Leads Place HasForm for_generators (take n ls) for_generators) (sym none) refl) (λ end. end) (first-line none)
      by (inr some) =
          let M : LPresentation = some.0 in
          let before : take k ls ≡ canonical_lines M =
          canonical-lines (take k ls) M (AllByRecursion-take (λ l. avoids 10 l ≡ true) k ls (one_lines ls are)) some.1
          (sym (front-lines k (omega arith)) ∙ some.2) in
          stuck (in_presentation M) (subst (λ (xs : List (List ℕ)). Leads Place HasForm for_generators xs (in_presentation M)) (sym before)
          (presentation-leads M some.1)) (λ end. end) (next-line M (sym before))

-- a line that begins with `p` can't be the first
nothing-bad : (text : List ℕ) (first : ℕ) → GoesOnWithP text → IsBadAt for_generators text first (Line first)
nothing-bad text first goes_on = IsBadAt-here for_generators text first stuck (λ end. end) where
  stuck : (l more : List ℕ) (Q : Place) → HasForm for_generators l Q → text ≡ l ++ 10 ∷ more → ⊥
  stuck l more Q (generators L line has is) e =
      let bad : true ≡ false = sym (goes_on l more (avoids-item L [] l has is) e) ∙ no_prime-item L [] l is in
      cc

pub presentation-bad : (text lines rest : List ℕ) (count k first : ℕ) (items : AreItemLines text count rest) → lines ≡ text_of_lines items.0
    → GoesOnWithP rest
    → ¬ IsCanonical (first_lines count lines) → k ≤ count → IsCanonicalTo lines k → IsBadAt for_generators text first (Line (first + k))
presentation-bad text lines rest count k first items cut goes_on not_all within to =
    let ls : List (List ℕ) = items.0 in
    let counted : length ls ≡ count = items.2 in
    elim (cases_lt k (length ls)) [
      | inl inside ↦ inside-bad lines ls items.1 cut text rest items.3 k first to inside
      | inr all ↦ elim to.lines [
        | inr some ↦
            let same : k ≡ count = omega arith in
            absurd (not_all (subst (λ (n : ℕ). IsCanonical (first_lines n lines)) same some))
        | inl none ↦
            let empty : length ls ≡ 0 = omega arith in
            let here : text ≡ rest = items.3 ∙ ap (λ (xs : List (List ℕ)). text_of_lines xs ++ rest) (no_members ls empty) in
            let line : first ≡ first + k = omega arith in
            subst (λ (n : ℕ). IsBadAt for_generators text first (Line n)) line
            (nothing-bad text first (subst GoesOnWithP (sym here) goes_on))
      ]
    ] where
      no_members : (xs : List (List ℕ)) → length xs ≡ 0 → xs ≡ []
      no_members [] e = refl
      no_members (x ∷ xs) e = absurd (omega arith)
