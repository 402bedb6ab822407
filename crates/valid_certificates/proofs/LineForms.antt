-- What the form of the tail lines of a step says of a line: its coefficients are residues, and it names no tail from its own on, and
-- none that has a line.
use Rattle.std.proofs.Common.{◌≡◌, ◌<◌, ◌≤◌, ℕ, suc, Bool, true, false, not, leb, ltb, eqb, ◌&&◌, List, [], ◌∷◌, length, refl, ap, ◌∙◌}
use Rattle.std.proofs.Common.{arith}
use Rattle.std.proofs.lemmas.Bool.{and_parts, cond_both, eqb-true, leb-true, ltb-true}
use Rattle.derivation_log.specs.Certificates.{TailLine}
use Rattle.derivation_log.specs.CertificateForms.{max_number, is_number_from, are_pairs, are_at_most, has_line, are_kept_below}
use Rattle.derivation_log.specs.CertificateForms.{is_tail_line, are_tail_lines}
use Rattle.derivation_log.specs.CertificateRuns.{coefficient_in}

-- a line among others
pub record IsLineAmong (p : ℕ) (lines : List TailLine) (l : TailLine) : Type 0 where
  pub first : 1 ≤ l.tail
  pub below : (t : ℕ) → coefficient_in l.kept t < p
  pub before : (t : ℕ) → l.tail ≤ t → coefficient_in l.kept t ≡ 0
  pub unlisted : (t : ℕ) → has_line lines t ≡ true → coefficient_in l.kept t ≡ 0
  pub sums : (t : ℕ) → coefficient_in l.sums t < p

-- coefficients
pairs-below : (p least : ℕ) (pairs : List (ℕ × ℕ)) → 0 < p → are_pairs p least pairs ≡ true → (t : ℕ) → coefficient_in pairs t < p
pairs-below p least [] some form t = some
pairs-below p least (a ∷ pairs) some form t =
    let tests = and_parts (is_number_from least a.0) (leb 1 a.1 && (ltb a.1 p && are_pairs p (suc a.0) pairs)) form in
    let small = and_parts (ltb a.1 p) (are_pairs p (suc a.0) pairs)
    (and_parts (leb 1 a.1) (ltb a.1 p && are_pairs p (suc a.0) pairs) tests.1).1 in
    cond_both (eqb a.0 t) a.1 (coefficient_in pairs t) (λ (x : ℕ). x < p) (λ here. ltb-true a.1 p small.0)
    (λ other. pairs-below p (suc a.0) pairs some small.1 t)

no_more : (b : Bool) → not b ≡ true → b ≡ true → ⊥
no_more true e h = cc
no_more false e h = cc

module _ (lines : List TailLine) (u : ℕ) where
  kept-before : (pairs : List (ℕ × ℕ)) → are_kept_below lines u pairs ≡ true → (t : ℕ) → u ≤ t → coefficient_in pairs t ≡ 0
  kept-before [] form t l = refl
  kept-before (a ∷ pairs) form t l =
      let tests = and_parts (ltb a.0 u) (not (has_line lines a.0) && are_kept_below lines u pairs) form in
      let small = ltb-true a.0 u tests.0 in
      let rest = and_parts (not (has_line lines a.0)) (are_kept_below lines u pairs) tests.1 in
      cond_both (eqb a.0 t) a.1 (coefficient_in pairs t) (λ (x : ℕ). x ≡ 0)
      (λ here. let same : a.0 ≡ t = eqb-true a.0 t here in absurd (omega (arith, small, same, l)))
      (λ other. kept-before pairs rest.1 t l)

  kept-unlisted : (pairs : List (ℕ × ℕ)) → are_kept_below lines u pairs ≡ true → (t : ℕ) → has_line lines t ≡ true
      → coefficient_in pairs t ≡ 0
  kept-unlisted [] form t listed = refl
  kept-unlisted (a ∷ pairs) form t listed =
      let tests = and_parts (ltb a.0 u) (not (has_line lines a.0) && are_kept_below lines u pairs) form in
      let rest = and_parts (not (has_line lines a.0)) (are_kept_below lines u pairs) tests.1 in
      cond_both (eqb a.0 t) a.1 (coefficient_in pairs t) (λ (x : ℕ). x ≡ 0)
      (λ here. absurd (no_more (has_line lines a.0) rest.0 (ap (has_line lines) (eqb-true a.0 t here) ∙ listed)))
      (λ other. kept-unlisted pairs rest.1 t listed)

module _ (p n : ℕ) (some : 0 < p) (lines : List TailLine) where
  line-is : (l : TailLine) → 1 ≤ l.tail → is_tail_line p n lines l ≡ true → IsLineAmong p lines l
  line-is l first form =
      let kept = and_parts (are_pairs p 1 l.kept) (are_kept_below lines l.tail l.kept
      && (ltb 0 (length l.sums) && (are_pairs p 1 l.sums && are_at_most n l.sums))) form in
      let rest = and_parts (are_kept_below lines l.tail l.kept)
      (ltb 0 (length l.sums) && (are_pairs p 1 l.sums && are_at_most n l.sums)) kept.1 in
      let sums = and_parts (ltb 0 (length l.sums)) (are_pairs p 1 l.sums && are_at_most n l.sums) rest.1 in
      let last = and_parts (are_pairs p 1 l.sums) (are_at_most n l.sums) sums.1 in
      record {
        first = first;
        below = pairs-below p 1 l.kept some kept.0;
        before = kept-before lines l.tail l.kept rest.0;
        unlisted = kept-unlisted lines l.tail l.kept rest.0;
        sums = pairs-below p 1 l.sums some last.0;
      }

  -- the first of lines that rise from a least number on, and the others, which rise from the next number on
  pub record FirstLine (least : ℕ) (l : TailLine) (ls : List TailLine) : Type 0 where
    pub from : least ≤ l.tail
    pub line : IsLineAmong p lines l
    pub others : are_tail_lines p n lines (suc l.tail) ls ≡ true

  pub first_line : (least : ℕ) (l : TailLine) (ls : List TailLine) → 1 ≤ least → are_tail_lines p n lines least (l ∷ ls) ≡ true
      → FirstLine least l ls
  first_line least l ls one form =
      let tests = and_parts (is_number_from least l.tail) (is_tail_line p n lines l && are_tail_lines p n lines (suc l.tail) ls) form in
      let number = and_parts (leb least l.tail) (leb l.tail max_number) tests.0 in
      let rest = and_parts (is_tail_line p n lines l) (are_tail_lines p n lines (suc l.tail) ls) tests.1 in
      let from = leb-true least l.tail number.0 in
      record { from = from; line = line-is l (omega (arith, from, one)) rest.0; others = rest.1 }
