-- What the parts of a certificate have to keep so that it has a text: numbers that are in range and rise, coefficients that aren't 0,
-- and lines that name tails without a line and sources of their step.
-- From: this project's own text of certificates.
use Rattle.std.specs.Prelude.{◌≡◌, ◌≤◌, ◌⊎◌, ℕ, suc, Bool, true, false, not, leb, ltb, ◌&&◌, List, [], ◌∷◌, length, map}
use Rattle.pq_base.specs.Limits.{max_class}
use Rattle.pq_base.specs.LPresentation.{LPresentation}
use Rattle.pq_base.specs.Answer.{Answer}
use Rattle.pc_presentation.specs.declared.overlap.Overlap.{Overlap}
use Rattle.pc_presentation.specs.declared.overlap.Overlap.TheVariants.{Triple, Left, Right, Own}
use Rattle.cover_quotient.specs.Kept.{is_listed}
use Rattle.derivation_log.specs.declared.source.RowSource.{RowSource}
use Rattle.derivation_log.specs.declared.source.RowSource.TheVariants as source
use Rattle.derivation_log.specs.declared.source.Run.{Run}
use Rattle.derivation_log.specs.declared.source.Run.TheVariants.{Iterated, Whole}
use Rattle.derivation_log.specs.Certificates.{TailLine, StepLines, Certificate, certificate_of, has_two_runs}

-- the greatest number of a generator, a tail or a source that may be written
abbrev pub max_number : ℕ
max_number = 65535

-- a number from a least one on that may be written
abbrev pub is_number_from : ℕ → ℕ → Bool
is_number_from least n = leb least n && leb n max_number

-- numbers that rise from a least one on, each with a coefficient from 1 to p - 1
abbrev pub are_pairs : ℕ → ℕ → List (ℕ × ℕ) → Bool
are_pairs p least [] = true
are_pairs p least (a ∷ pairs) = is_number_from least a.0 && (leb 1 a.1 && (ltb a.1 p && are_pairs p (suc a.0) pairs))

-- each number is at most n
abbrev pub are_at_most : ℕ → List (ℕ × ℕ) → Bool
are_at_most n [] = true
are_at_most n (a ∷ pairs) = leb a.0 n && are_at_most n pairs

-- a tail has one of these lines
abbrev pub has_line : List TailLine → ℕ → Bool
has_line lines t = is_listed t (map (λ (l : TailLine). l.tail) lines)

-- each number is that of a tail below t that has no line
abbrev pub are_kept_below : List TailLine → ℕ → List (ℕ × ℕ) → Bool
are_kept_below lines t [] = true
are_kept_below lines t (a ∷ pairs) = ltb a.0 t && (not (has_line lines a.0) && are_kept_below lines t pairs)

-- the numbers of a line among others in a step of n sources: it names tails below its own that have no line, and some sources
abbrev pub is_tail_line : ℕ → ℕ → List TailLine → TailLine → Bool
is_tail_line p n lines l =
    are_pairs p 1 l.kept && (are_kept_below lines l.tail l.kept
    && (ltb 0 (length l.sums) && (are_pairs p 1 l.sums && are_at_most n l.sums)))

-- lines whose tails rise from a least one on
abbrev pub are_tail_lines : ℕ → ℕ → List TailLine → ℕ → List TailLine → Bool
are_tail_lines p n lines least [] = true
are_tail_lines p n lines least (l ∷ ls) =
    is_number_from least l.tail && (is_tail_line p n lines l && are_tail_lines p n lines (suc l.tail) ls)

-- the tails of lines rise from a least one on
abbrev pub AreRising : ℕ → List TailLine → Type 0
AreRising least [] = Unit {0}
AreRising least (l ∷ ls) = (least ≤ l.tail) × AreRising (suc l.tail) ls

-- the least tail that may have a line behind lines from a least one on: that above the last of them
abbrev pub least_behind : ℕ → List TailLine → ℕ
least_behind least [] = least
least_behind least (l ∷ ls) = least_behind (suc l.tail) ls

-- numbers of generators that may be written
abbrev pub is_written_overlap : Overlap → Bool
is_written_overlap (Triple k j i) = is_number_from 1 k && (is_number_from 1 j && is_number_from 1 i)
is_written_overlap (Left j i) = is_number_from 1 j && is_number_from 1 i
is_written_overlap (Right j i) = is_number_from 1 j && is_number_from 1 i
is_written_overlap (Own i) = is_number_from 1 i

-- a number from 1 to n
abbrev pub is_one_of : ℕ → ℕ → Bool
is_one_of n i = leb 1 i && leb i n

-- each entry is a number from 1 to n
abbrev pub are_each_one_of : ℕ → List ℕ → Bool
are_each_one_of n [] = true
are_each_one_of n (e ∷ s) = is_one_of n e && are_each_one_of n s

-- a source that may be named in a run: relators and endomorphisms are in range, and the run over the iterated part names no fixed
-- relator
abbrev pub is_source_in : LPresentation → Run → RowSource → Bool
is_source_in L run (source.Test o) = is_written_overlap o
is_source_in L Iterated (source.Fixed i) = false
is_source_in L Whole (source.Fixed i) = is_one_of (length L.fixed) i
is_source_in L run (source.Iterated i s) = is_one_of (length L.iterated) i && are_each_one_of (length L.endos) s

abbrev pub are_sources_in : LPresentation → Run → List RowSource → Bool
are_sources_in L run [] = true
are_sources_in L run (s ∷ ss) = is_source_in L run s && are_sources_in L run ss

abbrev pub are_steps_in : LPresentation → ℕ → Run → List StepLines → Bool
are_steps_in L p run [] = true
are_steps_in L p run (s ∷ ss) =
    are_sources_in L run s.sources && (are_tail_lines p (length s.sources) s.tails 1 s.tails && are_steps_in L p run ss)

-- the conditions of a certificate
pub record IsCertificate (c : Certificate) : Type 0 where
  pub version : (c.version ≡ 1) ⊎ (c.version ≡ 2)
  pub class_from_one : 1 ≤ c.class
  pub class_limit : c.class ≤ max_class
  pub prime : c.answer.presentation.prime ≡ c.prime
  pub names : c.answer.names ≡ c.presentation.names
  pub one_run : has_two_runs c.presentation ≡ false → c.iterated ≡ []
  pub iterated_steps : are_steps_in c.presentation c.prime Iterated c.iterated ≡ true
  pub whole_steps : are_steps_in c.presentation c.prime Whole c.whole ≡ true

-- a certificate of version 1
abbrev pub first_version : LPresentation → ℕ → ℕ → List StepLines → List StepLines → Answer → Certificate
first_version L p c iterated whole A = certificate_of 1 L p c iterated whole A
