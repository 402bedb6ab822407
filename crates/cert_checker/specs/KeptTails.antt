-- The tails that lines keep, and what each tail becomes.
-- From: the elimination of tails in Newman and O'Brien's method.
use Rattle.std.specs.Prelude.{◌≡◌, ◌<◌, ℕ, true, not, List, get_or, length, map, filter}
use Rattle.pq_base.specs.Canonical.{numbers_from}
use Rattle.cover_quotient.specs.Kept.{is_listed, entries_at}
use Rattle.derivation_log.specs.Certificates.{TailLine}
use Rattle.derivation_log.specs.CertificateRuns.{row_of_pairs, tail_row}

-- the tails of lines
abbrev pub tails_of : List TailLine → List ℕ
tails_of lines = map (λ (l : TailLine). l.tail) lines

-- the tails, of so many, without a line
abbrev pub kept_tails : ℕ → List TailLine → List ℕ
kept_tails width lines = filter (λ t. not (is_listed t (tails_of lines))) (numbers_from 1 width)

-- what a tail becomes: a row over the kept ones
abbrev pub kept_row : ℕ → List TailLine → ℕ → List ℕ
kept_row width lines t = entries_at (kept_tails width lines) (tail_row width lines t)

-- the first line of a tail
pub record IsLineOf (lines : List TailLine) (t : ℕ) (l : TailLine) : Type 0 where
  pub place : ℕ
  pub inside : place < length lines
  pub at : l ≡ get_or lines place l
  pub listed : is_listed t (tails_of lines) ≡ true
  pub row : (width : ℕ) → tail_row width lines t ≡ row_of_pairs width l.kept
