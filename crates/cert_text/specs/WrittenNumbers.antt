-- Numbers of sources and of tail lines that a text can hold, for the reader's own functions.
use Rattle.std.specs.Prelude.{◌≡◌, ◌<◌, ℕ, List, [], ◌∷◌, ◌++◌}
use Rattle.pq_base.specs.Table.{AllBelow}
use Rattle.pc_presentation.specs.declared.overlap.Overlap.{Overlap}
use Rattle.pc_presentation.specs.declared.overlap.Overlap.TheVariants.{Triple, Left, Right, Own}
use Rattle.derivation_log.specs.declared.source.RowSource.{RowSource}
use Rattle.derivation_log.specs.declared.source.RowSource.TheVariants.{Test, Fixed, Iterated}
use Rattle.derivation_log.specs.Certificates.{TailLine}
use Rattle.cert_text.specs.CertificateText.{pair_text}
use Rattle.cert_text.specs.NumberFronts.{is_no_digit, StartsWell}

-- the numbers of an overlap
abbrev pub overlap_numbers : Overlap → List ℕ
overlap_numbers (Triple k j i) = k ∷ j ∷ i ∷ []
overlap_numbers (Left j i) = j ∷ i ∷ []
overlap_numbers (Right j i) = j ∷ i ∷ []
overlap_numbers (Own i) = i ∷ []

-- the numbers of a source are below 65536, and those of its path below 256
abbrev pub IsWrittenSource : RowSource → Type 0
IsWrittenSource (Test o) = AllBelow 65536 (overlap_numbers o)
IsWrittenSource (Fixed i) = i < 65536
IsWrittenSource (Iterated i s) = (i < 65536) × AllBelow 256 s

-- a number below 65536 with a coefficient below 256
abbrev pub IsSmallPair : ℕ × ℕ → Type 0
IsSmallPair a = (a.0 < 65536) × (a.1 < 256)

abbrev pub AreSmallPairs : List (ℕ × ℕ) → Type 0
AreSmallPairs [] = Unit {0}
AreSmallPairs (a ∷ pairs) = IsSmallPair a × AreSmallPairs pairs

-- a tail line whose numbers are below 65536 and whose coefficients are below 256
pub record IsSmallTail (l : TailLine) : Type 0 where
  pub tail : l.tail < 65536
  pub kept : AreSmallPairs l.kept
  pub sums : AreSmallPairs l.sums

-- neither a digit nor a blank with a pair behind it begins the text
pub record EndsPairs (text : List ℕ) : Type 0 where
  pub no_digit : StartsWell is_no_digit text
  pub no_pair : (a : ℕ × ℕ) (more : List ℕ) → IsSmallPair a → StartsWell is_no_digit more → ¬ (text ≡ 32 ∷ (pair_text a ++ more))
