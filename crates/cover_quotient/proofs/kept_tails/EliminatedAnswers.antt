-- A cover modulo a reduced basis is an answer with rows, and the kept tails come from their sources: a case of covers whose
-- tails become combinations of kept ones.
use Rattle.std.proofs.Common.{◌≡◌, ℕ, ◌<◌, List, length, get_or}
use Rattle.pq_base.specs.Limits.{max_class}
use Rattle.pq_base.specs.Answer.{IsAnswer, class_of}
use Rattle.pq_base.specs.Answer.Definition.{image}
use Rattle.pq_base.specs.EntryWords.{IsSourceOf}
use Rattle.fp_echelon.specs.Span.{AreRows}
use Rattle.fp_echelon.specs.Reduced.{BasisRow, IsReduced}
use Rattle.p_cover.specs.RowedAnswer.{IsRowedAnswer}
use Rattle.p_cover.specs.Covers.{CoverOf}
use Rattle.cover_quotient.specs.Combinations.{TailCombinations, AreKept}
use Rattle.cover_quotient.specs.Kept.{kept_columns, kept_rows, kept_combinations}
use Rattle.cover_quotient.specs.NextAnswer.{kept_sources, cover_modulo, eliminated}
use Rattle.cover_quotient.specs.Defining.{KeptMayBeKept, KeptMayDefine}
use Rattle.cover_quotient.proofs.kept_tails.CoverUnits.{HasUnitRows}
use Rattle.cover_quotient.proofs.kept_tails.KeptRows.{length-kept_rows, kept_rows-are_rows}
use Rattle.cover_quotient.proofs.kept_tails.KeptThemselves.{AreKept-kept_combinations}
use Rattle.cover_quotient.proofs.next_answers.CombinedAnswers.{combined-rowed, source-is, length-sources, combined-answer}

-- what may define a generator may be kept
pub kept-defining : (C : CoverOf) (bs : List BasisRow) → KeptMayDefine C bs → KeptMayBeKept C bs
kept-defining C bs may i d l = (may i d l).kept

module _ (C : CoverOf) (units : HasUnitRows C) (big : 1 < C.answer.presentation.prime) (bs : List BasisRow)
    (reduced : IsReduced C.answer.presentation.prime (length C.sources) bs) where
  abbrev p : ℕ
  p = C.answer.presentation.prime

  abbrev q : ℕ
  q = length C.sources

  abbrev K : TailCombinations
  K = kept_combinations C.answer.presentation.prime (length C.sources) bs

  are : AreRows p (length (kept_columns (length C.sources) bs)) (kept_rows C.answer.presentation.prime (length C.sources) bs)
  are = kept_rows-are_rows p q big bs reduced

  count : length (kept_rows C.answer.presentation.prime (length C.sources) bs) ≡ length C.sources
  count = length-kept_rows p q bs

  kept : AreKept (kept_combinations C.answer.presentation.prime (length C.sources) bs)
  kept = AreKept-kept_combinations p q big bs reduced

  pub modulo-rowed : IsRowedAnswer (cover_modulo C bs)
  modulo-rowed = combined-rowed C K units big are count kept

  pub kept_source-is : (t : ℕ) → t < length (kept_columns (length C.sources) bs)
      → IsSourceOf C.answer (get_or (kept_sources C bs) t (image 0))
  kept_source-is = source-is C K units big are count kept

  pub length-kept_sources : length (kept_sources C bs) ≡ length (kept_columns (length C.sources) bs)
  length-kept_sources = length-sources C K units big are count kept

  pub kept_answer : KeptMayBeKept C bs → class_of C.answer < max_class → IsAnswer (eliminated C bs)
  kept_answer may few = combined-answer C K units big are count kept may few
