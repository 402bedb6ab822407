-- The right sides of the next answer's presentation: those of the answer's generators are followed by what becomes of their
-- tails, and those of new generators are empty.
use Rattle.std.proofs.Common.{◌≡◌, ℕ, suc, ◌+◌, ◌-◌, ◌<◌, ◌≤◌, List, ◌++◌, length, replicate, ap, sym, ◌∙◌, arith}
use Rattle.pq_base.specs.Presentation.{Presentation, IsPresentation, power_side, commutator_side}
use Rattle.fp_echelon.specs.Span.{AreRows}
use Rattle.pc_presentation.specs.declared.relation.Relation.{Relation}
use Rattle.pc_presentation.specs.declared.relation.Relation.TheVariants.{Power, Commutator}
use Rattle.pc_presentation.specs.Syllable.{syllables_of}
use Rattle.pc_presentation.specs.Relation.{IsRelation, side_start}
use Rattle.pc_presentation.specs.Pcp.{IsTailedPresentation, right_side, side_word, tail_of, row_of}
use Rattle.pc_presentation.specs.Rowed.{RowedPresentation, IsRowed}
use Rattle.pc_presentation.specs.Tailed.{rowed_presentation}
use Rattle.pq_base.proofs.PrimeLaws.{offered-two}
use Rattle.pc_presentation.proofs.rows.FlatLaws.{power_side-flat, power_side-tail, commutator_side-flat, commutator_side-tail}
use Rattle.pc_presentation.proofs.rows.FlatLaws.{flat-presentation}
use Rattle.pc_presentation.proofs.presentations.SideLaws.{right_side-count}
use Rattle.pc_presentation.proofs.rows.TailRowLaws.{entry_at-tail_rows}
use Rattle.pc_presentation.proofs.quotients.TailedLaws.{rowed_presentation-is}
use Rattle.p_cover.specs.Covers.{CoverOf, cover_presentation}
use Rattle.cover_quotient.specs.Carried.{carried, carried_presentation}
use Rattle.cover_quotient.specs.Combinations.{TailCombinations}
use Rattle.cover_quotient.specs.NextAnswer.{combined_answer}
use Rattle.cover_quotient.proofs.carried_rows.CarriedPresentations.{power_row-carried, commutator_row-carried, carried-rowed}
use Rattle.pc_presentation.proofs.presentations.SyllableParts.{syllables_of-append}

module _ (C : CoverOf) (K : TailCombinations) (is : IsTailedPresentation (cover_presentation C))
    (are : AreRows C.answer.presentation.prime (length K.kept) K.rows) where
  abbrev p : ℕ
  p = C.answer.presentation.prime

  abbrev n : ℕ
  n = C.answer.presentation.rank

  abbrev q : ℕ
  q = length K.kept

  abbrev rows : List (List ℕ)
  rows = K.rows

  abbrev Z : RowedPresentation
  Z = rowed_presentation (cover_presentation C)

  abbrev E : Presentation
  E = (combined_answer C K).presentation

  prime-two : 1 < C.answer.presentation.prime
  prime-two = let h = offered-two C.answer.presentation.prime is.prime in omega arith

  Z-rowed : IsRowed (rowed_presentation (cover_presentation C))
  Z-rowed = rowed_presentation-is (cover_presentation C) is

  pub carried-is_rowed : IsRowed (carried_presentation (length K.kept) K.rows (rowed_presentation (cover_presentation C)))
  carried-is_rowed = carried-rowed Z Z-rowed (omega (arith, prime-two)) q rows are

  pub next-presentation : IsPresentation (combined_answer C K).presentation
  next-presentation = flat-presentation (carried_presentation q rows Z) carried-is_rowed (omega (arith, prime-two))

  -- what becomes of the tail of a relation
  abbrev pub new_row : Relation → List ℕ
  new_row r = carried C.answer.presentation.prime (length K.kept) K.rows (row_of (length C.sources) (tail_of (cover_presentation C) r))

  one_on : (i : ℕ) → 1 ≤ i → suc (i - 1) ≡ i
  one_on i h = omega arith

  -- the relations of the answer's generators
  pub right_side-old : (r : Relation) → IsRelation C.answer.presentation.rank r
      → right_side (combined_answer C K).presentation r ≡ right_side C.answer.presentation r ++ new_row r
  right_side-old (Power i) h =
      power_side-flat (carried_presentation q rows Z) carried-is_rowed (i - 1) (omega arith)
      ∙ ap (λ (x : List ℕ). power_side C.answer.presentation (i - 1) ++ x)
      (power_row-carried Z Z-rowed (omega (arith, prime-two)) q rows are (i - 1) (omega arith)
      ∙ ap (carried p q rows) (entry_at-tail_rows (cover_presentation C) is (Power i) h))
  right_side-old (Commutator j i) h =
      commutator_side-flat (carried_presentation q rows Z) carried-is_rowed (j - 1) (i - 1) (omega arith)
      ∙ ap (λ (x : List ℕ). commutator_side C.answer.presentation (j - 1) (i - 1) ++ x)
      (commutator_row-carried Z Z-rowed (omega (arith, prime-two)) q rows are (j - 1) (i - 1) (omega arith) (omega arith)
      ∙ ap (carried p q rows) (entry_at-tail_rows (cover_presentation C) is (Commutator j i) h))

  -- and of new ones
  pub right_side-new : (r : Relation) → IsRelation (combined_answer C K).presentation.rank r → C.answer.presentation.rank < side_start r
      → right_side (combined_answer C K).presentation r ≡ replicate ((combined_answer C K).presentation.rank - side_start r) 0
  right_side-new (Power i) h new =
      let t : ℕ = i - 1 - n in
      let place : n + t ≡ i - 1 = omega arith in
      let rest : suc t + (n + q - i) ≡ q = omega arith in
      ap (power_side E) (sym place) ∙ power_side-tail (carried_presentation q rows Z) carried-is_rowed t (n + q - i) rest
  right_side-new (Commutator j i) h new =
      let t : ℕ = j - 1 - n in
      let place : n + t ≡ j - 1 = omega arith in
      let rest : suc t + (n + q - j) ≡ q = omega arith in
      ap (λ (m : ℕ). commutator_side E m (i - 1)) (sym place)
      ∙ commutator_side-tail (carried_presentation q rows Z) carried-is_rowed t (n + q - j) (i - 1) rest (omega arith)

  -- as sparse words
  pub next_word-is : (r : Relation) → IsRelation C.answer.presentation.rank r
      → side_word (combined_answer C K).presentation r
      ≡ side_word C.answer.presentation r ++ syllables_of C.answer.presentation.rank (new_row r)
  next_word-is r h =
      ap (syllables_of (side_start r)) (right_side-old r h)
      ∙ syllables_of-append (side_start r) (right_side C.answer.presentation r) (new_row r)
      ∙ ap (λ (m : ℕ). side_word C.answer.presentation r ++ syllables_of m (new_row r))
      (right_side-count C.answer.presentation is.presentation r h)
