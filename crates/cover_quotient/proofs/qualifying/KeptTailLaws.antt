-- The laws of kept tails: at class 0 they are images, and later they come from qualifying relations with empty words.
use Rattle.std.proofs.Common.{◌≡◌, ℕ, suc, ◌-◌, ◌<◌, not, ℤ, List, [], ◌∷◌, length, get_or, map, sym, subst, arith}
use Rattle.std.specs.List.{All}
use Rattle.std.proofs.lemmas.List.{get_or_default}
use Rattle.std.proofs.lemmas.List.Elements.{All-map, All-filter}
use Rattle.pq_base.specs.Table.{AllBelow, value}
use Rattle.pq_base.specs.Presentation.{IsNormal}
use Rattle.pq_base.specs.Joined.{IsConsistent}
use Rattle.pq_base.specs.Answer.{Answer, Definition as Source, class_of}
use Rattle.pq_base.specs.Answer.Definition.{image}
use Rattle.pq_base.specs.Canonical.{is_among, preferred, want_order, numbers_from}
use Rattle.pq_base.proofs.tables.TableLaws.{value-below}
use Rattle.fp_echelon.specs.Reduced.{BasisRow}
use Rattle.pc_presentation.specs.Rowed.{flat}
use Rattle.pc_presentation.specs.Pcp.{unit_row}
use Rattle.pc_presentation.specs.NormalTable.{NormalWordsAreATable, generator_numbers}
use Rattle.pq_base.proofs.PrimeLaws.{offered-two}
use Rattle.p_cover.specs.RowedAnswer.{RowedAnswer, IsRowedAnswer, rowed, rowed_images}
use Rattle.p_cover.specs.Covers.{CoverOf, all_sources}
use Rattle.cover_quotient.specs.FittingLaws.{CoverFits}
use Rattle.cover_quotient.specs.Kept.{kept_columns}
use Rattle.cover_quotient.specs.NextAnswer.{kept_sources, cover_modulo}
use Rattle.cover_quotient.specs.KeptTailLaws.{flat_table, image_elements, KeptImagesMayDefine, KeptTailsMayDefine}
use Rattle.cover_quotient.specs.Defining.{MayDefine}
use Rattle.cover_quotient.proofs.next_answers.AnswerLaws.{quotients_are_rowed_answers, next_answers_are_consistent}
use Rattle.cover_quotient.proofs.carried_rows.CarriedRows.{normal_from_row}
use Rattle.cover_quotient.proofs.fitting.FittingLaws.{covers_fit}
use Rattle.cover_quotient.proofs.kept_tails.FirstSteps.{first_tails_may}
use Rattle.cover_quotient.proofs.kept_tails.KeptColumns.{kept_at}
use Rattle.cover_quotient.proofs.kept_tails.KeptTails.{may_define, kept-source_of, kept-row, kept-qualifies}
use Rattle.cover_quotient.proofs.qualifying.QualifyingRows.{qualifying-are_rows}
use Rattle.cover_quotient.proofs.qualifying.QualifyingSpan.{flat_words_are_a_table, row-in_span}
use Rattle.cover_quotient.proofs.carried_rows.UnitRows.{IsRow-unit_row}

-- what holds of the source of each kept tail holds of the kept sources
all-kept : (C : CoverOf) (bs : List BasisRow) (P : Source → Type 0)
    → ((i : ℕ) → i < length (kept_columns (length C.sources) bs)
    → P (get_or C.sources (get_or (kept_columns (length C.sources) bs) i 0 - 1) (image 0)))
    → All P (kept_sources C bs)
all-kept C bs P h =
    All-map P (λ (c : ℕ). get_or C.sources (c - 1) (image 0)) (kept_columns (length C.sources) bs)
    (λ i d l.
    subst (λ (c : ℕ). P (get_or C.sources (c - 1) (image 0))) (get_or_default (kept_columns (length C.sources) bs) i 0 d l) (h i l))

pub kept_images_may_define : KeptImagesMayDefine
kept_images_may_define C bs basis e = first_tails_may C bs e basis.cover.sources

-- values of words are elements
values-below : (Y : RowedAnswer) (t : NormalWordsAreATable (flat (rowed Y))) (ws : List (List ℤ))
    → AllBelow (flat_table Y).size (map (value (flat_table Y) (generator_numbers (flat (rowed Y)))) ws)
values-below Y t [] = tt
values-below Y t (w ∷ ws) = (value-below (flat_table Y) t.group (generator_numbers (flat (rowed Y))) t.generators w, values-below Y t ws)

pub kept_tails_may_define : KeptTailsMayDefine
kept_tails_may_define C bs push holds some ready fits left =
    let basis = holds.over in
    let A : Answer = C.answer in
    let p : ℕ = C.answer.presentation.prime in
    let k : ℕ = class_of C.answer in
    let s : ℕ = length (kept_columns (length C.sources) bs) in
    let big = offered-two C.answer.presentation.prime basis.prime in
    let Y : RowedAnswer = cover_modulo C bs in
    let is : IsRowedAnswer (cover_modulo C bs) = quotients_are_rowed_answers C bs basis in
    let consistent : IsConsistent (flat (rowed (cover_modulo C bs))) = next_answers_are_consistent C bs push holds in
    let t : NormalWordsAreATable (flat (rowed (cover_modulo C bs))) = flat_words_are_a_table Y is big consistent in
    let f : List ℕ = image_elements (cover_modulo C bs) in
    let below : AllBelow (flat_table (cover_modulo C bs)).size (image_elements (cover_modulo C bs)) = values-below Y t (rowed_images Y) in
    let cover : CoverFits (flat_table (cover_modulo C bs)) (image_elements (cover_modulo C bs)) (class_of C.answer) C =
    covers_fit (flat_table Y) f k C
    (record { group = t.group; elements = below; cover = basis.cover; prime = basis.prime; fits = fits; left_out = left }) in
    all-kept C bs (MayDefine A k)
    (λ i l.
    let at = kept_at (length C.sources) bs i l in
    let low = at.first in
    let high = at.last in
    let c : ℕ = get_or (kept_columns (length C.sources) bs) i 0 in
    let d : Source = get_or C.sources (get_or (kept_columns (length C.sources) bs) i 0 - 1) (image 0) in
    let source = kept-source_of C bs basis big i l in
    let normal = subst (λ (x : List ℕ). IsNormal C.answer.presentation.prime (length (kept_columns (length C.sources) bs)) x)
    (sym (kept-row C bs basis big i l)) (normal_from_row p s (unit_row s (suc i)) (IsRow-unit_row p s (suc i) big)) in
    may_define A k some ready d source
    (kept-qualifies C bs basis big some (qualifying-are_rows Y is k) i l
    (row-in_span Y is big consistent k some ready d source normal (cover.tails (c - 1) (omega arith)))))
