use Rattle.std.proofs.Common.{◌≡◌, ◌-◌, ℕ, List, take, length, sym, ◌∙◌}
use Rattle.pq_base.specs.LPresentation.{LPresentation}
use Rattle.lpres_reader.specs.CanonicalText.{canonical_text}
use Rattle.answer_text.proofs.DraftAdded.{IfSome-at}
use Rattle.answer_text.proofs.texts.PieceTexts.{IfNone-at}
use Rattle.cert_text.specs.CertificateText.{HasText}
use Rattle.cert_text.proofs.lines.PresentationsRead.{block-lines, presentation-read, all-lines, presentation-bad}
use Rattle.cert_text.proofs.presentation_reading.read_presentation.Goals as goal

pub returns-in-Some-clause-read : goal.returns-in-Some-clause-read
returns-in-Some-clause-read c =
    let text : List ℕ = c.args.text.now in
    let rest : List ℕ = c.behind_items-count.result.1.now in
    let count : ℕ = c.behind_items-count.result.0 in
    let lines : List ℕ = take (length text - length rest) text in
    let found = IfSome-at c.in_ok-pres.field-0 c.in-Some.pres (λ (L : LPresentation). HasText L × (lines ≡ canonical_text L)) c.in-Some.is
    c.in_ok-pres.ensures.some in
    presentation-read text lines rest count c.args.first c.in-Some.pres c.behind_items-count.ensures.lines
    (block-lines text rest count c.behind_items-count.ensures.lines) found.0 found.1
    c.behind_items-count.ensures.goes_on

pub canonical_lines-requires-clause-not_all : goal.canonical_lines-requires-clause-not_all
canonical_lines-requires-clause-not_all c some =
    let text : List ℕ = c.args.text.now in
    let rest : List ℕ = c.behind_items-count.result.1.now in
    let count : ℕ = c.behind_items-count.result.0 in
    let lines : List ℕ = take (length text - length rest) text in
    let items = c.behind_items-count.ensures.lines in
    let all = all-lines lines items.0 items.1 (block-lines text rest count items) count (sym items.2) in
    IfNone-at c.in_ok-pres.field-0 ((L : LPresentation) → HasText L → ¬ (lines ≡ canonical_text L)) c.in_default.is
    c.in_ok-pres.ensures.none some.0 some.1 (sym all ∙ some.2)

pub returns-clause-err : goal.returns-clause-err
returns-clause-err c =
    let text : List ℕ = c.args.text.now in
    let rest : List ℕ = c.behind_items-count.result.1.now in
    let count : ℕ = c.behind_items-count.result.0 in
    let lines : List ℕ = take (length text - length rest) text in
    let items = c.behind_items-count.ensures.lines in
    let all = all-lines lines items.0 items.1 (block-lines text rest count items) count (sym items.2) in
    presentation-bad text lines rest count c.in_ok-canonical_lines.field-0 c.args.first items
    (block-lines text rest count items) c.behind_items-count.ensures.goes_on
    (λ some. IfNone-at c.in_ok-pres.field-0 ((L : LPresentation) → HasText L → ¬ (lines ≡ canonical_text L)) c.in_default.is
    c.in_ok-pres.ensures.none some.0 some.1 (sym all ∙ some.2))
    c.in_ok-canonical_lines.ensures.within c.in_ok-canonical_lines.ensures.lines
