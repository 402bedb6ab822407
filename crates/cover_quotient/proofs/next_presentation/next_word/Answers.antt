use Rattle.std.proofs.Common.{◌≡◌, ◌++◌, ℕ, Option, List, IfOk, ap, ap₂, sym, ◌∙◌, subst}
use Rattle.pc_presentation.specs.declared.syllable.Syllable.{Syllable}
use Rattle.pc_presentation.specs.Pcp.{TailedPresentation, IsTailedPresentation, side_word, tail_of}
use Rattle.cover_quotient.proofs.next_answers.CombinedTails.{tail_part, cover_part, cover_rows}
use Rattle.cover_quotient.proofs.next_answers.NextSides.{next_word-is}
use Rattle.cover_quotient.proofs.next_presentation.next_word.Goals as goal

pub returns : goal.returns
returns c =
    let C = c.args.cover.now in
    let K = c.args.combinations.now in
    let r = c.args.r in
    let pcp = c.pcp-pcp.ensures.presentation in
    let start : c.word.result.now ≡ side_word C.answer.presentation r =
    c.word.ensures ∙ ap (λ (T : TailedPresentation). side_word T.presentation r) pcp in
    let rank : c.rank.result ≡ C.answer.presentation.rank =
    c.rank.ensures.rank ∙ ap (λ (T : TailedPresentation). T.presentation.rank) pcp in
    let is = subst IsTailedPresentation pcp c.rank.ensures.presentation in
    let rows = cover_rows C K c.requires.combinations c.kept-combinations.ensures.combinations in
    subst (λ (w : List Syllable). IfOk c.with_tail.result (λ v. v.items ≡ w))
    (ap₂ (λ (w : List Syllable) (v : List Syllable). w ++ v) start
    (ap₂ (λ (n : ℕ) (t : Option ℕ). tail_part K n t) rank (c.tail.ensures ∙ ap (λ (T : TailedPresentation). tail_of T r) pcp)
    ∙ cover_part C K c.requires.combinations C.answer.presentation.rank _)
    ∙ sym (next_word-is C K is rows r c.requires.relation))
    c.with_tail.ensures
