use Rattle.std.proofs.Common.{◌≡◌, ◌++◌, ◌<◌, map, ap, sym, ◌∙◌, subst, arith}
use Rattle.std.specs.Prelude.{All}
use Rattle.pq_base.specs.Answer.{Answer, IsAnswer}
use Rattle.pc_presentation.specs.Definition.{definition_of}
use Rattle.pc_presentation.specs.Parts.{words_of}
use Rattle.cover_quotient.specs.NextAnswer.{sources_at, combined_answer}
use Rattle.cover_quotient.specs.NextParts.{IsPlace}
use Rattle.cover_quotient.proofs.kept_tails.CoverUnits.{cover-units}
use Rattle.cover_quotient.proofs.next_answers.CombinedTails.{cover_rows}
use Rattle.cover_quotient.proofs.next_answers.CombinedAnswers.{combined-answer, kept-places}
use Rattle.cover_quotient.proofs.next_answers.NextImages.{parts-answer, parts-fit}
use Rattle.cover_quotient.proofs.next_answer.next_answer.Goals as goal

pub next_definitions-requires : goal.next_definitions-requires
next_definitions-requires c =
    subst (All (IsPlace c.args.cover.now.sources)) (sym c.kept.ensures.kept)
    (kept-places c.args.cover.now c.args.combinations.now c.requires.combinations.count c.requires.kept)

pub unreachable-requires : goal.unreachable-requires
unreachable-requires c =
    let C = c.args.cover.now in
    let K = c.args.combinations.now in
    let A = combined_answer C K in
    let combinations = c.kept.ensures.combinations in
    let prime = combinations.prime in
    let same = c.requires.combinations.prime in
    let big : 1 < C.answer.presentation.prime = omega arith in
    let is : IsAnswer A =
    combined-answer C K (cover-units C c.pcp-cover.ensures.cover big) big (cover_rows C K c.requires.combinations combinations)
    c.requires.combinations.count c.requires.kept c.requires.sources c.requires.class in
    let names : c.in_ok-names.names.items ≡ A.names =
    c.in_ok-names.ensures ∙ c.names.ensures ∙ ap (λ (a : Answer). a.names) c.answer.ensures in
    let definitions : map definition_of c.in_ok-definitions.definitions.items ≡ A.definitions =
    c.in_ok-definitions.ensures ∙ ap (λ ks. C.answer.definitions ++ sources_at ks C.sources) c.kept.ensures.kept in
    c.in-None.ensures.none
    (parts-fit A is c.in_ok-pcp.pcp c.in_ok-names.names.items c.in_ok-definitions.definitions.items (words_of c.in_ok-images.images.items)
    c.in_ok-pcp.ensures names definitions c.in_ok-images.ensures)

pub returns : goal.returns
returns c =
    let C = c.args.cover.now in
    let K = c.args.combinations.now in
    let A = combined_answer C K in
    let combinations = c.kept.ensures.combinations in
    let prime = combinations.prime in
    let same = c.requires.combinations.prime in
    let big : 1 < C.answer.presentation.prime = omega arith in
    let is : IsAnswer A =
    combined-answer C K (cover-units C c.pcp-cover.ensures.cover big) big (cover_rows C K c.requires.combinations combinations)
    c.requires.combinations.count c.requires.kept c.requires.sources c.requires.class in
    let names : c.in_ok-names.names.items ≡ A.names =
    c.in_ok-names.ensures ∙ c.names.ensures ∙ ap (λ (a : Answer). a.names) c.answer.ensures in
    let definitions : map definition_of c.in_ok-definitions.definitions.items ≡ A.definitions =
    c.in_ok-definitions.ensures ∙ ap (λ ks. C.answer.definitions ++ sources_at ks C.sources) c.kept.ensures.kept in
    c.in-Some.ensures.some
    ∙ parts-answer A is c.in_ok-pcp.pcp c.in_ok-names.names.items c.in_ok-definitions.definitions.items
    (words_of c.in_ok-images.images.items)
    c.in_ok-pcp.ensures names definitions c.in_ok-images.ensures
