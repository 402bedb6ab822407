use Rattle.std.proofs.Common.{◌≡◌, ℕ, true, false, List, map, sym, subst, ◌∙◌}
use Rattle.pc_presentation.specs.declared.syllable.Syllable.{Syllable}
use Rattle.pc_presentation.specs.declared.definition.Definition.{Definition}
use Rattle.pc_presentation.specs.Definition.{definition_of}
use Rattle.pc_presentation.specs.Pcp.{TailedPresentation, IsTailedPresentation}
use Rattle.pc_presentation.specs.Parts.{words_of, AreParts, answer_of}
use Rattle.pq_base.specs.Answer.{Answer}
use Rattle.answer_text.specs.AnswerText.{answer_text}
use Rattle.answer_text.specs.Sources.{AreResolved}
use Rattle.answer_text.specs.Drafts.{SoFar, so_far}
use Rattle.answer_text.proofs.lines.ReadLines.{no_answer-parts, no_answer-text}
use Rattle.answer_text.proofs.reading.answer_of.Goals as goal

pub returns-in_default-clause-none : goal.returns-in_default-clause-none
returns-in_default-clause-none c end r =
    let words : List (List Syllable) = words_of c.args.body.images.items in
    let S : SoFar = so_far c.args.body.builder c.args.body.last c.args.body.names.items words in
    let ds : List Definition = c.in_ok-definitions.definitions.items in
    let is : IsTailedPresentation c.args.body.builder.built =
    subst (λ (x : TailedPresentation). IsTailedPresentation x) c.finish-pcp.ensures c.rank-rank.ensures.presentation in
    let resolved : AreResolved c.args.body.names.items c.args.sources.now (map definition_of ds) =
    subst (λ (x : List (List ℕ)). AreResolved x c.args.sources.now (map definition_of ds)) c.deref.ensures.value
    c.in_ok-definitions.ensures in
    let none : ¬ AreParts c.args.body.builder.built c.args.body.names.items ds words =
    subst (λ (x : TailedPresentation). ¬ AreParts x c.args.body.names.items ds words) c.finish-pcp.ensures c.in_default.ensures.none in
    no_answer-parts c.args.bytes.now end c.args.sources.now S ds is.presentation resolved none r

pub returns-then-not-are_same-clause-none : goal.returns-then-not-are_same-clause-none
returns-then-not-are_same-clause-none c end r =
    let words : List (List Syllable) = words_of c.args.body.images.items in
    let S : SoFar = so_far c.args.body.builder c.args.body.last c.args.body.names.items words in
    let ds : List Definition = c.in_ok-definitions.definitions.items in
    let A : Answer = c.in-Some.answer in
    let is : IsTailedPresentation c.args.body.builder.built =
    subst (λ (x : TailedPresentation). IsTailedPresentation x) c.finish-pcp.ensures c.rank-rank.ensures.presentation in
    let resolved : AreResolved c.args.body.names.items c.args.sources.now (map definition_of ds) =
    subst (λ (x : List (List ℕ)). AreResolved x c.args.sources.now (map definition_of ds)) c.deref.ensures.value
    c.in_ok-definitions.ensures in
    let same : A ≡ answer_of c.args.body.builder.built c.args.body.names.items ds words =
    subst (λ (x : TailedPresentation). A ≡ answer_of x c.args.body.names.items ds words) c.finish-pcp.ensures c.in-Some.ensures.some in
    let written : c.deref-2.result.now ≡ answer_text A = c.deref-2.ensures.value ∙ c.in_ok-written.ensures in
    no_answer-text c.args.bytes.now c.deref-2.result.now end c.args.sources.now S ds A is.presentation resolved same written
    (λ e. let bad : true ≡ false = sym (c.are_same.ensures.1 e) ∙ c.if-not-are_same.true in cc) r
