use Rattle.std.proofs.Common.{ℕ, List, map, sym, ◌∙◌, subst}
use Rattle.std.proofs.lemmas.List.{length-map}
use Rattle.pq_base.specs.Answer.{Definition as Source}
use Rattle.pc_presentation.specs.Definition.{definition_of}
use Rattle.p_cover.specs.Given.{IsBegun}
use Rattle.p_cover.proofs.WantMembers.{part-sources}
use Rattle.p_cover.proofs.GivenSteps.{complete-is}
use Rattle.p_cover.proofs.given.presentation_with_tails.Goals as goal

pub give_sources-requires-clause-sources : goal.give_sources-requires-clause-sources
give_sources-requires-clause-sources c = part-sources c.args.answer.now c.requires.part

pub returns : goal.returns
returns c =
    let A = c.args.answer.now in
    let ds : List Source = map definition_of c.args.sources.now in
    c.finish.ensures
    ∙ complete-is A ds c.pcp-conditions.ensures.answer.presentation c.give_sources.new.builder c.give_others.new.builder
    (subst (λ (k : ℕ). IsBegun A ds k c.give_sources.new.builder)
    (sym (length-map c.args.sources.now definition_of)) c.in_ok-give_sources.ensures)
    c.in_ok-give_others.ensures.given
