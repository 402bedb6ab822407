use Rattle.std.proofs.Common.{List, map, ap, sym, ◌∙◌, subst}
use Rattle.pq_base.specs.Answer.{Definition as Source}
use Rattle.pc_presentation.specs.Definition.{definition_of}
use Rattle.p_cover.specs.Sources.{IsPartOf}
use Rattle.p_cover.specs.Covers.{all_sources}
use Rattle.tails_by_weight.specs.LightCovers.{is_light}
use Rattle.tails_by_weight.proofs.LightSources.{filter-part}
use Rattle.tails_by_weight.proofs.light_covers.light_cover.Goals as goal

pub cover_of-requires : goal.cover_of-requires
cover_of-requires c =
    let A = c.args.answer.now in
    subst (λ (ds : List Source). IsPartOf ds (all_sources A))
    (sym (ap (map definition_of) c.deref.ensures.value ∙ c.in_ok-sources.ensures)) (filter-part (is_light A) (all_sources A))
