use Rattle.std.proofs.Common.{◌≡◌, List, map, take, ap, sym, ◌∙◌, subst}
use Rattle.std.proofs.lemmas.List.{take-map}
use Rattle.pq_base.specs.Answer.{Definition as Source}
use Rattle.pc_presentation.specs.Definition.{definition_of}
use Rattle.p_cover.specs.Sources.{IsPartOf}
use Rattle.p_cover.specs.Covers.{all_sources}
use Rattle.p_cover.proofs.PartLaws.{first_entries}
use Rattle.worked_rows.proofs.cover_cases.cover_of_first.Goals as goal

pub cover_of-requires : goal.cover_of-requires
cover_of-requires c =
    let all : List Source = all_sources c.args.answer.now in
    let items = c.in_ok-sources.sources.items in
    let same : map definition_of c.deref.result.now ≡ take c.args.count all =
    ap (map definition_of) (c.deref.ensures.value ∙ c.truncate.ensures.items) ∙ sym (take-map definition_of c.args.count items)
    ∙ ap (take c.args.count) c.in_ok-sources.ensures in
    subst (λ (ds : List Source). IsPartOf ds all) (sym same) (first_entries c.args.count all)
