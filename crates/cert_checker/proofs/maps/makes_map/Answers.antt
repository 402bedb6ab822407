use Rattle.std.proofs.Common.{◌∙◌, List, ap, sym, subst, length}
use Rattle.std.specs.Prelude.{All}
use Rattle.pc_presentation.specs.Pcp.{TailedPresentation, IsTailedPresentation}
use Rattle.pc_presentation.specs.Tailed.{IsElement}
use Rattle.pq_base.specs.Answer.{Definition}
use Rattle.cert_checker.proofs.mapping.MapDecisions.{made-decided}
use Rattle.cert_checker.proofs.maps.makes_map.Goals as goal

pub returns-clause-made : goal.returns-clause-made
returns-clause-made c =
    let T = c.pcp-pcp.result.now in
    let is = c.pcp-pcp.ensures.presentation in
    made-decided T c.args.from.now c.args.cover.now.answer c.pcp-from.ensures.answer c.pcp-pcp.ensures.cover.answer
    (subst (λ (S : TailedPresentation). IsTailedPresentation S) (sym is) c.requires.bench.left.presentation)
    (ap (λ (S : TailedPresentation). S.presentation) is)
    (ap (λ (S : TailedPresentation). S.tails) is ∙ ap (λ (ds : List Definition). length ds) c.requires.no_tails)
    c.requires.consistent c.args.given.now c.define_all.new.elements
    (subst (λ (S : TailedPresentation). All (IsElement S) c.args.given.now) (sym is) c.requires.given) c.define_all.ensures.elements
    c.requires.given_count (c.define_all.auto.elements ∙ c.requires.count) c.define_all.ensures.defined c.make_map_of_words.result
    c.make_map_of_words.ensures.made
