use Rattle.std.proofs.Common.{map, ap}
use Rattle.pc_presentation.specs.Definition.{definition_of}
use Rattle.tails_by_weight.proofs.LightParts.{all_light_parts}
use Rattle.tails_by_weight.proofs.sources.light_sources.Goals as goal

pub returns : goal.returns
returns c =
    all_light_parts c.args.answer.now c.pcp-conditions.ensures.answer (map definition_of c.new-sources.result.items)
    (map definition_of c.push_commutators.new.sources.items) (map definition_of c.push_powers.new.sources.items)
    (map definition_of c.push_commutators-2.new.sources.items) (map definition_of c.push_powers-2.new.sources.items)
    (map definition_of c.push_images.new.sources.items) (ap (map definition_of) c.new-sources.ensures.items)
    c.in_ok-push_commutators.ensures c.in_ok-push_powers.ensures c.in_ok-push_commutators-2.ensures c.in_ok-push_powers-2.ensures
    c.in_ok-push_images.ensures
