use Rattle.pc_presentation.proofs.consistent.OverlapWays.{cleared_is_element}
use Rattle.pc_presentation.proofs.overlap.collect.Goals as goal

pub push_word-requires-clause-element : goal.push_word-requires-clause-element
push_word-requires-clause-element g c = cleared_is_element c.args.pcp.now c.args.at.now c.clear.new.self c.requires.element c.clear.ensures
