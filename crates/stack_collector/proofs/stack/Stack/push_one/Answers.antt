use Rattle.std.proofs.Common.{◌∙◌}
use Rattle.stack_collector.proofs.StackLaws.{running-alone, finished-alone}
use Rattle.stack_collector.proofs.stack.Stack.push_one.Goals as goal

pub loop-init : goal.loop-init
loop-init c = (
  running-alone c.args.pcp.now c.args.self.now c.put.new.self c.begin.result c.begin.new.at c.requires.ready c.put.ensures.frames
      c.begin.ensures.element
      c.begin.ensures.frame c.put.ensures.room,
  finished-alone c.args.pcp.now c.args.self.now c.put.new.self c.begin.result c.begin.new.at c.requires.ready c.put.ensures.frames
      ∙ c.begin.ensures.pushed,
)
