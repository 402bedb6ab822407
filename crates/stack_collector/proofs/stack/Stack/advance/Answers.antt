use Rattle.std.proofs.Common.{◌≡◌, ◌≤◌, ◌-◌, ℕ, suc, List, length, take, ◌∙◌, arith}
use Rattle.std.proofs.Math.ListN.{set}
use Rattle.stack_collector.specs.declared.frame.Frame.{Frame}
use Rattle.stack_collector.specs.Stacks.{Frames}
use Rattle.stack_collector.proofs.StackLaws.{set-last, take-set, frames-split, room-kept, last-frame, continues-within, room-left}
use Rattle.stack_collector.proofs.StackLaws.{continues-push, continues-last}
use Rattle.stack_collector.proofs.stack.Stack.advance.Goals as goal

pub run-requires-clause-frame : goal.run-requires-clause-frame
run-requires-clause-frame c =
    let n : ℕ = c.len-last.result - 1 in
    let items : List Frame = c.self.inside.frames.items in
    let here : Frames = record { frames = c.self.inside.frames.items; room = c.self.inside.frames.cap } in
    let some : 1 ≤ length c.self.inside.frames.items = grind (arith, c.is_empty.ensures, c.if-is_empty.false) in
    let long = c.len-last.ensures in
    let count : suc n ≡ length c.self.inside.frames.items = omega arith in
    let whole = frames-split c.args.self.now here n c.index_mut.result.now c.self.view_is count c.index_mut.ensures.value in
    last-frame c.args.pcp.now c.args.self.now c.args.at.now c.requires.running (take n items) c.index_mut.result.now whole

pub put-requires : goal.put-requires
put-requires c =
    let n : ℕ = c.len-last.result - 1 in
    let items : List Frame = c.self.inside.frames.items in
    let here : Frames = record { frames = c.self.inside.frames.items; room = c.self.inside.frames.cap } in
    let some : 1 ≤ length c.self.inside.frames.items = grind (arith, c.is_empty.ensures, c.if-is_empty.false) in
    let long = c.len-last.ensures in
    let count : suc n ≡ length c.self.inside.frames.items = omega arith in
    let whole = frames-split c.args.self.now here n c.index_mut.result.now c.self.view_is count c.index_mut.ensures.value in
    let stepped : Frames = record { frames = set c.self.inside.frames.items n c.run.new.frame; room = c.self.inside.frames.cap } in
    record {
      room =
          room-left c.args.pcp.now c.args.self.now c.args.at.now c.requires.running
          (take n items) c.index_mut.result.now whole c.in-Push.generator
          c.run.new.frame c.run.new.at stepped c.in-Push.ensures (set-last n items c.run.new.frame count)
          (room-kept c.args.self.now here c.self.view_is);
    }

pub returns-in-Within-clause-on : goal.returns-in-Within-clause-on
returns-in-Within-clause-on c = λ _.
    let n : ℕ = c.len-last.result - 1 in
    let items : List Frame = c.self.inside.frames.items in
    let here : Frames = record { frames = c.self.inside.frames.items; room = c.self.inside.frames.cap } in
    let some : 1 ≤ length c.self.inside.frames.items = grind (arith, c.is_empty.ensures, c.if-is_empty.false) in
    let long = c.len-last.ensures in
    let count : suc n ≡ length c.self.inside.frames.items = omega arith in
    let whole = frames-split c.args.self.now here n c.index_mut.result.now c.self.view_is count c.index_mut.ensures.value in
    let stepped : Frames = record { frames = set c.self.inside.frames.items n c.run.new.frame; room = c.self.inside.frames.cap } in
    continues-within c.args.pcp.now c.args.self.now c.args.at.now c.requires.running (take n items) c.index_mut.result.now whole
    c.run.new.frame c.run.new.at stepped c.in-Within.ensures (set-last n items c.run.new.frame count)
    (room-kept c.args.self.now here c.self.view_is)

pub returns-in-Push-clause-on : goal.returns-in-Push-clause-on
returns-in-Push-clause-on c = λ _.
    let n : ℕ = c.len-last.result - 1 in
    let items : List Frame = c.self.inside.frames.items in
    let here : Frames = record { frames = c.self.inside.frames.items; room = c.self.inside.frames.cap } in
    let some : 1 ≤ length c.self.inside.frames.items = grind (arith, c.is_empty.ensures, c.if-is_empty.false) in
    let long = c.len-last.ensures in
    let count : suc n ≡ length c.self.inside.frames.items = omega arith in
    let whole = frames-split c.args.self.now here n c.index_mut.result.now c.self.view_is count c.index_mut.ensures.value in
    let stepped : Frames = record { frames = set c.self.inside.frames.items n c.run.new.frame; room = c.self.inside.frames.cap } in
    continues-push c.args.pcp.now c.args.self.now c.args.at.now c.requires.running
    (take n items) c.index_mut.result.now whole c.in-Push.generator
    c.run.new.frame c.run.new.at stepped c.begin.result c.begin.new.at c.put.new.self c.in-Push.ensures
    (set-last n items c.run.new.frame count)
    (room-kept c.args.self.now here c.self.view_is) c.put.ensures.frames c.put.ensures.room c.begin.ensures.element c.begin.ensures.frame
    c.begin.ensures.generator c.begin.ensures.pushed

pub returns-in-Done-clause-on : goal.returns-in-Done-clause-on
returns-in-Done-clause-on c = λ _.
    let n : ℕ = c.len-last.result - 1 in
    let items : List Frame = c.self.inside.frames.items in
    let here : Frames = record { frames = c.self.inside.frames.items; room = c.self.inside.frames.cap } in
    let some : 1 ≤ length c.self.inside.frames.items = grind (arith, c.is_empty.ensures, c.if-is_empty.false) in
    let long = c.len-last.ensures in
    let count : suc n ≡ length c.self.inside.frames.items = omega arith in
    let whole = frames-split c.args.self.now here n c.index_mut.result.now c.self.view_is count c.index_mut.ensures.value in
    let left : Frames = record { frames = c.truncate.new.self.items; room = c.truncate.new.self.cap } in
    let capacity : c.truncate.new.self.cap ≡ c.self.inside.frames.cap = c.truncate.ensures.capacity in
    let room = room-kept c.args.self.now here c.self.view_is in
    continues-last c.args.pcp.now c.args.self.now c.args.at.now c.requires.running
    (take n items) c.index_mut.result.now whole c.run.new.at left
    c.in-Done.ensures (c.truncate.ensures.items ∙ take-set n items c.run.new.frame) (omega arith)
