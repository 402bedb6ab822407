use Rattle.std.proofs.Common.{◌++◌}
use Rattle.pq_base.specs.SignedWord.{copies}
use Rattle.pq_base.specs.Joined.{Joined}
use Rattle.pc_presentation.specs.Rowed.{flat}
use Rattle.pc_presentation.specs.Arithmetic.{word_of}
use Rattle.pc_presentation.specs.Tailed.{rowed_presentation}
use Rattle.pc_presentation.specs.Scratch.{IsScratch}
use Rattle.endo_lift.specs.Values.{IsRoom}
use Rattle.endo_lift.proofs.room.Room.multiply.Given as goal

abbrev pub invariant-loop : goal.invariant-loop
invariant-loop g l =
    let Y = rowed_presentation l.pcp in
    IsScratch l.pcp l.s × IsRoom l.pcp l.self
    × Joined (flat Y) (word_of Y l.self.value.state) (word_of Y l.fn.self.value.state ++ copies (word_of Y l.factor.state) l.counter)
