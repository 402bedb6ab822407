use Rattle.pc_presentation.specs.Commuting.{AreBetween}
use Rattle.pc_presentation.proofs.elem.Elem.exponents_between.Given as goal

-- what is copied so far
abbrev pub invariant-loop-k : goal.invariant-loop-k
invariant-loop-k l = AreBetween l.i l.k l.self.state.exponents l.part
