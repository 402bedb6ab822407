use Rattle.std.proofs.Common.{◌≡◌, drop}
use Rattle.pc_presentation.specs.Parts.{are_weights}
use Rattle.pc_presentation.proofs.parts.are_weights.Given as goal

-- what is left decides
abbrev pub invariant-loop-w : goal.invariant-loop-w
invariant-loop-w l = are_weights 1 l.weights ≡ are_weights l.least (drop l.w-index l.weights)
