use Rattle.std.proofs.Common.{◌≡◌, length, replicate}
use Rattle.pc_presentation.proofs.elem.zero_exponents.Given as goal

abbrev pub invariant-loop : goal.invariant-loop
invariant-loop l = (length l.exponents.items ≡ l.counter) × (l.exponents.items ≡ replicate l.counter 0)
