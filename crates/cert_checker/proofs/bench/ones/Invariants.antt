use Rattle.std.proofs.Common.{◌≡◌, All, length}
use Rattle.pc_presentation.specs.Tailed.{IsElement}
use Rattle.cert_checker.proofs.bench.ones.Given as goal

abbrev pub invariant-loop : goal.invariant-loop
invariant-loop l = (length l.elements.items ≡ l.counter) × All (IsElement l.pcp) l.elements.items
