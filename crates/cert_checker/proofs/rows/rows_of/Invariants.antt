use Rattle.std.proofs.Common.{take}
use Rattle.cert_checker.specs.StepRows.{AreToolsFor, ArePlainRows}
use Rattle.cert_checker.proofs.rows.rows_of.Given as goal

-- the rows of the sources so far
abbrev pub invariant-loop-source : goal.invariant-loop-source
invariant-loop-source l = AreToolsFor l.cover l.tools × ArePlainRows l.pres l.cover (take l.source-index l.sources) l.rows.items
