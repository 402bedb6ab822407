use Rattle.std.proofs.Common.{take}
use Rattle.std.specs.Prelude.{All}
use Rattle.derivation_log.specs.CertificateParts.{IsSumOfRows}
use Rattle.cert_checker.specs.StepRows.{IsRowFor, entries_of}
use Rattle.cert_checker.proofs.sums.are_sums.Given as goal

-- the lines so far are sums
abbrev pub invariant-loop-line : goal.invariant-loop-line
invariant-loop-line l = IsRowFor l.cover l.sum × All (IsSumOfRows l.cover (entries_of l.rows)) (take l.line-index l.lines)
