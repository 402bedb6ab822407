use Rattle.std.proofs.Common.{◌≡◌, drop}
use Rattle.derivation_log.specs.CertificateRuns.{coefficient_in}
use Rattle.cert_checker.proofs.combining.coefficient.Given as goal

-- what is left decides
abbrev pub invariant-loop-pair : goal.invariant-loop-pair
invariant-loop-pair l = coefficient_in l.pairs l.number ≡ coefficient_in (drop l.pair-index l.pairs) l.number
