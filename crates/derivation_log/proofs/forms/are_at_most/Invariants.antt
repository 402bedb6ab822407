use Rattle.std.proofs.Common.{◌≡◌, drop}
use Rattle.derivation_log.specs.CertificateForms.{are_at_most}
use Rattle.derivation_log.proofs.forms.are_at_most.Given as goal

-- what is left decides
abbrev pub invariant-loop-number : goal.invariant-loop-number
invariant-loop-number l = are_at_most l.n l.pairs ≡ are_at_most l.n (drop l.number-index l.pairs)
