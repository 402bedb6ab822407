use Rattle.std.proofs.Common.{◌≡◌, drop}
use Rattle.derivation_log.specs.CertificateForms.{are_pairs}
use Rattle.derivation_log.proofs.forms.are_pairs.Given as goal

-- what is left decides
abbrev pub invariant-loop-number : goal.invariant-loop-number
invariant-loop-number l = are_pairs l.p 1 l.pairs ≡ are_pairs l.p l.least (drop l.number-index l.pairs)
