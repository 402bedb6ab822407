use Rattle.std.proofs.Common.{◌≡◌, drop}
use Rattle.derivation_log.specs.CertificateForms.{are_kept_below}
use Rattle.derivation_log.proofs.forms.are_kept_below.Given as goal

-- what is left decides
abbrev pub invariant-loop-number : goal.invariant-loop-number
invariant-loop-number l = are_kept_below l.lines l.t l.pairs ≡ are_kept_below l.lines l.t (drop l.number-index l.pairs)
