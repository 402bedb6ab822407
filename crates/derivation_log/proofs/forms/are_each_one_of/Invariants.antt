use Rattle.std.proofs.Common.{◌≡◌, drop}
use Rattle.derivation_log.specs.CertificateForms.{are_each_one_of}
use Rattle.derivation_log.proofs.forms.are_each_one_of.Given as goal

-- what is left decides
abbrev pub invariant-loop-number : goal.invariant-loop-number
invariant-loop-number l = are_each_one_of l.n l.path ≡ are_each_one_of l.n (drop l.number-index l.path)
