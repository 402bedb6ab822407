use Rattle.std.proofs.Common.{◌≡◌, drop}
use Rattle.derivation_log.specs.CertificateForms.{are_sources_in}
use Rattle.derivation_log.proofs.forms.are_sources_in.Given as goal

-- what is left decides
abbrev pub invariant-loop-source : goal.invariant-loop-source
invariant-loop-source l = are_sources_in l.pres l.run l.sources ≡ are_sources_in l.pres l.run (drop l.source-index l.sources)
