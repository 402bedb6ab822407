use Rattle.std.proofs.Common.{◌≡◌, drop}
use Rattle.derivation_log.specs.CertificateForms.{are_steps_in}
use Rattle.derivation_log.proofs.forms.are_steps_in.Given as goal

-- what is left decides
abbrev pub invariant-loop-step : goal.invariant-loop-step
invariant-loop-step l = are_steps_in l.pres l.p l.run l.steps ≡ are_steps_in l.pres l.p l.run (drop l.step-index l.steps)
