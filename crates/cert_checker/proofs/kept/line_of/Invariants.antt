use Rattle.std.proofs.Common.{◌≡◌, ℕ, drop}
use Rattle.cover_quotient.specs.Kept.{is_listed}
use Rattle.derivation_log.specs.CertificateRuns.{tail_row}
use Rattle.cert_checker.specs.KeptTails.{tails_of}
use Rattle.cert_checker.proofs.kept.line_of.Given as goal

-- what is left decides
abbrev pub invariant-loop-line : goal.invariant-loop-line
invariant-loop-line l =
    (is_listed l.tail (tails_of l.lines) ≡ is_listed l.tail (tails_of (drop l.line-index l.lines)))
    × ((width : ℕ) → tail_row width l.lines l.tail ≡ tail_row width (drop l.line-index l.lines) l.tail)
