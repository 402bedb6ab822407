use Rattle.std.proofs.Common.{◌≡◌}
use Rattle.cert_checker.specs.KeptTails.{kept_tails}
use Rattle.cert_checker.proofs.kept.kept_tails.Given as goal

-- the tails so far
abbrev pub invariant-loop-t : goal.invariant-loop-t
invariant-loop-t l = l.kept.items ≡ kept_tails l.t l.lines
