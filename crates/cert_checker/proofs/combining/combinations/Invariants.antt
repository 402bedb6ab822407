use Rattle.std.proofs.Common.{◌≡◌, length, map}
use Rattle.pq_base.specs.Canonical.{numbers_from}
use Rattle.cert_checker.specs.KeptTails.{kept_tails, kept_row}
use Rattle.cert_checker.proofs.combining.combinations.Given as goal

-- the tails so far
abbrev pub invariant-loop-t : goal.invariant-loop-t
invariant-loop-t l = l.combinations ≡ record {
  prime = l.cover.answer.presentation.prime;
  kept = kept_tails (length l.cover.sources) l.step.tails;
  rows = map (kept_row (length l.cover.sources) l.step.tails) (numbers_from 1 l.t);
}
