use Rattle.std.proofs.Common.{◌≡◌, ◌≤◌, ◌++◌, length}
use Rattle.cert_text.specs.CertificateText.{further_pairs_text}
use Rattle.cert_text.specs.NumberFronts.{is_no_digit, StartsWell}
use Rattle.cert_text.specs.WrittenNumbers.{AreSmallPairs}
use Rattle.cert_text.proofs.pair_reading.further_pairs.Given as goal

-- the pairs that were read, and what is left, are all
abbrev pub invariant-loop-pair : goal.invariant-loop-pair
invariant-loop-pair l = record {
  read : further_pairs_text l.initial.pairs.items ++ l.fn.text ≡ further_pairs_text l.pairs.items ++ l.rest;
  small : AreSmallPairs l.pairs.items;
  stops : StartsWell is_no_digit l.rest;
  longer : length l.initial.pairs.items ≤ length l.pairs.items;
}

abbrev pub decreases-loop-pair : goal.decreases-loop-pair
decreases-loop-pair l = length l.rest
