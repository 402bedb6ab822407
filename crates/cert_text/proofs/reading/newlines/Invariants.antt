use Rattle.std.proofs.Common.{◌≡◌, ◌≤◌, ◌+◌, drop}
use Rattle.cert_text.specs.ReadSoFar.{newlines}
use Rattle.cert_text.proofs.reading.newlines.Given as goal

-- those that were counted, and those of what is left, are all
abbrev pub invariant-loop-byte : goal.invariant-loop-byte
invariant-loop-byte l = record {
  few : l.count ≤ l.byte-index;
  all : l.count + newlines (drop l.byte-index l.text) ≡ newlines l.text;
}
