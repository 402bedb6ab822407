use Rattle.std.proofs.Common.{◌≡◌, take}
use Rattle.pq_base.specs.Table.{AllBelow}
use Rattle.cert_text.proofs.path_reading.path_of.Given as goal

-- the numbers so far are those of the path, and none is above 255
abbrev pub invariant-loop-number : goal.invariant-loop-number
invariant-loop-number l = record {
  read : l.path.items ≡ take l.number-index l.numbers;
  small : AllBelow 256 l.path.items;
}
