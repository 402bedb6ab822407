use Rattle.std.proofs.Common.{◌≡◌, ◌≤◌, drop}
use Rattle.cert_text.specs.NumberFronts.{read_on}
use Rattle.cert_text.proofs.number_reading.number.Given as goal

-- the number so far is small, and with the digits that are left it is the number
abbrev pub invariant-loop-digit : goal.invariant-loop-digit
invariant-loop-digit l = record {
  small : l.value ≤ 65535;
  read : read_on l.value (drop l.digit-index l.digits) ≡ read_on 0 l.digits;
}
