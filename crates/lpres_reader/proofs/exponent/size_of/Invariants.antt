use Rattle.std.proofs.Common.{◌≡◌, ◌≤◌, drop}
use Rattle.std.specs.Str.Parse.{digits_value, digits_value_after}
use Rattle.lpres_reader.specs.Values.{told}
use Rattle.lpres_reader.proofs.exponent.size_of.Given as goal

abbrev pub invariant-loop-digit : goal.invariant-loop-digit
invariant-loop-digit l = record {
  small : l.size ≤ 999999999999999999;
  told : told (digits_value_after 10 l.size (drop l.digit-index l.digits)) ≡ told (digits_value 10 l.digits);
}
