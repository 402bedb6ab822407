use Rattle.std.proofs.Common.{◌≢◌, ℕ, ◌<◌, [], length, get_or, All, take}
use Rattle.pq_base.specs.Name.{IsName}
use Rattle.lpres_reader.proofs.parts.are_distinct.Given as goal

-- no name so far stands again later
abbrev pub invariant-loop-i : goal.invariant-loop-i
invariant-loop-i l = record {
  each : All IsName (take l.i l.names);
  distinct : (j k : ℕ) → j < l.i → j < k → k < length l.names → get_or l.names j [] ≢ get_or l.names k [];
}
