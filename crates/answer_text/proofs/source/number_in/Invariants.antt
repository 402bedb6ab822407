use Rattle.std.proofs.Common.{◌≡◌, ◌<◌, ◌≤◌, ℕ, [], get_or}
use Rattle.pq_base.specs.Limits.{max_names}
use Rattle.answer_text.proofs.source.number_in.Given as goal

-- the name is none of those that were passed
abbrev pub invariant-loop-other : goal.invariant-loop-other
invariant-loop-other l = record {
  counted : l.number ≡ l.other-index;
  limit : l.number ≤ max_names;
  passed : (k : ℕ) → k < l.other-index → ¬ (get_or l.names k [] ≡ l.name);
}
