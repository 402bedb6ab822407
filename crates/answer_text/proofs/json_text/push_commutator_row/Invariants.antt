use Rattle.std.proofs.Common.{◌≡◌, ◌-◌, ◌++◌, [], drop, get_or, map}
use Rattle.serde_json.specs.View.{view}
use Rattle.answer_text.specs.AnswerData.{commutator_row_data}
use Rattle.answer_text.proofs.json_text.push_commutator_row.Given as goal

-- what is listed, and what is left, are all
abbrev pub invariant-loop-k : goal.invariant-loop-k
invariant-loop-k l = let row = get_or l.answer.presentation.commutators (l.j - 1) [] in
    map view l.list.items ++ commutator_row_data l.j l.k (drop l.k row) ≡ map view l.initial.list.items ++ commutator_row_data l.j 0 row
