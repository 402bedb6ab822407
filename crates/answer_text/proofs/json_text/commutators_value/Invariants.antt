use Rattle.std.proofs.Common.{◌≡◌, ◌++◌, drop, map}
use Rattle.serde_json.specs.View.{view}
use Rattle.answer_text.specs.AnswerData.{commutators_data}
use Rattle.answer_text.proofs.json_text.commutators_value.Given as goal

-- what is listed, and what is left, are all
abbrev pub invariant-loop-k : goal.invariant-loop-k
invariant-loop-k l =
    map view l.list.items ++ commutators_data l.k (drop l.k l.answer.presentation.commutators)
    ≡ commutators_data 0 l.answer.presentation.commutators
