use Rattle.std.proofs.Common.{◌≡◌, ◌++◌, drop, map}
use Rattle.serde_json.specs.View.{view}
use Rattle.answer_text.specs.AnswerData.{powers_data}
use Rattle.answer_text.proofs.json_text.powers_value.Given as goal

-- what is listed, and what is left, are all
abbrev pub invariant-loop-k : goal.invariant-loop-k
invariant-loop-k l =
    map view l.list.items ++ powers_data l.k (drop l.k l.answer.presentation.powers) ≡ powers_data 0 l.answer.presentation.powers
