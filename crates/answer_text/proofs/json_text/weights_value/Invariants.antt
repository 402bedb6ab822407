use Rattle.std.proofs.Common.{◌≡◌, ◌++◌, drop, map}
use Rattle.serde_json.specs.View.{view}
use Rattle.answer_text.specs.AnswerData.{number_data}
use Rattle.answer_text.proofs.json_text.weights_value.Given as goal

-- what is listed, and what is left, are all
abbrev pub invariant-loop-k : goal.invariant-loop-k
invariant-loop-k l = map view l.list.items ++ map number_data (drop l.k l.answer.weights) ≡ map number_data l.answer.weights
