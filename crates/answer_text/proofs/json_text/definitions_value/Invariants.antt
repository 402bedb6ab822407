use Rattle.std.proofs.Common.{◌≡◌, ◌++◌, drop, map}
use Rattle.serde_json.specs.View.{view}
use Rattle.answer_text.specs.AnswerData.{definition_data}
use Rattle.answer_text.proofs.json_text.definitions_value.Given as goal

-- what is listed, and what is left, are all
abbrev pub invariant-loop-k : goal.invariant-loop-k
invariant-loop-k l =
    map view l.list.items ++ map (definition_data l.answer.names) (drop l.k l.answer.definitions)
    ≡ map (definition_data l.answer.names) l.answer.definitions
