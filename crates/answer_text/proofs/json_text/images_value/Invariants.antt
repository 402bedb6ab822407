use Rattle.std.proofs.Common.{◌≡◌, ◌++◌, drop, map}
use Rattle.serde_json.specs.View.{view}
use Rattle.answer_text.specs.AnswerData.{images_data}
use Rattle.answer_text.proofs.json_text.images_value.Given as goal

-- what is listed, and what is left, are all
abbrev pub invariant-loop-name : goal.invariant-loop-name
invariant-loop-name l =
    (map view l.list.items ++ images_data (drop l.name-index l.name-items) (drop l.name-index l.answer.images)
    ≡ images_data l.name-items l.answer.images) × (l.i ≡ l.name-index)
