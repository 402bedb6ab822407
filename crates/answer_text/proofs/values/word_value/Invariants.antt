use Rattle.std.proofs.Common.{◌≡◌, ◌++◌, drop, map}
use Rattle.serde_json.specs.View.{view}
use Rattle.answer_text.specs.AnswerData.{syllable_data}
use Rattle.answer_text.proofs.values.word_value.Given as goal

-- what is listed, and what is left, are all
abbrev pub invariant-loop-s : goal.invariant-loop-s
invariant-loop-s l = map view l.list.items ++ map syllable_data (drop l.s-index l.word) ≡ map syllable_data l.word
