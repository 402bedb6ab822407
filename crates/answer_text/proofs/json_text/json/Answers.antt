use Rattle.std.proofs.Common.{◌≡◌, ◌++◌, [], ◌∷◌, ℕ, List, Vec, Global, false, ap, ◌∙◌}
use Rattle.serde_json.specs.Data.{Data}
use Rattle.serde_json.specs.View.{view}
use Rattle.serde_json.specs.Written.{has_float, compact_text}
use Rattle.answer_text.specs.AnswerData.{answer_data, answer_json}
use Rattle.answer_text.proofs.NoFloats.{has_float-answer}
use Rattle.answer_text.proofs.json_text.json.Goals as goal

pub returns : goal.returns
unfolding answer_json
returns c =
    let is : view c.in_ok-answer_value.field-0 ≡ answer_data c.args.answer.now = c.in_ok-answer_value.ensures in
    let none : has_float (view c.in_ok-answer_value.field-0) ≡ false = ap has_float is ∙ has_float-answer c.args.answer.now in
    c.in_ok-push.ensures.items
    ∙ ap (λ (bs : List ℕ). bs ++ 10 ∷ [])
    (ap (λ (v : Vec ℕ Global). v.items) c.into_bytes-out.ensures.value
    ∙ c.in_ok-to_string.ensures.text none ∙ ap (λ (d : Data). compact_text d) is)
