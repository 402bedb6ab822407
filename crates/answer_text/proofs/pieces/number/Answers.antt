use Rattle.answer_text.proofs.texts.NumberTexts.{number-some, number-none}
use Rattle.answer_text.proofs.pieces.number.Goals as goal

pub returns-clause-some : goal.returns-clause-some
returns-clause-some c = number-some c.args.text.now c.value.result c.value.ensures

pub returns-clause-none : goal.returns-clause-none
returns-clause-none c = number-none c.args.text.now c.value.result c.value.ensures
