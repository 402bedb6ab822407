use Rattle.std.proofs.Common.{sym, ◌∙◌}
use Rattle.std.proofs.lemmas.Bool.{true≢false}
use Rattle.lpres_reader.proofs.texts.LineTokens.{none_left}
use Rattle.lpres_reader.proofs.names.GeneratorSearch.{nothing_begins}
use Rattle.lpres_reader.proofs.reading.read.Goals as goal
use Rattle.lpres_reader.proofs.reading.read.Goals.{then-has_generators+in_ok-named+in_default, else-has_generators}

pub no_generators-requires-clause-never : goal.no_generators-requires-clause-never
no_generators-requires-clause-never c h = elim c.if-has_generators.branch [
  | then-has_generators+in_ok-named+in_default w ↦
      nothing_begins c.args.text.now (none_left w.in_ok-named.field-0 _ _ w.in_default.not-Some w.in_ok-named.ensures) h
  | else-has_generators w ↦ let f = w.if-has_generators.false in absurd (true≢false (sym (c.has_generators.ensures.1 h) ∙ f))
]
