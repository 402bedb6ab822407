use Rattle.std.proofs.Common.{sym}
use Rattle.answer_text.proofs.FirstPlaces.{avoids-before, avoids-nowhere, split-first}
use Rattle.answer_text.proofs.pieces.split_at_first.Goals as goal

pub returns-in-Some-clause-first : goal.returns-in-Some-clause-first
returns-in-Some-clause-first c = avoids-before c.args.byte c.in-Some.at c.args.text.now (sym c.in-Some.ensures)

pub returns-in-None-clause-none : goal.returns-in-None-clause-none
returns-in-None-clause-none c = avoids-nowhere c.args.byte c.args.text.now (sym c.in-None.ensures)

pub returns-in-Some-clause-some : goal.returns-in-Some-clause-some
returns-in-Some-clause-some c = split-first c.args.byte c.in-Some.at c.args.text.now (sym c.in-Some.ensures)
