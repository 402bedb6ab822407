use Rattle.std.proofs.lemmas.Slice.Eq.{slice_eq-Decides}
use Rattle.cert_checker.proofs.EqualAnswers.{syllable_decides}
use Rattle.cert_checker.proofs.equal.words_are_equal.Goals as goal

pub returns : goal.returns
returns c = slice_eq-Decides syllable_decides c.args.left.now c.args.right.now c.eq.result c.eq.ensures
