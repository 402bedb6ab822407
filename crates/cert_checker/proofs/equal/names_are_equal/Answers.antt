use Rattle.std.specs.Cmp.Lexicographic.{bytes_decides}
use Rattle.std.proofs.lemmas.Slice.Eq.{slice_eq-Decides}
use Rattle.cert_checker.proofs.equal.names_are_equal.Goals as goal

pub returns : goal.returns
returns c = slice_eq-Decides bytes_decides c.args.left.now c.args.right.now c.eq.result c.eq.ensures
