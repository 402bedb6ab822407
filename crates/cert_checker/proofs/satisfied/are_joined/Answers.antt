use Rattle.cert_checker.proofs.words.RelationWords.{joined-decided}
use Rattle.cert_checker.proofs.satisfied.are_joined.Goals as goal

pub returns : goal.returns
returns c =
    joined-decided c.args.pcp.now c.requires.no_tails c.requires.consistent c.args.left.now c.args.right.now c.requires.left
    c.requires.right
    c.are_alike.result c.are_alike.ensures
