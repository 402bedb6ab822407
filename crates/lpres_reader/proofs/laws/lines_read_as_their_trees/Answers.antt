use Rattle.lpres_reader.proofs.laws.lines_read_as_their_trees.Goals as goal
use Rattle.lpres_reader.proofs.trees.TreeReads as law

pub returns : goal.returns
returns c = law.lines_read_as_their_trees
