use Rattle.lpres_reader.proofs.laws.each_line_is_one_tree.Goals as goal
use Rattle.lpres_reader.proofs.trees.TreeReads as law

pub returns : goal.returns
returns c = law.each_line_is_one_tree
