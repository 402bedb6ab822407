-- The names so far are the texts so far, and keep all limits.
use Rattle.lpres_reader.proofs.names.NamesSoFar.{NamesSoFar}
use Rattle.lpres_reader.proofs.generators.names_of.Given as goal

abbrev pub invariant-loop-text : goal.invariant-loop-text
invariant-loop-text l = NamesSoFar l.texts l.text-index l.names.keys
