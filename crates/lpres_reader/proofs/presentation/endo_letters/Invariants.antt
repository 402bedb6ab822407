use Rattle.std.proofs.Common.{◌≡◌, take}
use Rattle.lpres_reader.specs.Presentations.{endo_letters}
use Rattle.lpres_reader.proofs.presentation.endo_letters.Given as goal

abbrev pub invariant-loop-endo : goal.invariant-loop-endo
invariant-loop-endo l = l.total ≡ endo_letters (take l.endo-index l.endos.items)
