use Rattle.pc_presentation.proofs.cuts.CutSides.{cuts_are_presentations}
use Rattle.pc_presentation.proofs.cut_laws.cuts_are_presentations.Goals as goal

pub returns : goal.returns
returns c = cuts_are_presentations
