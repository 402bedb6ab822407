use Rattle.pc_presentation.proofs.quotients.ElementLaws.{add_tails-is}
use Rattle.pc_presentation.proofs.elem.Elem.add_tails.Goals as goal

pub returns : goal.returns
returns c =
    add_tails-is c.self.inside.exponents.items c.self.inside.tails c.args.row.now c.add_scaled.new.self c.args.self.now c.self.view_is
    c.add_scaled.ensures c.requires.prime c.requires.width c.prime-residues.ensures.row.below
