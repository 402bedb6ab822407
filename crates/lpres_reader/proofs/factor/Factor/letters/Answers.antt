use Rattle.std.proofs.Common.{ap, sym, ◌∙◌, length}
use Rattle.lpres_reader.proofs.recipes.FactorLaws.{length-factor}
use Rattle.lpres_reader.proofs.factor.Factor.letters.Goals as goal

pub returns-clause-letters : goal.returns-clause-letters
returns-clause-letters c =
    rw (c.letters.ensures.letters, c.letters-2.ensures.letters)
    (sym (length-factor c.self.inside.inverted c.self.inside.base c.self.inside.by c.self.inside.times) ∙ ap length c.self.view_is)
