use Rattle.std.proofs.Common.{ap, ◌∙◌, List, ℤ}
use Rattle.lpres_reader.specs.Recipes.{power_of}
use Rattle.lpres_reader.proofs.recipes.FactorLaws.{factor-signed}
use Rattle.lpres_reader.proofs.factor.Factor.signed.Goals as goal

pub returns : goal.returns
returns c =
    factor-signed c.args.turned c.self.inside.inverted c.self.inside.base c.self.inside.by c.self.inside.times
    ∙ ap (λ (u : List ℤ). power_of c.args.turned u 1) c.self.view_is
