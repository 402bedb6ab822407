use Rattle.std.proofs.Common.{ap, ◌∙◌, length, arith}
use Rattle.std.proofs.Math.Nat.{mul_comm}
use Rattle.lpres_reader.proofs.recipes.RecipeLaws.{length-power_of}
use Rattle.lpres_reader.proofs.factor.Factor.into_recipe.Goals as goal

pub conjugating-requires : goal.conjugating-requires
conjugating-requires c =
    let n = ap length c.in_ok-power.ensures
    ∙ length-power_of c.self.inside.inverted c.self.inside.base c.self.inside.times
    ∙ mul_comm c.self.inside.times (length c.self.inside.base) in
    omega (arith, n, c.self.invariant)
