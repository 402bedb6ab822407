use Rattle.std.proofs.Common.{◌<◌, ap, length, arith}
use Rattle.lpres_reader.proofs.recipes.RecipeLaws.{recipe-push}
use Rattle.lpres_reader.proofs.recipe.Recipe.with_generator.Goals as goal

pub invariant_of-result : goal.invariant_of-result
invariant_of-result c =
    let small : c.self.inside.letters < 65536 = omega (arith, c.self.invariant.count, ap length c.self.view_is, c.requires.limit) in
    rw c.in_ok-push.ensures.items ((recipe-push c.self.inside.steps.items c.self.inside.letters c.args.place c.self.invariant small).1)

pub returns : goal.returns
returns c =
    let small : c.self.inside.letters < 65536 = omega (arith, c.self.invariant.count, ap length c.self.view_is, c.requires.limit) in
    rw (c.in_ok-push.ensures.items, ← c.self.view_is)
    ((recipe-push c.self.inside.steps.items c.self.inside.letters c.args.place c.self.invariant small).0)
