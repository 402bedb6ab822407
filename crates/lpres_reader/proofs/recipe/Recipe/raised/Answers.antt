use Rattle.std.proofs.Common.{◌≤◌, ◌*◌}
use Rattle.lpres_reader.proofs.recipes.RecipeLaws.{recipe-raise}
use Rattle.lpres_reader.proofs.recipe.Recipe.raised.Goals as goal

pub invariant_of-result : goal.invariant_of-result
invariant_of-result c =
    let small : c.self.inside.letters * c.args.times ≤ 65536 = rw (c.self.invariant.count, c.self.view_is) c.requires in
    rw c.in_ok-push.ensures.items
    ((recipe-raise c.self.inside.steps.items c.self.inside.letters c.args.inverted c.args.times c.self.invariant small).1)

pub returns : goal.returns
returns c =
    let small : c.self.inside.letters * c.args.times ≤ 65536 = rw (c.self.invariant.count, c.self.view_is) c.requires in
    rw (c.in_ok-push.ensures.items, ← c.self.view_is)
    ((recipe-raise c.self.inside.steps.items c.self.inside.letters c.args.inverted c.args.times c.self.invariant small).0)
