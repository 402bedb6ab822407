use Rattle.std.proofs.Common.{◌≤◌, ◌+◌, ◌*◌, ap, length, arith}
use Rattle.lpres_reader.proofs.recipes.RecipeLaws.{recipe-conjugate}
use Rattle.lpres_reader.proofs.recipe.Recipe.conjugating.Goals as goal

pub invariant_of-result : goal.invariant_of-result
invariant_of-result c =
    let small : c.base.inside.letters + 2 * c.self.inside.letters ≤ 65536 =
    omega (arith, c.self.invariant.count, c.base.invariant.count, ap length c.self.view_is, ap length c.base.view_is, c.requires) in
    rw (c.in_ok-push.ensures.items, c.in_ok-append.ensures.items)
    ((recipe-conjugate c.self.inside.steps.items c.base.inside.steps.items c.self.inside.letters c.base.inside.letters c.self.invariant
    c.base.invariant small).1)

pub returns : goal.returns
returns c =
    let small : c.base.inside.letters + 2 * c.self.inside.letters ≤ 65536 =
    omega (arith, c.self.invariant.count, c.base.invariant.count, ap length c.self.view_is, ap length c.base.view_is, c.requires) in
    rw (c.in_ok-push.ensures.items, c.in_ok-append.ensures.items, ← c.self.view_is, ← c.base.view_is)
    ((recipe-conjugate c.self.inside.steps.items c.base.inside.steps.items c.self.inside.letters c.base.inside.letters c.self.invariant
    c.base.invariant small).0)
