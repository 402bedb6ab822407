use Rattle.std.proofs.Common.{◌≤◌, ◌+◌, [], ap, length, arith}
use Rattle.lpres_reader.proofs.recipes.RecipeLaws.{recipe-followed, written-both}
use Rattle.lpres_reader.proofs.recipe.Recipe.followed.Goals as goal

pub invariant_of-result : goal.invariant_of-result
invariant_of-result c =
    let small : c.self.inside.letters + c.other.inside.letters ≤ 65536 =
    omega (arith, c.self.invariant.count, c.other.invariant.count, ap length c.self.view_is, ap length c.other.view_is, c.requires) in
    rw c.in_ok-append.ensures.items
    (recipe-followed c.self.inside.steps.items c.other.inside.steps.items c.self.inside.letters c.other.inside.letters c.self.invariant
    c.other.invariant small)

pub returns : goal.returns
returns c =
    rw (c.in_ok-append.ensures.items, ← c.self.view_is, ← c.other.view_is)
    (written-both c.self.inside.steps.items c.other.inside.steps.items c.self.inside.letters c.other.inside.letters c.self.invariant
    c.other.invariant [])
