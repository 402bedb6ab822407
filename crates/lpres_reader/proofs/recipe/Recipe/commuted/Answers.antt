use Rattle.std.proofs.Common.{◌≡◌, ◌≤◌, ◌+◌, ◌*◌, length, ap, arith}
use Rattle.lpres_reader.proofs.recipes.RecipeLaws.{comm-empty, recipe-commute}
use Rattle.lpres_reader.proofs.recipe.Recipe.commuted.Goals as goal

pub invariant_of-result : goal.invariant_of-result
invariant_of-result c =
    let small : 2 * (c.self.inside.letters + c.other.inside.letters) ≤ 65536 =
    omega (arith, c.self.invariant.count, c.other.invariant.count, ap length c.self.view_is, ap length c.other.view_is, c.requires) in
    rw (c.in_ok-push.ensures.items, c.in_ok-append.ensures.items)
    ((recipe-commute c.self.inside.steps.items c.other.inside.steps.items c.self.inside.letters c.other.inside.letters c.self.invariant
    c.other.invariant small).1)

pub returns : goal.returns
returns c =
    let small : 2 * (c.self.inside.letters + c.other.inside.letters) ≤ 65536 =
    omega (arith, c.self.invariant.count, c.other.invariant.count, ap length c.self.view_is, ap length c.other.view_is, c.requires) in
    rw (c.in_ok-push.ensures.items, c.in_ok-append.ensures.items, ← c.self.view_is, ← c.other.view_is)
    ((recipe-commute c.self.inside.steps.items c.other.inside.steps.items c.self.inside.letters c.other.inside.letters c.self.invariant
    c.other.invariant small).0)

pub returns-then-self-other-eq0 : goal.returns-then-self-other-eq0
returns-then-self-other-eq0 c =
    let none : c.self.inside.letters + c.other.inside.letters ≡ 0 = grind arith in
    comm-empty c.args.self c.args.other (omega (arith, c.self.invariant.count, ap length c.self.view_is))
    (omega (arith, c.other.invariant.count, ap length c.other.view_is))
