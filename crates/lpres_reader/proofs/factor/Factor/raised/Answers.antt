use Rattle.std.proofs.Common.{◌≡◌, ◌+◌, ◌*◌, ◌≤◌, ◌<◌, List, ℤ, ap, sym, ◌∙◌, length, arith, rules}
use Rattle.std.proofs.Math.Nat.{mul_assoc}
use Rattle.lpres_reader.specs.Recipes.{power_of}
use Rattle.lpres_reader.proofs.recipes.FactorLaws.{length-factor, factor-repeated, power_of-empty, repeated-few}
use Rattle.lpres_reader.proofs.factor.Factor.raised.Goals as goal

pub returns-then-letters-eq0 : goal.returns-then-letters-eq0
returns-then-letters-eq0 c = power_of-empty c.args.inverted c.args.self c.args.times (grind arith)

pub overflow_mul-result : goal.overflow_mul-result
overflow_mul-result c =
    let n : length c.args.self ≡ length c.self.inside.base * c.self.inside.times + 2 * length c.self.inside.by =
    sym (ap length c.self.view_is) ∙ length-factor c.self.inside.inverted c.self.inside.base c.self.inside.by c.self.inside.times in
    let none : length c.self.inside.by ≡ 0 = grind arith in
    let same : length c.args.self ≡ length c.self.inside.base * c.self.inside.times = omega arith in
    let some : 0 < length c.args.self = grind arith in
    let few = repeated-few (length c.self.inside.base) c.self.inside.times c.args.times (rw same at some) (rw same at c.requires) in
    search rules

pub invariant_of-result : goal.invariant_of-result
invariant_of-result c =
    let n : length c.args.self ≡ length c.self.inside.base * c.self.inside.times + 2 * length c.self.inside.by =
    sym (ap length c.self.view_is) ∙ length-factor c.self.inside.inverted c.self.inside.base c.self.inside.by c.self.inside.times in
    let none : length c.self.inside.by ≡ 0 = grind arith in
    let same : length c.args.self ≡ length c.self.inside.base * c.self.inside.times = omega arith in
    let all : length c.self.inside.base * c.self.inside.times * c.args.times ≤ 65536 = rw same at c.requires in
    let e = mul_assoc (length c.self.inside.base) c.self.inside.times c.args.times in
    omega arith

pub returns-then-letters-eq0-2 : goal.returns-then-letters-eq0-2
returns-then-letters-eq0-2 c =
    let none : length c.self.inside.by ≡ 0 = grind arith in
    factor-repeated c.args.inverted c.self.inside.inverted c.self.inside.base c.self.inside.by c.self.inside.times c.args.times none
    ∙ ap (λ (u : List ℤ). power_of c.args.inverted u c.args.times) c.self.view_is
