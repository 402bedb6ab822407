use Rattle.std.proofs.Common.{List, ℤ, ap, ◌∙◌, length, arith}
use Rattle.std.proofs.lemmas.List.{length-append}
use Rattle.pq_base.specs.SignedWord.{conj}
use Rattle.pq_base.proofs.words.WordLaws.{conj-append}
use Rattle.lpres_reader.specs.Recipes.{power_of}
use Rattle.lpres_reader.proofs.recipes.FactorLaws.{length-factor}
use Rattle.lpres_reader.proofs.factor.Factor.conjugated.Goals as goal

pub followed-requires : goal.followed-requires
followed-requires c =
    omega (
      arith,
      c.requires,
      ap length c.self.view_is,
      length-factor c.self.inside.inverted c.self.inside.base c.self.inside.by c.self.inside.times,
    )

pub invariant_of-result : goal.invariant_of-result
invariant_of-result c =
    rw c.in_ok-followed.ensures
    (omega (
      arith,
      c.requires,
      ap length c.self.view_is,
      length-append c.self.inside.by c.args.unit,
      length-factor c.self.inside.inverted c.self.inside.base c.self.inside.by c.self.inside.times,
    ))

pub returns : goal.returns
returns c =
    rw c.in_ok-followed.ensures
    (conj-append (power_of c.self.inside.inverted c.self.inside.base c.self.inside.times) c.self.inside.by c.args.unit
    ∙ ap (λ (u : List ℤ). conj u c.args.unit) c.self.view_is)
