use Rattle.std.proofs.Common.{◌≡◌, List, ℕ, ap, sym, subst, ◌∙◌}
use Rattle.pq_base.specs.LPresentation.{LPresentation, IsLPresentation}
use Rattle.lpres_reader.specs.Limits.{IsWithinLimits}
use Rattle.lpres_reader.specs.Makes.{MakesNames}
use Rattle.lpres_reader.specs.Presentations.{AreGenerators}
use Rattle.lpres_reader.specs.Verdicts.{bare}
use Rattle.lpres_reader.proofs.faults.FirstLines.{made_bare, bare_is_presentation}
use Rattle.lpres_reader.proofs.generators.read_first.Goals as goal

pub of_parts-pres-requires : goal.of_parts-pres-requires
of_parts-pres-requires c =
    let keys = c.in_ok-names.names.keys in
    let names = c.in_ok-listed.listed.items in
    let same : keys ≡ names = sym (c.in_ok-listed.ensures ∙ c.as_slice.ensures.keys) in
    let generators : AreGenerators names = subst AreGenerators same c.in_ok-names.ensures.0 in
    let made : MakesNames c.args.line.now (bare names) =
    subst (λ (ns : List (List ℕ)). MakesNames c.args.line.now (bare ns)) same c.in_ok-names.ensures.1 in
    let is =
    made_bare names c.new.result.items c.new-2.result.items c.new-3.result.items c.new.ensures.items c.new-2.ensures.items
    c.new-3.ensures.items in
    record {
      generators = generators;
      presentation = subst IsLPresentation is (bare_is_presentation names generators.distinct);
      limits = subst IsWithinLimits is made.within;
    }

pub of-requires-clause-names : goal.of-requires-clause-names
of-requires-clause-names c =
    sym (ap (λ (L : LPresentation). L.names) c.of_parts-pres.ensures ∙ c.in_ok-listed.ensures ∙ c.as_slice.ensures.keys)

pub returns : goal.returns
returns c =
    let names = c.in_ok-listed.listed.items in
    let same : c.in_ok-names.names.keys ≡ names = sym (c.in_ok-listed.ensures ∙ c.as_slice.ensures.keys) in
    let is =
    made_bare names c.new.result.items c.new-2.result.items c.new-3.result.items c.new.ensures.items c.new-2.ensures.items
    c.new-3.ensures.items in
    subst (MakesNames c.args.line.now) (ap bare same ∙ is ∙ sym c.of_parts-pres.ensures ∙ sym c.of.ensures) c.in_ok-names.ensures.1
