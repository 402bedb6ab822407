use Rattle.std.proofs.Common.{◌<◌, ◌≤◌, ◌∙◌, ℤ, List, length, refl, subst, arith}
use Rattle.std.specs.List.{All as Each}
use Rattle.std.proofs.lemmas.List.{take_all}
use Rattle.derivation_log.specs.PlainValues.{InducesPlainly}
use Rattle.cert_checker.proofs.mapping.InducedMaps.{mapped-count, induced-more}
use Rattle.cert_checker.proofs.endos.induce_each.Goals as goal

pub loop-e-preserved : goal.loop-e-preserved
loop-e-preserved c =
    let endos = c.args.pres.now.endos in
    let count = mapped-count _ c.endos.result.now endos c.endos.ensures in
    let l : c.loop-e.e < length c.args.pres.now.endos = omega (arith, c.loop-e-test.true, c.loop-e.auto.e-end, count) in (
      c.induces.ensures.bench,
      c.induces.ensures.values,
      c.induces.auto.values ∙ c.loop-e.invariant.2,
      c.induces.ensures.elements,
      c.induces.auto.elements ∙ c.loop-e.invariant.4,
      induced-more c.args.cover.now.answer endos c.loop-e.e c.endo.result.now l c.loop-e.invariant.5 c.endo.ensures.images
          (c.induces.ensures.induced.0 c.if-not-induces.false),
    )

pub returns : goal.returns
returns c =
    let endos = c.args.pres.now.endos in
    let count = mapped-count _ c.endos.result.now endos c.endos.ensures in
    let all : length c.args.pres.now.endos ≤ c.loop-e.e = omega (arith, c.loop-e-test.false, count) in (
      λ h. subst (λ (es : List (List (List ℤ))). Each (InducesPlainly c.args.cover.now.answer) es)
          (take_all c.loop-e.e endos all) c.loop-e.invariant.5,
      λ h. refl,
    )
