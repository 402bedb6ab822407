use Rattle.std.proofs.Common.{ℕ, List, Option, option_map, refl, sym, subst, ◌∙◌}
use Rattle.std.specs.Borrow.{Bor}
use Rattle.lpres_reader.proofs.texts.TextRuns.{cut_left}
use Rattle.lpres_reader.proofs.names.GeneratorSearch.{NoneSoFar, begins_here, begins_later, begins_nowhere}
use Rattle.lpres_reader.proofs.reading.has_generators.Goals as goal

pub loop-left-init : goal.loop-left-init
loop-left-init c = record { same = refl }

pub loop-left-preserved : goal.loop-left-preserved
loop-left-preserved c =
    let here =
    subst (λ (o : Option (Bor (List ℕ))). NoneSoFar c.args.text.now (option_map (λ t. t.now) o)) c.in-Some.is c.loop-left.invariant in
    let cut = cut_left c.in-Some.text.now c.cut_line.result.0.now c.cut_line.result.1 c.cut_line.ensures.lines in
    begins_later c.args.text.now c.in-Some.text.now c.cut_line.result.0.now (option_map (λ t. t.now) c.cut_line.result.1) here cut
    (sym c.is_generators.ensures ∙ c.if-is_generators.false)

pub returns-then-is_generators : goal.returns-then-is_generators
returns-then-is_generators c =
    let here =
    subst (λ (o : Option (Bor (List ℕ))). NoneSoFar c.args.text.now (option_map (λ t. t.now) o)) c.in-Some.is c.loop-left.invariant in
    let cut = cut_left c.in-Some.text.now c.cut_line.result.0.now c.cut_line.result.1 c.cut_line.ensures.lines in (
      λ _. begins_here c.args.text.now c.in-Some.text.now c.cut_line.result.0.now (option_map (λ t. t.now) c.cut_line.result.1) here cut
          (sym c.is_generators.ensures ∙ c.if-is_generators.true),
      λ _. refl,
    )

pub returns : goal.returns
returns c = (λ h. absurd cc, λ h. absurd (begins_nowhere c.args.text.now c.loop-left.left c.in_default.not-Some c.loop-left.invariant h))
