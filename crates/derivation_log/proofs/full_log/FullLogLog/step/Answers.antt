use Rattle.std.proofs.Common.{◌≡◌, [], ◌∷◌, ◌++◌, sym, ap, ◌∙◌, subst}
use Rattle.derivation_log.specs.declared.source.Run.{Run}
use Rattle.derivation_log.specs.HeldSteps.{KeepsOneMore, told_step}
use Rattle.derivation_log.specs.Certificates.{StepLines}
use Rattle.derivation_log.specs.HeldLines.{KeepsLines, LinesOfRuns, held_lines}
use Rattle.derivation_log.proofs.HeldLines.{lines-one_more}
use Rattle.derivation_log.proofs.full_log.FullLogLog.step.Goals as goal

iterated-grown : (c : goal.In_ok-push-in-Iterated)
    → c.push.new.self.items ≡ c.self.inside.iterated.items ++ held_lines (told_step c.args.sources.now c.args.basis.now) ∷ []
iterated-grown c =
    c.in_ok-push-in-Iterated.ensures.items
    ∙ ap (λ (s : StepLines). c.self.inside.iterated.items ++ s ∷ []) c.in_ok-step.ensures.lines

whole-grown : (c : goal.In_ok-push-in-Whole)
    → c.push-in-Whole.new.self.items ≡ c.self.inside.whole.items ++ held_lines (told_step c.args.sources.now c.args.basis.now) ∷ []
whole-grown c =
    c.in_ok-push-in-Whole.ensures.items
    ∙ ap (λ (s : StepLines). c.self.inside.whole.items ++ s ∷ []) c.in_ok-step.ensures.lines

pub returns-in_ok-push-in-Iterated-clause-kept : goal.returns-in_ok-push-in-Iterated-clause-kept
returns-in_ok-push-in-Iterated-clause-kept c =
    let before : LinesOfRuns = record { iterated = c.self.inside.iterated.items; whole = c.self.inside.whole.items } in
    let after : LinesOfRuns = record { iterated = c.push.new.self.items; whole = c.self.inside.whole.items } in
    let step = told_step c.args.sources.now c.args.basis.now in
    let kept = lines-one_more before.iterated after.iterated step c.told_lines.ensures.told (iterated-grown c) in
    let of_run = subst (λ (r : Run). KeepsOneMore (KeepsLines before r) (KeepsLines after r) step) (sym c.in-Iterated.is) kept in
    subst (λ (l : LinesOfRuns). KeepsOneMore (KeepsLines l c.args.run) (KeepsLines after c.args.run) step) c.self.view_is of_run

pub returns-in_ok-push-in-Whole-clause-kept : goal.returns-in_ok-push-in-Whole-clause-kept
returns-in_ok-push-in-Whole-clause-kept c =
    let before : LinesOfRuns = record { iterated = c.self.inside.iterated.items; whole = c.self.inside.whole.items } in
    let after : LinesOfRuns = record { iterated = c.self.inside.iterated.items; whole = c.push-in-Whole.new.self.items } in
    let step = told_step c.args.sources.now c.args.basis.now in
    let kept = lines-one_more before.whole after.whole step c.told_lines.ensures.told (whole-grown c) in
    let of_run = subst (λ (r : Run). KeepsOneMore (KeepsLines before r) (KeepsLines after r) step) (sym c.in-Whole.is) kept in
    subst (λ (l : LinesOfRuns). KeepsOneMore (KeepsLines l c.args.run) (KeepsLines after c.args.run) step) c.self.view_is of_run
