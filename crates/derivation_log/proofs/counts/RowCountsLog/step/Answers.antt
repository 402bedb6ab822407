use Rattle.std.proofs.Common.{rules, ◌≡◌, [], ◌∷◌, ◌++◌, length, sym, subst}
use Rattle.derivation_log.specs.declared.source.Run.{Run}
use Rattle.derivation_log.specs.HeldSteps.{KeepsOneMore, told_step}
use Rattle.derivation_log.specs.RowCounts.{HasCounts}
use Rattle.derivation_log.proofs.CountLaws.{keeps-one_more}
use Rattle.derivation_log.proofs.counts.RowCountsLog.step.Goals as goal

pub returns-in_ok-push-in-Iterated-clause-kept : goal.returns-in_ok-push-in-Iterated-clause-kept
returns-in_ok-push-in-Iterated-clause-kept c =
    let step = told_step c.args.sources.now c.args._basis.now in
    let grown : c.push.new.self.items ≡ c.args.self.now.iterated ++ length c.args.sources.now ∷ [] = search rules in
    subst (λ (r : Run). KeepsOneMore (HasCounts c.args.self.now r)
    (HasCounts (record { iterated = c.push.new.self.items; whole = c.self.inside.whole.items }) r)
    (told_step c.args.sources.now c.args._basis.now))
    (sym c.in-Iterated.is)
    (keeps-one_more c.args.self.now.iterated c.push.new.self.items step grown)

pub returns-in_ok-push-in-Whole-clause-kept : goal.returns-in_ok-push-in-Whole-clause-kept
returns-in_ok-push-in-Whole-clause-kept c =
    let step = told_step c.args.sources.now c.args._basis.now in
    let grown : c.push-in-Whole.new.self.items ≡ c.args.self.now.whole ++ length c.args.sources.now ∷ [] = search rules in
    subst (λ (r : Run). KeepsOneMore (HasCounts c.args.self.now r)
    (HasCounts (record { iterated = c.self.inside.iterated.items; whole = c.push-in-Whole.new.self.items }) r)
    (told_step c.args.sources.now c.args._basis.now))
    (sym c.in-Whole.is)
    (keeps-one_more c.args.self.now.whole c.push-in-Whole.new.self.items step grown)
