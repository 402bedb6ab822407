use Rattle.std.proofs.Common.{◌∷◌, [], length, ap, ◌∙◌, subst}
use Rattle.pq_base.specs.LPresentation.{LPresentation, AreWords}
use Rattle.derivation_log.specs.declared.part.Part.TheVariants as part
use Rattle.cert_checker.specs.Judging.{parts_at, endo_trials}
use Rattle.cert_checker.proofs.judging.Judging.{one-passes}
use Rattle.cert_checker.proofs.judging.StepParts.{refuse-behind, refuse-before}
use Rattle.cert_checker.proofs.judging.RunParts.{words-built}
use Rattle.cert_checker.proofs.run.judge_maps.Goals as goal

pub carries-requires-clause-letters : goal.carries-requires-clause-letters
carries-requires-clause-letters c =
    words-built c.args.cert.now c.args.run c.args.answer.now c.requires.answer c.iterated.result.now c.args.cert.now.presentation.iterated
    (c.iterated.ensures ∙ ap (λ (L : LPresentation). L.iterated) c.pres-2.ensures)
    (subst (λ (L : LPresentation). AreWords (length L.names) L.iterated) c.pres.ensures c.names-names.ensures.presentation.iterated_words)

pub returns-in_err-judged_last-clause-refused : goal.returns-in_err-judged_last-clause-refused
returns-in_err-judged_last-clause-refused c =
    refuse-before c.args.cert.now (parts_at c.args.run c.args.cert.now.class (part.Iterated ∷ [])) (endo_trials c.args.cert.now c.args.run)
    c.from_residual-in_err-judged_last.result c.in_err-judged_last.field-0.0 c.from_residual-in_err-judged_last.ensures.1
    c.in_err-judged_last.ensures.refused

pub returns-clause-refused : goal.returns-clause-refused
returns-clause-refused c =
    refuse-behind c.args.cert.now (parts_at c.args.run c.args.cert.now.class (part.Iterated ∷ [])) (endo_trials c.args.cert.now c.args.run)
    c.judge_endos.result (one-passes c.args.cert.now c.args.run c.args.cert.now.class part.Iterated c.in_ok-judged_last.ensures.ok)
    c.judge_endos.ensures.refused
