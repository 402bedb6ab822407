use Rattle.std.proofs.Common.{◌++◌, ◌∷◌, [], length, ap, ◌∙◌, subst}
use Rattle.pq_base.specs.LPresentation.{LPresentation, AreWords}
use Rattle.derivation_log.specs.declared.part.Part.TheVariants as part
use Rattle.derivation_log.specs.declared.source.Run.TheVariants.{Whole}
use Rattle.cert_checker.specs.Judging.{parts_at, map_trials, last_trials, IsRefusedAt}
use Rattle.cert_checker.proofs.judging.Judging.{one-passes, refused-before, refused-behind}
use Rattle.cert_checker.proofs.judging.StepParts.{refuse-behind, refuse-before}
use Rattle.cert_checker.proofs.judging.RunSteps.{handed-on}
use Rattle.cert_checker.proofs.judging.RunParts.{words-built}
use Rattle.cert_checker.proofs.checking.judge_last.Goals as goal

pub carries-requires-clause-letters : goal.carries-requires-clause-letters
carries-requires-clause-letters c =
    words-built c.args.cert.now Whole c.args.whole.now c.requires.whole c.fixed.result.now c.args.cert.now.presentation.fixed
    (c.fixed.ensures ∙ ap (λ (L : LPresentation). L.fixed) c.pres-2.ensures)
    (subst (λ (L : LPresentation). AreWords (length L.names) L.fixed) c.pres.ensures c.names-names.ensures.presentation.fixed_words)

pub returns-in_err-judged_last-clause-refused : goal.returns-in_err-judged_last-clause-refused
returns-in_err-judged_last-clause-refused c =
    let cert = c.args.cert.now in
    refuse-before cert (parts_at Whole cert.class (part.Fixed ∷ [])) (map_trials cert ++ parts_at Whole cert.class (part.Answer ∷ []))
    c.from_residual-in_err-judged_last.result c.in_err-judged_last.field-0.0 c.from_residual-in_err-judged_last.ensures.1
    c.in_err-judged_last.ensures.refused

pub returns-in_err-judge_map-clause-refused : goal.returns-in_err-judge_map-clause-refused
returns-in_err-judge_map-clause-refused c =
    let cert = c.args.cert.now in
    handed-on (IsRefusedAt cert (last_trials cert)) c.from_residual-in_err-judge_map.result c.in_err-judge_map.field-0.0
    c.from_residual-in_err-judge_map.ensures.1
    (refused-behind cert (parts_at Whole cert.class (part.Fixed ∷ [])) (map_trials cert ++ parts_at Whole cert.class (part.Answer ∷ []))
    c.in_err-judge_map.field-0.0 (one-passes cert Whole cert.class part.Fixed c.in_ok-judged_last.ensures.ok)
    (refused-before cert (map_trials cert) (parts_at Whole cert.class (part.Answer ∷ [])) c.in_err-judge_map.field-0.0
    c.in_err-judge_map.ensures.refused))

pub returns-clause-refused : goal.returns-clause-refused
returns-clause-refused c =
    let cert = c.args.cert.now in
    refuse-behind cert (parts_at Whole cert.class (part.Fixed ∷ [])) (map_trials cert ++ parts_at Whole cert.class (part.Answer ∷ []))
    c.judged_last-2.result (one-passes cert Whole cert.class part.Fixed c.in_ok-judged_last.ensures.ok)
    (refuse-behind cert (map_trials cert) (parts_at Whole cert.class (part.Answer ∷ [])) c.judged_last-2.result
    c.in_ok-judge_map.ensures.pass
    c.judged_last-2.ensures.refused)
