use Rattle.cert_checker.proofs.judging.RunParts.{names-built}
use Rattle.cert_checker.proofs.run.judge_endos.Goals as goal

pub induce-requires-clause-names : goal.induce-requires-clause-names
induce-requires-clause-names c =
    names-built c.args.cert.now c.args.run c.args.answer.now c.requires.answer c.pres-2.result.now c.pres-2.ensures
