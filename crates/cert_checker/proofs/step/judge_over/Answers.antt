use Rattle.std.proofs.Common.{length, refl, arith}
use Rattle.cert_checker.proofs.judging.StepParts.{step-here, over-lines, over-class, built-next}
use Rattle.cert_checker.proofs.step.judge_over.Goals as goal

pub next-requires-clause-lines : goal.next-requires-clause-lines
next-requires-clause-lines c =
    let s = c.index-steps-class.result in
    let step = step-here c.args.cert.now c.args.run c.args.class c.steps.result.now s c.requires.from_one c.requires.place c.steps.ensures
    c.index-steps-class.is in
    over-lines c.args.cert.now c.version-certificate.ensures.certificate c.args.run c.args.class c.requires.from_one c.requires.place
    c.args.cover.now s c.requires.cover step (length s.sources) refl s.tails refl

pub next-requires-clause-class : goal.next-requires-clause-class
next-requires-clause-class c =
    let s = c.index-steps-class.result in
    let step = step-here c.args.cert.now c.args.run c.args.class c.steps.result.now s c.requires.from_one c.requires.place c.steps.ensures
    c.index-steps-class.is in
    let few = over-class c.args.cert.now c.version-certificate.ensures.certificate c.args.run c.args.class c.requires.from_one
    c.requires.place
    c.args.cover.now s c.requires.cover step in
    let limit = c.version-certificate.ensures.certificate.class_limit in
    let within = c.requires.extra.class in
    let first = c.requires.from_one in
    omega (arith, few, limit, within, first)

pub returns-clause-built : goal.returns-clause-built
returns-clause-built c =
    let s = c.index-steps-class.result in
    let step = step-here c.args.cert.now c.args.run c.args.class c.steps.result.now s c.requires.from_one c.requires.place c.steps.ensures
    c.index-steps-class.is in
    built-next c.args.cert.now c.args.run c.args.class c.args.cover.now s c.requires.from_one c.requires.cover step c.in_ok-next.field-0
    c.in_ok-next.ensures.answer c.in_ok-next.ensures.stopped
