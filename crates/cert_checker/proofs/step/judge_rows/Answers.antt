use Rattle.std.proofs.Common.{◌∷◌, [], IfSome, IfNone, length, subst}
use Rattle.std.specs.Prelude.{All}
use Rattle.pc_presentation.specs.Pcp.{IsTailedPresentation}
use Rattle.derivation_log.specs.declared.part.Part.TheVariants as part
use Rattle.derivation_log.specs.CertificateParts.{HasPlainRow}
use Rattle.cert_checker.specs.StepRows.{ArePlainRows}
use Rattle.cert_checker.specs.Judging.{parts_at}
use Rattle.cert_checker.proofs.judging.Judging.{first-here, one-passes}
use Rattle.cert_checker.proofs.judging.StepParts.{part-passes, pass-behind, refuse-behind, over-names, over-named, over-lines, over-shapes}
use Rattle.cert_checker.proofs.judging.StepParts.{over-count, over-rows, over-sums, over-none}
use Rattle.cert_checker.proofs.step.judge_rows.Goals as goal

pub rows_of-requires-clause-names : goal.rows_of-requires-clause-names
rows_of-requires-clause-names c =
    over-names c.args.cert.now c.version-certificate.ensures.certificate c.args.run c.args.class c.requires.from_one c.requires.place
    c.args.cover.now c.args.step.now c.requires.cover c.requires.step c.pres.result.now c.pres.ensures

pub rows_of-requires-clause-named : goal.rows_of-requires-clause-named
rows_of-requires-clause-named c =
    over-named c.args.cert.now c.version-certificate.ensures.certificate c.args.run c.args.class c.requires.from_one c.requires.place
    c.args.cover.now c.args.step.now c.requires.cover c.requires.step c.pres.result.now c.pres.ensures c.sources.result.now
    c.sources.ensures

pub are_sums-requires-clause-rows : goal.are_sums-requires-clause-rows
are_sums-requires-clause-rows c =
    let found = subst (λ o. IfSome o (λ rows. ArePlainRows c.pres.result.now c.args.cover.now c.sources.result.now rows.items))
    c.in-Some.is c.in_ok-rows_of.ensures.some in
    over-shapes c.args.cert.now c.version-certificate.ensures.certificate c.args.run c.args.class c.requires.from_one c.requires.place
    c.args.cover.now c.args.step.now c.requires.cover c.requires.step c.pres.result.now c.pres.ensures c.sources.result.now
    c.sources.ensures
    c.in-Some.rows.items c.deref.result.now found c.deref.ensures.value

pub are_sums-requires-clause-lines : goal.are_sums-requires-clause-lines
are_sums-requires-clause-lines c =
    let found = subst (λ o. IfSome o (λ rows. ArePlainRows c.pres.result.now c.args.cover.now c.sources.result.now rows.items))
    c.in-Some.is c.in_ok-rows_of.ensures.some in
    let count = over-count c.args.cert.now c.version-certificate.ensures.certificate c.args.run c.args.class c.requires.from_one
    c.requires.place
    c.args.cover.now c.args.step.now c.requires.cover c.requires.step c.pres.result.now c.pres.ensures c.sources.result.now
    c.sources.ensures
    c.in-Some.rows.items c.deref.result.now found c.deref.ensures.value in
    over-lines c.args.cert.now c.version-certificate.ensures.certificate c.args.run c.args.class c.requires.from_one c.requires.place
    c.args.cover.now c.args.step.now c.requires.cover c.requires.step (length c.deref.result.now) count c.tails.result.now c.tails.ensures

pub judged-requires : goal.judged-requires
judged-requires c =
    let found = subst (λ o. IfSome o (λ rows. ArePlainRows c.pres.result.now c.args.cover.now c.sources.result.now rows.items))
    c.in-Some.is c.in_ok-rows_of.ensures.some in
    over-sums c.args.cert.now c.version-certificate.ensures.certificate c.args.run c.args.class c.requires.from_one c.requires.place
    c.args.cover.now c.args.step.now c.requires.cover c.requires.step c.pres.result.now c.pres.ensures c.sources.result.now
    c.sources.ensures
    c.in-Some.rows.items c.deref.result.now found c.deref.ensures.value
    (subst IsTailedPresentation c.pcp.ensures.presentation c.rank-presentation.ensures.presentation) c.tails.result.now c.tails.ensures
    c.in_ok-sums-in-Some.sums
    c.in_ok-sums-in-Some.ensures

pub returns-in-None-clause-refused : goal.returns-in-None-clause-refused
returns-in-None-clause-refused c =
    let none = subst (λ o. IfNone o (¬ All (HasPlainRow c.pres.result.now c.args.cover.now) c.sources.result.now))
    c.in-None.is c.in_ok-rows_of.ensures.none in
    first-here c.args.cert.now (record { run = c.args.run; class = c.args.class; part = part.Row })
    (parts_at c.args.run c.args.class (part.Sum ∷ []))
    (over-none c.args.cert.now c.version-certificate.ensures.certificate c.args.run c.args.class c.requires.from_one c.requires.place
    c.args.cover.now c.args.step.now c.requires.cover c.requires.step c.pres.result.now c.pres.ensures c.sources.result.now
    c.sources.ensures
    none)

pub returns-in_ok-sums-in-Some-clause-pass : goal.returns-in_ok-sums-in-Some-clause-pass
returns-in_ok-sums-in-Some-clause-pass c =
    let found = subst (λ o. IfSome o (λ rows. ArePlainRows c.pres.result.now c.args.cover.now c.sources.result.now rows.items))
    c.in-Some.is c.in_ok-rows_of.ensures.some in
    let rows = over-rows c.args.cert.now c.version-certificate.ensures.certificate c.args.run c.args.class c.requires.from_one
    c.requires.place
    c.args.cover.now c.args.step.now c.requires.cover c.requires.step c.pres.result.now c.pres.ensures c.sources.result.now
    c.sources.ensures
    c.in-Some.rows.items c.deref.result.now found c.deref.ensures.value in
    pass-behind c.args.cert.now (parts_at c.args.run c.args.class (part.Row ∷ [])) (parts_at c.args.run c.args.class (part.Sum ∷ []))
    c.judged.result (one-passes c.args.cert.now c.args.run c.args.class part.Row rows)
    (part-passes c.args.cert.now c.args.run c.args.class part.Sum c.judged.result c.judged.ensures.ok)

pub returns-in_ok-sums-in-Some-clause-refused : goal.returns-in_ok-sums-in-Some-clause-refused
returns-in_ok-sums-in-Some-clause-refused c =
    let found = subst (λ o. IfSome o (λ rows. ArePlainRows c.pres.result.now c.args.cover.now c.sources.result.now rows.items))
    c.in-Some.is c.in_ok-rows_of.ensures.some in
    let rows = over-rows c.args.cert.now c.version-certificate.ensures.certificate c.args.run c.args.class c.requires.from_one
    c.requires.place
    c.args.cover.now c.args.step.now c.requires.cover c.requires.step c.pres.result.now c.pres.ensures c.sources.result.now
    c.sources.ensures
    c.in-Some.rows.items c.deref.result.now found c.deref.ensures.value in
    refuse-behind c.args.cert.now (parts_at c.args.run c.args.class (part.Row ∷ [])) (parts_at c.args.run c.args.class (part.Sum ∷ []))
    c.judged.result (one-passes c.args.cert.now c.args.run c.args.class part.Row rows) c.judged.ensures.refused
