use Rattle.std.proofs.Common.{sym, subst}
use Rattle.pq_base.specs.Prime.{prime_value}
use Rattle.pq_base.specs.LPresentation.{LPresentation}
use Rattle.pq_base.specs.Answer.{Answer}
use Rattle.derivation_log.specs.CertificateForms.{first_version, IsCertificate}
use Rattle.derivation_log.specs.HeldLines.{LinesOfRuns}
use Rattle.derivation_log.proofs.HeldCertificates.{kept-certificate}
use Rattle.derivation_log.proofs.full_log.FullLog.finish.Goals as goal

pub unreachable-requires : goal.unreachable-requires
unreachable-requires c =
    let p = prime_value c.args.prime in
    let kept =
    kept-certificate c.args.pres.now p c.args.asked c.args.self c.args.answer.now c.requires.class_from_one c.requires.class_limit
    c.requires.prime c.requires.names c.requires.steps c.requires.one_run in
    let inside = subst (λ (l : LinesOfRuns). IsCertificate
    (first_version c.args.pres.now p c.args.asked l.iterated l.whole c.args.answer.now))
    (sym c.self.view_is) kept in
    let with_pres = subst (λ (L : LPresentation). IsCertificate
    (first_version L p c.args.asked c.self.inside.iterated.items c.self.inside.whole.items c.args.answer.now))
    (sym c.in_ok-pres.ensures) inside in
    c.in-None.ensures.none
    (subst (λ (A : Answer). IsCertificate
    (first_version c.in_ok-pres.pres p c.args.asked c.self.inside.iterated.items c.self.inside.whole.items A))
    (sym c.in_ok-answer.ensures) with_pres)
