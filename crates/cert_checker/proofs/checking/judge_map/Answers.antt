use Rattle.std.proofs.Common.{◌≡◌, IfSome, sym, ◌∙◌, refl, subst}
use Rattle.derivation_log.specs.declared.source.Run.TheVariants.{Iterated, Whole}
use Rattle.cover_quotient.specs.Stages.{full_cover_of}
use Rattle.derivation_log.specs.CertificateParts.{built_by}
use Rattle.cert_checker.proofs.judging.RunParts.{names-built}
use Rattle.cert_checker.proofs.checking.judge_map.Goals as goal

pub make_map-requires-clause-names : goal.make_map-requires-clause-names
make_map-requires-clause-names c =
    names-built c.args.cert.now Iterated c.in-Some.first
    (subst (λ o. IfSome o (λ a. a ≡ built_by full_cover_of c.args.cert.now Iterated)) c.in-Some.is c.requires.first)
    c.args.cert.now.presentation refl
    ∙ sym (names-built c.args.cert.now Whole c.args.whole.now c.requires.whole c.args.cert.now.presentation refl)
