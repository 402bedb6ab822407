use Rattle.std.proofs.Common.{◌↔◌, subst, IsTrue}
use Rattle.p_cover.specs.Covers.{CoverOf, all_sources}
use Rattle.p_cover.proofs.PartLaws.{no_entries}
use Rattle.derivation_log.specs.CertificateParts.{AreCarriedToIdentity}
use Rattle.cert_checker.proofs.carried.carries.Goals as goal

pub cover_of-requires : goal.cover_of-requires
cover_of-requires c = no_entries (all_sources c.args.answer.now)

pub returns : goal.returns
returns c =
    subst (λ (C : CoverOf). IsTrue c.carries_all.result ↔ AreCarriedToIdentity C.answer c.args.words.now) c.in_ok-cover.ensures
    c.carries_all.ensures
