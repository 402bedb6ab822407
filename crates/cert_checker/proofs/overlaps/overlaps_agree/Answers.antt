use Rattle.std.proofs.Common.{suc, sym, subst}
use Rattle.pq_base.specs.Presentation.{Presentation}
use Rattle.cert_checker.specs.AgreedOverlaps.{AllAgree}
use Rattle.cert_checker.proofs.AgreedLaws.{all-agree}
use Rattle.cert_checker.proofs.overlaps.overlaps_agree.Goals as goal

pub returns : goal.returns
returns c =
    let all = all-agree c.args.answer.now in
    let same = c.pcp-pcp.ensures.presentation in (
      λ t. all.0 (subst (λ (P : Presentation). AllAgree P (suc P.rank)) same (c.all_agree.ensures.agree.0 t)),
      λ agree. c.all_agree.ensures.agree.1 (subst (λ (P : Presentation). AllAgree P (suc P.rank)) (sym same) (all.1 agree)),
    )
