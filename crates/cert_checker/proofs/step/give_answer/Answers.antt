use Rattle.std.proofs.Common.{ap, sym, subst, arith}
use Rattle.pc_presentation.specs.Pcp.{TailedPresentation}
use Rattle.std.specs.Prelude.{All}
use Rattle.cover_quotient.specs.NextParts.{IsPlace}
use Rattle.cert_checker.proofs.summing.LineCombinations.{kept-places}
use Rattle.cert_checker.proofs.judging.StepParts.{gives-decided}
use Rattle.cert_checker.proofs.step.give_answer.Goals as goal

pub may_all_be_kept-requires : goal.may_all_be_kept-requires
may_all_be_kept-requires c =
    subst (All (IsPlace c.args.cover.now.sources)) (sym c.requires) (kept-places c.args.cover.now c.args.step.now)

pub returns-then-rank-kept-le-RANK : goal.returns-then-rank-kept-le-RANK
returns-then-rank-kept-le-RANK c =
    gives-decided c.args.cover.now c.args.step.now c.args.kept.now c.requires
    (let rank = c.rank.ensures.rank in let same = ap (λ (T : TailedPresentation). T.presentation.rank) c.pcp.ensures.presentation in omega
    (arith, rank, same, c.if-rank-kept-le-RANK.true)) c.may_all_be_kept.result c.may_all_be_kept.ensures
