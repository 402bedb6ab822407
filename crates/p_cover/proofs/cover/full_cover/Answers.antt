use Rattle.std.proofs.Common.{List, sym, subst}
use Rattle.pq_base.specs.Answer.{Definition as Source}
use Rattle.p_cover.specs.Sources.{IsPartOf}
use Rattle.p_cover.specs.Covers.{all_sources}
use Rattle.p_cover.proofs.PartLaws.{part_of_itself}
use Rattle.p_cover.proofs.cover.full_cover.Goals as goal

pub cover_with-requires : goal.cover_with-requires
cover_with-requires c =
    subst (λ (ds : List Source). IsPartOf ds (all_sources c.args.answer.now)) (sym c.in_ok-want_order.ensures)
    (part_of_itself (all_sources c.args.answer.now))
