use Rattle.std.proofs.Common.{Bool, false, length, ap, sym, ◌∙◌, subst}
use Rattle.std.proofs.lemmas.List.{length-replicate}
use Rattle.pq_base.specs.Prime.{prime_value}
use Rattle.pc_presentation.specs.Relation.{relation_count}
use Rattle.pc_presentation.specs.Pcp.{TailedPresentation}
use Rattle.pc_presentation.specs.Builder.{OthersAreBare}
use Rattle.pc_presentation.proofs.presentations.BuilderLaws.{draft-empty, OthersAreBare-empty}
use Rattle.pc_presentation.proofs.builder.PcpBuilder.new.Goals as goal

pub invariant_of-result : goal.invariant_of-result
invariant_of-result c =
    let p = prime_value c.args.prime in
    let flags = c.in_ok-vec.ensures.items_if_clones_equal (λ y h. h) in
    let empty =
    draft-empty p c.args.tails c.relation_count.result c.args.weights.now c.in_ok-plain.field-0 c.in_ok-vec.field-0.items
    c.in_ok-plain.ensures flags in (
      ap (length {A = Bool}) flags ∙ length-replicate c.relation_count.result false ∙ c.relation_count.ensures.count
          ∙ ap (λ (T : TailedPresentation). relation_count T.presentation.rank) (sym c.in_ok-plain.ensures),
      subst OthersAreBare (sym empty) (OthersAreBare-empty p c.args.tails c.args.weights.now),
    )

pub returns : goal.returns
returns c =
    draft-empty (prime_value c.args.prime) c.args.tails c.relation_count.result c.args.weights.now c.in_ok-plain.field-0
    c.in_ok-vec.field-0.items c.in_ok-plain.ensures (c.in_ok-vec.ensures.items_if_clones_equal (λ y h. h))
