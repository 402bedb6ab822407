use Rattle.std.proofs.Common.{◌≡◌, List, [], ◌∷◌, ◌++◌, map, ap, sym, ◌∙◌, subst, append_assoc, append-nil, arith}
use Rattle.std.proofs.lemmas.List.{map-append, nil_from_length}
use Rattle.pc_presentation.specs.declared.overlap.Overlap.{Overlap}
use Rattle.pc_presentation.specs.OverlapNumbers.{AreOverlapNumbers}
use Rattle.pc_presentation.specs.Tailed.{rowed_presentation}
use Rattle.p_cover.specs.Covers.{cover_presentation}
use Rattle.derivation_log.specs.declared.source.RowSource.{RowSource}
use Rattle.derivation_log.specs.declared.source.RowSource.TheVariants.{Test}
use Rattle.tails_by_weight.specs.LightOverlaps.{light_overlaps}
use Rattle.tower.specs.StepRows.{HaveTakenMore}
use Rattle.tower.proofs.StepKinds.{light_overlaps-numbers}
use Rattle.tower.proofs.TakenRows.{next-member, taken-nothing, taken-append}
use Rattle.tower.proofs.rows.Rows.insert_light.Goals as goal

pub loop-overlap-init : goal.loop-overlap-init
loop-overlap-init g c = (
  c.requires.scratch,
  c.into_iter-overlap-iterator.ensures.into_iter_gives.0 ∙ c.in_ok-overlap-items.ensures ∙ ap light_overlaps c.answer.ensures,
  c.requires.over,
  λ L.
      taken-nothing c.args.cover.now L (g.C.Collect.meaning (rowed_presentation (cover_presentation c.args.cover.now))) c.args.self.now,
)

pub insert_overlap-requires-clause-overlap : goal.insert_overlap-requires-clause-overlap
insert_overlap-requires-clause-overlap g c =
    next-member (AreOverlapNumbers c.args.cover.now.answer.presentation.rank)
    (light_overlaps c.args.cover.now.answer) c.loop-overlap.yielded
    c.loop-overlap.overlap-iterator.rest.items c.next.new.self.rest.items c.in-Some.overlap
    (light_overlaps-numbers c.args.cover.now.answer c.pcp-pcp.ensures.cover.answer) c.loop-overlap.invariant.1 c.in-Some.ensures.steps.0

pub loop-overlap-preserved : goal.loop-overlap-preserved
loop-overlap-preserved g c =
    let push = g.C.Collect.meaning (rowed_presentation (cover_presentation c.args.cover.now)) in (
      c.insert_overlap.ensures.scratch,
      append_assoc c.loop-overlap.yielded (c.in-Some.overlap ∷ []) c.next.new.self.rest.items
          ∙ ap (λ (l : List Overlap). c.loop-overlap.yielded ++ l) (sym c.in-Some.ensures.steps.0) ∙ c.loop-overlap.invariant.1,
      c.insert_overlap.ensures.over,
      λ L.
          subst (λ (ss : List RowSource). HaveTakenMore L c.args.cover.now push ss c.args.self.now c.insert_overlap.new.self)
          (sym (map-append Test c.loop-overlap.yielded (c.in-Some.overlap ∷ [])))
          (taken-append c.args.cover.now L push c.args.self.now c.loop-overlap.self c.insert_overlap.new.self
          (map Test c.loop-overlap.yielded) (Test c.in-Some.overlap ∷ []) (c.loop-overlap.invariant.3 L)
          (c.insert_overlap.ensures.taken L)),
    )

pub returns-clause-taken : goal.returns-clause-taken
returns-clause-taken g c = λ L.
    let push = g.C.Collect.meaning (rowed_presentation (cover_presentation c.args.cover.now)) in
    let left = c.loop-overlap.overlap-iterator.rest in
    let none : c.loop-overlap.overlap-iterator.rest.items ≡ [] =
    nil_from_length left.items (omega (arith, left.ok, c.in-None.ensures.steps.0)) in
    let all : c.loop-overlap.yielded ≡ light_overlaps c.args.cover.now.answer =
    sym (append-nil c.loop-overlap.yielded) ∙ ap (λ (l : List Overlap). c.loop-overlap.yielded ++ l) (sym none)
    ∙ c.loop-overlap.invariant.1 in
    subst (λ (os : List Overlap). HaveTakenMore L c.args.cover.now push (map Test os) c.args.self.now c.loop-overlap.self) all
    (c.loop-overlap.invariant.3 L)
