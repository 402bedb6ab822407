use Rattle.std.proofs.Common.{◌≡◌, List, [], ◌∷◌, ◌++◌, map, ap, sym, ◌∙◌, subst, append_assoc, append-nil}
use Rattle.std.proofs.lemmas.List.{map-append}
use Rattle.pc_presentation.specs.declared.overlap.Overlap.{Overlap}
use Rattle.pc_presentation.specs.Tailed.{rowed_presentation}
use Rattle.p_cover.specs.Covers.{cover_presentation}
use Rattle.consistency.specs.AllOverlaps.{all_overlaps}
use Rattle.derivation_log.specs.declared.source.RowSource.{RowSource}
use Rattle.derivation_log.specs.declared.source.RowSource.TheVariants.{Test}
use Rattle.tower.specs.StepRows.{HaveTakenMore}
use Rattle.tower.proofs.TakenRows.{next-overlap, taken-append}
use Rattle.tower.proofs.rows.Rows.insert_all.Goals as goal

pub insert_overlap-requires-clause-overlap : goal.insert_overlap-requires-clause-overlap
insert_overlap-requires-clause-overlap g c =
    next-overlap c.args.cover.now.answer.presentation.rank c.loop-test.yielded c.loop-test.test-iterator c.next.new.self c.in-Some.test
    c.loop-test.invariant.3 c.in-Some.ensures.steps

pub loop-test-preserved : goal.loop-test-preserved
loop-test-preserved g c =
    let push = g.C.Collect.meaning (rowed_presentation (cover_presentation c.args.cover.now)) in (
      tt,
      tt,
      c.insert_overlap.ensures.scratch,
      append_assoc c.loop-test.yielded (c.in-Some.test ∷ []) c.next.new.self
          ∙ ap (λ (l : List Overlap). c.loop-test.yielded ++ l) (sym c.in-Some.ensures.steps) ∙ c.loop-test.invariant.3,
      c.insert_overlap.ensures.over,
      λ L.
          subst (λ (ss : List RowSource). HaveTakenMore L c.args.cover.now push ss c.args.self.now c.insert_overlap.new.self)
          (sym (map-append Test c.loop-test.yielded (c.in-Some.test ∷ [])))
          (taken-append c.args.cover.now L push c.args.self.now c.loop-test.self c.insert_overlap.new.self (map Test c.loop-test.yielded)
          (Test c.in-Some.test ∷ [])
          (c.loop-test.invariant.5 L) (c.insert_overlap.ensures.taken L)),
    )

pub returns-clause-taken : goal.returns-clause-taken
returns-clause-taken g c = λ L.
    let push = g.C.Collect.meaning (rowed_presentation (cover_presentation c.args.cover.now)) in
    let all : c.loop-test.yielded ≡ all_overlaps c.args.cover.now.answer.presentation.rank =
    sym (append-nil c.loop-test.yielded)
    ∙ ap (λ (l : List Overlap). c.loop-test.yielded ++ l) (sym c.in-None.ensures.steps.0) ∙ c.loop-test.invariant.3 in
    subst (λ (os : List Overlap). HaveTakenMore L c.args.cover.now push (map Test os) c.args.self.now c.loop-test.self) all
    (c.loop-test.invariant.5 L)
