use Rattle.std.proofs.Common.{◌≡◌, List, [], ◌∷◌, ◌++◌, ap, sym, ◌∙◌, subst, append_assoc, append-nil, arith}
use Rattle.std.proofs.lemmas.List.{nil_from_length}
use Rattle.pc_presentation.specs.Tailed.{rowed_presentation}
use Rattle.p_cover.specs.Covers.{cover_presentation}
use Rattle.derivation_log.specs.declared.source.RowSource.{RowSource}
use Rattle.tower.specs.NamedParts.{IsNamedSource, DiesIn}
use Rattle.tower.specs.StepRows.{HaveTakenMore}
use Rattle.tower.proofs.TakenRows.{next-member, taken-nothing, taken-append}
use Rattle.tower.proofs.rows.Rows.insert_relators.Goals as goal

pub loop-source-init : goal.loop-source-init
loop-source-init g c = (
  c.requires.scratch,
  c.requires.work,
  c.into_iter-source-iterator.ensures.into_iter_gives.0,
  c.requires.over,
  taken-nothing c.args.cover.now c.args.pres.now (g.C.Collect.meaning (rowed_presentation (cover_presentation c.args.cover.now)))
      c.args.self.now,
)

pub insert_relator-requires-clause-named : goal.insert_relator-requires-clause-named
insert_relator-requires-clause-named g c =
    next-member (IsNamedSource c.args.pres.now) c.args.sources.items c.loop-source.yielded c.loop-source.source-iterator.rest.items
    c.next.new.self.rest.items
    c.in-Some.source c.requires.named c.loop-source.invariant.2 c.in-Some.ensures.steps.0

pub insert_relator-requires-clause-killed : goal.insert_relator-requires-clause-killed
insert_relator-requires-clause-killed g c =
    next-member (DiesIn c.args.pres.now c.args.cover.now.answer) c.args.sources.items c.loop-source.yielded
    c.loop-source.source-iterator.rest.items
    c.next.new.self.rest.items c.in-Some.source c.requires.killed c.loop-source.invariant.2 c.in-Some.ensures.steps.0

pub loop-source-preserved : goal.loop-source-preserved
loop-source-preserved g c =
    let push = g.C.Collect.meaning (rowed_presentation (cover_presentation c.args.cover.now)) in (
      c.insert_relator.ensures.scratch,
      c.insert_relator.ensures.work,
      append_assoc c.loop-source.yielded (c.in-Some.source ∷ []) c.next.new.self.rest.items
          ∙ ap (λ (l : List RowSource). c.loop-source.yielded ++ l) (sym c.in-Some.ensures.steps.0) ∙ c.loop-source.invariant.2,
      c.insert_relator.ensures.over,
      taken-append c.args.cover.now c.args.pres.now push c.args.self.now c.loop-source.self c.insert_relator.new.self c.loop-source.yielded
          (c.in-Some.source ∷ []) c.loop-source.invariant.4 c.insert_relator.ensures.taken,
    )

pub returns-clause-taken : goal.returns-clause-taken
returns-clause-taken g c =
    let push = g.C.Collect.meaning (rowed_presentation (cover_presentation c.args.cover.now)) in
    let left = c.loop-source.source-iterator.rest in
    let none : c.loop-source.source-iterator.rest.items ≡ [] =
    nil_from_length left.items (omega (arith, left.ok, c.in-None.ensures.steps.0)) in
    let all : c.loop-source.yielded ≡ c.args.sources.items =
    sym (append-nil c.loop-source.yielded)
    ∙ ap (λ (l : List RowSource). c.loop-source.yielded ++ l) (sym none) ∙ c.loop-source.invariant.2 in
    subst (λ (ss : List RowSource). HaveTakenMore c.args.pres.now c.args.cover.now push ss c.args.self.now c.loop-source.self) all
    c.loop-source.invariant.4
