use Rattle.std.proofs.Common.{get_or, refl, sym, ◌∙◌, subst}
use Rattle.pq_base.specs.Answer.{Answer, class_of}
use Rattle.pc_presentation.specs.Definition.{definition_of}
use Rattle.p_cover.specs.CoverLaws.{IsSource}
use Rattle.cover_quotient.specs.Defining.{MayBeKept}
use Rattle.cert_checker.proofs.KeptTails.{source-is, sources-more, sources-whole, sources-entry}
use Rattle.cert_checker.proofs.kept.may_all_be_kept.Goals as goal

pub may_be_kept-requires : goal.may_be_kept-requires
may_be_kept-requires c =
    let C = c.args.cover.now in
    subst (λ (A : Answer). IsSource A (definition_of c.source_of.result)) (sym c.answer.ensures)
    (subst (IsSource C.answer) (sym c.source_of.ensures)
    (source-is C c.pcp-cover.ensures.cover (get_or c.args.kept.now c.loop-tail.tail-index 0)
    (c.requires c.loop-tail.tail-index 0 c.loop-tail-test.true)))

pub returns-then-not-may_be_kept : goal.returns-then-not-may_be_kept
returns-then-not-may_be_kept c = (
  (λ t. let e = t in cc),
  (λ all.
      let C = c.args.cover.now in
      let one = sources-entry (MayBeKept C.answer (class_of C.answer)) C.sources c.args.kept.now c.loop-tail.tail-index
      (definition_of c.source_of.result)
      c.loop-tail-test.true c.source_of.ensures all in
      let yes = c.may_be_kept.ensures.1 (subst (λ (A : Answer). MayBeKept A (class_of A) (definition_of c.source_of.result))
      (sym c.answer.ensures) one) in
      sym c.if-not-may_be_kept.true ∙ yes),
)

pub loop-tail-preserved : goal.loop-tail-preserved
loop-tail-preserved c =
    let C = c.args.cover.now in
    sources-more (MayBeKept C.answer (class_of C.answer)) C.sources c.args.kept.now c.loop-tail.tail-index
    (definition_of c.source_of.result)
    c.loop-tail-test.true c.source_of.ensures c.loop-tail.invariant
    (subst (λ (A : Answer). MayBeKept A (class_of A) (definition_of c.source_of.result)) c.answer.ensures
    (c.may_be_kept.ensures.0 c.if-not-may_be_kept.false))

pub returns : goal.returns
returns c = (
  (λ _.
      let C = c.args.cover.now in
      sources-whole (MayBeKept C.answer (class_of C.answer)) C.sources c.args.kept.now c.loop-tail.tail-index c.loop-tail-test.false
      c.loop-tail.invariant),
  (λ _. refl),
)
