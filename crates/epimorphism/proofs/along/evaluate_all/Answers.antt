use Rattle.std.proofs.Common.{◌≡◌, ◌<◌, List, length, ap, sym, ◌∙◌, subst, arith}
use Rattle.std.proofs.lemmas.List.{length-set}
use Rattle.std.proofs.lemmas.List.Elements.{All-set}
use Rattle.pq_base.specs.SignedWord.{HasLetters}
use Rattle.pc_presentation.specs.Tailed.{Element, rowed_presentation, IsElement}
use Rattle.p_cover.specs.Images.{ImagesOf}
use Rattle.epimorphism.proofs.WrittenElements.{AreWords-at, value_elements-more}
use Rattle.epimorphism.proofs.along.evaluate_all.Goals as goal

pub evaluate-requires-clause-letters : goal.evaluate-requires-clause-letters
evaluate-requires-clause-letters g c =
    let l : c.loop-i.i < length c.args.words.now = omega (arith, c.loop-i-test.true, c.loop-i.auto.i-end) in
    let images : c.deref.result.now ≡ c.args.images.now.elements =
    c.deref.ensures.value ∙ ap (λ (f : ImagesOf). f.elements) c.images.view_is in
    subst (λ (es : List Element). HasLetters (length es) c.letters.result.now) (sym images)
    (AreWords-at (length c.args.images.now.elements) c.args.words.now c.loop-i.i c.index-words-i.result c.letters.result.now
    c.requires.letters l
    c.index-words-i.is c.letters.ensures.value)

pub loop-i-preserved : goal.loop-i-preserved
loop-i-preserved g c =
    let T = c.args.pcp.now in
    let inv = c.loop-i.invariant in
    let l : c.loop-i.i < length c.args.words.now = omega (arith, c.loop-i-test.true, c.loop-i.auto.i-end) in
    let images : c.deref.result.now ≡ c.args.images.now.elements =
    c.deref.ensures.value ∙ ap (λ (f : ImagesOf). f.elements) c.images.view_is in
    let inverses : c.deref-in-loop-i.result.now ≡ c.args.images.now.inverses =
    c.deref-in-loop-i.ensures.value ∙ ap (λ (f : ImagesOf). f.inverses) c.images.view_is in (
      c.evaluate.ensures.scratch,
      All-set (IsElement T) c.loop-i.out c.loop-i.i c.evaluate.new.out c.evaluate.ensures.element inv.1,
      length-set c.loop-i.out c.loop-i.i c.evaluate.new.out ∙ inv.2,
      value_elements-more T (g.C.Collect.meaning (rowed_presentation T)) c.args.images.now.elements c.args.images.now.inverses
          c.args.words.now
          c.loop-i.out c.deref.result.now c.deref-in-loop-i.result.now c.loop-i.i c.index-words-i.result c.letters.result.now
          c.evaluate.new.out l inv.2
          inv.3 c.index-words-i.is c.letters.ensures.value images inverses c.evaluate.ensures.element c.evaluate.ensures.value,
    )
