use Rattle.std.proofs.Common.{◌≡◌, ◌<◌, ◌∙◌, length, ap, arith}
use Rattle.std.proofs.lemmas.List.{length-set}
use Rattle.std.proofs.lemmas.List.Elements.{All-set}
use Rattle.pq_base.specs.Presentation.{Presentation}
use Rattle.pc_presentation.specs.Tailed.{IsElement}
use Rattle.pc_presentation.specs.Definition.{definition_of}
use Rattle.cert_checker.proofs.words.DefinitionWords.{copied-element}
use Rattle.cert_checker.proofs.words.DefinedWords.{defined-more}
use Rattle.cert_checker.proofs.values.define_all.Goals as goal

pub loop-k-preserved : goal.loop-k-preserved
loop-k-preserved c =
    let T = c.args.pcp.now in
    let inv = c.loop-k.invariant in
    let count = inv.3 in
    let rank : c.pcp.result.now.presentation.rank ≡ c.args.answer.now.presentation.rank =
    ap (λ (P : Presentation). P.rank) c.pcp.ensures.presentation in
    let l : c.loop-k.k < length c.loop-k.elements = omega
    (arith, c.loop-k-test.true, c.rank-k-end.ensures.rank, rank, count, c.loop-k.auto.k-end) in (
      c.define.ensures.scratch,
      c.define.ensures.value.element,
      All-set (IsElement T) c.loop-k.elements c.loop-k.k c.copy_from.new.self
          (copied-element T c.define.new.value c.copy_from.new.self c.define.ensures.value.element c.copy_from.ensures) inv.2,
      length-set c.loop-k.elements c.loop-k.k c.copy_from.new.self ∙ count,
      defined-more T c.args.answer.now c.pcp.ensures.answer c.args.given.now c.loop-k.elements c.loop-k.k c.define.new.value
          c.copy_from.new.self
          (definition_of c.definition.result) l count inv.4 c.definition.ensures c.define.ensures.value c.copy_from.ensures,
    )
