use Rattle.std.proofs.Common.{◌≡◌, ℕ, true, false, get_or, ap, sym, ◌∙◌, subst}
use Rattle.std.proofs.lemmas.List.{length-set}
use Rattle.pc_presentation.specs.Relation.{side_start, relation_number, relation_count}
use Rattle.pc_presentation.specs.Pcp.{TailedPresentation}
use Rattle.pc_presentation.specs.Builder.{IsAccepted, OthersAreBare}
use Rattle.pc_presentation.proofs.presentations.WordTests.{AreSyllables-from_tests}
use Rattle.pc_presentation.proofs.presentations.BuilderLaws.{draft, draft-extended, OthersAreBare-extended}
use Rattle.pc_presentation.proofs.presentations.RelationTables.{per_relation-shape}
use Rattle.pc_presentation.proofs.builder.PcpBuilder.relation.Goals as goal

pub put-requires-clause-word : goal.put-requires-clause-word
put-requires-clause-word c =
    let a : IsAccepted (draft c.self.inside.pcp c.self.inside.given.items) c.args.r c.args.word.now c.args.tail =
    rw (← c.self.view_is) at c.in_default.ensures in
    AreSyllables-from_tests c.self.inside.pcp.presentation.prime c.self.inside.pcp.presentation.rank 0 (side_start c.args.r) c.args.word.now
    a.in_range.right_side a.normal a.later

pub invariant_of-self-2 : goal.invariant_of-self-2
invariant_of-self-2 c =
    let T = c.self.inside.pcp in
    let flags = c.self.inside.given.items in
    let n = T.presentation.rank in
    let a : IsAccepted (draft c.self.inside.pcp c.self.inside.given.items) c.args.r c.args.word.now c.args.tail =
    rw (← c.self.view_is) at c.in_default.ensures in
    let number : c.number-number.result ≡ relation_number c.self.inside.pcp.presentation.rank c.args.r =
    c.number-number.ensures.number ∙ ap (λ (n : ℕ). relation_number n c.args.r) c.rank.ensures.rank in
    let same = draft-extended T c.put.new.self flags c.args.r c.args.word.now c.args.tail c.number-number.result
    c.self.invariant.0 a.in_range.left_side number c.in_ok-put.ensures.ok in (
      length-set flags c.number-number.result true ∙ c.self.invariant.0
          ∙ ap (λ (U : TailedPresentation). relation_count U.presentation.rank) (sym c.in_ok-put.ensures.ok),
      subst OthersAreBare (sym same)
          (OthersAreBare-extended (draft T flags) c.args.r c.args.word.now c.args.tail c.rank.ensures.presentation
          (per_relation-shape n (λ r. get_or flags (relation_number n r) false)) a.in_range.left_side c.self.invariant.1),
    )

pub returns-clause-ok : goal.returns-clause-ok
returns-clause-ok c =
    let a : IsAccepted (draft c.self.inside.pcp c.self.inside.given.items) c.args.r c.args.word.now c.args.tail =
    rw (← c.self.view_is) at c.in_default.ensures in
    let number : c.number-number.result ≡ relation_number c.self.inside.pcp.presentation.rank c.args.r =
    c.number-number.ensures.number ∙ ap (λ (n : ℕ). relation_number n c.args.r) c.rank.ensures.rank in
    rw (← c.self.view_is)
    (draft-extended c.self.inside.pcp c.put.new.self c.self.inside.given.items c.args.r c.args.word.now c.args.tail c.number-number.result
    c.self.invariant.0 a.in_range.left_side number c.in_ok-put.ensures.ok)
