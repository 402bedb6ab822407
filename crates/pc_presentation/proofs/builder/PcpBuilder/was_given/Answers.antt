use Rattle.std.proofs.Common.{◌≡◌, ℕ, false, get_or, ap, sym, ◌∙◌, arith}
use Rattle.std.proofs.lemmas.List.{get_or_read}
use Rattle.pc_presentation.specs.Relation.{IsRelation, entry_at, relation_number}
use Rattle.pc_presentation.specs.Builder.{flags_of}
use Rattle.pc_presentation.proofs.presentations.RelationTables.{entry_at-per_relation}
use Rattle.pc_presentation.proofs.presentations.RelationNumbers.{relation_number-below}
use Rattle.pc_presentation.proofs.builder.PcpBuilder.was_given.Goals as goal

pub returns : goal.returns
returns c =
    let r : IsRelation c.self.inside.pcp.presentation.rank c.args.r = rw (← c.self.view_is) at c.requires in
    let flags = c.self.inside.given.items in
    let rank = c.self.inside.pcp.presentation.rank in
    let same : entry_at false (flags_of rank flags) c.args.r ≡ get_or flags (relation_number rank c.args.r) false =
    entry_at-per_relation rank (λ q. get_or flags (relation_number rank q) false) false c.args.r r in
    let number : c.number.result ≡ relation_number rank c.args.r =
    c.number.ensures.number ∙ ap (λ (n : ℕ). relation_number n c.args.r) c.rank.ensures.rank in
    let read : c.index.result.now ≡ get_or flags c.number.result false =
    get_or_read flags c.number.result c.index.result.now (omega (arith, relation_number-below rank c.args.r r)) c.index.ensures false in
    let all : c.index.result.now ≡ entry_at false (flags_of rank flags) c.args.r =
    read ∙ ap (λ (k : ℕ). get_or flags k false) number ∙ sym same in
    rw (← c.self.view_is) (λ h. sym all ∙ h, λ h. all ∙ h)
