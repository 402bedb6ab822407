use Rattle.std.proofs.Common.{◌≡◌, ℕ, length, get_or, ap, sym, ◌∙◌, arith}
use Rattle.pq_base.specs.Prime.{prime_value}
use Rattle.pc_presentation.specs.Relation.{IsRelation, relation_number}
use Rattle.pc_presentation.specs.Store.{blank}
use Rattle.pc_presentation.proofs.presentations.PcpLaws.{syllables_of-right_side}
use Rattle.pc_presentation.proofs.pcp.Pcp.word.Goals as goal

pub returns : goal.returns
returns c =
    let r : IsRelation (length c.self.inside.weights.items) c.args.r = rw (← c.self.view_is) at c.requires in
    let rank : c.len.result ≡ length c.self.inside.weights.items = omega arith in
    let number : c.number.result ≡ relation_number (length c.self.inside.weights.items) c.args.r =
    c.number.ensures.number ∙ ap (λ (n : ℕ). relation_number n c.args.r) rank in
    rw (← c.self.view_is)
    (c.word.ensures ∙ ap (λ (k : ℕ). (get_or c.self.inside.relations k blank).word) number
    ∙ sym (syllables_of-right_side (prime_value c.self.inside.prime) c.self.inside.tails c.self.inside.weights.items c.self.inside.relations
    c.self.invariant.1 c.args.r r))
