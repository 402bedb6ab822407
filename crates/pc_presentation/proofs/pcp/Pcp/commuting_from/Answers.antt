use Rattle.std.proofs.Common.{◌≡◌, ◌<◌, ◌≤◌, ℕ, ◌-◌, length, get_or, sym, subst, arith}
use Rattle.std.proofs.lemmas.List.{get_or_read}
use Rattle.pq_base.specs.Prime.{prime_value}
use Rattle.pc_presentation.specs.Pcp.{TailedPresentation, tailed_presentation}
use Rattle.pc_presentation.specs.Commuting.{IsFirstCommuting}
use Rattle.pc_presentation.specs.Tailed.{rowed_presentation}
use Rattle.pc_presentation.proofs.pcp.Pcp.commuting_from.Goals as goal

pub returns : goal.returns
returns c =
    let a = c.self.inside in
    let T : TailedPresentation = tailed_presentation (prime_value a.prime) a.weights.items a.tails a.relations in
    let place : c.args.i - 1 < length a.weights.items =
    let last : c.args.i ≤ length a.weights.items = rw (← c.self.view_is) at c.requires.in_range in
    let first = c.requires.from_one in
    omega arith in
    let count = c.self.invariant.2.count in
    let read : c.index.result.now ≡ get_or a.commuting.items (c.args.i - 1) 0 =
    get_or_read a.commuting.items (c.args.i - 1) c.index.result.now (omega arith) c.index.ensures 0 in
    rw (← c.self.view_is)
    (subst (λ (x : ℕ). IsFirstCommuting (rowed_presentation T) (c.args.i - 1) (x - 1)) (sym read)
    (c.self.invariant.2.first (c.args.i - 1) place))
