use Rattle.std.proofs.Common.{◌↔◌, ◌≡◌, IsTrue, subst}
use Rattle.pc_presentation.specs.Tailed.{Element}
use Rattle.cert_checker.proofs.AgreedLaws.{ends-agree}
use Rattle.cert_checker.proofs.overlaps.agrees.Goals as goal

pub returns-clause-agree : goal.returns-clause-agree
returns-clause-agree c =
    ends-agree c.args.pcp.now c.requires.no_tails c.args.overlap c.two_ways.new.s.left c.two_ways.new.s.right c.are_alike.result
    c.two_ways.ensures.scratch.left c.two_ways.ensures.scratch.right c.two_ways.ensures.left c.two_ways.ensures.right
    (subst (λ (l : Element). IsTrue c.are_alike.result ↔ (l.state.exponents ≡ c.two_ways.new.s.right.state.exponents)) c.left.ensures
    (subst (λ (r : Element). IsTrue c.are_alike.result ↔ (c.left.result.now.state.exponents ≡ r.state.exponents)) c.right.ensures
    c.are_alike.ensures))
