use Rattle.std.proofs.Common.{◌≡◌, ℕ, List, replicate, ap, sym, ◌∙◌, subst}
use Rattle.pc_presentation.specs.Tailed.{Element, IsElement, one_of}
use Rattle.pc_presentation.proofs.quotients.TailedLaws.{one_of-is}
use Rattle.pc_presentation.proofs.quotients.ElementLaws.{element_with, row_with}
use Rattle.pc_presentation.proofs.elem.Elem.one.Goals as goal

pub returns-clause-element : goal.returns-clause-element
returns-clause-element c =
    let T = c.args.pcp.now in
    let tails = c.in_ok-zero.field-0 in
    let same : element_with c.zero_exponents.result.items tails ≡ one_of c.args.pcp.now =
    ap (λ (l : List ℕ). element_with l tails) (c.zero_exponents.ensures ∙ ap (λ (n : ℕ). replicate {A = ℕ} n 0) c.rank.ensures.rank)
    ∙ ap (element_with (replicate {A = ℕ} T.presentation.rank 0))
    (c.in_ok-zero.ensures ∙ ap (λ (p : ℕ). row_with p (replicate {A = ℕ} c.tails.result 0)) c.prime.ensures
    ∙ ap (λ (n : ℕ). row_with T.presentation.prime (replicate {A = ℕ} n 0)) c.tails.ensures) in
    subst (λ (e : Element). IsElement c.args.pcp.now e) (sym same) (one_of-is c.args.pcp.now c.rank.ensures.presentation)
