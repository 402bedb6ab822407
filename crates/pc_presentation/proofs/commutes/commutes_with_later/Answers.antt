use Rattle.std.proofs.Common.{◌≡◌, ◌+◌, ◌-◌, ℕ, get_or, ap, sym, ◌∙◌, arith}
use Rattle.pc_presentation.proofs.commuting.EmptySides.{bare-passed, passes-more}
use Rattle.pc_presentation.proofs.commutes.commutes_with_later.Goals as goal
use Rattle.pc_presentation.proofs.commutes.commutes_with_later.Goals.{else-exponent-ne0-via-then-exponent-ne0+else-not-is_bare}
use Rattle.pc_presentation.proofs.commutes.commutes_with_later.Goals.{else-exponent-ne0-via-else-exponent-ne0}

pub returns-then-not-is_bare : goal.returns-then-not-is_bare
returns-then-not-is_bare c =
    let within = c.commuting_from-j-end.ensures.within in
    let test = c.loop-j-test.true in
    let start = c.loop-j.auto.j in
    let place : (c.loop-j.j + 1) - 1 ≡ c.loop-j.j = omega arith in (
      λ t. absurd (cc),
      λ passes. sym c.if-not-is_bare.true
          ∙ c.is_bare.ensures.1
          (bare-passed c.args.pcp.now c.requires.element.presentation c.args.at.now c.args.generator c.loop-j.j c.requires.from_one
          (omega arith) (omega arith)
          passes (λ zero. c.if-exponent-ne0.true
          (c.exponent.ensures ∙ ap (λ (i : ℕ). get_or c.args.at.now.state.exponents i 0) place ∙ zero))),
    )

pub loop-j-preserved : goal.loop-j-preserved
loop-j-preserved c =
    let within = c.commuting_from-j-end.ensures.within in
    let test = c.loop-j-test.true in
    let start = c.loop-j.auto.j in
    let place : (c.loop-j.j + 1) - 1 ≡ c.loop-j.j = omega arith in
    passes-more c.args.pcp.now c.requires.element.presentation c.args.at.now c.args.generator c.loop-j.j c.requires.from_one (omega arith)
    (omega arith)
    c.loop-j.invariant
    (λ some. elim c.else-exponent-ne0.branch [
      | else-exponent-ne0-via-then-exponent-ne0+else-not-is_bare w ↦ w.is_bare.ensures.0 w.if-not-is_bare.false
      | else-exponent-ne0-via-else-exponent-ne0 w ↦
          absurd (some (ap (λ (i : ℕ). get_or c.args.at.now.state.exponents i 0) (sym place)
          ∙ sym c.exponent.ensures ∙ w.if-exponent-ne0.false))
    ])
