use Rattle.std.proofs.Common.{rules, [], sym, List, length, refl, ap, subst, arith, suc, ◌≡◌, ◌+◌, ℕ}
use Rattle.std.proofs.lemmas.Result.{err_from_is_err_and}
use Rattle.pq_base.specs.Prime.{prime_value}
use Rattle.pq_base.specs.LPresentation.{part}
use Rattle.pq_base.specs.LPresentation.Part.{iterated_part}
use Rattle.class_step.specs.declared.step.Step.{Step}
use Rattle.derivation_log.specs.HeldSteps.{other_run}
use Rattle.tower.specs.declared.relator.Relator.{Relator}
use Rattle.tower.specs.Answers.{IsStepFrom}
use Rattle.tower.specs.SpunParts.{IsSpunStep, IsSpunGrown, AreEnough}
use Rattle.tower.specs.LoggedSteps.{IsLogged}
use Rattle.tower.proofs.Quotients.{quotient-stopped, quotient-last, too_large-at, rank-few, same-twice, one-more}
use Rattle.tower.proofs.RecordedStages.{spun-first, spun-enough, spun-enough_stopped}
use Rattle.tower.proofs.SpunSteps.{iterated-named}
use Rattle.tower.proofs.LoggedRuns.{holds-none, holds-next, holds-stopped, holds-whole, holds-too_large, holds-wanting, holds-wanting_first}
use Rattle.tower.proofs.ascent.ascending.Goals as goal

pub loop-k-init : goal.loop-k-init
loop-k-init g c =
    let none : c.new-recorded.result.items ≡ [] = search rules in (
      subst (λ (rs : List Relator). IsSpunGrown c.args.pres.now rs (prime_value c.args.prime) 0 c.in_ok-answer.answer) (sym none)
          (spun-first c.args.pres.now c.args.prime c.names.result.now c.in_ok-answer.answer c.names.ensures.names
          c.names.ensures.limits.some_generator c.names.ensures.limits.generators c.names.ensures.presentation.distinct
          c.in_ok-answer.ensures),
      (λ steps h. ap length (c.requires.log steps h)),
      (λ steps. (λ h. h, λ h. h)),
      (λ kept. holds-none g.L.Log.FULL (part c.args.pres.now iterated_part) g.C.Collect.meaning (prime_value c.args.prime)
          (g.L.Log.keeps c.args.log.now c.args.run)
          c.names.result.now c.in_ok-answer.answer kept c.names.ensures.names c.in_ok-answer.ensures),
    )

pub spun_class-requires-clause-grown : goal.spun_class-requires-clause-grown
spun_class-requires-clause-grown g c = c.loop-k.invariant.0

pub spun_class-requires-clause-log : goal.spun_class-requires-clause-log
spun_class-requires-clause-log g c = c.loop-k.invariant.1

pub returns-in_err-answer-clause-refused : goal.returns-in_err-answer-clause-refused
returns-in_err-answer-clause-refused g c kept =
    let p = err_from_is_err_and c.from_residual.result c.from_residual.ensures.1 in
    rw (p.1, p.2) (holds-wanting_first g.L.Log.FULL (part c.args.pres.now iterated_part) g.C.Collect.meaning (prime_value c.args.prime)
    (g.L.Log.keeps c.args.log.now c.args.run) c.args.class kept c.requires.from_one)

pub returns-in_err-next-clause-refused : goal.returns-in_err-next-clause-refused
returns-in_err-next-clause-refused g c kept =
    let p = err_from_is_err_and c.from_residual-in_err-next.result c.from_residual-in_err-next.ensures.1 in
    rw (p.1, p.2) (holds-wanting g.L.Log.FULL (part c.args.pres.now iterated_part) g.C.Collect.meaning (prime_value c.args.prime)
    (g.L.Log.keeps c.loop-k.log c.args.run) (g.L.Log.keeps c.spun_class.new.log c.args.run)
    c.loop-k.k c.args.class c.loop-k.answer (c.loop-k.invariant.3 kept) c.in_err-next.ensures.refused (omega (arith, c.loop-k-test.true)))

pub returns-in_err-next-clause-other : goal.returns-in_err-next-clause-other
returns-in_err-next-clause-other g c =
    same-twice (g.L.Log.keeps c.args.log.now (other_run c.args.run)) (g.L.Log.keeps c.loop-k.log (other_run c.args.run))
    (g.L.Log.keeps c.spun_class.new.log (other_run c.args.run)) c.loop-k.invariant.2 c.spun_class.ensures.other

pub returns-in-Same-clause-quotient : goal.returns-in-Same-clause-quotient
returns-in-Same-clause-quotient g c =
    quotient-stopped (part c.args.pres.now iterated_part) (prime_value c.args.prime) c.loop-k.k c.args.class c.loop-k.answer
    c.loop-k.invariant.0.grown
    (subst (λ (s : Step). IsStepFrom (part c.args.pres.now iterated_part) (prime_value c.args.prime) c.loop-k.k c.loop-k.answer s)
    c.in-Same.is c.in_ok-next.ensures.step)
    (rank-few c.loop-k.answer.presentation c.pcp.result.now c.pcp.ensures.presentation c.rank-rank.ensures.presentation)
    (omega (arith, c.loop-k-test.true))

pub returns-in-Same-clause-recorded : goal.returns-in-Same-clause-recorded
returns-in-Same-clause-recorded g c = iterated-named c.args.pres.now c.spun_class.new.recorded.items c.in_ok-next.ensures.iterated

pub returns-in-Same-clause-enough : goal.returns-in-Same-clause-enough
returns-in-Same-clause-enough g c =
    let p : ℕ = prime_value c.args.prime in
    let stays =
    subst (λ (s : Step). IsSpunStep c.args.pres.now c.spun_class.new.recorded.items p c.loop-k.k c.loop-k.answer s) c.in-Same.is
    c.in_ok-next.ensures.recorded in
    spun-enough_stopped c.args.pres.now c.spun_class.new.recorded.items p c.loop-k.k c.args.class c.loop-k.answer c.loop-k.invariant.0.grown
    (stays c.args.class (omega (arith, c.loop-k-test.true)))

pub returns-in-Same-clause-held : goal.returns-in-Same-clause-held
returns-in-Same-clause-held g c kept =
    holds-stopped g.L.Log.FULL (part c.args.pres.now iterated_part) g.C.Collect.meaning (prime_value c.args.prime)
    (g.L.Log.keeps c.loop-k.log c.args.run)
    (g.L.Log.keeps c.spun_class.new.log c.args.run) c.loop-k.k c.args.class c.loop-k.answer (c.loop-k.invariant.3 kept)
    (subst (IsLogged g.L.Log.FULL (part c.args.pres.now iterated_part) g.C.Collect.meaning c.loop-k.answer
    (g.L.Log.keeps c.loop-k.log c.args.run) (g.L.Log.keeps c.spun_class.new.log c.args.run)) c.in-Same.is c.in_ok-next.ensures.logged)
    (omega (arith, c.loop-k-test.true))

pub returns-in-Same-clause-other : goal.returns-in-Same-clause-other
returns-in-Same-clause-other g c =
    same-twice (g.L.Log.keeps c.args.log.now (other_run c.args.run)) (g.L.Log.keeps c.loop-k.log (other_run c.args.run))
    (g.L.Log.keeps c.spun_class.new.log (other_run c.args.run)) c.loop-k.invariant.2 c.spun_class.ensures.other

pub returns-in-TooLarge-clause-refusal : goal.returns-in-TooLarge-clause-refusal
returns-in-TooLarge-clause-refusal g c = (
  refl,
  too_large-at (part c.args.pres.now iterated_part) (prime_value c.args.prime) c.loop-k.k c.args.class c.in-TooLarge.rank c.loop-k.answer
      c.loop-k.invariant.0.grown
      (rank-few c.loop-k.answer.presentation c.pcp.result.now c.pcp.ensures.presentation c.rank-rank.ensures.presentation)
      (omega (arith, c.loop-k-test.true))
      (subst (λ (s : Step). IsStepFrom (part c.args.pres.now iterated_part) (prime_value c.args.prime) c.loop-k.k c.loop-k.answer s)
      c.in-TooLarge.is c.in_ok-next.ensures.step),
)

pub returns-in-TooLarge-clause-refused : goal.returns-in-TooLarge-clause-refused
returns-in-TooLarge-clause-refused g c kept =
    holds-too_large g.L.Log.FULL (part c.args.pres.now iterated_part) g.C.Collect.meaning (prime_value c.args.prime)
    (g.L.Log.keeps c.loop-k.log c.args.run)
    (g.L.Log.keeps c.spun_class.new.log c.args.run) c.loop-k.k c.args.class c.in-TooLarge.rank c.args.run c.loop-k.answer
    (c.loop-k.invariant.3 kept)
    (rank-few c.loop-k.answer.presentation c.pcp.result.now c.pcp.ensures.presentation c.rank-rank.ensures.presentation)
    (subst (IsLogged g.L.Log.FULL (part c.args.pres.now iterated_part) g.C.Collect.meaning c.loop-k.answer
    (g.L.Log.keeps c.loop-k.log c.args.run) (g.L.Log.keeps c.spun_class.new.log c.args.run)) c.in-TooLarge.is c.in_ok-next.ensures.logged)

pub returns-in-TooLarge-clause-other : goal.returns-in-TooLarge-clause-other
returns-in-TooLarge-clause-other g c =
    same-twice (g.L.Log.keeps c.args.log.now (other_run c.args.run)) (g.L.Log.keeps c.loop-k.log (other_run c.args.run))
    (g.L.Log.keeps c.spun_class.new.log (other_run c.args.run)) c.loop-k.invariant.2 c.spun_class.ensures.other

pub loop-k-preserved : goal.loop-k-preserved
loop-k-preserved g c =
    let p : ℕ = prime_value c.args.prime in
    let place : suc c.loop-k.k ≡ c.loop-k.k + 1 = omega arith in (
      subst (λ (k : ℕ). IsSpunGrown c.args.pres.now c.spun_class.new.recorded.items p k c.in-Next.next) place
          (subst (λ (s : Step). IsSpunStep c.args.pres.now c.spun_class.new.recorded.items p c.loop-k.k c.loop-k.answer s) c.in-Next.is
          c.in_ok-next.ensures.recorded),
      one-more (g.L.Log.keeps c.loop-k.log c.args.run) (g.L.Log.keeps c.spun_class.new.log c.args.run) c.in_ok-next.ensures.logged.held
          c.loop-k.k c.in_ok-next.ensures.logged.told c.loop-k.invariant.1,
      same-twice (g.L.Log.keeps c.args.log.now (other_run c.args.run)) (g.L.Log.keeps c.loop-k.log (other_run c.args.run))
          (g.L.Log.keeps c.spun_class.new.log (other_run c.args.run)) c.loop-k.invariant.2 c.spun_class.ensures.other,
      (λ kept. holds-next g.L.Log.FULL (part c.args.pres.now iterated_part) g.C.Collect.meaning p (g.L.Log.keeps c.loop-k.log c.args.run)
          (g.L.Log.keeps c.spun_class.new.log c.args.run) c.loop-k.k c.loop-k.answer c.in-Next.next (c.loop-k.invariant.3 kept)
          (subst (IsLogged g.L.Log.FULL (part c.args.pres.now iterated_part) g.C.Collect.meaning c.loop-k.answer
          (g.L.Log.keeps c.loop-k.log c.args.run) (g.L.Log.keeps c.spun_class.new.log c.args.run)) c.in-Next.is
          c.in_ok-next.ensures.logged)),
    )

pub returns-clause-quotient : goal.returns-clause-quotient
returns-clause-quotient g c =
    quotient-last (part c.args.pres.now iterated_part) (prime_value c.args.prime) c.loop-k.k c.args.class c.loop-k.answer
    c.loop-k.invariant.0.grown
    (rank-few c.loop-k.answer.presentation c.pcp-2.result.now c.pcp-2.ensures.presentation c.rank-rank-2.ensures.presentation)
    (omega (arith, c.loop-k-test.false, c.loop-k.auto.k-end))

pub returns-clause-recorded : goal.returns-clause-recorded
returns-clause-recorded g c = iterated-named c.args.pres.now c.loop-k.recorded.items c.loop-k.invariant.0.iterated

pub returns-clause-iterated : goal.returns-clause-iterated
returns-clause-iterated g c = c.loop-k.invariant.0.iterated

pub returns-clause-enough : goal.returns-clause-enough
returns-clause-enough g c =
    let last : c.loop-k.k ≡ c.args.class = omega (arith, c.loop-k-test.false, c.loop-k.auto.k-end) in
    subst (AreEnough c.args.pres.now c.loop-k.recorded.items (prime_value c.args.prime)) last
    (spun-enough c.args.pres.now c.loop-k.recorded.items (prime_value c.args.prime) c.loop-k.k c.loop-k.answer c.loop-k.invariant.0)

pub returns-clause-other : goal.returns-clause-other
returns-clause-other g c = c.loop-k.invariant.2

pub returns-clause-held : goal.returns-clause-held
returns-clause-held g c kept =
    holds-whole g.L.Log.FULL (part c.args.pres.now iterated_part) g.C.Collect.meaning (prime_value c.args.prime)
    (g.L.Log.keeps c.loop-k.log c.args.run)
    c.loop-k.k c.args.class c.loop-k.answer (c.loop-k.invariant.3 kept) (omega (arith, c.loop-k-test.false, c.loop-k.auto.k-end))
