use Rattle.std.proofs.Common.{length, refl, ap, subst, arith}
use Rattle.std.proofs.lemmas.Result.{err_from_is_err_and}
use Rattle.pq_base.specs.Prime.{prime_value}
use Rattle.derivation_log.specs.declared.source.Run.TheVariants.{Iterated, Whole}
use Rattle.class_step.specs.declared.step.Step.{Step}
use Rattle.tower.specs.NamedParts.{named_part}
use Rattle.tower.specs.Answers.{IsStepFrom}
use Rattle.tower.proofs.Quotients.{grown-first, grown-next, quotient-stopped, quotient-last, too_large-at, rank-few, same-twice, one-more}
use Rattle.tower.specs.LoggedSteps.{IsLogged}
use Rattle.tower.proofs.LoggedRuns.{holds-none, holds-next, holds-stopped, holds-whole, holds-too_large, holds-wanting, holds-wanting_first}
use Rattle.tower.proofs.runs.finite.Goals as goal

pub loop-k-init : goal.loop-k-init
loop-k-init g c = (
  grown-first (named_part c.args.pres.now c.args.relators.now) c.args.prime c.names.result.now c.in_ok-answer.answer c.names.ensures.names
      c.names.ensures.limits.some_generator c.names.ensures.limits.generators c.names.ensures.presentation.distinct c.in_ok-answer.ensures,
  (λ steps h. ap length (c.requires.log steps h)),
  (λ steps. (λ h. h, λ h. h)),
  (λ kept. holds-none g.L.Log.FULL c.args.pres.now g.C.Collect.meaning (prime_value c.args.prime)
      (g.L.Log.keeps c.args.log.now Whole) c.names.result.now
      c.in_ok-answer.answer kept c.names.ensures.names c.in_ok-answer.ensures),
)

pub one_class-requires-clause-grown : goal.one_class-requires-clause-grown
one_class-requires-clause-grown g c =
    c.loop-k.invariant.0

pub one_class-requires-clause-log : goal.one_class-requires-clause-log
one_class-requires-clause-log g c =
    c.loop-k.invariant.1

pub returns-in_err-answer-clause-refused : goal.returns-in_err-answer-clause-refused
returns-in_err-answer-clause-refused g c kept =
    let p = err_from_is_err_and c.from_residual.result c.from_residual.ensures.1 in
    rw (
      p.1,
      p.2,
    ) (holds-wanting_first g.L.Log.FULL c.args.pres.now g.C.Collect.meaning (prime_value c.args.prime)
    (g.L.Log.keeps c.args.log.now Whole) c.args.class kept c.requires.from_one)

pub returns-in_err-next-clause-refused : goal.returns-in_err-next-clause-refused
returns-in_err-next-clause-refused g c kept =
    let p = err_from_is_err_and c.from_residual-in_err-next.result c.from_residual-in_err-next.ensures.1 in
    rw (
      p.1,
      p.2,
    ) (holds-wanting g.L.Log.FULL c.args.pres.now g.C.Collect.meaning (prime_value c.args.prime) (g.L.Log.keeps c.loop-k.log Whole)
    (g.L.Log.keeps c.one_class.new.log Whole)
    c.loop-k.k c.args.class c.loop-k.answer (c.loop-k.invariant.3 kept) c.in_err-next.ensures.refused (omega (arith, c.loop-k-test.true)))

pub returns-in_err-next-clause-other : goal.returns-in_err-next-clause-other
returns-in_err-next-clause-other g c =
    same-twice (g.L.Log.keeps c.args.log.now Iterated) (g.L.Log.keeps c.loop-k.log Iterated) (g.L.Log.keeps c.one_class.new.log Iterated)
    c.loop-k.invariant.2 c.one_class.ensures.other

pub returns-in-Same-clause-quotient : goal.returns-in-Same-clause-quotient
returns-in-Same-clause-quotient g c =
    quotient-stopped (named_part c.args.pres.now c.args.relators.now)
    (prime_value c.args.prime) c.loop-k.k c.args.class c.loop-k.answer c.loop-k.invariant.0
    (subst (λ (s : Step). IsStepFrom (named_part c.args.pres.now c.args.relators.now)
    (prime_value c.args.prime) c.loop-k.k c.loop-k.answer s) c.in-Same.is c.in_ok-next.ensures.step)
    (rank-few c.loop-k.answer.presentation c.pcp.result.now c.pcp.ensures.presentation c.rank-rank.ensures.presentation)
    (omega (arith, c.loop-k-test.true))

pub returns-in-Same-clause-held : goal.returns-in-Same-clause-held
returns-in-Same-clause-held g c kept =
    holds-stopped g.L.Log.FULL c.args.pres.now g.C.Collect.meaning (prime_value c.args.prime) (g.L.Log.keeps c.loop-k.log Whole)
    (g.L.Log.keeps c.one_class.new.log Whole)
    c.loop-k.k c.args.class c.loop-k.answer (c.loop-k.invariant.3 kept)
    (subst (IsLogged g.L.Log.FULL c.args.pres.now g.C.Collect.meaning c.loop-k.answer (g.L.Log.keeps c.loop-k.log Whole)
    (g.L.Log.keeps c.one_class.new.log Whole)) c.in-Same.is c.in_ok-next.ensures.logged) (omega (arith, c.loop-k-test.true))

pub returns-in-Same-clause-other : goal.returns-in-Same-clause-other
returns-in-Same-clause-other g c =
    same-twice (g.L.Log.keeps c.args.log.now Iterated) (g.L.Log.keeps c.loop-k.log Iterated) (g.L.Log.keeps c.one_class.new.log Iterated)
    c.loop-k.invariant.2 c.one_class.ensures.other

pub returns-in-TooLarge-clause-refusal : goal.returns-in-TooLarge-clause-refusal
returns-in-TooLarge-clause-refusal g c = (
  refl,
  too_large-at (named_part c.args.pres.now c.args.relators.now)
      (prime_value c.args.prime) c.loop-k.k c.args.class c.in-TooLarge.rank c.loop-k.answer c.loop-k.invariant.0
      (rank-few c.loop-k.answer.presentation c.pcp.result.now c.pcp.ensures.presentation c.rank-rank.ensures.presentation)
      (omega (arith, c.loop-k-test.true))
      (subst (λ (s : Step). IsStepFrom (named_part c.args.pres.now c.args.relators.now)
      (prime_value c.args.prime) c.loop-k.k c.loop-k.answer s) c.in-TooLarge.is c.in_ok-next.ensures.step),
)

pub returns-in-TooLarge-clause-refused : goal.returns-in-TooLarge-clause-refused
returns-in-TooLarge-clause-refused g c kept =
    holds-too_large g.L.Log.FULL c.args.pres.now g.C.Collect.meaning (prime_value c.args.prime) (g.L.Log.keeps c.loop-k.log Whole)
    (g.L.Log.keeps c.one_class.new.log Whole)
    c.loop-k.k c.args.class c.in-TooLarge.rank Whole c.loop-k.answer (c.loop-k.invariant.3 kept)
    (rank-few c.loop-k.answer.presentation c.pcp.result.now c.pcp.ensures.presentation c.rank-rank.ensures.presentation)
    (subst (IsLogged g.L.Log.FULL c.args.pres.now g.C.Collect.meaning c.loop-k.answer (g.L.Log.keeps c.loop-k.log Whole)
    (g.L.Log.keeps c.one_class.new.log Whole)) c.in-TooLarge.is c.in_ok-next.ensures.logged)

pub returns-in-TooLarge-clause-other : goal.returns-in-TooLarge-clause-other
returns-in-TooLarge-clause-other g c =
    same-twice (g.L.Log.keeps c.args.log.now Iterated) (g.L.Log.keeps c.loop-k.log Iterated) (g.L.Log.keeps c.one_class.new.log Iterated)
    c.loop-k.invariant.2 c.one_class.ensures.other

pub loop-k-preserved : goal.loop-k-preserved
loop-k-preserved g c = (
  grown-next (named_part c.args.pres.now c.args.relators.now)
      (prime_value c.args.prime) c.loop-k.k c.loop-k.answer c.in-Next.next c.loop-k.invariant.0
      (subst (λ (s : Step). IsStepFrom (named_part c.args.pres.now c.args.relators.now)
      (prime_value c.args.prime) c.loop-k.k c.loop-k.answer s) c.in-Next.is c.in_ok-next.ensures.step),
  one-more (g.L.Log.keeps c.loop-k.log Whole) (g.L.Log.keeps c.one_class.new.log Whole) c.in_ok-next.ensures.logged.held c.loop-k.k
      c.in_ok-next.ensures.logged.told c.loop-k.invariant.1,
  same-twice (g.L.Log.keeps c.args.log.now Iterated) (g.L.Log.keeps c.loop-k.log Iterated) (g.L.Log.keeps c.one_class.new.log Iterated)
      c.loop-k.invariant.2 c.one_class.ensures.other,
  (λ kept. holds-next g.L.Log.FULL c.args.pres.now g.C.Collect.meaning (prime_value c.args.prime) (g.L.Log.keeps c.loop-k.log Whole)
      (g.L.Log.keeps c.one_class.new.log Whole) c.loop-k.k c.loop-k.answer c.in-Next.next (c.loop-k.invariant.3 kept)
      (subst (IsLogged g.L.Log.FULL c.args.pres.now g.C.Collect.meaning c.loop-k.answer (g.L.Log.keeps c.loop-k.log Whole)
      (g.L.Log.keeps c.one_class.new.log Whole)) c.in-Next.is c.in_ok-next.ensures.logged)),
)

pub returns-clause-quotient : goal.returns-clause-quotient
returns-clause-quotient g c =
    quotient-last (named_part c.args.pres.now c.args.relators.now)
    (prime_value c.args.prime) c.loop-k.k c.args.class c.loop-k.answer c.loop-k.invariant.0
    (rank-few c.loop-k.answer.presentation c.pcp-2.result.now c.pcp-2.ensures.presentation c.rank-rank-2.ensures.presentation)
    (omega (arith, c.loop-k-test.false, c.loop-k.auto.k-end))

pub returns-clause-other : goal.returns-clause-other
returns-clause-other g c =
    c.loop-k.invariant.2

pub returns-clause-held : goal.returns-clause-held
returns-clause-held g c kept =
    holds-whole g.L.Log.FULL c.args.pres.now g.C.Collect.meaning (prime_value c.args.prime) (g.L.Log.keeps c.loop-k.log Whole)
    c.loop-k.k c.args.class c.loop-k.answer (c.loop-k.invariant.3 kept) (omega (arith, c.loop-k-test.false, c.loop-k.auto.k-end))
