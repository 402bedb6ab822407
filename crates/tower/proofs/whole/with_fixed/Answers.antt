use Rattle.std.proofs.Common.{◌≡◌, List, sym, ◌∙◌, subst}
use Rattle.std.specs.List.{All}
use Rattle.std.proofs.lemmas.Result.{err_from_is_err_and, IfOk-weaker, IfErr-weaker}
use Rattle.pq_base.specs.Prime.{prime_value}
use Rattle.derivation_log.specs.declared.source.Run.TheVariants.{Whole}
use Rattle.tower.specs.declared.relator.Relator.{Relator}
use Rattle.tower.specs.NamedParts.{IsNamed, named_part}
use Rattle.tower.specs.Answers.{IsQuotient}
use Rattle.tower.specs.Refusals.{IsRefusalOf}
use Rattle.tower.specs.TwoRuns.{and_all_fixed}
use Rattle.tower.proofs.LoggedRuns.{holds-wanting_first}
use Rattle.tower.proofs.ObeyedAlike.{refusal-of_same}
use Rattle.tower.proofs.EnoughRelators.{and_fixed-named, enough-answers}
use Rattle.tower.proofs.whole.with_fixed.Goals as goal

pub returns-in_err-relators-clause-refused : goal.returns-in_err-relators-clause-refused
returns-in_err-relators-clause-refused g c kept =
    let p = err_from_is_err_and c.from_residual.result c.from_residual.ensures.1 in
    rw (p.1, p.2) (holds-wanting_first g.L.Log.FULL c.args.pres.now g.C.Collect.meaning (prime_value c.args.prime)
    (g.L.Log.keeps c.args.log.now Whole) c.args.class kept c.requires.from_one)

pub finite-requires-clause-named : goal.finite-requires-clause-named
finite-requires-clause-named g c =
    let same : c.as_slice.result.now ≡ and_all_fixed c.args.pres.now c.args.recorded.now =
    c.as_slice.ensures.value ∙ c.in_ok-relators.ensures in
    subst (All (IsNamed c.args.pres.now)) (sym same) (and_fixed-named c.args.pres.now c.args.recorded.now c.requires.named)

pub returns-clause-quotient : goal.returns-clause-quotient
returns-clause-quotient g c =
    let same : c.as_slice.result.now ≡ and_all_fixed c.args.pres.now c.args.recorded.now =
    c.as_slice.ensures.value ∙ c.in_ok-relators.ensures in
    IfOk-weaker c.finite.result _ _
    (λ a is. subst (λ (rs : List Relator). IsQuotient (named_part c.args.pres.now rs) (prime_value c.args.prime) c.args.class a) same is)
    c.finite.ensures.quotient

pub returns-clause-refusal : goal.returns-clause-refusal
returns-clause-refusal g c =
    let same : c.as_slice.result.now ≡ and_all_fixed c.args.pres.now c.args.recorded.now =
    c.as_slice.ensures.value ∙ c.in_ok-relators.ensures in
    IfErr-weaker c.finite.result _ _
    (λ e is.
    subst (λ (rs : List Relator). IsRefusalOf (named_part c.args.pres.now rs) (prime_value c.args.prime) c.args.class Whole e) same is)
    c.finite.ensures.refusal

pub returns-clause-whole : goal.returns-clause-whole
returns-clause-whole g c enough =
    let same : c.as_slice.result.now ≡ and_all_fixed c.args.pres.now c.args.recorded.now =
    c.as_slice.ensures.value ∙ c.in_ok-relators.ensures in
    let answers =
    enough-answers c.args.pres.now c.args.recorded.now (prime_value c.args.prime) c.args.class c.requires.named enough in
    IfOk-weaker c.finite.result _ _
    (λ a is.
    (answers.quotients a).1
    (subst (λ (rs : List Relator). IsQuotient (named_part c.args.pres.now rs) (prime_value c.args.prime) c.args.class a) same is))
    c.finite.ensures.quotient

pub returns-clause-whole_refusal : goal.returns-clause-whole_refusal
returns-clause-whole_refusal g c enough =
    let same : c.as_slice.result.now ≡ and_all_fixed c.args.pres.now c.args.recorded.now =
    c.as_slice.ensures.value ∙ c.in_ok-relators.ensures in
    let answers =
    enough-answers c.args.pres.now c.args.recorded.now (prime_value c.args.prime) c.args.class c.requires.named enough in
    IfErr-weaker c.finite.result _ _
    (λ e is.
    refusal-of_same c.args.pres.now (named_part c.args.pres.now (and_all_fixed c.args.pres.now c.args.recorded.now))
    (prime_value c.args.prime) c.args.class Whole e answers
    (subst (λ (rs : List Relator). IsRefusalOf (named_part c.args.pres.now rs) (prime_value c.args.prime) c.args.class Whole e) same is))
    c.finite.ensures.refusal
