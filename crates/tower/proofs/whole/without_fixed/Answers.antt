use Rattle.std.proofs.Common.{subst}
use Rattle.pq_base.specs.LPresentation.{LPresentation}
use Rattle.pq_base.specs.Prime.{prime_value}
use Rattle.tower.specs.Answers.{IsQuotient}
use Rattle.tower.proofs.EnoughRelators.{part-whole}
use Rattle.tower.proofs.whole.without_fixed.Goals as goal

pub returns-clause-quotient : goal.returns-clause-quotient
returns-clause-quotient g c =
    subst (λ (L : LPresentation). IsQuotient L (prime_value c.args.prime) c.args.class c.in_ok-answer.answer)
    (part-whole c.args.pres.now c.requires.fixed) c.in_ok-answer.ensures.quotient
