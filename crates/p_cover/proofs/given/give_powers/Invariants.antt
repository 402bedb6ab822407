use Rattle.p_cover.specs.Given.{Completes, IsDraftOf, IsPowerTo}
use Rattle.p_cover.proofs.given.give_powers.Given as goal

abbrev pub invariant-loop-k : goal.invariant-loop-k
invariant-loop-k l = IsDraftOf l.answer l.builder × Completes l.answer (IsPowerTo l.k) l.initial.builder l.builder
