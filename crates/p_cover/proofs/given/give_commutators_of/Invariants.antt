use Rattle.p_cover.specs.Given.{Completes, IsDraftOf, IsCommutatorOf}
use Rattle.p_cover.proofs.given.give_commutators_of.Given as goal

abbrev pub invariant-loop-k : goal.invariant-loop-k
invariant-loop-k l = IsDraftOf l.answer l.builder × Completes l.answer (IsCommutatorOf l.j l.k) l.initial.builder l.builder
