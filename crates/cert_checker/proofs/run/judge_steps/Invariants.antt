use Rattle.cert_checker.proofs.judging.RunSteps.{IsStepsDone}
use Rattle.cert_checker.proofs.run.judge_steps.Given as goal

-- the steps so far pass
abbrev pub invariant-loop-done : goal.invariant-loop-done
invariant-loop-done l = IsStepsDone l.cert l.run l.done l.built
