use Rattle.std.proofs.Common.{◌≤◌, ◌+◌, ℕ, List, length, sym, subst}
use Rattle.pq_base.specs.Limits.{max_rank}
use Rattle.cover_quotient.specs.Combinations.{AreCombinationsOf, AreKept}
use Rattle.cert_checker.proofs.summing.LineCombinations.{lines-are_combinations, lines-keep}
use Rattle.cert_checker.proofs.combining.answer_of_lines.Goals as goal

pub next_answer-requires-clause-combinations : goal.next_answer-requires-clause-combinations
next_answer-requires-clause-combinations c =
    let C = c.args.cover.now in
    subst (AreCombinationsOf C) (sym c.in_ok-combinations.ensures)
    (lines-are_combinations C c.args.step.now
    (subst (λ (ts : List ℕ). C.answer.presentation.rank + length ts ≤ max_rank) c.requires.kept c.requires.limit))

pub next_answer-requires-clause-kept : goal.next_answer-requires-clause-kept
next_answer-requires-clause-kept c =
    subst AreKept (sym c.in_ok-combinations.ensures) (lines-keep c.args.cover.now c.args.step.now)
