use Rattle.std.proofs.Common.{ℕ, suc, length, option_map}
use Rattle.std.specs.Prelude.{Option, Some, None}
use Rattle.std.proofs.Common.{List}
use Rattle.answer_text.proofs.WordSteps.{HasRead}
use Rattle.answer_text.proofs.word_reading.word.Given as goal

-- what is left goes on as the words of the text do
abbrev pub invariant-loop-rest : goal.invariant-loop-rest
invariant-loop-rest l = HasRead l.prime l.rank l.after l.text l.last l.word.items (option_map (λ t. t.now) l.rest)

abbrev bytes_left : Option (List ℕ) → ℕ
bytes_left None = 0
bytes_left (Some t) = suc (length t)

abbrev pub decreases-loop-rest : goal.decreases-loop-rest
decreases-loop-rest l = bytes_left (option_map (λ t. t.now) l.rest)
