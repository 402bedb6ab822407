use Rattle.std.proofs.Common.{◌≡◌, map, take}
use Rattle.pc_presentation.specs.Syllable.{syllables_of}
use Rattle.pc_presentation.specs.Parts.{words_of}
use Rattle.cover_quotient.specs.NextAnswer.{combined_answer}
use Rattle.cover_quotient.proofs.next_answer.next_images.Given as goal

abbrev pub invariant-loop-k : goal.invariant-loop-k
invariant-loop-k l = words_of l.images.items ≡ take l.k (map (syllables_of 0) (combined_answer l.cover l.combinations).images)
