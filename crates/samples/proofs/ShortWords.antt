-- A product of words of few letters isn't too long.
use Rattle.std.proofs.Common.{◌≤◌, ◌++◌, ℤ, List, length, Result, Ok, Err, arith}
use Rattle.std.proofs.lemmas.List.{length-append}
use Rattle.free_words.specs.declared.refusal.WordRefusal.{WordRefusal}
use Rattle.free_words.specs.declared.refusal.WordRefusal.TheVariants.{TooLong, NoMemory}
use Rattle.free_words.specs.Gives.{Gives}
use Rattle.samples.specs.Pieces.{IsNotTooLong}

pub short_word : (r : Result (List ℤ) WordRefusal) (u v : List ℤ) → Gives r (u ++ v) → length u ≤ 1000 → length v ≤ 1000 → IsNotTooLong r
short_word (Ok w) u v gives few_u few_v = tt
short_word (Err (TooLong n)) u v gives few_u few_v = absurd (omega (arith, gives.1, length-append u v))
short_word (Err NoMemory) u v gives few_u few_v = tt
