-- What a call that makes a word answers.
use Rattle.std.specs.Prelude.{◌≡◌, ◌<◌, ◌≤◌, ℕ, ℤ, List, [], length, Result, Ok, Err}
use Rattle.std.specs.Global.{Vec}
use Rattle.pq_base.specs.Limits.{max_letters}
use Rattle.free_words.specs.declared.refusal.WordRefusal.{WordRefusal}
use Rattle.free_words.specs.declared.refusal.WordRefusal.TheVariants.{TooLong, NoMemory}

-- the word that is defined, if it has no more letters than a word may have, else its length; want of memory may come in place of either
abbrev pub Gives : Result (List ℤ) WordRefusal → List ℤ → Type 0
Gives (Ok u) w = (u ≡ w) × (length w ≤ max_letters)
Gives (Err (TooLong n)) w = (n ≡ length w) × (max_letters < length w)
Gives (Err NoMemory) w = Unit {0}

-- an empty list for n letters, if a word may have so many, else n; want of memory may come in place of either
abbrev pub GivesRoom : Result (Vec ℤ) WordRefusal → ℕ → Type 0
GivesRoom (Ok v) n = (v.items ≡ []) × (n ≤ max_letters)
GivesRoom (Err (TooLong m)) n = (m ≡ n) × (max_letters < n)
GivesRoom (Err NoMemory) n = Unit {0}
