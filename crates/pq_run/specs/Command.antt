-- The words of a command: the one list of texts that spells it. Numbers are in decimal digits.
-- From: this project's own table of command words.
use Rattle.std.specs.Prelude.{◌≡◌, ◌≤◌, ℕ, List, [], ◌∷◌, codes, decimal}
use Rattle.pq_base.specs.Limits.{max_class, max_sample}
use Rattle.pq_base.specs.Prime.{prime_value}
use Rattle.pq_run.specs.declared.command.Command.{Command}
use Rattle.pq_run.specs.declared.command.Command.TheVariants.{Quotient, Check, Sample}
use Rattle.pq_run.specs.declared.command.Form.{Form}
use Rattle.pq_run.specs.declared.command.Form.TheVariants.{Text, Json, Certificate}

-- the word that asks for an answer, or for a certificate of it
abbrev pub verb_of : Form → List ℕ
verb_of Text = codes "quotient"
verb_of Json = codes "quotient"
verb_of Certificate = codes "certify"

-- the words behind the class that tell a form
abbrev pub words_behind : Form → List (List ℕ)
words_behind Text = []
words_behind Json = codes "json" ∷ []
words_behind Certificate = []

abbrev pub command_words : Command → List (List ℕ)
command_words (Quotient p c form) = verb_of form ∷ decimal (prime_value p) ∷ decimal c ∷ words_behind form
command_words Check = codes "check" ∷ []
command_words (Sample n) = codes "sample" ∷ decimal n ∷ []

-- a class that can be asked for
abbrev pub IsClass : ℕ → Type 0
IsClass c = (1 ≤ c) × (c ≤ max_class)

-- the numbers of a command are within their limits
abbrev pub IsInRange : Command → Type 0
IsInRange (Quotient p c form) = IsClass c
IsInRange Check = Unit {0}
IsInRange (Sample n) = n ≤ max_sample

-- the words are those of this command
pub record CommandWords (words : List (List ℕ)) (command : Command) : Type 0 where
  pub range : IsInRange command
  pub spelled : words ≡ command_words command

-- the words are in the table
abbrev pub AreCommandWords : List (List ℕ) → Type 0
AreCommandWords words = (command : Command) × CommandWords words command

-- the words are those of a command of this kind
abbrev pub Asks : (Command → Type 0) → List (List ℕ) → Type 0
Asks kind words = (command : Command) × CommandWords words command × kind command

-- a command that has a prime and a class, and this holds of them
abbrev pub AtPrimeAndClass : (ℕ → ℕ → Type 0) → Command → Type 0
AtPrimeAndClass P (Quotient p c form) = P (prime_value p) c
AtPrimeAndClass P Check = ⊥
AtPrimeAndClass P (Sample n) = ⊥

-- the command for a sample, and this holds of its number
abbrev pub AtSample : (ℕ → Type 0) → Command → Type 0
AtSample P (Quotient p c form) = ⊥
AtSample P Check = ⊥
AtSample P (Sample n) = P n
