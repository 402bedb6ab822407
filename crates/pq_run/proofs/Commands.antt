-- One list of words spells at most one command, so what kind of command words ask for is one thing.
use Rattle.std.proofs.Common.{◌≡◌, ◌<◌, ◌≤◌, ◌^◌, ℕ, suc, List, [], get_or, length, drop, ◌+◌, ◌*◌, refl, sym, ap, ◌∙◌, subst, decimal}
use Rattle.std.proofs.Common.{Some, None, arith}
use Rattle.std.proofs.lemmas.Fmt.{decimal_injective}
use Rattle.pq_base.specs.declared.prime.Prime.{Prime}
use Rattle.pq_base.specs.declared.prime.Prime.TheVariants.{P2, P3, P5, P7}
use Rattle.pq_base.specs.Prime.{prime_value}
use Rattle.pq_run.specs.declared.command.Command.{Command}
use Rattle.pq_run.specs.declared.command.Command.TheVariants.{Quotient, Check, Sample}
use Rattle.pq_run.specs.declared.command.Form.{Form}
use Rattle.pq_run.specs.declared.command.Form.TheVariants.{Text, Json, Certificate}
use Rattle.pq_run.specs.declared.input.Input.{Input}
use Rattle.pq_run.specs.Command.{verb_of, words_behind, command_words, CommandWords, AreCommandWords, IsInRange, Asks}
use Rattle.pq_run.specs.Command.{AtPrimeAndClass, AtSample}
use Rattle.pq_run.specs.Input.{IsAbove}
use Rattle.pq_run.specs.Kinds.{ReadsInput, IsReading, IsTooLong, IsGiven}

-- word number i, counted from 0
abbrev word : ℕ → List (List ℕ) → List ℕ
word i words = get_or words i []

abbrev first_letter : List ℕ → ℕ
first_letter w = get_or w 0 0

abbrev word_count : List (List ℕ) → ℕ
word_count words = length words

-- how many words there are, and the first letter of the first: enough to tell `check` and `sample N` apart
abbrev mark : List (List ℕ) → ℕ
mark words = 1000 * length words + get_or (word 0 words) 0 0

prime_value-small : (p : Prime) → prime_value p < 2 ^ 64
prime_value-small P2 = omega arith
prime_value-small P3 = omega arith
prime_value-small P5 = omega arith
prime_value-small P7 = omega arith

prime_value-injective : (p q : Prime) → prime_value p ≡ prime_value q → p ≡ q
prime_value-injective P2 P2 e = refl
prime_value-injective P2 P3 e = absurd (omega arith)
prime_value-injective P2 P5 e = absurd (omega arith)
prime_value-injective P2 P7 e = absurd (omega arith)
prime_value-injective P3 P2 e = absurd (omega arith)
prime_value-injective P3 P3 e = refl
prime_value-injective P3 P5 e = absurd (omega arith)
prime_value-injective P3 P7 e = absurd (omega arith)
prime_value-injective P5 P2 e = absurd (omega arith)
prime_value-injective P5 P3 e = absurd (omega arith)
prime_value-injective P5 P5 e = refl
prime_value-injective P5 P7 e = absurd (omega arith)
prime_value-injective P7 P2 e = absurd (omega arith)
prime_value-injective P7 P3 e = absurd (omega arith)
prime_value-injective P7 P5 e = absurd (omega arith)
prime_value-injective P7 P7 e = refl

same_prime_and_class : (p q : Prime) (c d : ℕ) → c ≤ 60 → d ≤ 60 → decimal (prime_value p) ≡ decimal (prime_value q) → decimal c ≡ decimal d
    → (p ≡ q) × (c ≡ d)
same_prime_and_class p q c d hc hd primes classes = (
  prime_value-injective p q (decimal_injective (prime_value p) (prime_value q) (prime_value-small p) (prime_value-small q) primes),
  decimal_injective c d (omega arith) (omega arith) classes,
)

-- the words of a form tell it
same_form : (f g : Form) → verb_of f ≡ verb_of g → words_behind f ≡ words_behind g → f ≡ g
same_form Text Text verb behind = refl
same_form Text Json verb behind = absurd (let m = ap word_count behind in omega arith)
same_form Text Certificate verb behind = absurd (let m = ap first_letter verb in omega arith)
same_form Json Text verb behind = absurd (let m = ap word_count behind in omega arith)
same_form Json Json verb behind = refl
same_form Json Certificate verb behind = absurd (let m = ap first_letter verb in omega arith)
same_form Certificate Text verb behind = absurd (let m = ap first_letter verb in omega arith)
same_form Certificate Json verb behind = absurd (let m = ap first_letter verb in omega arith)
same_form Certificate Certificate verb behind = refl

-- a command for a presentation has at least three words
three-words : (p : Prime) (c : ℕ) (form : Form) (words : List (List ℕ)) → command_words (Quotient p c form) ≡ words → 3 ≤ length words
three-words p c form words e =
    let count : suc (suc (suc (length (words_behind form)))) ≡ length words = ap word_count e in
    omega arith

pub command_words-injective : (c d : Command) → IsInRange c → IsInRange d → command_words c ≡ command_words d → c ≡ d
command_words-injective (Quotient p c f) (Quotient q d g) r s e =
    let same = same_prime_and_class p q c d r.1 s.1 (ap (word 1) e) (ap (word 2) e) in
    let form : f ≡ g = same_form f g (ap (word 0) e) (ap (λ (ws : List (List ℕ)). drop 3 ws) e) in
    ap (λ (x : Prime). Quotient x c f) same.0 ∙ ap (λ (x : ℕ). Quotient q x f) same.1 ∙ ap (λ (x : Form). Quotient q d x) form
command_words-injective (Quotient p c f) Check r s e =
    absurd (let m : 3 ≤ 1 = three-words p c f (command_words Check) e in omega arith)
command_words-injective (Quotient p c f) (Sample m) r s e =
    absurd (let m : 3 ≤ 2 = three-words p c f (command_words (Sample m)) e in omega arith)
command_words-injective Check (Quotient q d g) r s e =
    absurd (let m : 3 ≤ 1 = three-words q d g (command_words Check) (sym e) in omega arith)
command_words-injective Check Check r s e = refl
command_words-injective Check (Sample m) r s e = absurd (let m = ap mark e in omega arith)
command_words-injective (Sample n) (Quotient q d g) r s e =
    absurd (let m : 3 ≤ 2 = three-words q d g (command_words (Sample n)) (sym e) in omega arith)
command_words-injective (Sample n) Check r s e = absurd (let m = ap mark e in omega arith)
command_words-injective (Sample n) (Sample m) r s e = ap Sample (decimal_injective n m (omega arith) (omega arith) (ap (word 1) e))

pub one_command : (words : List (List ℕ)) (c d : Command) → CommandWords words c → CommandWords words d → c ≡ d
one_command words c d x y = command_words-injective c d x.range y.range (sym x.spelled ∙ y.spelled)

pub Asks-words : (K : Command → Type 0) (words : List (List ℕ)) → Asks K words → AreCommandWords words
Asks-words K words a = (a.0, a.1)

pub Asks-weaker : (K M : Command → Type 0) (words : List (List ℕ)) → ((c : Command) → K c → M c) → Asks K words → Asks M words
Asks-weaker K M words gives a = (a.0, a.1, gives a.0 a.2)

-- words that spell a command, which is told by its parts
pub spelled-same : (words : List (List ℕ)) (c d : Command) → CommandWords words d → d ≡ c → CommandWords words c
spelled-same words c d spelled same = subst (CommandWords words) same spelled

-- words that spell a command of this kind, which is told by its parts
pub Asks-same : (K : Command → Type 0) (words : List (List ℕ)) (c d : Command) → CommandWords words d → d ≡ c → K c → Asks K words
Asks-same K words c d spelled same is = (c, subst (CommandWords words) same spelled, is)

-- words that ask for two kinds of command ask for one command of both kinds
pub Asks-apart : (K M : Command → Type 0) (words : List (List ℕ)) → ((c : Command) → K c → M c → ⊥) → Asks K words → Asks M words → ⊥
Asks-apart K M words apart a b = apart b.0 (subst K (one_command words a.0 b.0 a.1 b.1) a.2) b.2

-- what follows from what holds of the prime and the class of a command
pub AtPrimeAndClass-gives : (P : ℕ → ℕ → Type 0) (X : Type 0) → ((p c : ℕ) → P p c → X) → (command : Command)
    → AtPrimeAndClass P command → X
AtPrimeAndClass-gives P X gives (Quotient p c form) holds = gives (prime_value p) c holds
AtPrimeAndClass-gives P X gives Check holds = absurd holds
AtPrimeAndClass-gives P X gives (Sample n) holds = absurd holds

-- so from two facts of them
pub AtPrimeAndClass-both : (P Q : ℕ → ℕ → Type 0) (X : Type 0) → ((p : Prime) (c : ℕ) → P (prime_value p) c → Q (prime_value p) c → X)
    → (command : Command) → AtPrimeAndClass P command → AtPrimeAndClass Q command → X
AtPrimeAndClass-both P Q X gives (Quotient p c form) one other = gives p c one other
AtPrimeAndClass-both P Q X gives Check one other = absurd one
AtPrimeAndClass-both P Q X gives (Sample n) one other = absurd one

-- what follows from two facts of the number of a sample
pub AtSample-both : (P Q : ℕ → Type 0) (X : Type 0) → ((n : ℕ) → P n → Q n → X) → (command : Command) → AtSample P command
    → AtSample Q command → X
AtSample-both P Q X gives (Quotient p c form) one other = absurd one
AtSample-both P Q X gives Check one other = absurd one
AtSample-both P Q X gives (Sample n) one other = gives n one other

-- what follows of it from one
pub AtSample-weaker : (P Q : ℕ → Type 0) → ((n : ℕ) → P n → Q n) → (command : Command) → AtSample P command → AtSample Q command
AtSample-weaker P Q gives (Quotient p c form) holds = holds
AtSample-weaker P Q gives Check holds = holds
AtSample-weaker P Q gives (Sample n) holds = gives n holds

-- a command for a sample reads nothing
pub reading-not_sample : (P : ℕ → Type 0) (command : Command) → IsReading command → AtSample P command → ⊥
reading-not_sample P (Quotient p c form) reads holds = holds
reading-not_sample P Check reads holds = holds
reading-not_sample P (Sample n) reads holds = none reads.0 reads.1
  where
    none : (input : Input) → None ≡ Some input → ⊥
    none input e = cc

Some-injective : (x y : Input) → Some x ≡ Some y → x ≡ y
Some-injective x y e = cc

-- a command reads one input
pub one_input : (one other : Input) (c : Command) → ReadsInput one c → ReadsInput other c → one ≡ other
one_input one other c x y = Some-injective one other (sym x ∙ y)

-- the length of an input is within its limit or not
pub too_long-not_given : (bytes : List ℕ) (input : Input) (c : Command) → IsTooLong bytes c → IsGiven input bytes c → ⊥
too_long-not_given bytes input c long given = beyond long.0 (one_input long.0 input c long.1 given.0) long.2
  where
    beyond : (other : Input) → other ≡ input → IsAbove other bytes → ⊥
    beyond other e above = let here : IsAbove input bytes = subst (λ (x : Input). IsAbove x bytes) e above in omega (arith, given.1)
