-- The words and the bytes determine what a command is refused for: words that are none for that, an input for its length or its text.
use Rattle.std.proofs.Common.{◌≡◌, ◌<◌, ◌⊎◌, ℕ, List, Option, Some, IfSome, inl, inr, refl, sym, ap, subst, ◌∙◌, arith}
use Rattle.pq_base.specs.declared.prime.Prime.{Prime}
use Rattle.pq_base.specs.Prime.{prime_value}
use Rattle.pq_base.proofs.PrimeLaws.{offered-two}
use Rattle.samples.specs.Samples.{sample_presentation, sample_prime, sample_class}
use Rattle.samples.proofs.Samples.{sample_primes_are_offered}
use Rattle.lpres_reader.specs.declared.fault.TextFault.{TextFault}
use Rattle.lpres_reader.specs.declared.fault.Kind.{Kind}
use Rattle.lpres_reader.specs.declared.fault.Kind.TheVariants as kind
use Rattle.lpres_reader.specs.declared.fault.Which.{Which}
use Rattle.lpres_reader.specs.declared.fault.Which.TheVariants as which
use Rattle.lpres_reader.specs.Trials as trials
use Rattle.lpres_reader.specs.Faults as faults
use Rattle.lpres_reader.specs.Stops.{which_of, kind_of}
use Rattle.lpres_reader.proofs.faults.ReaderLaws.{each_text_reads_or_fails}
use Rattle.derivation_log.specs.declared.source.Run.{Run}
use Rattle.derivation_log.specs.declared.source.Run.TheVariants.{Whole}
use Rattle.pq_run.specs.declared.command.Command.{Command}
use Rattle.pq_run.specs.declared.command.Command.TheVariants.{Quotient, Check, Sample}
use Rattle.pq_run.specs.declared.input.Input.{Input}
use Rattle.pq_run.specs.declared.input.Input.TheVariants.{Presentation, Certificate}
use Rattle.pq_run.specs.declared.refusal.Refusal.{Refusal}
use Rattle.pq_run.specs.declared.refusal.Refusal.TheVariants.{Words, ReadFault, InputTooLong, Text, TooLarge, CertificateLine}
use Rattle.pq_run.specs.declared.refusal.Refusal.TheVariants.{CertificatePart, NoMemory}
use Rattle.pq_run.specs.Command.{AreCommandWords, Asks}
use Rattle.pq_run.specs.Input.{IsAbove, IsWithin}
use Rattle.pq_run.specs.Texts.{HasFault, HasLargeRank}
use Rattle.pq_run.specs.SampleRanks.{HasLargeSampleRank}
use Rattle.pq_run.specs.Kinds.{ReadsInput, IsTooLargeFor, IsLargeSampleFor}
use Rattle.pq_run.specs.Streams.{Reading}
use Rattle.pq_run.specs.Cause.{IsCertificateTextCause, IsOfInput, IsCause, OneRefusal}
use Rattle.pq_run.proofs.Commands.{one_command, one_input, Asks-weaker, reading-not_sample}
use Rattle.pq_run.proofs.Texts.{HasFault-unreadable, one_large_rank, one_large_order}
use Rattle.pq_run.proofs.TooLargeRanks.{prime_value-above}
use Rattle.pq_run.proofs.CheckedOutputs.{one_cert_refusal}

-- the code's names of kinds of faults tell the kinds apart: there is a way back
abbrev which_back : trials.Which → Which
which_back trials.Name = which.Name
which_back trials.Generators = which.Generators
which_back trials.Fixed = which.Fixed
which_back trials.Iterated = which.Iterated
which_back trials.Endos = which.Endos
which_back trials.Exponent = which.Exponent
which_back trials.Letters = which.Letters
which_back trials.Total = which.Total

abbrev kind_back : faults.Kind → Kind
kind_back faults.Deep = kind.Deep
kind_back faults.Syntax = kind.Syntax
kind_back faults.UnknownName = kind.UnknownName
kind_back faults.RepeatedName = kind.RepeatedName
kind_back (faults.Limit w n) = kind.Limit (which_back w) n
kind_back faults.NotAllImages = kind.NotAllImages

which_back-of : (w : Which) → which_back (which_of w) ≡ w
which_back-of which.Name = refl
which_back-of which.Generators = refl
which_back-of which.Fixed = refl
which_back-of which.Iterated = refl
which_back-of which.Endos = refl
which_back-of which.Exponent = refl
which_back-of which.Letters = refl
which_back-of which.Total = refl

kind_back-of : (k : Kind) → kind_back (kind_of k) ≡ k
kind_back-of kind.Deep = refl
kind_back-of kind.Syntax = refl
kind_back-of kind.UnknownName = refl
kind_back-of kind.RepeatedName = refl
kind_back-of (kind.Limit w n) = ap (λ (v : Which). kind.Limit v n) (which_back-of w)
kind_back-of kind.NotAllImages = refl

kind_of-injective : (k l : Kind) → kind_of k ≡ kind_of l → k ≡ l
kind_of-injective k l e = sym (kind_back-of k) ∙ ap kind_back e ∙ kind_back-of l

abbrev fault_at : ℕ → Kind → TextFault
fault_at n k = record { line = n; kind = k }

-- a text has one first fault
one_text_fault : (bytes : List ℕ) (f g : TextFault) → HasFault f bytes → HasFault g bytes → f ≡ g
one_text_fault bytes f g x y =
    let same = (each_text_reads_or_fails bytes).one_fault f.line g.line (kind_of f.kind) (kind_of g.kind) x y in
    let kinds : f.kind ≡ g.kind = kind_of-injective f.kind g.kind same.1 in
    ap (λ (n : ℕ). fault_at n f.kind) same.0 ∙ ap (λ (k : Kind). fault_at g.line k) kinds

-- the bytes of a presentation's input are refused so, for a fault or for a rank
abbrev OfText : ℕ → ℕ → List ℕ → Refusal → Type 0
OfText p c bytes refusal =
    ((fault : TextFault) × (refusal ≡ Text fault) × HasFault fault bytes)
    ⊎ ((run : Run) × (k : ℕ) × (r : ℕ) × (refusal ≡ TooLarge run k r) × HasLargeRank p c run k r bytes)

same_numbers : (run other : Run) (j k r s : ℕ) → (run ≡ other) × (j ≡ k) × (r ≡ s) → TooLarge run j r ≡ TooLarge other k s
same_numbers run other j k r s e =
    ap (λ (x : Run). TooLarge x j r) e.0 ∙ ap (λ (x : ℕ). TooLarge other x r) e.1 ∙ ap (λ (x : ℕ). TooLarge other k x) e.2

one_of_text : (p c : ℕ) (bytes : List ℕ) → 1 < p → (one other : Refusal) → OfText p c bytes one → OfText p c bytes other → one ≡ other
one_of_text p c bytes big one other (inl x) (inl y) = x.1 ∙ ap Text (one_text_fault bytes x.0 y.0 x.2 y.2) ∙ sym y.1
one_of_text p c bytes big one other (inl x) (inr y) = absurd (HasFault-unreadable bytes x.0 x.2 (y.4.presentation, y.4.reads))
one_of_text p c bytes big one other (inr x) (inl y) = absurd (HasFault-unreadable bytes y.0 y.2 (x.4.presentation, x.4.reads))
one_of_text p c bytes big one other (inr x) (inr y) =
    x.3 ∙ same_numbers x.0 y.0 x.1 y.1 x.2 y.2 (one_large_rank p c x.0 y.0 x.1 y.1 x.2 y.2 bytes big x.4 y.4) ∙ sym y.3

-- a sample is refused so
abbrev OfSample : ℕ → Refusal → Type 0
OfSample n refusal = (k : ℕ) × (r : ℕ) × (refusal ≡ TooLarge Whole k r) × HasLargeSampleRank k r n

one_of_sample : (n : ℕ) (one other : Refusal) → OfSample n one → OfSample n other → one ≡ other
one_of_sample n one other x y =
    let same = one_large_order (sample_presentation n) (sample_prime n) sample_class x.0 y.0 x.1 y.1
    (offered-two (sample_prime n) (sample_primes_are_offered n)) x.3 y.3 in
    x.2 ∙ same_numbers Whole Whole x.0 y.0 x.1 y.1 (refl, same.0, same.1) ∙ sym y.2

-- an input is refused so, for its length or for its text
abbrev OfInput : Input → List ℕ → (Refusal → Type 0) → Refusal → Type 0
OfInput input bytes T refusal = ((refusal ≡ InputTooLong input) × IsAbove input bytes) ⊎ (IsWithin input bytes × T refusal)

one_of_input : (input : Input) (bytes : List ℕ) (T : Refusal → Type 0) → ((a b : Refusal) → T a → T b → a ≡ b) → (one other : Refusal)
    → OfInput input bytes T one → OfInput input bytes T other → one ≡ other
one_of_input input bytes T unique one other (inl x) (inl y) = x.0 ∙ sym y.0
one_of_input input bytes T unique one other (inl x) (inr y) = absurd (omega (arith, x.1, y.0))
one_of_input input bytes T unique one other (inr x) (inl y) = absurd (omega (arith, x.0, y.1))
one_of_input input bytes T unique one other (inr x) (inr y) = unique one other x.1 y.1

-- a command is refused so
abbrev OfCommand : List ℕ → Refusal → Command → Type 0
OfCommand bytes refusal (Quotient p c form) = OfInput Presentation bytes (OfText (prime_value p) c bytes) refusal
OfCommand bytes refusal Check = OfInput Certificate bytes (IsCertificateTextCause bytes) refusal
OfCommand bytes refusal (Sample n) = OfSample n refusal

one_of_command : (bytes : List ℕ) (one other : Refusal) (command : Command) → OfCommand bytes one command → OfCommand bytes other command
    → one ≡ other
one_of_command bytes one other (Quotient p c form) x y =
    one_of_input Presentation bytes (OfText (prime_value p) c bytes) (one_of_text (prime_value p) c bytes (prime_value-above p)) one other
    x y
one_of_command bytes one other Check x y =
    one_of_input Certificate bytes (IsCertificateTextCause bytes) (one_cert_refusal bytes) one other x y
one_of_command bytes one other (Sample n) x y = one_of_sample n one other x y

reads_nothing : (n : ℕ) (input : Input) → ReadsInput input (Sample n) → ⊥
reads_nothing n input reads = reading-not_sample (λ m. Unit {0}) (Sample n) (input, reads) tt

apart : Presentation ≡ Certificate → ⊥
apart e = cc

too_long : (bytes : List ℕ) (input : Input) → IsAbove input bytes → (command : Command) → ReadsInput input command
    → OfCommand bytes (InputTooLong input) command
too_long bytes input above (Quotient p c form) reads =
    let same : input ≡ Presentation = one_input input Presentation (Quotient p c form) reads refl in
    inl (ap InputTooLong same, subst (λ (x : Input). IsAbove x bytes) same above)
too_long bytes input above Check reads =
    let same : input ≡ Certificate = one_input input Certificate Check reads refl in
    inl (ap InputTooLong same, subst (λ (x : Input). IsAbove x bytes) same above)
too_long bytes input above (Sample n) reads = absurd (reads_nothing n input reads)

bad_text : (bytes : List ℕ) (fault : TextFault) → IsWithin Presentation bytes × HasFault fault bytes → (command : Command)
    → ReadsInput Presentation command → OfCommand bytes (Text fault) command
bad_text bytes fault has (Quotient p c form) reads = inr (has.0, inl (fault, refl, has.1))
bad_text bytes fault has Check reads = absurd (apart (one_input Presentation Certificate Check reads refl))
bad_text bytes fault has (Sample n) reads = absurd (reads_nothing n Presentation reads)

too_large : (bytes : List ℕ) (run : Run) (k r : ℕ) (command : Command) → IsTooLargeFor run k r bytes command
    → OfCommand bytes (TooLarge run k r) command
too_large bytes run k r (Quotient p c form) is = inr (is.0.1, inr (run, k, r, refl, is.1))
too_large bytes run k r Check is = absurd is.1
too_large bytes run k r (Sample n) is = absurd is.1

large_sample : (bytes : List ℕ) (run : Run) (k r : ℕ) (command : Command) → IsLargeSampleFor run k r command
    → OfCommand bytes (TooLarge run k r) command
large_sample bytes run k r (Quotient p c form) is = absurd is.1
large_sample bytes run k r Check is = absurd is.1
large_sample bytes run k r (Sample n) is = (k, r, ap (λ (x : Run). TooLarge x k r) is.0, is.1)

bad_certificate : (bytes : List ℕ) (refusal : Refusal) → IsWithin Certificate bytes × IsCertificateTextCause bytes refusal
    → (command : Command) → ReadsInput Certificate command → OfCommand bytes refusal command
bad_certificate bytes refusal has (Quotient p c form) reads =
    absurd (apart (one_input Presentation Certificate (Quotient p c form) refl reads))
bad_certificate bytes refusal has Check reads = inr has
bad_certificate bytes refusal has (Sample n) reads = absurd (reads_nothing n Certificate reads)

-- words that are no command are refused for that, and a command for what it is given
abbrev OfWords : List (List ℕ) → List ℕ → Refusal → Type 0
OfWords words bytes refusal = ((refusal ≡ Words) × ¬ AreCommandWords words) ⊎ Asks (OfCommand bytes refusal) words

told_of : (P : List ℕ → Type 0) (left : Option (List ℕ)) (bytes : List ℕ) → left ≡ Some bytes → IfSome left P → P bytes
told_of P left bytes e has = subst (λ (o : Option (List ℕ)). IfSome o P) e has

of_words : (words : List (List ℕ)) (bytes : List ℕ) (r : Reading) (refusal : Refusal) → r.left ≡ Some bytes → IsOfInput refusal
    → IsCause words r refusal → OfWords words bytes refusal
of_words words bytes r Words e own cause = inl (refl, cause)
of_words words bytes r ReadFault e own cause = absurd own
of_words words bytes r (InputTooLong input) e own cause =
    let above : IsAbove input bytes = told_of (IsAbove input) r.left bytes e cause.1 in
    inr (Asks-weaker (ReadsInput input) (OfCommand bytes (InputTooLong input)) words (too_long bytes input above) cause.0)
of_words words bytes r (Text fault) e own cause =
    let has = told_of (λ b. IsWithin Presentation b × HasFault fault b) r.left bytes e cause.1 in
    inr (Asks-weaker (ReadsInput Presentation) (OfCommand bytes (Text fault)) words (bad_text bytes fault has) cause.0)
of_words words bytes r (TooLarge run k rank) e own (inl cause) =
    let asks = told_of (λ b. Asks (IsTooLargeFor run k rank b) words) r.left bytes e cause.1 in
    inr (Asks-weaker (IsTooLargeFor run k rank bytes) (OfCommand bytes (TooLarge run k rank)) words (too_large bytes run k rank) asks)
of_words words bytes r (TooLarge run k rank) e own (inr cause) =
    inr (Asks-weaker (IsLargeSampleFor run k rank) (OfCommand bytes (TooLarge run k rank)) words (large_sample bytes run k rank) cause)
of_words words bytes r (CertificateLine n) e own cause =
    let has = told_of (λ b. IsWithin Certificate b × IsCertificateTextCause b (CertificateLine n)) r.left bytes e cause.1 in
    inr (Asks-weaker (ReadsInput Certificate) (OfCommand bytes (CertificateLine n)) words
    (bad_certificate bytes (CertificateLine n) has) cause.0)
of_words words bytes r (CertificatePart run k part) e own cause =
    let has = told_of (λ b. IsWithin Certificate b × IsCertificateTextCause b (CertificatePart run k part)) r.left bytes e cause.1 in
    inr (Asks-weaker (ReadsInput Certificate) (OfCommand bytes (CertificatePart run k part)) words
    (bad_certificate bytes (CertificatePart run k part) has) cause.0)
of_words words bytes r NoMemory e own cause = absurd own

one_of_words : (words : List (List ℕ)) (bytes : List ℕ) (one other : Refusal) → OfWords words bytes one → OfWords words bytes other
    → one ≡ other
one_of_words words bytes one other (inl x) (inl y) = x.0 ∙ sym y.0
one_of_words words bytes one other (inl x) (inr y) = absurd (x.1 (y.0, y.1))
one_of_words words bytes one other (inr x) (inl y) = absurd (y.1 (x.0, x.1))
one_of_words words bytes one other (inr x) (inr y) =
    one_of_command bytes one other y.0 (subst (OfCommand bytes one) (one_command words x.0 y.0 x.1 y.1) x.2) y.2

pub one_refusal : OneRefusal
one_refusal words bytes r s one other e f own own_other x y =
    one_of_words words bytes one other (of_words words bytes r one e own x) (of_words words bytes s other f own_other y)
