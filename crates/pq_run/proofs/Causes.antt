-- What a text is refused for, or the presentation that it reads as, the input that gave it is refused for; and what the input of a
-- command is refused for, the command is refused for.
use Rattle.std.proofs.Common.{◌≡◌, ℕ, List, Option, Some, None, IfSome, [], inl, refl, sym, subst}
use Rattle.std.proofs.lemmas.Option.{IfSome_then}
use Rattle.pq_base.specs.declared.prime.Prime.{Prime}
use Rattle.pq_base.specs.Prime.{prime_value}
use Rattle.derivation_log.specs.declared.source.Run.{Run}
use Rattle.lpres_reader.specs.declared.refusal.ReadRefusal.{ReadRefusal}
use Rattle.lpres_reader.specs.declared.refusal.ReadRefusal.TheVariants as reading
use Rattle.lpres_reader.specs.Refusals.{IsRefusedBy}
use Rattle.pq_run.specs.declared.command.Command.TheVariants.{Quotient}
use Rattle.pq_run.specs.declared.command.Form.{Form}
use Rattle.pq_run.specs.declared.input.Input.{Input}
use Rattle.pq_run.specs.declared.input.Input.TheVariants.{Presentation}
use Rattle.pq_run.specs.declared.refusal.Refusal.{Refusal}
use Rattle.pq_run.specs.declared.refusal.Refusal.TheVariants.{Words, ReadFault, InputTooLong, Text, TooLarge, CertificateLine}
use Rattle.pq_run.specs.declared.refusal.Refusal.TheVariants.{CertificatePart, NoMemory}
use Rattle.pq_run.specs.Command.{CommandWords, Asks}
use Rattle.pq_run.specs.Input.{IsWithin, IsAbove}
use Rattle.pq_run.specs.Texts.{HasLargeRank}
use Rattle.pq_run.specs.Kinds.{ReadsInput, IsTooLargeFor}
use Rattle.pq_run.specs.Refusals.{refusal_of_reading}
use Rattle.pq_run.specs.Streams.{Reading}
use Rattle.pq_run.specs.Cause.{IsReadCause, IsPresentationTextCause, IsQuotientCause, IsCause}

-- what an input is refused for before its text is read
pub read_cause : (p c : ℕ) (r : Reading) (refusal : Refusal) → IsReadCause Presentation r refusal → IsQuotientCause p c r refusal
read_cause p c r Words cause = absurd cause
read_cause p c r ReadFault cause = cause
read_cause p c r (InputTooLong input) cause = cause
read_cause p c r (Text fault) cause = absurd cause
read_cause p c r (TooLarge run k rank) cause = absurd cause
read_cause p c r (CertificateLine n) cause = absurd cause
read_cause p c r (CertificatePart run k part) cause = absurd cause
read_cause p c r NoMemory cause = tt

-- where the text is told to be what was left in the source
pub told : (P : List ℕ → Type 0) (text : List ℕ) (left rest : Option (List ℕ)) → IfSome left (λ bytes. (text ≡ bytes) × (rest ≡ Some []))
    → P text → IfSome left P
told P text None rest whole holds = tt
told P text (Some bytes) rest whole holds = subst P whole.0 holds

-- what the text of an input is refused for by the reader, the input is refused for
pub unread_cause : (text items : List ℕ) (r : Reading) (e : ReadRefusal) → text ≡ items → IsWithin Presentation items
    → IfSome r.left (λ bytes. (items ≡ bytes) × (r.rest ≡ Some [])) → IsRefusedBy text e → (p c : ℕ)
    → IsQuotientCause p c r (refusal_of_reading e)
unread_cause text items r (reading.Text fault) same within whole refused p c =
    told (λ bytes. IsWithin Presentation bytes × IsPresentationTextCause p c bytes (Text fault)) items r.left r.rest whole
    (within, subst (λ (bytes : List ℕ). IsPresentationTextCause p c bytes (Text fault)) same refused)
unread_cause text items r reading.NoMemory same within whole refused p c = tt

-- what two facts say of the bytes that a source tells
pub IfSome-both : (P Q R : List ℕ → Type 0) → ((bytes : List ℕ) → P bytes → Q bytes → R bytes) → (left : Option (List ℕ)) → IfSome left P
    → IfSome left Q → IfSome left R
IfSome-both P Q R gives None one other = tt
IfSome-both P Q R gives (Some bytes) one other = gives bytes one other

module _ (words : List (List ℕ)) (p : Prime) (c : ℕ) (form : Form) (spelled : CommandWords words (Quotient p c form)) where
  asks_presentation : Asks (ReadsInput Presentation) words
  asks_presentation = (Quotient p c form, spelled, refl)

  asks_too_large : (run : Run) (k rank : ℕ) (bytes : List ℕ) → IsWithin Presentation bytes × HasLargeRank (prime_value p) c run k rank bytes
      → Asks (IsTooLargeFor run k rank bytes) words
  asks_too_large run k rank bytes cause = (
    Quotient p c form,
    spelled,
    (
      (refl, cause.0),
      cause.1,
    ),
  )

  pub input_cause : (r : Reading) (refusal : Refusal) → IsQuotientCause (prime_value p) c r refusal → IsCause words r refusal
  input_cause r Words cause = absurd cause
  input_cause r ReadFault cause = ((Quotient p c form, spelled, (Presentation, refl)), cause)
  input_cause r (InputTooLong input) cause = (
    subst (λ (x : Input). Asks (ReadsInput x) words) (sym cause.0) asks_presentation,
    subst (λ (x : Input). IfSome r.left (IsAbove x)) (sym cause.0) cause.1,
  )
  input_cause r (Text fault) cause = (asks_presentation, cause)
  input_cause r (TooLarge run k rank) cause = inl (
    asks_presentation,
    IfSome_then r.left {P = λ bytes. IsWithin Presentation bytes × IsPresentationTextCause (prime_value p) c bytes (TooLarge run k rank)}
        {Q = λ bytes. Asks (IsTooLargeFor run k rank bytes) words} cause (asks_too_large run k rank),
  )
  input_cause r (CertificateLine n) cause = absurd cause
  input_cause r (CertificatePart run k part) cause = absurd cause
  input_cause r NoMemory cause = (Quotient p c form, spelled)
