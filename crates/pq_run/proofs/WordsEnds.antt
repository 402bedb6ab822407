-- What the words alone decide of how a command ends: whether it ends as bad words.
use Rattle.std.proofs.Common.{◌≡◌, ◌↔◌, ℕ, List, inl, inr, refl, sym, ◌∙◌}
use Rattle.pq_base.specs.declared.status.Status.{Status}
use Rattle.pq_base.specs.declared.status.Status.TheVariants as status
use Rattle.pq_run.specs.declared.input.Input.TheVariants.{Presentation, Certificate}
use Rattle.pq_run.specs.declared.refusal.Refusal.{Refusal}
use Rattle.pq_run.specs.declared.refusal.Refusal.TheVariants.{Words, ReadFault, InputTooLong, Text, TooLarge, CertificateLine}
use Rattle.pq_run.specs.declared.refusal.Refusal.TheVariants.{CertificatePart, NoMemory}
use Rattle.pq_run.specs.Command.{AreCommandWords}
use Rattle.pq_run.specs.Refusals.{refusal_status}
use Rattle.pq_run.specs.Kinds.{ReadsInput, IsReading, IsLargeSampleFor}
use Rattle.pq_run.specs.Streams.{Reading, Writing}
use Rattle.pq_run.specs.Cause.{IsCause}
use Rattle.pq_run.specs.Ends.{Ends}
use Rattle.pq_run.specs.Ends.Ends.{done, cut, refused}
use Rattle.pq_run.proofs.Commands.{Asks-words}

-- a refusal is for words that are no command, or of a command
data Kind (words : List (List ℕ)) (refusal : Refusal) : Type 0 where
  no_command : refusal_status refusal ≡ status.BadWords → ¬ AreCommandWords words → Kind words refusal
  command : ¬ (refusal_status refusal ≡ status.BadWords) → AreCommandWords words → Kind words refusal

kind_of_cause : (words : List (List ℕ)) (r : Reading) (refusal : Refusal) → IsCause words r refusal → Kind words refusal
kind_of_cause words r Words cause = no_command refl cause
kind_of_cause words r ReadFault cause = command (λ e. cc) (Asks-words IsReading words cause.0)
kind_of_cause words r (InputTooLong input) cause = command (λ e. cc) (Asks-words (ReadsInput input) words cause.0)
kind_of_cause words r (Text fault) cause = command (λ e. cc) (Asks-words (ReadsInput Presentation) words cause.0)
kind_of_cause words r (TooLarge run k rank) (inl of_input) = command (λ e. cc) (Asks-words (ReadsInput Presentation) words of_input.0)
kind_of_cause words r (TooLarge run k rank) (inr of_sample) = command (λ e. cc) (Asks-words (IsLargeSampleFor run k rank) words of_sample)
kind_of_cause words r (CertificateLine n) cause = command (λ e. cc) (Asks-words (ReadsInput Certificate) words cause.0)
kind_of_cause words r (CertificatePart run k part) cause = command (λ e. cc) (Asks-words (ReadsInput Certificate) words cause.0)
kind_of_cause words r NoMemory cause = command (λ e. cc) cause

done_or_bad : status.Done ≡ status.BadWords → ⊥
done_or_bad e = cc

cut_or_bad : status.WriteFault ≡ status.BadWords → ⊥
cut_or_bad e = cc

bad_words-refused : (words : List (List ℕ)) (refusal : Refusal) → Kind words refusal
    → (refusal_status refusal ≡ status.BadWords) ↔ (¬ AreCommandWords words)
bad_words-refused words refusal (no_command is bad) = ((λ e. bad), (λ _. is))
bad_words-refused words refusal (command other good) = ((λ e. absurd (other e)), (λ bad. absurd (bad good)))

pub bad_words-ends : (words : List (List ℕ)) (r : Reading) (w : Writing) (end : Status) → Ends words r w end
    → (end ≡ status.BadWords) ↔ (¬ AreCommandWords words)
bad_words-ends words r w end (done is came by) = ((λ e. absurd (done_or_bad (sym is ∙ e))), (λ bad. absurd (bad came.command)))
bad_words-ends words r w end (cut is came by) = ((λ e. absurd (cut_or_bad (sym is ∙ e))), (λ bad. absurd (bad came.command)))
bad_words-ends words r w end (refused by) =
    let told = bad_words-refused words by.refusal (kind_of_cause words r by.refusal by.cause) in
    ((λ e. told.0 (sym by.is ∙ e)), (λ bad. by.is ∙ told.1 bad))
