-- A command that is refused for a cause ends as its refusal has it; want of memory for the line of a refusal has a cause wherever
-- the refusal has.
use Rattle.std.specs.Global.{Global}
use Rattle.std.proofs.Common.{◌≡◌, ℕ, List, Result, Ok, Err, IfOk, OnErr, Vec, inl, inr, sym, ap, subst, ◌∙◌}
use Rattle.pq_base.specs.declared.status.Status.{Status}
use Rattle.pq_base.specs.declared.status.Status.TheVariants as status
use Rattle.pq_run.specs.declared.input.Input.TheVariants.{Presentation, Certificate}
use Rattle.pq_run.specs.declared.refusal.Refusal.{Refusal}
use Rattle.pq_run.specs.declared.refusal.Refusal.TheVariants.{Words, ReadFault, InputTooLong, Text, TooLarge, CertificateLine}
use Rattle.pq_run.specs.declared.refusal.Refusal.TheVariants.{CertificatePart, NoMemory}
use Rattle.pq_run.specs.Refusals.{refusal_line, refusal_status}
use Rattle.pq_run.specs.Streams.{Reading, Writing}
use Rattle.pq_run.specs.Cause.{IsCause}
use Rattle.pq_run.specs.Ends.{TakesLine, NeedsMemory, EndsAs, EndsBy, IsDone, IsCut, IsRefused, Ends}
use Rattle.pq_run.specs.Ends.Ends.{done, cut, refused}
use Rattle.pq_run.specs.Kinds.{ReadsInput, IsLargeSampleFor}
use Rattle.pq_run.proofs.Commands.{Asks-words}

pub ends_as : (r told : Refusal) (w : Writing) (end : Status) → r ≡ told → end ≡ refusal_status told → TakesLine w (refusal_line told)
    → EndsBy r w end
ends_as r told w end same is line =
    inl (is ∙ ap refusal_status (sym same), subst (λ (x : Refusal). TakesLine w (refusal_line x)) (sym same) line)

-- a line that is given as a text
pub ends_told : (r : Refusal) (line text : List ℕ) (w : Writing) (end : Status) → line ≡ text → text ≡ refusal_line r
    → end ≡ refusal_status r
    → TakesLine w line → EndsBy r w end
ends_told r line text w end same told is takes = inl (is, subst (TakesLine w) (same ∙ told) takes)

pub ends_by : (r told : Refusal) (w : Writing) (end : Status) → r ≡ told → EndsBy told w end → EndsBy r w end
ends_by r told w end same by = subst (λ (x : Refusal). EndsBy x w end) (sym same) by

-- a line that took memory, or memory was wanting for it
pub ends_in_memory : {E : Type 0} (r told : Refusal) (line : Result (Vec ℕ Global) E) (w : Writing) (end : Status) → r ≡ told
    → NeedsMemory told
    → IfOk line (λ l. l.items ≡ refusal_line told) → IfOk line (λ l. (end ≡ refusal_status told) × TakesLine w l.items)
    → OnErr line (EndsAs NoMemory w end) → EndsBy r w end
ends_in_memory r told (Ok l) w end same needs is takes wanting =
    ends_by r told w end same (inl (takes.0, subst (TakesLine w) is takes.1))
ends_in_memory r told (Err e) w end same needs is takes wanting = ends_by r told w end same (inr (needs, wanting))

wanting_cause : (words : List (List ℕ)) (r : Reading) (refusal : Refusal) → NeedsMemory refusal → IsCause words r refusal
    → IsCause words r NoMemory
wanting_cause words r Words needs cause = absurd needs
wanting_cause words r ReadFault needs cause = absurd needs
wanting_cause words r (InputTooLong input) needs cause = absurd needs
wanting_cause words r (Text fault) needs cause = Asks-words (ReadsInput Presentation) words cause.0
wanting_cause words r (TooLarge run k rank) needs (inl of_input) = Asks-words (ReadsInput Presentation) words of_input.0
wanting_cause words r (TooLarge run k rank) needs (inr of_sample) = Asks-words (IsLargeSampleFor run k rank) words of_sample
wanting_cause words r (CertificateLine n) needs cause = Asks-words (ReadsInput Certificate) words cause.0
wanting_cause words r (CertificatePart run k part) needs cause = Asks-words (ReadsInput Certificate) words cause.0
wanting_cause words r NoMemory needs cause = absurd needs

pub refuses : (words : List (List ℕ)) (r : Reading) (w : Writing) (end : Status) (refusal : Refusal) → IsCause words r refusal
    → EndsBy refusal w end
    → Ends words r w end
refuses words r w end refusal cause (inl told) = refused (record { refusal = refusal; cause = cause; is = told.0; line = told.1 })
refuses words r w end refusal cause (inr want) =
    refused (record { refusal = NoMemory; cause = wanting_cause words r refusal want.0 cause; is = want.1.0; line = want.1.1 })

not_done : (r : Refusal) → refusal_status r ≡ status.Done → ⊥
not_done Words e = cc
not_done ReadFault e = cc
not_done (InputTooLong input) e = cc
not_done (Text fault) e = cc
not_done (TooLarge run k rank) e = cc
not_done (CertificateLine n) e = cc
not_done (CertificatePart run k part) e = cc
not_done NoMemory e = cc

not_cut : (r : Refusal) → refusal_status r ≡ status.WriteFault → ⊥
not_cut Words e = cc
not_cut ReadFault e = cc
not_cut (InputTooLong input) e = cc
not_cut (Text fault) e = cc
not_cut (TooLarge run k rank) e = cc
not_cut (CertificateLine n) e = cc
not_cut (CertificatePart run k part) e = cc
not_cut NoMemory e = cc

cut_or_done : status.WriteFault ≡ status.Done → ⊥
cut_or_done e = cc

-- a status tells how the command ended
pub done-ends : (words : List (List ℕ)) (r : Reading) (w : Writing) (end : Status) → Ends words r w end → end ≡ status.Done
    → IsDone words r w
done-ends words r w end (done is came by) e = by
done-ends words r w end (cut is came by) e = absurd (cut_or_done (sym is ∙ e))
done-ends words r w end (refused by) e = absurd (not_done by.refusal (sym by.is ∙ e))

pub write_fault-ends : (words : List (List ℕ)) (r : Reading) (w : Writing) (end : Status) → Ends words r w end → end ≡ status.WriteFault
    → IsCut words r w
write_fault-ends words r w end (done is came by) e = absurd (cut_or_done (sym e ∙ is))
write_fault-ends words r w end (cut is came by) e = by
write_fault-ends words r w end (refused by) e = absurd (not_cut by.refusal (sym by.is ∙ e))

pub refused-ends : (words : List (List ℕ)) (r : Reading) (w : Writing) (end : Status) → Ends words r w end → ¬ (end ≡ status.Done)
    → ¬ (end ≡ status.WriteFault)
    → IsRefused words r w end
refused-ends words r w end (done is came by) not_d not_c = absurd (not_d is)
refused-ends words r w end (cut is came by) not_d not_c = absurd (not_c is)
refused-ends words r w end (refused by) not_d not_c = by
