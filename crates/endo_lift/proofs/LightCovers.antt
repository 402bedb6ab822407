-- A light cover leaves out definitions and heavy commutators, whose tails are trivial in the full cover.
use Rattle.std.proofs.Common.{◌<◌, zero, suc, [], inl, inr, arith}
use Rattle.pq_base.specs.Answer.{Answer, Definition as Source}
use Rattle.pq_base.specs.Answer.Definition.{image, commutator, power}
use Rattle.pq_base.specs.Canonical.{IsCanonical}
use Rattle.pq_base.specs.EntryWords.{IsSourceOf}
use Rattle.p_cover.specs.RowedAnswer.{row_at, tails_word}
use Rattle.p_cover.specs.Covers.{IsCover, rowed_cover, all_sources}
use Rattle.p_cover.proofs.PartLaws.{part_of_itself}
use Rattle.cover_quotient.specs.Stages.{full_cover_of, IsHeavy}
use Rattle.cover_quotient.proofs.canonical_answers.HeavyTails.{heavy_tails_are_trivial}
use Rattle.endo_lift.specs.Lifts.{AreJoinedIn}
use Rattle.endo_lift.specs.LiftLaws.{LightCoversLeaveOutTrivialRows}
use Rattle.endo_lift.proofs.FullCovers.{left_out-zeros}

heavy-trivial : (A : Answer) → IsCover (full_cover_of A) → IsCanonical A → (d : Source) → IsSourceOf A d → IsHeavy A d
    → AreJoinedIn (full_cover_of A) (tails_word (rowed_cover (full_cover_of A)) (row_at (rowed_cover (full_cover_of A)) d)) []
heavy-trivial A cover canonical (image i) s heavy = absurd heavy
heavy-trivial A cover canonical (commutator zero i) s heavy = absurd s
heavy-trivial A cover canonical (commutator (suc j) zero) s heavy = absurd s
heavy-trivial A cover canonical (commutator (suc j) (suc i)) s heavy =
    let last : j < A.presentation.rank = s.0 in
    let before : i < j = s.1 in
    heavy_tails_are_trivial (full_cover_of A) cover canonical (suc j) (suc i) (omega arith) (omega arith) (omega arith) heavy
heavy-trivial A cover canonical (power j) s heavy = absurd heavy

pub light_covers_leave_out_trivial_rows : LightCoversLeaveOutTrivialRows
light_covers_leave_out_trivial_rows C light d s e = elim (light.left_out d s e) [
  | inl defines ↦ left_out-zeros C.answer light.cover.answer d s defines
  | inr heavy ↦
      let cover : IsCover (full_cover_of C.answer) =
      record { answer = light.cover.answer; sources = part_of_itself (all_sources C.answer) } in
      heavy-trivial C.answer cover light.canonical d s heavy
]
