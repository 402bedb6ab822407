-- Frames: what a push of a generator still owes once its exponent is raised. First come copies of a letter and the rest of the
-- word of a relation; then the letters that were set aside, each to be passed. Rows of words that were begun are added already.
use Rattle.std.specs.Prelude.{◌≡◌, ◌<◌, ◌≤◌, ◌+◌, ◌-◌, ◌*◌, ℕ, List, ◌++◌, length, replicate, take, drop}
use Rattle.pq_base.specs.Limits.{max_rank}
use Rattle.pc_presentation.specs.Relation.{IsRelation, side_start}
use Rattle.pc_presentation.specs.Pcp.{TailedPresentation, side_word}
use Rattle.pc_presentation.specs.Collection.{spelled, push_word, plain_push}
use Rattle.pc_presentation.specs.PushSteps.{passed}
use Rattle.pc_presentation.specs.Tailed.{Element, rowed_presentation, with_state, places_of}
use Rattle.stack_collector.specs.declared.frame.Frame.{Frame}

-- an element with letters pushed on it by the plain rule
abbrev pub pushed : TailedPresentation → Element → List ℕ → Element
pushed T e u = with_state e (push_word (plain_push (rowed_presentation T)) e.state u)

-- the letters to push
abbrev pub letters_owed : TailedPresentation → Frame → List ℕ
letters_owed T f = replicate f.copies (f.letter - 1) ++ places_of (drop f.place (side_word T.presentation f.relation))

-- the letters to pass
abbrev pub letters_to_pass : Frame → List ℕ
letters_to_pass f = replicate f.times (f.next - 1) ++ spelled f.next (drop f.next (take f.end f.later))

-- what becomes of an element once all that a frame owes is pushed on it
abbrev pub finished : TailedPresentation → Frame → Element → Element
finished T f e = with_state e
    (push_word (passed (rowed_presentation T) (f.generator - 1)) (pushed T e (letters_owed T f)).state (letters_to_pass f))

-- a frame of a presentation: what it owes comes after its generator
pub record IsFrame (T : TailedPresentation) (f : Frame) : Type 0 where
  pub in_range : f.generator ≤ T.presentation.rank
  pub from_one : 1 ≤ f.end → 1 ≤ f.generator
  pub order : f.generator ≤ f.next
  pub before_end : f.next ≤ f.end
  pub within : f.end ≤ T.presentation.rank
  pub times : 1 ≤ f.times → f.generator < f.next
  pub letter : 1 ≤ f.copies → (f.generator < f.letter) × (f.letter ≤ T.presentation.rank)
  pub relation : IsRelation T.presentation.rank f.relation
  pub side : f.generator ≤ side_start f.relation
  pub place : f.place ≤ length (side_word T.presentation f.relation)
  pub whole : f.syllables ≡ length (side_word T.presentation f.relation)
  pub saved : length f.later ≡ max_rank
  pub few_copies : f.copies ≤ 255
  pub few_times : f.times ≤ 255

-- a number that falls as a frame goes on: how far its letters to pass, its word and its copies have come
abbrev pub effort : TailedPresentation → Frame → ℕ
effort T f = 1 + f.copies + 256 * (length (side_word T.presentation f.relation) - f.place) + 26000 * (256 * (101 - f.next) + f.times)
