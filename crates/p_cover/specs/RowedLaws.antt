-- What is proved of answers with rows, whether or not they are consistent. Each statement is the contract of a function of
-- `rowed_laws`.
-- From: the p-covering groups of Newman and O'Brien's method.
use Rattle.std.specs.Prelude.{◌<◌, ℕ}
use Rattle.pq_base.specs.SignedWord.{sub}
use Rattle.pq_base.specs.Presentation.{letter}
use Rattle.pq_base.specs.Joined.{Joined}
use Rattle.pq_base.specs.Answer.{Definition, spell}
use Rattle.pq_base.specs.EntryWords.{IsSourceOf, entry_word}
use Rattle.pc_presentation.specs.Rowed.{flat}
use Rattle.p_cover.specs.RowedAnswer.{RowedAnswer, IsRowedAnswer, rowed, row_at, rowed_images, tails_word}

-- each generator is joined to the word that it spells, under the images with their rows
abbrev pub SpellingsHoldWithRows : Type 0
SpellingsHoldWithRows = (Y : RowedAnswer) → IsRowedAnswer Y → (k : ℕ) → k < Y.answer.presentation.rank
    → Joined (flat (rowed Y)) (letter k) (sub (spell Y.answer k) (rowed_images Y))

-- the value of an entry word is the row of the entry
abbrev pub EntryWordsHold : Type 0
EntryWordsHold = (Y : RowedAnswer) → IsRowedAnswer Y → (d : Definition) → IsSourceOf Y.answer d
    → Joined (flat (rowed Y)) (sub (entry_word Y.answer d) (rowed_images Y)) (tails_word Y (row_at Y d))
