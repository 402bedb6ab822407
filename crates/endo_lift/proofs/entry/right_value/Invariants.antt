use Rattle.std.proofs.Common.{take}
use Rattle.pq_base.specs.SignedWord.{sub}
use Rattle.pq_base.specs.EntryWords.{spelling_words}
use Rattle.pc_presentation.specs.Syllable.{letters_of}
use Rattle.pc_presentation.specs.Scratch.{IsScratch}
use Rattle.p_cover.specs.Covers.{cover_presentation}
use Rattle.endo_lift.specs.Values.{IsValue, IsRoom}
use Rattle.endo_lift.proofs.entry.right_value.Given as goal

abbrev pub invariant-loop-syllable : goal.invariant-loop-syllable
invariant-loop-syllable g l =
    IsScratch (cover_presentation l.cover) l.s × IsRoom (cover_presentation l.cover) l.room
    × IsValue l.cover (sub (sub (letters_of (take l.syllable-index l.word)) (spelling_words l.cover.answer)) l.endo) l.room.value
