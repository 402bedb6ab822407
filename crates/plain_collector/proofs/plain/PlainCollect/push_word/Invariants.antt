use Rattle.std.proofs.Common.{◌≡◌, drop}
use Rattle.pc_presentation.specs.Collection.{plain_push}
use Rattle.pc_presentation.specs.Tailed.{rowed_presentation, IsElement, places_of}
use Rattle.pc_presentation.proofs.quotients.PushesLeft.{after}
use Rattle.plain_collector.proofs.plain.PlainCollect.push_word.Given as goal

-- what is left to push decides
abbrev pub invariant-loop-s : goal.invariant-loop-s
invariant-loop-s l =
    IsElement l.pcp l.at
    × (after (plain_push (rowed_presentation l.pcp)) l.at (places_of (drop l.s-index l.word))
    ≡ after (plain_push (rowed_presentation l.pcp)) l.fn.at (places_of l.word))
