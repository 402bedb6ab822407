use Rattle.std.proofs.Common.{◌≡◌, [], get_or, sym, ◌∙◌}
use Rattle.std.proofs.lemmas.List.{get_or_default}
use Rattle.lpres_reader.proofs.items.KeptWords.{one_word_more, too_many_letters, word_not_over}
use Rattle.lpres_reader.proofs.parts.word_letters.Goals as goal
use Rattle.lpres_reader.proofs.parts.word_letters.Goals.{then-letters-gt-TOTAL-via-then-letters-gt-TOTAL}
use Rattle.lpres_reader.proofs.parts.word_letters.Goals.{then-letters-gt-TOTAL-via-else-letters-gt-TOTAL+then-not-is_over}

pub returns-then-letters-gt-TOTAL : goal.returns-then-letters-gt-TOTAL
returns-then-letters-gt-TOTAL c =
    let words = c.args.words.now in
    let i = c.loop-word.word-index in
    let word = c.word-item.result in
    let here : get_or words i [] ≡ word = get_or_default words i [] word c.loop-word-test.true ∙ sym c.word-item.is in
    elim c.then-letters-gt-TOTAL.branch [
      | then-letters-gt-TOTAL-via-then-letters-gt-TOTAL w ↦
          too_many_letters c.args.generators c.args.before words word i c.loop-word-test.true here c.loop-word.letters c.loop-word.invariant
          (rw (← c.letters.ensures.value) w.if-letters-gt-TOTAL.true)
      | then-letters-gt-TOTAL-via-else-letters-gt-TOTAL+then-not-is_over w ↦
          word_not_over c.args.generators c.args.before words word i c.loop-word-test.true here w.if-not-is_over.ensures
    ]

pub loop-word-preserved : goal.loop-word-preserved
loop-word-preserved c =
    let words = c.args.words.now in
    let i = c.loop-word.word-index in
    let word = c.word-item.result in
    let here : get_or words i [] ≡ word = get_or_default words i [] word c.loop-word-test.true ∙ sym c.word-item.is in
    rw c.letters.ensures.value
    (one_word_more c.args.generators c.args.before words word i c.loop-word-test.true here c.loop-word.letters c.loop-word.invariant
    c.if-not-is_over.ensures c.letters.ensures.limit (rw (← c.letters.ensures.value) c.if-letters-gt-TOTAL.false))
