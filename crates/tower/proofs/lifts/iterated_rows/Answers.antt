use Rattle.std.proofs.Common.{◌≡◌, ℕ, [], length, get_or, ap, sym, arith}
use Rattle.tower.proofs.NamedLaws.{listed-word, listed-letters}
use Rattle.tower.proofs.GivenRows.{given-more}
use Rattle.tower.proofs.lifts.iterated_rows.Goals as goal

pub iterated_row-requires-clause-letters : goal.iterated_row-requires-clause-letters
iterated_row-requires-clause-letters g c =
    let L = c.args.pres.now in
    listed-letters (length L.names) c.args.cover.now.answer.names L.iterated c.iterated-word-items.result.now c.loop-word.word-index
    c.word-item.result
    (ap length (sym c.requires.names)) c.names-names.ensures.presentation.iterated_words c.iterated-word-items.ensures
    (omega (arith, c.loop-word-test.true)) c.word-item.is

pub loop-word-preserved : goal.loop-word-preserved
loop-word-preserved g c =
    let L = c.args.pres.now in
    let n : ℕ = c.loop-word.word-index in
    let word : get_or L.iterated n [] ≡ c.word-item.result =
    listed-word L.iterated c.iterated-word-items.result.now n c.word-item.result c.iterated-word-items.ensures
    (omega (arith, c.loop-word-test.true))
    c.word-item.is in (
      c.iterated_row.ensures.scratch,
      given-more L c.args.cover.now n c.loop-word.rows.items c.push.new.self.items c.in_ok-iterated_row.field-0 c.word-item.result
          c.loop-word.invariant.1 c.in_ok-iterated_row.ensures.over word c.in_ok-iterated_row.ensures.row c.in_ok-push.ensures.items,
    )
