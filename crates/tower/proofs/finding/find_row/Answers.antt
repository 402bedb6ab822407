use Rattle.std.proofs.Common.{◌-◌, length, sym, ap, subst, arith}
use Rattle.tower.specs.NamedParts.{IsNamedSource}
use Rattle.tower.proofs.NamedLaws.{listed-letters}
use Rattle.tower.proofs.finding.find_row.Goals as goal

pub find_along-requires-clause-letters : goal.find_along-requires-clause-letters
find_along-requires-clause-letters g c =
    let L = c.args.pres.now in
    let named = subst (IsNamedSource L) c.in-Fixed.is c.requires.named in
    let first = named.0 in
    let last = named.1 in
    listed-letters (length L.names) c.args.cover.now.answer.names L.fixed c.fixed.result.now
    (c.in-Fixed.number - 1) c.index-fixed-number.result
    (ap length (sym c.requires.names)) c.names-names.ensures.presentation.fixed_words c.fixed.ensures
    (omega (arith, ap length c.fixed.ensures))
    c.index-fixed-number.is

pub find_along-requires-in-Iterated-clause-letters : goal.find_along-requires-in-Iterated-clause-letters
find_along-requires-in-Iterated-clause-letters g c =
    let L = c.args.pres.now in
    let named = subst (IsNamedSource L) c.in-Iterated.is c.requires.named in
    let first = named.0 in
    let last = named.1 in
    listed-letters (length L.names) c.args.cover.now.answer.names L.iterated c.iterated.result.now (c.in-Iterated.number - 1)
    c.index-iterated-number.result (ap length (sym c.requires.names)) c.names-names.ensures.presentation.iterated_words c.iterated.ensures
    (omega (arith, ap length c.iterated.ensures)) c.index-iterated-number.is
