use Rattle.std.proofs.Common.{◌-◌, length, ap, sym, subst, arith}
use Rattle.cert_checker.specs.StepRows.{NamesRelator}
use Rattle.cert_checker.proofs.found_rows.SourceRows.{letters_of_listed, overlap-decided}
use Rattle.derivation_log.specs.declared.source.RowSource.{RowSource}
use Rattle.derivation_log.specs.CertificateParts.{HasPlainRow}
use Rattle.std.proofs.Common.{◌↔◌, IsTrue}
use Rattle.cert_checker.proofs.source_rows.row_of.Goals as goal

pub row_along_path-requires-clause-letters : goal.row_along_path-requires-clause-letters
row_along_path-requires-clause-letters c =
    let L = c.args.pres.now in
    let named = subst (NamesRelator L) c.in-Fixed.is c.requires.named in
    let first = named.0 in
    let last = named.1 in
    letters_of_listed (length L.names) (length c.args.cover.now.answer.names) L.fixed c.fixed.result.now (c.in-Fixed.number - 1)
    c.index-fixed-number.result (ap length (sym c.requires.names)) c.names-names.ensures.presentation.fixed_words c.fixed.ensures
    (omega (arith, ap length c.fixed.ensures)) c.index-fixed-number.is

pub row_along_path-requires-in-Iterated-clause-letters : goal.row_along_path-requires-in-Iterated-clause-letters
row_along_path-requires-in-Iterated-clause-letters c =
    let L = c.args.pres.now in
    let named = subst (NamesRelator L) c.in-Iterated.is c.requires.named in
    let first = named.0 in
    let last = named.1 in
    letters_of_listed (length L.names) (length c.args.cover.now.answer.names) L.iterated c.iterated.result.now (c.in-Iterated.number - 1)
    c.index-iterated-number.result (ap length (sym c.requires.names)) c.names-names.ensures.presentation.iterated_words c.iterated.ensures
    (omega (arith, ap length c.iterated.ensures)) c.index-iterated-number.is

pub returns-in-Test-clause-decided : goal.returns-in-Test-clause-decided
returns-in-Test-clause-decided c =
    subst (λ (s : RowSource). IsTrue c.row_of_overlap.result ↔ HasPlainRow c.args.pres.now c.args.cover.now s) (sym c.in-Test.is)
    (overlap-decided c.args.cover.now c.args.pres.now c.in-Test.overlap c.row_of_overlap.result c.row_of_overlap.ensures.decided)
