use Rattle.std.proofs.Common.{◌≡◌, ◌<◌, ◌++◌, ◌∷◌, [], ℕ, true, List}
use Rattle.std.specs.Prelude.{Option, IfNone}
use Rattle.std.proofs.lemmas.Result.{IfOk-weaker}
use Rattle.pq_base.specs.LPresentation.{LPresentation}
use Rattle.pq_base.specs.Table.{AllBelow}
use Rattle.lpres_reader.specs.Limits.{IsWithinLimits}
use Rattle.derivation_log.specs.declared.source.Run.{Run}
use Rattle.derivation_log.specs.declared.source.RowSource.{RowSource}
use Rattle.derivation_log.specs.CertificateForms.{is_source_in}
use Rattle.answer_text.proofs.texts.PieceTexts.{IfNone-then}
use Rattle.cert_text.specs.CertificateText.{numbers_text, along_text, source_text}
use Rattle.cert_text.proofs.texts.SourcesRead.{not-iterated}
use Rattle.cert_text.proofs.source_reading.source.Goals as goal

pub returns-in-Some-behind-clause-none : goal.returns-in-Some-behind-clause-none
returns-in-Some-behind-clause-none c =
    let rest : List ℕ = c.in-Some-behind.rest.now in
    let None_is : Type 0 = (i : ℕ) (s : List ℕ) → i < 65536 → AllBelow 256 s → ¬ (rest ≡ numbers_text (i ∷ []) ++ along_text s) in
    let Aim : Type 0 = (L : LPresentation) (run : Run) (a : RowSource) → IsWithinLimits L → is_source_in L run a ≡ true
    → ¬ (c.args.text.now ≡ source_text a) in
    IfOk-weaker c.iterated_behind.result (λ (o : Option RowSource). IfNone o None_is) (λ (o : Option RowSource). IfNone o Aim)
    (λ o h. IfNone-then o None_is Aim h
    (λ none L run a limits named. not-iterated L run a limits named c.args.text.now rest c.in-Some-behind.ensures.some none))
    c.iterated_behind.ensures.none
