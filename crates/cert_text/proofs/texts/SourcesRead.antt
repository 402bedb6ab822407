-- A source is read from its keyword and its numbers, and from no others.
use Rattle.std.proofs.Common.{◌≡◌, ◌<◌, ℕ, true, List, [], ◌∷◌, ◌++◌, drop, decimal, refl, ap, sym, ◌∙◌, append-nil}
use Rattle.std.specs.Prelude.{codes}
use Rattle.pq_base.specs.LPresentation.{LPresentation}
use Rattle.pq_base.specs.Table.{AllBelow}
use Rattle.lpres_reader.specs.Limits.{IsWithinLimits}
use Rattle.derivation_log.specs.declared.source.Run.{Run}
use Rattle.derivation_log.specs.declared.source.RowSource.{RowSource}
use Rattle.derivation_log.specs.declared.source.RowSource.TheVariants.{Test, Fixed, Iterated}
use Rattle.derivation_log.specs.CertificateForms.{is_source_in}
use Rattle.answer_text.proofs.Splits.{first-apart}
use Rattle.cert_text.specs.CertificateText.{numbers_text, along_text, source_text, source_line}
use Rattle.cert_text.specs.NumberFronts.{is_no_digit, StartsWell}
use Rattle.cert_text.proofs.texts.NumberTexts.{decimal-told}
use Rattle.cert_text.proofs.texts.SourceTexts.{IsWrittenSource, IsWrittenSource-in, source_line-same, overlap-apart, along-start}

-- nothing follows the number of a fixed relator
pub fixed-read : (text rest : List ℕ) (n i : ℕ) → text ≡ 32 ∷ (decimal n ++ rest) → n < 65536 → StartsWell is_no_digit rest → i < 65536
    → text ≡ numbers_text (i ∷ []) → rest ≡ []
fixed-read text rest n i e small stops h same =
    (decimal-told n i rest [] small h stops tt (ap (λ (t : List ℕ). drop 1 t) (sym e ∙ same))).1

-- a path follows that of an iterated one
pub iterated-read : (text rest : List ℕ) (n i : ℕ) (s : List ℕ) → text ≡ 32 ∷ (decimal n ++ rest) → n < 65536
    → StartsWell is_no_digit rest → i < 65536
    → text ≡ numbers_text (i ∷ []) ++ along_text s → rest ≡ along_text s
iterated-read text rest n i s e small stops h same =
    (decimal-told n i rest (along_text s) small h stops (along-start s)
    (ap (λ (t : List ℕ). drop 1 t) (sym e ∙ same) ∙ ap (λ (t : List ℕ). t ++ along_text s) (append-nil (decimal i)))).1

module _ (L : LPresentation) (run : Run) (a : RowSource) (limits : IsWithinLimits L) (named : is_source_in L run a ≡ true) where
  pub not-iterated : (text rest : List ℕ) → text ≡ codes "iterated" ++ rest
      → ((i : ℕ) (s : List ℕ) → i < 65536 → AllBelow 256 s → ¬ (rest ≡ numbers_text (i ∷ []) ++ along_text s)) → ¬ (text ≡ source_text a)
  not-iterated text rest cut none = by a (IsWrittenSource-in L run a limits named) where
    by : (b : RowSource) → IsWrittenSource b → ¬ (text ≡ source_text b)
    by (Test o) w e = overlap-apart o 105 _ refl (sym e ∙ cut)
    by (Fixed i) w e = first-apart 105 102 _ _ refl (sym cut ∙ e)
    by (Iterated i s) w e = none i s w.0 w.1 (ap (λ (t : List ℕ). drop 8 t) (sym cut ∙ e))

  -- a source that was read is the one of the line
  pub named-read : (line text : List ℕ) (b : RowSource) → line ≡ codes "source " ++ text → text ≡ source_text b → IsWrittenSource b
      → line ≡ source_line a → b ≡ a
  named-read line text b cut read written e =
      source_line-same b a written (IsWrittenSource-in L run a limits named)
      (ap (λ (t : List ℕ). codes "source " ++ t) (sym read) ∙ sym cut ∙ e)
