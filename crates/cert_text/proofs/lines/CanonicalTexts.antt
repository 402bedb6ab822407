-- A text is canonical where it reads as a presentation, and is what is written of it.
use Rattle.std.proofs.Common.{◌≡◌, ℕ, List, sym, subst, ◌∙◌, ap}
use Rattle.pq_base.specs.LPresentation.{LPresentation}
use Rattle.lpres_reader.specs.CanonicalText.{canonical_text}
use Rattle.lpres_reader.specs.declared.fault.TextFault.{TextFault}
use Rattle.lpres_reader.specs.declared.refusal.ReadRefusal.{ReadRefusal}
use Rattle.lpres_reader.specs.declared.refusal.ReadRefusal.TheVariants.{Text}
use Rattle.lpres_reader.specs.Refusals.{IsRefusedBy}
use Rattle.lpres_reader.specs.Stops.{kind_of}
use Rattle.lpres_reader.specs.Reads.{Reads}
use Rattle.lpres_reader.specs.Faults.{Kind, FirstFault}
use Rattle.lpres_reader.proofs.canonical_texts.CanonicalReads.{canonical_texts_read_back}
use Rattle.lpres_reader.proofs.faults.ReaderLaws.{each_text_reads_or_fails}
use Rattle.cert_text.specs.CertificateText.{HasText}

canonical-reads : (text : List ℕ) (L : LPresentation) → HasText L → text ≡ canonical_text L → Reads text L
canonical-reads text L a e = subst (λ (t : List ℕ). Reads t L) (sym e) (canonical_texts_read_back L a.names a.presentation a.limits)

not-canonical-fault : (text : List ℕ) (n : ℕ) (kind : Kind) → FirstFault text n kind → (L : LPresentation) → HasText L
    → ¬ (text ≡ canonical_text L)
not-canonical-fault text n kind fault L a e = (each_text_reads_or_fails text).not_both L n kind (canonical-reads text L a e) fault

pub not-canonical-other : (text written : List ℕ) (M : LPresentation) → Reads text M → written ≡ canonical_text M → (text ≡ written → ⊥)
    → (L : LPresentation) → HasText L → ¬ (text ≡ canonical_text L)
not-canonical-other text written M reads is other L a e =
    let same : L ≡ M = (each_text_reads_or_fails text).one_presentation L M (canonical-reads text L a e) reads in
    other (e ∙ ap (λ (x : LPresentation). canonical_text x) same ∙ sym is)

pub not-canonical-refused : (text : List ℕ) (refusal : ReadRefusal) (fault : TextFault) → refusal ≡ Text fault → IsRefusedBy text refusal
    → (L : LPresentation) → HasText L → ¬ (text ≡ canonical_text L)
not-canonical-refused text refusal fault e refused =
    not-canonical-fault text fault.line (kind_of fault.kind) (subst (IsRefusedBy text) e refused)
