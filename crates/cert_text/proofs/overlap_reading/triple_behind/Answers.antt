use Rattle.std.proofs.Common.{◌≡◌, ℕ, List, ◌∙◌}
use Rattle.std.specs.Global.{Vec}
use Rattle.pq_base.specs.Table.{AllBelow}
use Rattle.pc_presentation.specs.declared.overlap.Overlap.TheVariants.{Triple}
use Rattle.answer_text.proofs.DraftAdded.{IfSome-at}
use Rattle.answer_text.proofs.texts.PieceTexts.{IfNone-at}
use Rattle.cert_text.specs.CertificateText.{numbers_text}
use Rattle.cert_text.proofs.texts.SourceTexts.{overlap_numbers, overlap-below}
use Rattle.cert_text.proofs.texts.OverlapsRead.{numbers-of}
use Rattle.cert_text.proofs.overlap_reading.triple_behind.Goals as goal

pub returns-in_default-clause-none : goal.returns-in_default-clause-none
returns-in_default-clause-none c k j i written e =
    IfNone-at c.in_ok-found.field-0 ((ns : List ℕ) → AllBelow 65536 ns → ¬ (c.args.text.now ≡ numbers_text ns)) c.in_default.is
    c.in_ok-found.ensures.none
    (overlap_numbers (Triple k j i)) (overlap-below (Triple k j i) written) e

pub returns-clause-none : goal.returns-clause-none
returns-clause-none c k j i written e =
    c.in-None.ensures.none k j i written
    (c.deref.ensures.value
    ∙ numbers-of c.args.text.now c.in-Some.found.items (Triple k j i)
    (IfSome-at c.in_ok-found.field-0 c.in-Some.found (λ (ns : Vec ℕ). c.args.text.now ≡ numbers_text ns.items) c.in-Some.is
    c.in_ok-found.ensures.some)
    (IfSome-at c.in_ok-found.field-0 c.in-Some.found (λ (ns : Vec ℕ). AllBelow 65536 ns.items) c.in-Some.is c.in_ok-found.ensures.small)
    written e)
