use Rattle.std.proofs.Common.{◌≡◌, ◌∷◌, ℕ, List, sym, subst, ◌∙◌}
use Rattle.std.specs.Global.{Vec}
use Rattle.pq_base.specs.Table.{AllBelow}
use Rattle.answer_text.proofs.DraftAdded.{IfSome-at}
use Rattle.answer_text.proofs.texts.PieceTexts.{IfNone-at}
use Rattle.cert_text.specs.CertificateText.{numbers_text}
use Rattle.cert_text.proofs.texts.NumberTexts.{numbers_text-same}
use Rattle.cert_text.proofs.texts.NumbersRead.{AllBelow-wider}
use Rattle.cert_text.proofs.path_reading.path_behind.Goals as goal

pub returns-in_default-clause-none : goal.returns-in_default-clause-none
returns-in_default-clause-none c e s below same =
    IfNone-at c.in_ok-found.field-0 ((ns : List ℕ) → AllBelow 65536 ns → ¬ (c.args.text.now ≡ numbers_text ns)) c.in_default.is
    c.in_ok-found.ensures.none
    (e ∷ s) (AllBelow-wider (e ∷ s) below) same

pub returns-clause-none : goal.returns-clause-none
returns-clause-none c e s below same =
    let read : c.args.text.now ≡ numbers_text c.in-Some.found.items =
    IfSome-at c.in_ok-found.field-0 c.in-Some.found (λ (ns : Vec ℕ). c.args.text.now ≡ numbers_text ns.items) c.in-Some.is
    c.in_ok-found.ensures.some in
    let small : AllBelow 65536 c.in-Some.found.items =
    IfSome-at c.in_ok-found.field-0 c.in-Some.found (λ (ns : Vec ℕ). AllBelow 65536 ns.items) c.in-Some.is c.in_ok-found.ensures.small in
    let is : e ∷ s ≡ c.deref.result.now = numbers_text-same (e ∷ s) c.in-Some.found.items (AllBelow-wider (e ∷ s) below) small
    (sym same ∙ read) ∙ sym c.deref.ensures.value in
    IfNone-at c.in_ok-path.path (¬ AllBelow 256 c.deref.result.now) c.in-None.is c.in_ok-path.ensures.none (subst (AllBelow 256) is below)
