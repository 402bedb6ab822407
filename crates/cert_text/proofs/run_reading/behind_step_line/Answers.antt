use Rattle.std.proofs.Common.{◌≡◌, ◌∷◌, ◌++◌, [], ℕ, List, ap, sym, ◌∙◌, append_assoc}
use Rattle.answer_text.proofs.texts.PieceTexts.{IfNone-then}
use Rattle.cert_text.specs.CertificateText.{step_line}
use Rattle.cert_text.proofs.run_reading.behind_step_line.Goals as goal

pub returns-clause-none : goal.returns-clause-none
returns-clause-none c =
    let keyword : List ℕ = c.as_bytes.result.now in
    let is : keyword ≡ step_line c.args.k ++ 10 ∷ [] = c.as_bytes.ensures.value ∙ c.in_ok-line.ensures.ok in
    IfNone-then c.behind.result ((rest : List ℕ) → ¬ (c.args.text.now ≡ keyword ++ rest))
    ((rest : List ℕ) → ¬ (c.args.text.now ≡ step_line c.args.k ++ 10 ∷ rest)) c.behind.ensures.none
    (λ none rest e. none rest (e ∙ sym (append_assoc (step_line c.args.k) (10 ∷ []) rest) ∙ ap (λ (t : List ℕ). t ++ rest) (sym is)))
