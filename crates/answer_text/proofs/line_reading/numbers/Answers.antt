use Rattle.std.proofs.Common.{◌≡◌, ◌<◌, ◌++◌, ◌∷◌, ℕ, List, drop, decimal, refl, ap, sym, ◌∙◌}
use Rattle.std.specs.Prelude.{codes}
use Rattle.answer_text.specs.AnswerPlaces.{generator_start}
use Rattle.answer_text.proofs.texts.PieceTexts.{IfNone-of, number_before-same}
use Rattle.answer_text.proofs.line_reading.numbers.Goals as goal

-- what stands behind the number
behind_number : (line field text t : List ℕ) (number k w : ℕ) → line ≡ codes "generator a" ++ field → field ≡ decimal number ++ 32 ∷ text
    → number < 1000 → k < 1000
    → line ≡ generator_start k w t → text ≡ codes "weight " ++ (decimal w ++ 32 ∷ (codes "from " ++ t))
behind_number line field text t number k w cut digits low h e =
    (number_before-same 32 number k field text (codes "weight " ++ (decimal w ++ 32 ∷ (codes "from " ++ t))) refl digits low h
    (ap (λ (x : List ℕ). drop 11 x) (sym cut ∙ e))).1

pub returns-in_err-behind-2-clause-none : goal.returns-in_err-behind-2-clause-none
returns-in_err-behind-2-clause-none c =
    IfNone-of _ ((k w : ℕ) (t : List ℕ) → k < 1000 → w < 1000 → ¬ (c.args.line.now ≡ generator_start k w t)) (λ k w t h g e.
    c.in_err-behind-2.ensures.none (decimal w ++ 32 ∷ (codes "from " ++ t))
    (behind_number c.args.line.now c.in_ok-behind.field-0.now c.in_ok-number.text.now t c.in_ok-number.number k w
    c.in_ok-behind.ensures.some c.in_ok-number.ensures.some.1 c.in_ok-number.ensures.some.0 h e))

pub returns-in_err-weight-clause-none : goal.returns-in_err-weight-clause-none
returns-in_err-weight-clause-none c =
    IfNone-of _ ((k w : ℕ) (t : List ℕ) → k < 1000 → w < 1000 → ¬ (c.args.line.now ≡ generator_start k w t)) (λ k w t h g e.
    let text =
    behind_number c.args.line.now c.in_ok-behind.field-0.now c.in_ok-number.text.now t c.in_ok-number.number k w c.in_ok-behind.ensures.some
    c.in_ok-number.ensures.some.1 c.in_ok-number.ensures.some.0 h e in
    c.in_err-weight.ensures.none w (codes "from " ++ t) g (ap (λ (x : List ℕ). drop 7 x) (sym c.in_ok-behind-2.ensures.some ∙ text)))

pub returns-in_err-behind-3-clause-none : goal.returns-in_err-behind-3-clause-none
returns-in_err-behind-3-clause-none c =
    IfNone-of _ ((k w : ℕ) (t : List ℕ) → k < 1000 → w < 1000 → ¬ (c.args.line.now ≡ generator_start k w t)) (λ k w t h g e.
    let text =
    behind_number c.args.line.now c.in_ok-behind.field-0.now c.in_ok-number.text.now t c.in_ok-number.number k w c.in_ok-behind.ensures.some
    c.in_ok-number.ensures.some.1 c.in_ok-number.ensures.some.0 h e in
    let parts =
    number_before-same 32 c.in_ok-weight.weight w c.in_ok-behind-2.field-0.now c.in_ok-weight.text.now
    (codes "from " ++ t) refl c.in_ok-weight.ensures.some.1 c.in_ok-weight.ensures.some.0 g
    (ap (λ (x : List ℕ). drop 7 x) (sym c.in_ok-behind-2.ensures.some ∙ text)) in
    c.in_err-behind-3.ensures.none t parts.1)
