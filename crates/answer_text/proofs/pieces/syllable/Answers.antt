use Rattle.std.proofs.Common.{◌≡◌, ◌<◌, ◌++◌, ◌∷◌, ℕ, List, drop, decimal, ap, sym, ◌∙◌, arith}
use Rattle.pc_presentation.specs.declared.syllable.Syllable.{Syllable}
use Rattle.answer_text.specs.Words.{exponent_text, syllable_text, IsWritten}
use Rattle.answer_text.proofs.texts.PieceTexts.{IfNone-of, syllable-plain, syllable-power, number-same}
use Rattle.answer_text.proofs.pieces.syllable.Goals as goal
use Rattle.answer_text.proofs.pieces.syllable.Goals.{then-exponent-lt-LEAST_EXPONENT-via-else-exponent-lt-LEAST_EXPONENT+then-exponent-ge100}
use Rattle.answer_text.proofs.pieces.syllable.Goals.{then-exponent-lt-LEAST_EXPONENT-via-then-exponent-lt-LEAST_EXPONENT}

behind : (t digits : List ℕ) (s : Syllable) → t ≡ 97 ∷ digits → t ≡ 97 ∷ (decimal s.generator ++ exponent_text s.exponent)
    → digits ≡ decimal s.generator ++ exponent_text s.exponent
behind t digits s e h = ap (λ (x : List ℕ). drop 1 x) (sym e ∙ h)

pub returns-in_err-generator-clause-none : goal.returns-in_err-generator-clause-none
returns-in_err-generator-clause-none c =
    IfNone-of _ ((s : Syllable) → IsWritten s → ¬ (c.args.text.now ≡ syllable_text s)) (λ s w e.
    c.in_err-generator.ensures.none s.generator w.0
    (syllable-plain c.in_ok-digits.digits.now s c.in_default.ensures.none w
    (behind c.args.text.now c.in_ok-digits.digits.now s c.in_ok-digits.ensures.some e)))

pub returns-in_err-generator-2-clause-none : goal.returns-in_err-generator-2-clause-none
returns-in_err-generator-2-clause-none c =
    IfNone-of _ ((s : Syllable) → IsWritten s → ¬ (c.args.text.now ≡ syllable_text s)) (λ s w e.
    let parts =
    syllable-power c.in_ok-digits.digits.now c.in-Some.left.now c.in-Some.right.now s c.in-Some.ensures.some c.in-Some.ensures.first w
    (behind c.args.text.now c.in_ok-digits.digits.now s c.in_ok-digits.ensures.some e) in
    c.in_err-generator-2.ensures.none s.generator w.0 parts.0)

pub returns-in_err-exponent-clause-none : goal.returns-in_err-exponent-clause-none
returns-in_err-exponent-clause-none c =
    IfNone-of _ ((s : Syllable) → IsWritten s → ¬ (c.args.text.now ≡ syllable_text s)) (λ s w e.
    let parts =
    syllable-power c.in_ok-digits.digits.now c.in-Some.left.now c.in-Some.right.now s c.in-Some.ensures.some c.in-Some.ensures.first w
    (behind c.args.text.now c.in_ok-digits.digits.now s c.in_ok-digits.ensures.some e) in
    c.in_err-exponent.ensures.none s.exponent (omega (arith, w.2)) parts.1)

pub returns-then-exponent-lt-LEAST_EXPONENT-clause-none : goal.returns-then-exponent-lt-LEAST_EXPONENT-clause-none
returns-then-exponent-lt-LEAST_EXPONENT-clause-none c = λ s w e.
    let parts =
    syllable-power c.in_ok-digits.digits.now c.in-Some.left.now c.in-Some.right.now s c.in-Some.ensures.some c.in-Some.ensures.first w
    (behind c.args.text.now c.in_ok-digits.digits.now s c.in_ok-digits.ensures.some e) in
    let high : s.exponent < 1000 = omega (arith, w.2) in
    let same : c.in_ok-exponent.exponent ≡ s.exponent =
    number-same c.in_ok-exponent.exponent s.exponent c.in_ok-exponent.ensures.some.0 high (sym c.in_ok-exponent.ensures.some.1 ∙ parts.1) in
    elim c.then-exponent-lt-LEAST_EXPONENT.branch [
      | then-exponent-lt-LEAST_EXPONENT-via-then-exponent-lt-LEAST_EXPONENT v ↦ omega (arith, v.if-exponent-lt-LEAST_EXPONENT.true, parts.2)
      | then-exponent-lt-LEAST_EXPONENT-via-else-exponent-lt-LEAST_EXPONENT+then-exponent-ge100 v ↦
          omega (arith, v.if-exponent-ge100.true, w.2)
    ]
