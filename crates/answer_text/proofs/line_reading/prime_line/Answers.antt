use Rattle.std.proofs.Common.{◌≡◌, ◌<◌, ◌∷◌, ℕ, List, drop, decimal, ap, sym, subst, ◌∙◌, arith}
use Rattle.pq_base.specs.Prime.{IsOffered}
use Rattle.pq_base.proofs.PrimeLaws.{offered-small}
use Rattle.answer_text.specs.AnswerPlaces.{prime_line}
use Rattle.answer_text.proofs.texts.PieceTexts.{IfNone-then, number-same}
use Rattle.answer_text.proofs.line_reading.prime_line.Goals as goal

told : (line rest : List ℕ) (p q : ℕ) → line ≡ prime_line p → p < 8 → q < 1000 → line ≡ 112 ∷ 114 ∷ 105 ∷ 109 ∷ 101 ∷ 32 ∷ rest
    → rest ≡ decimal q → q ≡ p
told line rest p q e small low cut digits =
    number-same q p low (omega arith) (sym digits ∙ ap (λ (x : List ℕ). drop 6 x) (sym cut ∙ e))

pub returns-then-p-lt8-clause-none : goal.returns-then-p-lt8-clause-none
returns-then-p-lt8-clause-none c =
    IfNone-then _ (¬ IsOffered c.in_ok-p.p) ((p : ℕ) → IsOffered p → ¬ (c.args.line.now ≡ prime_line p)) c.of.ensures.none
    (λ no_prime p offered e.
    no_prime (subst (λ (x : ℕ). IsOffered x)
    (sym (told c.args.line.now c.in_ok-behind.field-0.now p c.in_ok-p.p e
    (offered-small p offered) c.in_ok-p.ensures.some.0 c.in_ok-behind.ensures.some c.in_ok-p.ensures.some.1)) offered))

pub returns-else-p-lt8-clause-none : goal.returns-else-p-lt8-clause-none
returns-else-p-lt8-clause-none c = λ p offered e.
    let small : p < 8 = offered-small p offered in
    let same : c.in_ok-p.p ≡ p =
    told c.args.line.now c.in_ok-behind.field-0.now p c.in_ok-p.p e small c.in_ok-p.ensures.some.0 c.in_ok-behind.ensures.some
    c.in_ok-p.ensures.some.1 in
    omega (arith, c.if-p-lt8.false)
