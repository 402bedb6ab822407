use Rattle.std.proofs.Common.{◌≡◌, ◌++◌, ℕ, List, take, drop, sym, ap, subst, ◌∙◌}
use Rattle.std.proofs.lemmas.List.{take-append-drop}
use Rattle.cert_text.specs.NumberFronts.{is_no_digit, AllFail, StartsWell}
use Rattle.cert_text.proofs.texts.NumbersRead.{front-digits, front-stops, no-front}
use Rattle.cert_text.proofs.number_reading.front_number.Goals as goal

pub number-requires : goal.number-requires
number-requires c =
    subst (AllFail is_no_digit) (sym (c.split_at.ensures.front ∙ ap (λ (n : ℕ). take n c.args.text.now) c.digits_at_front.ensures.length))
    (front-digits c.args.text.now)

pub returns-in-Some-clause-stops : goal.returns-in-Some-clause-stops
returns-in-Some-clause-stops c =
    subst (StartsWell is_no_digit) (sym (c.split_at.ensures.back ∙ ap (λ (n : ℕ). drop n c.args.text.now) c.digits_at_front.ensures.length))
    (front-stops c.args.text.now)

pub returns-in-None-clause-none : goal.returns-in-None-clause-none
returns-in-None-clause-none c =
    let text : List ℕ = c.args.text.now in
    let n : ℕ = c.digits_at_front.result in
    let parts : text ≡ c.split_at.result.0.now ++ c.split_at.result.1.now =
    sym (take-append-drop n text) ∙ ap (λ (t : List ℕ). t ++ drop n text) (sym c.split_at.ensures.front)
    ∙ ap (λ (t : List ℕ). c.split_at.result.0.now ++ t) (sym c.split_at.ensures.back) in
    no-front text c.split_at.result.0.now c.split_at.result.1.now parts
    (subst (AllFail is_no_digit) (sym (c.split_at.ensures.front ∙ ap (λ (m : ℕ). take m text) c.digits_at_front.ensures.length))
    (front-digits text))
    (subst (StartsWell is_no_digit) (sym (c.split_at.ensures.back ∙ ap (λ (m : ℕ). drop m text) c.digits_at_front.ensures.length))
    (front-stops text))
    c.in-None.ensures.none
