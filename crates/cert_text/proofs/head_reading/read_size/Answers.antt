use Rattle.std.proofs.Common.{◌+◌, ◌++◌, ◌∷◌, ℕ, List, refl, ap, ◌∙◌}
use Rattle.pq_base.specs.Prime.{prime_value}
use Rattle.pq_base.proofs.PrimeLaws.{prime_value-offered}
use Rattle.cert_text.specs.CertificatePlaces.Place.{in_presentation, for_class}
use Rattle.cert_text.specs.declared.fault.CertFault.TheVariants.{Line}
use Rattle.cert_text.proofs.lines.BadLines.{no_line-bad, prime-bad, behind-prime, class-bad}
use Rattle.cert_text.proofs.head_reading.read_size.Goals as goal

pub returns-in_default-clause-err : goal.returns-in_default-clause-err
returns-in_default-clause-err c L = no_line-bad (in_presentation L) c.args.text.now c.args.first c.in_default.ensures.none (λ end. end)

pub returns-in_default-prime_line-clause-err : goal.returns-in_default-prime_line-clause-err
returns-in_default-prime_line-clause-err c L =
    prime-bad L c.args.text.now c.in-Some.line.now c.in-Some.rest.now c.args.first c.requires.more c.in-Some.ensures.some
    c.in-Some.ensures.first c.in_default-prime_line.ensures.none

pub returns-in_default-next_line-clause-err : goal.returns-in_default-next_line-clause-err
returns-in_default-next_line-clause-err c L =
    let p : ℕ = prime_value c.in-Some-prime_line.prime in
    let rest : List ℕ = c.in-Some.rest.now in
    let next : ℕ = c.args.first + 1 in
    behind-prime L p c.args.text.now rest c.args.first next (Line next) (prime_value-offered c.in-Some-prime_line.prime)
    (c.in-Some.ensures.some ∙ ap (λ (l : List ℕ). l ++ 10 ∷ rest) c.in-Some-prime_line.ensures.some) refl
    (no_line-bad (for_class L p) rest next c.in_default-next_line.ensures.none (λ end. end))

pub returns-in-None-clause-err : goal.returns-in-None-clause-err
returns-in-None-clause-err c L =
    let p : ℕ = prime_value c.in-Some-prime_line.prime in
    let rest : List ℕ = c.in-Some.rest.now in
    let next : ℕ = c.args.first + 1 in
    behind-prime L p c.args.text.now rest c.args.first next (Line next) (prime_value-offered c.in-Some-prime_line.prime)
    (c.in-Some.ensures.some ∙ ap (λ (l : List ℕ). l ++ 10 ∷ rest) c.in-Some-prime_line.ensures.some) refl
    (class-bad L p rest c.in-Some-next_line.line.now c.in-Some-next_line.rest.now next c.in-Some-next_line.ensures.some
    c.in-Some-next_line.ensures.first c.in-None.ensures.none)
