use Rattle.std.proofs.Common.{◌≡◌, ◌+◌, ℕ, [], List, ap, sym, subst, ◌∙◌}
use Rattle.pq_base.specs.Prime.{prime_value}
use Rattle.pc_presentation.specs.declared.syllable.Syllable.{Syllable}
use Rattle.pc_presentation.specs.Builder.{Draft, empty_draft}
use Rattle.pc_presentation.specs.Parts.{words_of}
use Rattle.pq_base.proofs.PrimeLaws.{offered-two}
use Rattle.answer_text.specs.AnswerPlaces.{IsScale}
use Rattle.answer_text.specs.AnswerPlaces.Place.{for_prime}
use Rattle.answer_text.specs.ReadSoFar.{IsBadAt}
use Rattle.answer_text.specs.Drafts.{so_far}
use Rattle.answer_text.specs.BodyRead.{IsBodyRead}
use Rattle.answer_text.proofs.BodyStart.{IsBodyRead-nothing}
use Rattle.answer_text.proofs.faults.FaultsOfParts.{IsBadAt-head, IsBadAt-sources, IfErr-given}
use Rattle.answer_text.proofs.reading.read_lines.Goals as goal

pub returns-in_err-weights-clause-err : goal.returns-in_err-weights-clause-err
returns-in_err-weights-clause-err c =
    let p : ℕ = prime_value c.in_ok-head.head.prime in
    let n : ℕ = c.in_ok-head.head.rank in
    let bad : IsBadAt for_prime c.args.bytes.now 1 c.in_err-weights.field-0.0 =
    IsBadAt-head p n c.args.bytes.now c.in_ok-head.rest.now c.in_err-weights.field-0.0 c.in_ok-head.ensures.ok
    c.in_err-weights.ensures.err in
    IfErr-given c.from_residual-in_err-weights.result c.in_err-weights.field-0.0
    (IsBadAt for_prime c.args.bytes.now 1) c.from_residual-in_err-weights.ensures.1 bad

pub read_body-requires-clause-start : goal.read_body-requires-clause-start
read_body-requires-clause-start c =
    let p : ℕ = prime_value c.in_ok-head.head.prime in
    let n : ℕ = c.in_ok-head.head.rank in
    let text : List ℕ = c.in_ok-weights.rest.now in
    let ws : List ℕ = c.in_ok-weights.weights.items in
    let head = c.in_ok-head.ensures.ok in
    let scale : IsScale p n = head.1 in
    let start : IsBodyRead p n ws text text (n + 5) (so_far (empty_draft p ws 0) 0 [] []) =
    IsBodyRead-nothing p n ws text scale (offered-two p scale.offered) c.in_ok-weights.ensures.ok.0 in
    let draft : empty_draft p ws 0 ≡ c.in_ok-new.field-0 =
    ap (λ (x : List ℕ). empty_draft p x 0) (sym c.deref.ensures.value) ∙ sym c.in_ok-new.ensures in
    let with_draft : IsBodyRead p n c.in_ok-new.field-0.built.weights text text (n + 5) (so_far c.in_ok-new.field-0 0 [] []) =
    subst (λ (x : Draft). IsBodyRead p n x.built.weights text text (n + 5) (so_far x 0 [] [])) draft start in
    let with_names : IsBodyRead p n c.in_ok-new.field-0.built.weights text text (n + 5)
    (so_far c.in_ok-new.field-0 0 c.new-2.result.items []) =
    subst (λ (x : List (List ℕ)). IsBodyRead p n c.in_ok-new.field-0.built.weights text text (n + 5) (so_far c.in_ok-new.field-0 0 x []))
    (sym c.new-2.ensures.items) with_draft in
    subst (λ (x : List (List Syllable)).
    IsBodyRead p n c.in_ok-new.field-0.built.weights text text (n + 5) (so_far c.in_ok-new.field-0 0 c.new-2.result.items x))
    (sym (ap words_of c.new-3.ensures.items)) with_names

pub returns-in_err-end-clause-err : goal.returns-in_err-end-clause-err
returns-in_err-end-clause-err c =
    let p : ℕ = prime_value c.in_ok-head.head.prime in
    let n : ℕ = c.in_ok-head.head.rank in
    let head = c.in_ok-head.ensures.ok in
    let generators = c.in_ok-weights.ensures.ok in
    let bad : IsBadAt for_prime c.args.bytes.now 1 c.in_err-end.field-0.0 =
    IsBadAt-head p n c.args.bytes.now c.in_ok-head.rest.now c.in_err-end.field-0.0 head
    (IsBadAt-sources p n c.in_ok-weights.weights.items c.in_ok-weights.sources.items c.in_ok-head.rest.now c.in_ok-weights.rest.now
    c.in_err-end.field-0.0 head.1 generators.0 generators.1 generators.2 generators.3
    c.in_err-end.ensures.err) in
    IfErr-given c.from_residual-in_err-end.result c.in_err-end.field-0.0
    (IsBadAt for_prime c.args.bytes.now 1) c.from_residual-in_err-end.ensures.1 bad
