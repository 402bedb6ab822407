use Rattle.std.proofs.Common.{◌≡◌, ◌<◌, ◌≤◌, ℕ, List, length, Bool, subst, ◌∙◌, ap}
use Rattle.std.specs.Prelude.{None, IsTrue, codes}
use Rattle.pq_base.specs.Prime.{prime_value}
use Rattle.pc_presentation.specs.declared.syllable.Syllable.{Syllable}
use Rattle.pc_presentation.specs.declared.relation.Relation.{Relation}
use Rattle.pc_presentation.specs.Syllable.{AreSyllables}
use Rattle.pc_presentation.specs.Relation.{IsRelation, side_start}
use Rattle.pc_presentation.specs.Builder.{IsAccepted}
use Rattle.answer_text.specs.AnswerPlaces.{Place, HasForm, order_of, relation_line}
use Rattle.answer_text.specs.AnswerPlaces.Place.{in_body}
use Rattle.answer_text.specs.Drafts.{IsDraft}
use Rattle.answer_text.proofs.DraftAdded.{refused-relation, IfOk-then, IfSome-at}
use Rattle.answer_text.proofs.body_reading.add_line.Goals as goal

pub returns-in-Some-clause-refused : goal.returns-in-Some-clause-refused
returns-in-Some-clause-refused c =
    let p : ℕ = prime_value c.args.head.prime in
    let n : ℕ = c.args.head.rank in
    let r : Relation = c.in-Some.relation in
    let w : List Syllable = c.in-Some.word.items in
    let q : ℕ = c.value-prime.result in
    let facts : IsRelation n r × (1 ≤ length w) × AreSyllables q n (side_start r) w × (c.args.line.now ≡ relation_line q r w) =
    IfSome-at c.in_ok-relation.field-0 (r, c.in-Some.word)
    (λ x. IsRelation n x.0 × (1 ≤ length x.1.items) × AreSyllables q n (side_start x.0) x.1.items
    × (c.args.line.now ≡ relation_line q x.0 x.1.items)) c.in-Some.is c.in_ok-relation.ensures.some in
    let word : AreSyllables p n (side_start r) w =
    subst (λ (x : ℕ). AreSyllables x n (side_start r) w) c.value-prime.ensures.value facts.2 in
    let line : c.args.line.now ≡ relation_line p r w = facts.3 ∙ ap (λ (x : ℕ). relation_line x r w) c.value-prime.ensures.value in
    IfOk-then c.add_relation.result
    (λ (b : Bool). ¬ IsTrue b → c.args.body.now.last < order_of r → ¬ IsAccepted c.args.body.now.builder r c.deref.result.now None)
    (λ (b : Bool). ¬ IsTrue b → IsDraft p n c.args.body.now.builder c.args.body.now.last → (Q : Place)
    → HasForm (in_body p n 0 c.args.body.now.last) c.args.line.now Q → c.args.line.now ≡ codes "end")
    c.add_relation.ensures.refused
    (λ b h no_relation draft Q f.
    refused-relation p n c.args.body.now.last c.args.body.now.builder c.args.line.now Q r w draft facts.0 facts.1 word line
    (λ behind. subst (λ (x : List Syllable). ¬ IsAccepted c.args.body.now.builder r x None) c.deref.ensures.value (h no_relation behind)) f)
