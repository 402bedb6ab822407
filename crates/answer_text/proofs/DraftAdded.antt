-- A relation behind all that a draft was given is accepted, and adds its line.
use Rattle.std.proofs.Common.{◌≡◌, ◌≢◌, ◌<◌, ◌≤◌, ◌-◌, ℕ, zero, true, false, List, [], ◌∷◌, ◌++◌, length, refl, ap, sym, subst, ◌∙◌, arith}
use Rattle.std.specs.Prelude.{None, Some, Option, Result, Ok, Err, IfOk, IfSome, codes}
use Rattle.pq_base.specs.Limits.{max_rank}
use Rattle.answer_text.specs.Words.{word_text}
use Rattle.answer_text.proofs.Splits.{first-apart}
use Rattle.answer_text.proofs.lines.LineTexts.{relation_start-same}
use native.Mathlib.Decide.{dec_lt}
use Rattle.pq_base.specs.Presentation.{Presentation}
use Rattle.pc_presentation.specs.declared.syllable.Syllable.{Syllable}
use Rattle.pc_presentation.specs.declared.relation.Relation.{Relation}
use Rattle.pc_presentation.specs.declared.builder.PcpRefusal.{PcpRefusal}
use Rattle.pc_presentation.specs.declared.builder.PcpRefusal.TheVariants.{OutOfRange, Repeated, NotNormal, NotLater, NoMemory}
use Rattle.pc_presentation.specs.Syllable.{AreSyllables, AreGenerators, spread, is_normal_from}
use Rattle.pc_presentation.specs.Relation.{IsRelation, side_start}
use Rattle.pc_presentation.specs.Pcp.{sides_of, with_side}
use Rattle.pc_presentation.specs.Builder.{Draft, extended, IsAccepted, IsRefused}
use Rattle.pc_presentation.proofs.presentations.SyllableLaws.{AreSyllables-weaken}
use Rattle.pc_presentation.proofs.presentations.WordTests.{AreGenerators-AreSyllables, normal_from-AreSyllables, later_from_normal}
use Rattle.pc_presentation.proofs.normal_tables.EntryLaws.{with_entry-shape, entry_at-with_entry_other}
pub use Rattle.answer_text.specs.Drafts.{IsDraft, IsNext}
use Rattle.answer_text.specs.AnswerPlaces.{Place, HasForm, order_of, relation_line, word_line}
use Rattle.answer_text.specs.AnswerPlaces.Place.{in_body}
use Rattle.answer_text.specs.AnswerPlaces.HasForm.{relation, image, last}
use Rattle.pq_base.specs.Name.{IsName}
use Rattle.pq_base.proofs.PrimeLaws.{offered-small}
use Rattle.answer_text.proofs.RelationAdded.{all_lines, IsBlankBehind, relation-added}

pub IsAccepted-next : (p n place : ℕ) (D : Draft) (r : Relation) (w : List Syllable) → IsDraft p n D place → IsNext p n place r w
    → IsAccepted D r w None
IsAccepted-next p n place D r w draft next =
    let from_start : AreSyllables p n 0 w = AreSyllables-weaken p n 0 (side_start r) w (omega arith) next.word in
    record {
      in_range = record {
        left_side = subst (λ (x : ℕ). IsRelation x r) (sym draft.rank) next.relation;
        right_side = subst (λ (x : ℕ). AreGenerators x w) (sym draft.rank) (AreGenerators-AreSyllables p n 0 w from_start);
        tail_number = tt;
      };
      new = λ given. let before : order_of r ≤ place = draft.given r next.relation given in
          let behind : place < order_of r = next.rises in
          omega arith;
      normal = subst (λ (x : ℕ). is_normal_from x 0 w ≡ true) (sym draft.prime) (normal_from-AreSyllables p n 0 w from_start);
      later = later_from_normal p (side_start r) w (normal_from-AreSyllables p n (side_start r) w next.word);
    }

-- so only want of memory refuses it
pub refused-next : (D : Draft) (r : Relation) (w : List Syllable) (e : PcpRefusal) → IsAccepted D r w None → IsRefused D r w None e
    → e ≡ NoMemory
refused-next D r w OutOfRange a h = absurd (h a.in_range)
refused-next D r w Repeated a h = absurd (a.new h.1)
refused-next D r w NotNormal a h = absurd (h.2 a.normal)
refused-next D r w NotLater a h = absurd (h.3 a.later)
refused-next D r w NoMemory a h = refl

pub draft-added : (p n place : ℕ) (D : Draft) (r : Relation) (w : List Syllable) → IsDraft p n D place → IsNext p n place r w
    → IsDraft p n (extended D r w None) (order_of r)
    × (all_lines p (extended D r w None).built.presentation ≡ all_lines p D.built.presentation ++ relation_line p r w ∷ [])
draft-added p n place D r w draft next =
    let P : Presentation = D.built.presentation in
    let E : List ℕ = spread (P.rank - side_start r) (side_start r) w in
    let side : spread (n - side_start r) (side_start r) w ≡ E =
    ap (λ (x : ℕ). spread (x - side_start r) (side_start r) w) (sym draft.rank) in
    let added = relation-added p n place P r w draft.scale.limit draft.sides draft.blank next.relation next.rises next.some next.word in (
      record {
        scale = draft.scale;
        prime = draft.prime;
        rank = draft.rank;
        sides = with_entry-shape n (sides_of P) [] draft.sides r E next.relation;
        flags = with_entry-shape n D.given false draft.flags r true next.relation;
        blank = subst (λ (x : List ℕ). IsBlankBehind (order_of r) (with_side P r x)) side added.1;
        given = λ q is was. elim (dec_lt (order_of r) (order_of q)) [
          | no other ↦ omega arith
          | yes behind ↦
              let apart : q ≢ r = λ same. let orders : order_of q ≡ order_of r = ap (λ (x : Relation). order_of x) same in omega arith in
              let before : order_of q ≤ place =
              draft.given q is (sym (entry_at-with_entry_other n D.given false draft.flags r true next.relation q is apart) ∙ was) in
              let rises : place < order_of r = next.rises in
              omega arith
        ];
      },
      subst (λ (x : List ℕ). all_lines p (with_side P r x) ≡ all_lines p P ++ relation_line p r w ∷ []) side added.0,
    )

-- where a line is neither a relation that comes next nor an image, it is the last line, or has no form
pub only-end : (p n place : ℕ) (line : List ℕ) (Q : Place)
    → ((r : Relation) (w : List Syllable) → IsNext p n place r w → ¬ (line ≡ relation_line p r w))
    → ((name : List ℕ) (w : List Syllable) → IsName name → AreSyllables p n 0 w → ¬ (line ≡ word_line name w))
    → HasForm (in_body p n zero place) line Q → line ≡ codes "end"
only-end p n place line Q no_relation no_image (relation p2 n2 m r w z is rises some a) =
    absurd (no_relation r w (record { relation = is; rises = rises; some = some; word = a }) refl)
only-end p n place line Q no_relation no_image (image p2 n2 m name w z is a) = absurd (no_image name w is a refl)
only-end p n place line Q no_relation no_image (last p2 n2 m) = refl

-- a relation that the draft doesn't take isn't one that comes next
pub refused-relation : (p n place : ℕ) (D : Draft) (line : List ℕ) (Q : Place) (r : Relation) (w : List Syllable) → IsDraft p n D place
    → IsRelation n r → 1 ≤ length w
    → AreSyllables p n (side_start r) w → line ≡ relation_line p r w → (place < order_of r → ¬ IsAccepted D r w None)
    → HasForm (in_body p n zero place) line Q → line ≡ codes "end"
refused-relation p n place D line Q r w draft it one b same refused (relation p2 n2 m q v z is rises some a) =
    let small : p < 8 = offered-small p z.offered in
    let limit : n ≤ max_rank = z.limit in
    let relations : q ≡ r = (relation_start-same p n q r (word_text v) (word_text w) (omega arith) (omega arith) is it same).0 in
    let behind : place < order_of r = subst (λ (x : Relation). place < order_of x) relations rises in
    absurd (refused behind (IsAccepted-next p n place D r w draft (record { relation = it; rises = behind; some = one; word = b })))
refused-relation p n place D line Q r w draft it one b same refused (image p2 n2 m name v z is a) =
    absurd (first-apart 105 114 _ _ refl same)
refused-relation p n place D line Q r w draft it one b same refused (last p2 n2 m) = absurd (first-apart 101 114 _ _ refl same)

pub IfOk-then : {X E : Type 0} (o : Result X E) (P Q : X → Type 0) → IfOk o P → ((x : X) → P x → Q x) → IfOk o Q
IfOk-then (Ok x) P Q h f = f x h
IfOk-then (Err e) P Q h f = tt

pub IfSome-at : {X : Type 0} (o : Option X) (x : X) (P : X → Type 0) → o ≡ Some x → IfSome o P → P x
IfSome-at {X} o x P e h = subst (λ (t : Option X). IfSome t P) e h
