-- Elements that satisfy relations, and what decides it: in a consistent presentation without tails two elements have the same exponents
-- exactly where their words are joined.
use Rattle.std.proofs.Common.{◌≡◌, ◌↔◌, ◌≤◌, ◌-◌, ℕ, suc, ℤ, Bool, IsTrue, List, get_or, length, ap, ap₂, sym, ◌∙◌, subst, arith}
use Rattle.std.proofs.lemmas.List.{append-nil}
use Rattle.pq_base.specs.SignedWord.{copies, comm, sub}
use Rattle.pq_base.specs.Presentation.{Presentation, letter, word_from, normal_word}
use Rattle.pq_base.specs.Joined.{Joined, IsConsistent}
use Rattle.pq_base.proofs.words.WordLaws.{sub-copies, sub-comm, sub-letter}
use Rattle.pq_base.proofs.words.JoinedLaws.{joined-sym, joined-trans, joined-from_equal}
use Rattle.pc_presentation.specs.declared.relation.Relation.{Relation}
use Rattle.pc_presentation.specs.declared.relation.Relation.TheVariants.{Power, Commutator}
use Rattle.pc_presentation.specs.declared.syllable.Syllable.{Syllable}
use Rattle.pc_presentation.specs.Relation.{IsRelation, side_start}
use Rattle.pc_presentation.specs.Syllable.{letters_of, syllables_of}
use Rattle.pc_presentation.specs.Rowed.{RowedPresentation, without_rows, flat}
use Rattle.pc_presentation.specs.Collection.{State, IsState, letters, spelled}
use Rattle.pc_presentation.specs.Arithmetic.{word_of}
use Rattle.pc_presentation.specs.Pcp.{TailedPresentation, right_side}
use Rattle.pc_presentation.specs.Tailed.{Element, rowed_presentation, IsElement}
use Rattle.pc_presentation.proofs.rows.FlatLaws.{flat-without_rows}
use Rattle.pc_presentation.proofs.consistent.LetterWords.{letters-spelled}
use Rattle.pc_presentation.proofs.presentations.SyllableLaws.{letters_of-syllables_of}
use Rattle.derivation_log.proofs.PlainGroups.{state-bare}
use Rattle.cert_checker.specs.MapWords.{words_of, StandsFor, left_word, right_word}
use Rattle.cert_checker.proofs.Tailless.{tailless}
use Rattle.cert_checker.proofs.words.DefinitionWords.{words_of-read}

-- what a decision says of elements without rows
abbrev Decided : RowedPresentation → State → State → Bool → Type 0
Decided Y u v b = IsTrue b ↔ Joined (flat Y) (word_of Y u) (word_of Y v)

bare-word : (P : Presentation) (s : State) → IsState (without_rows P) P.rank s → word_of (without_rows P) s ≡ normal_word s.exponents
bare-word P s is =
    ap (word_of (without_rows P)) (state-bare P P.rank s is)
    ∙ append-nil (letters (spelled 0 s.exponents)) ∙ letters-spelled 0 s.exponents

decided-bare : (P : Presentation) → IsConsistent P → (u v : State) → IsState (without_rows P) P.rank u → IsState (without_rows P) P.rank v
    → (b : Bool) → (IsTrue b ↔ u.exponents ≡ v.exponents) → Decided (without_rows P) u v b
decided-bare P consistent u v h m b same =
    subst (λ (Q : Presentation). IsTrue b ↔ Joined Q (word_of (without_rows P) u) (word_of (without_rows P) v))
    (sym (flat-without_rows P)) (
      λ t. joined-from_equal P (bare-word P u h ∙ ap normal_word (same.0 t) ∙ sym (bare-word P v m)),
      λ j. same.1 (consistent.unique u.exponents v.exponents h.exponents m.exponents
          (joined-trans (joined-from_equal P (sym (bare-word P u h))) (joined-trans j (joined-from_equal P (bare-word P v m))))),
    )

pub joined-decided : (T : TailedPresentation) → T.tails ≡ 0 → IsConsistent T.presentation → (u v : Element) → IsElement T u
    → IsElement T v
    → (b : Bool) → (IsTrue b ↔ u.state.exponents ≡ v.state.exponents)
    → (IsTrue b ↔ Joined (flat (rowed_presentation T)) (word_of (rowed_presentation T) u.state) (word_of (rowed_presentation T) v.state))
joined-decided T none consistent u v h m b same =
    let bare : rowed_presentation T ≡ without_rows T.presentation = tailless T h.presentation none in
    subst (λ (Y : RowedPresentation). Decided Y u.state v.state b) (sym bare)
    (decided-bare T.presentation consistent u.state v.state
    (subst (λ (Y : RowedPresentation). IsState Y T.presentation.rank u.state) bare h.state)
    (subst (λ (Y : RowedPresentation). IsState Y T.presentation.rank v.state) bare m.state) b same)

-- where both sides are found, they decide
pub sides-decided : (Y : RowedPresentation) (b : Bool) {x y u w : List ℤ} → Joined (flat Y) x u → Joined (flat Y) y w
    → (IsTrue b ↔ Joined (flat Y) x y)
    → (IsTrue b ↔ Joined (flat Y) u w)
sides-decided Y b first second same = (
  λ t. joined-trans (joined-sym first) (joined-trans (same.0 t) second),
  λ j. same.1 (joined-trans first (joined-trans j (joined-sym second))),
)

module _ (T : TailedPresentation) (P : Presentation) (elements : List Element) (count : length elements ≡ P.rank) (r : Relation)
    (relation : IsRelation P.rank r) where
  abbrev G : List (List ℤ)
  G = words_of T elements

  abbrev Left : Relation → Element → Type 0
  Left x e = StandsFor T (sub (left_word P x) (words_of T elements)) e

  letter-read : (i : ℕ) (u : Element) → 1 ≤ i → i ≤ P.rank → u ≡ get_or elements (i - 1) u
      → sub (letter (i - 1)) (words_of T elements) ≡ word_of (rowed_presentation T) u.state
  letter-read i u l m read = sub-letter (i - 1) G ∙ words_of-read T elements (i - 1) u (omega (arith, l, m, count)) read

  pub power-side : (i n : ℕ) → r ≡ Power i → (u out : Element) → u ≡ get_or elements (i - 1) u → n ≡ P.prime → IsElement T out
      → Joined (flat (rowed_presentation T)) (word_of (rowed_presentation T) out.state)
      (copies (word_of (rowed_presentation T) u.state) n)
      → StandsFor T (sub (left_word P r) (words_of T elements)) out
  power-side i n is u out read many element joined =
      let l = subst (IsRelation P.rank) is relation in
      subst (λ (x : Relation). Left x out) (sym is) (record {
        element = element;
        joined = joined-trans joined (joined-from_equal (flat (rowed_presentation T))
            (ap₂ copies (sym (letter-read i u l.0 l.1 read)) many ∙ sym (sub-copies (letter (i - 1)) P.prime G)));
      })

  pub commutator-side : (j i : ℕ) → r ≡ Commutator j i → (u v out : Element) → u ≡ get_or elements (j - 1) u
      → v ≡ get_or elements (i - 1) v
      → IsElement T out
      → Joined (flat (rowed_presentation T)) (word_of (rowed_presentation T) out.state)
      (comm (word_of (rowed_presentation T) u.state) (word_of (rowed_presentation T) v.state))
      → StandsFor T (sub (left_word P r) (words_of T elements)) out
  commutator-side j i is u v out first second element joined =
      let l = subst (IsRelation P.rank) is relation in
      let a = l.0 in
      let b = l.1 in
      let d = l.2 in
      subst (λ (x : Relation). Left x out) (sym is) (record {
        element = element;
        joined = joined-trans joined (joined-from_equal (flat (rowed_presentation T))
            (ap₂ comm (sym (letter-read j u (omega (arith, a, b)) d first)) (sym (letter-read i v a (omega (arith, b, d)) second))
            ∙ sym (sub-comm (letter (j - 1)) (letter (i - 1)) G)));
      })

-- the letters of a right side
right_word-from : (P : Presentation) (r : Relation) → IsRelation P.rank r → word_from (side_start r) (right_side P r) ≡ right_word P r
right_word-from P (Power i) h =
    let e : i ≡ suc (i - 1) = omega (arith, h) in ap (λ (k : ℕ). word_from k (right_side P (Power i))) e
right_word-from P (Commutator j i) h =
    let a = h.0 in
    let b = h.1 in
    let e : j ≡ suc (j - 1) = omega (arith, a, b) in ap (λ (k : ℕ). word_from k (right_side P (Commutator j i))) e

pub right-letters : (P Q : Presentation) (r : Relation) (w : List Syllable) → IsRelation P.rank r → Q ≡ P
    → w ≡ syllables_of (side_start r) (right_side Q r) → letters_of w ≡ right_word P r
right-letters P Q r w h same is =
    ap letters_of (is ∙ ap (λ (x : Presentation). syllables_of (side_start r) (right_side x r)) same)
    ∙ letters_of-syllables_of (side_start r) (right_side P r) ∙ right_word-from P r h
