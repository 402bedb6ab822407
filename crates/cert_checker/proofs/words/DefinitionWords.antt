-- Elements that stand for the words of definitions.
use Rattle.std.proofs.Common.{◌≡◌, ◌≤◌, ◌<◌, ◌-◌, ℕ, ℤ, List, [], ◌++◌, get_or, length, replicate, ap, ap₂, sym, ◌∙◌, subst}
use Rattle.std.proofs.Common.{arith}
use Rattle.std.specs.Prelude.{All}
use Rattle.std.proofs.lemmas.List.{length-map, get_or_default}
use Rattle.std.proofs.Math.ListN.{get_or-map}
use Rattle.pq_base.specs.SignedWord.{copies, comm}
use Rattle.pq_base.specs.Joined.{Joined}
use Rattle.pq_base.specs.Answer.{word_at}
use Rattle.pq_base.proofs.words.JoinedLaws.{joined-trans, joined-from_equal, joined-append_left}
use Rattle.pc_presentation.specs.declared.definition.Definition.{Definition}
use Rattle.pc_presentation.specs.declared.definition.Definition.TheVariants.{Image, Commutator, Power}
use Rattle.pc_presentation.specs.Definition.{definition_of}
use Rattle.pc_presentation.specs.Rowed.{flat}
use Rattle.pc_presentation.specs.Collection.{plain_push}
use Rattle.pc_presentation.specs.Arithmetic.{word_of}
use Rattle.pc_presentation.specs.Pcp.{TailedPresentation}
use Rattle.pc_presentation.specs.Tailed.{Element, rowed_presentation, IsElement, with_state}
use Rattle.pc_presentation.specs.ImageElements.{states_of}
use Rattle.pc_presentation.proofs.quotients.CollectorArithmetic.{plain_rule_is_a_meaning}
use Rattle.pc_presentation.proofs.quotients.TailedArithmetic.{cleared-identity, cleared-is_element, identity_at-word}
use Rattle.pc_presentation.proofs.presentations.SyllableLaws.{word_at-place}
use Rattle.cert_checker.specs.MapWords.{words_of, StandsFor, definition_word, RefersWithin}

module _ (T : TailedPresentation) where
  abbrev W : Element → List ℤ
  W e = word_of (rowed_presentation T) e.state

  pub length-words_of : (es : List Element) → length (words_of T es) ≡ length es
  length-words_of es =
      length-map (states_of es) (word_of (rowed_presentation T)) ∙ length-map es (λ (e : Element). e.state)

  -- the word of an element of a list
  pub words_of-at : (es : List Element) (i : ℕ) (d : Element) → i < length es
      → get_or (words_of T es) i [] ≡ word_of (rowed_presentation T) (get_or es i d).state
  words_of-at es i d l =
      let c : length (words_of T es) ≡ length es = length-words_of es in
      get_or_default (words_of T es) i [] (W d) (omega arith)
      ∙ get_or-map (word_of (rowed_presentation T)) (states_of es) i d.state
      ∙ ap (word_of (rowed_presentation T)) (get_or-map (λ (e : Element). e.state) es i d)

  pub words_of-read : (es : List Element) (i : ℕ) (e : Element) → i < length es → e ≡ get_or es i e
      → get_or (words_of T es) i [] ≡ word_of (rowed_presentation T) e.state
  words_of-read es i e l q = words_of-at es i e l ∙ ap W (sym q)

  -- entry i, counted from 1, as it was read
  pub read-at : (es : List Element) (i : ℕ) (e : Element) → 1 ≤ i → i ≤ length es → e ≡ get_or es (i - 1) e
      → word_at (words_of T es) i ≡ word_of (rowed_presentation T) e.state
  read-at es i e l m q = word_at-place (words_of T es) i l ∙ words_of-read es (i - 1) e (omega arith) q

  read-element : (es : List Element) (i : ℕ) (e : Element) → All (IsElement T) es → i < length es → e ≡ get_or es i e → IsElement T e
  read-element es i e are l q = subst (IsElement T) (sym q) (are i e l)

  pub copied-element : (e out : Element) → IsElement T e → out ≡ e → IsElement T out
  copied-element e out is copied = subst (IsElement T) (sym copied) is

  module _ (p : ℕ) (given elements : List Element) (d : Definition)
      (numbers : RefersWithin (length given) (length elements) (definition_of d))
      (out : Element) where
    abbrev goal_word : Definition → List ℤ
    goal_word x = definition_word p (words_of T given) (words_of T elements) (definition_of x)

    abbrev Numbers : Definition → Type 0
    Numbers x = RefersWithin (length given) (length elements) (definition_of x)

    pub image-stands : (i : ℕ) → d ≡ Image i → (e : Element) → All (IsElement T) given → e ≡ get_or given (i - 1) e → out ≡ e
        → StandsFor T (definition_word p (words_of T given) (words_of T elements) (definition_of d)) out
    image-stands i is e are read copied =
        let l = subst Numbers is numbers in
        let first : 1 ≤ i = l.0 in
        let last : i ≤ length given = l.1 in
        record {
          element = subst (IsElement T) (sym copied) (read-element given (i - 1) e are (omega arith) read);
          joined = joined-from_equal (flat (rowed_presentation T))
              (ap W copied ∙ sym (read-at given i e first last read) ∙ sym (ap goal_word is));
        }

    pub commutator-stands : (j i : ℕ) → d ≡ Commutator j i → (u v : Element) → u ≡ get_or elements (j - 1) u
        → v ≡ get_or elements (i - 1) v
        → IsElement T out
        → Joined (flat (rowed_presentation T)) (word_of (rowed_presentation T) out.state)
        (comm (word_of (rowed_presentation T) u.state) (word_of (rowed_presentation T) v.state))
        → StandsFor T (definition_word p (words_of T given) (words_of T elements) (definition_of d)) out
    commutator-stands j i is u v first second element joined =
        let l = subst Numbers is numbers in
        record {
          element = element;
          joined = joined-trans joined (joined-from_equal (flat (rowed_presentation T))
              (sym (ap goal_word is ∙ ap₂ comm (read-at elements j u l.0 l.1 first) (read-at elements i v l.2 l.3 second))));
        }

    pub power-stands : (j n : ℕ) → d ≡ Power j → (u : Element) → u ≡ get_or elements (j - 1) u → n ≡ p → IsElement T out
        → Joined (flat (rowed_presentation T)) (word_of (rowed_presentation T) out.state)
        (copies (word_of (rowed_presentation T) u.state) n)
        → StandsFor T (definition_word p (words_of T given) (words_of T elements) (definition_of d)) out
    power-stands j n is u first many element joined =
        let l = subst Numbers is numbers in
        record {
          element = element;
          joined = joined-trans joined (joined-from_equal (flat (rowed_presentation T))
              (sym (ap goal_word is ∙ ap₂ copies (read-at elements j u l.0 l.1 first) (sym many))));
        }

  -- the product with a power
  pub multiplied-stands : (elements : List Element) (g e : ℕ) (u old factor next out : Element) → 1 ≤ g → g ≤ length elements
      → u ≡ get_or elements (g - 1) u
      → Joined (flat (rowed_presentation T)) (word_of (rowed_presentation T) factor.state)
      (copies (word_of (rowed_presentation T) u.state) e)
      → Joined (flat (rowed_presentation T)) (word_of (rowed_presentation T) next.state)
      (word_of (rowed_presentation T) old.state ++ word_of (rowed_presentation T) factor.state)
      → IsElement T next → out ≡ next
      → StandsFor T (word_of (rowed_presentation T) old.state ++ copies (get_or (words_of T elements) (g - 1) []) e) out
  multiplied-stands elements g e u old factor next out l m read power product element copied = record {
    element = subst (IsElement T) (sym copied) element;
    joined = joined-trans (joined-from_equal (flat (rowed_presentation T)) (ap W copied))
        (joined-trans product
        (joined-append_left (W old)
        (joined-trans power (joined-from_equal (flat (rowed_presentation T))
        (ap (λ (w : List ℤ). copies w e) (sym (words_of-read elements (g - 1) u (omega arith) read)))))));
  }

-- a cleared element stands for the empty word
pub cleared-stands : (T : TailedPresentation) (e out : Element) → IsElement T e
    → out ≡ with_state e (record { exponents = replicate (length e.state.exponents) 0; row = replicate (length e.state.row) 0 })
    → StandsFor T [] out
cleared-stands T e out is cleared = record {
  element = cleared-is_element T is.presentation e out is cleared;
  joined = joined-from_equal (flat (rowed_presentation T))
      (ap (λ (x : Element). word_of (rowed_presentation T) x.state) (cleared-identity T is.presentation e out is cleared)
      ∙ identity_at-word T is.presentation (plain_push (rowed_presentation T)) (plain_rule_is_a_meaning (rowed_presentation T)));
}
