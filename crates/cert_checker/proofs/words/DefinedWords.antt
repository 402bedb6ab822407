-- The words of elements that are the values of definitions, one after the other, and of those that are values of normal words.
use Rattle.std.proofs.Common.{◌≡◌, ◌≤◌, ◌<◌, ◌+◌, ◌-◌, ℕ, zero, suc, ℤ, pos, List, [], ◌∷◌, ◌++◌, get_or, length, map, set, take, refl, ap}
use Rattle.std.proofs.Common.{ap₂, sym, ◌∙◌, subst, arith, eq-or-lt_of_le, inl, inr}
use Rattle.std.proofs.lemmas.List.{get_or-set_same, get_or-set_other, map-set}
use Rattle.pq_base.specs.SignedWord.{copies, comm, sub}
use Rattle.pq_base.specs.Joined.{Joined}
use Rattle.pq_base.specs.Answer.{Answer, Definition, IsAnswer, definition_at, word_at}
use Rattle.pq_base.specs.Answer.Definition.{image, commutator, power}
use Rattle.pq_base.proofs.words.WordLaws.{sub-append, sub-copies}
use Rattle.pq_base.proofs.words.SpelledLists.{RefersBefore, definition-refers}
use Rattle.pq_base.proofs.words.JoinedLaws.{joined-trans, joined-from_equal, joined-append_right}
use Rattle.pc_presentation.specs.declared.syllable.Syllable.{Syllable}
use Rattle.pc_presentation.specs.Syllable.{letters_of}
use Rattle.pc_presentation.proofs.presentations.SyllableLaws.{letters_of-more, sub-number}
use Rattle.pc_presentation.specs.Rowed.{RowedPresentation, flat}
use Rattle.pc_presentation.specs.Arithmetic.{word_of}
use Rattle.pc_presentation.specs.Pcp.{TailedPresentation}
use Rattle.pc_presentation.specs.Tailed.{Element, rowed_presentation}
use Rattle.pc_presentation.specs.ImageElements.{states_of}
use Rattle.cert_checker.specs.MapWords.{words_of, StandsFor, definition_word, AreDefinedWords}
use Rattle.cert_checker.proofs.words.DefinitionWords.{length-words_of}

-- words before place k stay where the word at place k is replaced
word_at-set : (G : List (List ℤ)) (k j : ℕ) (w : List ℤ) → j ≤ k → word_at (set G k w) j ≡ word_at G j
word_at-set G k zero w l = refl
word_at-set G k (suc j) w l = get_or-set_other G k j w [] (λ (e : j ≡ k). absurd (omega arith))

definition_word-set : (p : ℕ) (F G : List (List ℤ)) (k : ℕ) (w : List ℤ) (d : Definition) → RefersBefore k d
    → definition_word p F (set G k w) d ≡ definition_word p F G d
definition_word-set p F G k w (image i) h = refl
definition_word-set p F G k w (commutator j i) h = ap₂ comm (word_at-set G k j w h.0) (word_at-set G k i w h.1)
definition_word-set p F G k w (power j) h = ap (λ (u : List ℤ). copies u p) (word_at-set G k j w h)

refers-later : (n k : ℕ) (d : Definition) → n ≤ k → RefersBefore n d → RefersBefore k d
refers-later n k (image i) l h = tt
refers-later n k (commutator j i) l h = let a = h.0 in let b = h.1 in (omega (arith, a, l), omega (arith, b, l))
refers-later n k (power j) l h = omega arith

module _ (T : TailedPresentation) (B : Answer) (is : IsAnswer B) where
  abbrev Y : RowedPresentation
  Y = rowed_presentation T

  words_of-set : (es : List Element) (k : ℕ) (v : Element) → words_of T (set es k v)
      ≡ set (words_of T es) k (word_of (rowed_presentation T) v.state)
  words_of-set es k v =
      ap (map (word_of (rowed_presentation T))) (map-set (λ (e : Element). e.state) es k v)
      ∙ map-set (word_of (rowed_presentation T)) (states_of es) k v.state

  -- the next definition
  pub defined-more : (given es : List Element) (k : ℕ) (v out : Element) (d : Definition) → k < length es
      → length es ≡ B.presentation.rank
      → AreDefinedWords (rowed_presentation T) B (words_of T given) (words_of T es) k
      → d ≡ definition_at B (k + 1 - 1)
      → StandsFor T (definition_word T.presentation.prime (words_of T given) (words_of T es) d) v
      → out ≡ v
      → AreDefinedWords (rowed_presentation T) B (words_of T given) (words_of T (set es k out)) (k + 1)
  defined-more given es k v out d l many before is_d stands copied i m =
      let p = T.presentation.prime in
      let F = words_of T given in
      let G = words_of T es in
      let w = word_of (rowed_presentation T) out.state in
      let count : length (words_of T es) ≡ length es = length-words_of T es in
      let place : k + 1 - 1 ≡ k = omega arith in
      let whole : words_of T (set es k out) ≡ set (words_of T es) k (word_of (rowed_presentation T) out.state) = words_of-set es k out in
      let refers : (n : ℕ) → n < B.presentation.rank → n ≤ k → RefersBefore k (definition_at B n) =
      λ n h q. refers-later n k (definition_at B n) q (definition-refers B n (definition_at B n) (is.definitions n h)) in
      let same : (n : ℕ) → n ≤ k → definition_word p F (set G k w) (definition_at B n) ≡ definition_word p F G (definition_at B n) =
      λ n q. definition_word-set p F G k w (definition_at B n) (refers n (omega (arith, many, l, q)) q) in
      let here : i ≡ k → Joined (flat (rowed_presentation T)) (get_or (set G k w) i [])
      (definition_word p F (set G k w) (definition_at B i)) =
      λ e. joined-trans
      (joined-from_equal (flat (rowed_presentation T))
      (ap (λ (n : ℕ). get_or (set G k w) n []) e ∙ get_or-set_same G k w [] (omega (arith, count, l))
      ∙ ap (λ (x : Element). word_of (rowed_presentation T) x.state) copied))
      (joined-trans stands.joined
      (joined-from_equal (flat (rowed_presentation T))
      (ap (definition_word p F G) (is_d ∙ ap (definition_at B) place)
      ∙ sym (ap (λ (n : ℕ). definition_word p F (set G k w) (definition_at B n)) e ∙ same k (omega arith))))) in
      let there : i < k → Joined (flat (rowed_presentation T)) (get_or (set G k w) i [])
      (definition_word p F (set G k w) (definition_at B i)) =
      λ b. joined-trans
      (joined-from_equal (flat (rowed_presentation T)) (get_or-set_other G k i w [] (λ (e : i ≡ k). absurd (omega (arith, b)))))
      (joined-trans (before i b) (joined-from_equal (flat (rowed_presentation T)) (sym (same i (omega (arith, b)))))) in
      subst (λ (H : List (List ℤ)). Joined (flat (rowed_presentation T)) (get_or H i []) (definition_word p F H (definition_at B i)))
      (sym whole)
      (elim (eq-or-lt_of_le (let a : i ≤ k = omega (arith, m) in a)) [ inl e ↦ here e | inr b ↦ there b ])

-- the value of one syllable more
pub letters-more : (w : List Syllable) (i : ℕ) (d : Syllable) (G : List (List ℤ)) → i < length w → 1 ≤ (get_or w i d).generator
    → sub (letters_of (take (i + 1) w)) G
    ≡ sub (letters_of (take i w)) G ++ copies (get_or G ((get_or w i d).generator - 1) []) (get_or w i d).exponent
letters-more w i d G l from_one =
    ap (λ (x : List ℤ). sub x G) (letters_of-more w i d l)
    ∙ sub-append (letters_of (take i w)) (copies (pos (get_or w i d).generator ∷ []) (get_or w i d).exponent) G
    ∙ ap (λ (x : List ℤ). sub (letters_of (take i w)) G ++ x)
    (sub-copies (pos (get_or w i d).generator ∷ []) (get_or w i d).exponent G
    ∙ ap (λ (x : List ℤ). copies x (get_or w i d).exponent) (sub-number (get_or w i d).generator G from_one))

-- so the elements that stand for them
pub value-more : (T : TailedPresentation) (w : List Syllable) (i : ℕ) (d : Syllable) (G : List (List ℤ)) (old out : Element)
    → i < length w
    → 1 ≤ (get_or w i d).generator → StandsFor T (sub (letters_of (take i w)) G) old
    → StandsFor T (word_of (rowed_presentation T) old.state ++ copies (get_or G ((get_or w i d).generator - 1) [])
    (get_or w i d).exponent) out
    → StandsFor T (sub (letters_of (take (i + 1) w)) G) out
value-more T w i d G old out l from_one before next = record {
  element = next.element;
  joined = joined-trans next.joined
      (joined-trans (joined-append_right (copies (get_or G ((get_or w i d).generator - 1) []) (get_or w i d).exponent) before.joined)
      (joined-from_equal (flat (rowed_presentation T)) (sym (letters-more w i d G l from_one))));
}
