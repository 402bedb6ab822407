-- Two answers that are one answer D where they are cut to class k, and in which the same words die where they are cut to class k + 1:
-- going through the entries of D, the same entries define generators in both, and each entry has one new part in both.
use Rattle.std.proofs.Common.{◌≡◌, ◌≢◌, ℕ, suc, ◌+◌, ◌<◌, ◌≤◌, ℤ, List, [], ◌∷◌, ◌++◌, get_or, length, inl, inr, refl, ap, sym, ◌∙◌, ⊎_elim}
use Rattle.std.proofs.Common.{subst, arith, length-append}
use Rattle.std.specs.List.{All}
use Rattle.std.proofs.lemmas.Bool.{cases_eq}
use Rattle.std.proofs.lemmas.List.{ext_get_or}
use Rattle.std.proofs.lemmas.List.Elements.{All-nil, All-cons, All-head, All-tail}
use Rattle.pq_base.specs.SignedWord.{sub, HasLetters}
use Rattle.pq_base.specs.LPresentation.{AreWords}
use Rattle.pq_base.specs.Presentation.{letter, word_from}
use Rattle.pq_base.specs.Joined.{Joined}
use Rattle.pq_base.specs.Answer.{Answer, Definition, definition_at, image_words}
use Rattle.pq_base.specs.Canonical.{rank_up_to, new_count, new_part, unit, up_to_class, DefinesNext, DefinesNone, AreMet}
use Rattle.pq_base.specs.EntryWords.{IsSourceOf, entry_word}
use Rattle.pq_base.proofs.UnitLaws.{get_or-unit, word_from-unit}
use Rattle.pq_base.proofs.words.JoinedLaws.{joined-from_equal, joined-trans}
use Rattle.unique_answers.specs.UniqueLaws.{DiesIn}
use Rattle.unique_answers.proofs.unique.Layers.{IsLayer, AreLettersFrom, AreMetWords, forced}

AreWords-with_last : (n : ℕ) (ws : List (List ℤ)) (w : List ℤ) → AreWords n ws → HasLetters n w → AreWords n (ws ++ w ∷ [])
AreWords-with_last n [] w h l = (l, tt)
AreWords-with_last n (v ∷ ws) w h l = (h.0, AreWords-with_last n ws w h.1 l)

AreLettersFrom-with_last : (N : Answer) (s : ℕ) (ws : List (List ℤ)) (w : List ℤ) → AreLettersFrom N s ws
    → Joined N.presentation (sub w (image_words N)) (letter (s + length ws)) → AreLettersFrom N s (ws ++ w ∷ [])
AreLettersFrom-with_last N s [] w h c =
    let place : s + 0 ≡ s = omega arith in (subst (λ (i : ℕ). Joined N.presentation (sub w (image_words N)) (letter i)) place c, tt)
AreLettersFrom-with_last N s (v ∷ ws) w h c =
    let place : s + suc (length ws) ≡ suc s + length ws = omega arith in (
      h.0,
      AreLettersFrom-with_last N (suc s) ws w h.1 (subst (λ (i : ℕ). Joined N.presentation (sub w (image_words N)) (letter i)) place c),
    )

-- what is found at the end: as many new generators, with the same definitions, and one new part of each entry
pub record TurnAlike (A B : Answer) (k met : ℕ) (ds : List Definition) : Type 0 where
  pub count : new_count A k ≡ new_count B k
  pub definitions : (g : ℕ) → met ≤ g → g < new_count A k → definition_at A (rank_up_to A k + g) ≡ definition_at B (rank_up_to B k + g)
  pub parts : All (λ (d : Definition). new_part A k d ≡ new_part B k d) ds

-- the entry that defines the next generator is one more of those that were met
met-more : (D A : Answer) (k met : ℕ) (ws : List (List ℤ)) (d : Definition) → IsLayer D A k → IsSourceOf D d → AreMetWords A k met ws
    → DefinesNext A k met d → AreMetWords A k (suc met) (ws ++ entry_word D d ∷ [])
met-more D A k met ws d layer source words next =
    let N : Answer = up_to_class A (suc k) in
    let left : met < new_count A k = next.one_left in
    let long : length ws ≡ met = words.count in
    let place : rank_up_to A k + met ≡ rank_up_to A k + length ws = omega arith in
    record {
      count = length-append ws (entry_word D d ∷ []) ∙ omega arith;
      room = omega arith;
      values =
          AreLettersFrom-with_last N (rank_up_to A k) ws (entry_word D d) words.values
          (joined-trans (layer.values d source)
          (joined-from_equal N.presentation
          (ap (word_from (rank_up_to A k)) next.new_generator
          ∙ word_from-unit (rank_up_to A k) (new_count A k) met left ∙ ap letter place)));
    }

-- an entry that defines a generator in the one alone would have two new parts
one_side : (A B : Answer) (k met : ℕ) (d : Definition) → DefinesNext A k met d → DefinesNone B k met d
    → ((g : ℕ) → get_or (new_part A k d) g 0 ≡ get_or (new_part B k d) g 0) → ⊥
one_side A B k met d next none same =
    let one : get_or (unit (new_count A k) met) met 0 ≡ 1 = get_or-unit (new_count A k) met next.one_left in
    let there : get_or (new_part A k d) met 0 ≡ get_or (unit (new_count A k) met) met 0 =
    ap (λ (x : List ℕ). get_or x met 0) next.new_generator in
    let nothing : get_or (new_part B k d) met 0 ≡ 0 = none.met_alone met (omega arith) in
    let both = same met in
    absurd (omega arith)

module _ (D A B : Answer) (k : ℕ) (a : IsLayer D A k) (b : IsLayer D B k) (prime : A.presentation.prime ≡ B.presentation.prime)
    (names : length A.names ≡ length B.names)
    (letters : (d : Definition) → IsSourceOf D d → HasLetters (length A.names) (entry_word D d))
    (there : (w : List ℤ) → HasLetters (length A.names) w → DiesIn (up_to_class A (suc k)) w → DiesIn (up_to_class B (suc k)) w)
    (back : (w : List ℤ) → HasLetters (length B.names) w → DiesIn (up_to_class B (suc k)) w → DiesIn (up_to_class A (suc k)) w) where
  -- so far
  record AreBoth (met : ℕ) (ws : List (List ℤ)) : Type 0 where
    pub words : AreWords (length A.names) ws
    pub first : AreMetWords A k met ws
    pub second : AreMetWords B k met ws

  forced-second : (met : ℕ) (ws : List (List ℤ)) (d : Definition) → AreBoth met ws → IsSourceOf D d → DefinesNone A k met d
      → (g : ℕ) → get_or (new_part B k d) g 0 ≡ get_or (new_part A k d) g 0
  forced-second met ws d both source none g =
      forced D B A k b a (sym prime) there met ws both.words both.second both.first d source (letters d source) none.met_alone g

  forced-first : (met : ℕ) (ws : List (List ℤ)) (d : Definition) → AreBoth met ws → IsSourceOf D d → DefinesNone B k met d
      → (g : ℕ) → get_or (new_part A k d) g 0 ≡ get_or (new_part B k d) g 0
  forced-first met ws d both source none g =
      forced D A B k a b prime back met ws (subst (λ (n : ℕ). AreWords n ws) names both.words) both.first both.second d source
      (subst (λ (n : ℕ). HasLetters n (entry_word D d)) names (letters d source)) none.met_alone g

  both-more : (met : ℕ) (ws : List (List ℤ)) (d : Definition) → AreBoth met ws → IsSourceOf D d
      → DefinesNext A k met d → DefinesNext B k met d → AreBoth (suc met) (ws ++ entry_word D d ∷ [])
  both-more met ws d both source next other = record {
    words = AreWords-with_last (length A.names) ws (entry_word D d) both.words (letters d source);
    first = met-more D A k met ws d a source both.first next;
    second = met-more D B k met ws d b source both.second other;
  }

  -- one more entry
  defining : (met : ℕ) (d : Definition) (ds : List Definition) → DefinesNext A k met d → DefinesNext B k met d
      → TurnAlike A B k (suc met) ds → TurnAlike A B k met (d ∷ ds)
  defining met d ds next other rest = record {
    count = rest.count;
    definitions = λ g l m.
        ⊎_elim
        (λ (same : met ≡ g).
        subst (λ (i : ℕ). definition_at A (rank_up_to A k + i) ≡ definition_at B (rank_up_to B k + i)) same
        (next.defined ∙ sym other.defined))
        (λ (later : met ≢ g). rest.definitions g (omega arith) m)
        (cases_eq met g);
    parts =
        All-cons (λ (e : Definition). new_part A k e ≡ new_part B k e) d ds
        (next.new_generator ∙ ap (λ (c : ℕ). unit c met) rest.count ∙ sym other.new_generator) rest.parts;
  }

  not_defining : (met : ℕ) (d : Definition) (ds : List Definition) → IsSourceOf D d
      → ((g : ℕ) → get_or (new_part A k d) g 0 ≡ get_or (new_part B k d) g 0) → TurnAlike A B k met ds → TurnAlike A B k met (d ∷ ds)
  not_defining met d ds source same rest =
      let count = rest.count in
      let long = (a.parts d source).count in
      let other = (b.parts d source).count in
      record {
        count = rest.count;
        definitions = rest.definitions;
        parts =
            All-cons (λ (e : Definition). new_part A k e ≡ new_part B k e) d ds
            (ext_get_or 0 (new_part A k d) (new_part B k d) (omega arith) (λ g l. same g)) rest.parts;
      }

  alike : (met : ℕ) (ws : List (List ℤ)) (ds : List Definition) → AreBoth met ws → All (IsSourceOf D) ds
      → AreMet A k met ds → AreMet B k met ds → TurnAlike A B k met ds
  alike met ws [] both all h i = record {
    count = sym h ∙ i;
    definitions = λ g l m. let end : met ≡ new_count A k = h in absurd (omega arith);
    parts = All-nil (λ (d : Definition). new_part A k d ≡ new_part B k d);
  }
  alike met ws (d ∷ ds) both all (inl h) (inl i) =
      let source : IsSourceOf D d = All-head (IsSourceOf D) d ds all in
      defining met d ds h.0 i.0
      (alike (suc met) (ws ++ entry_word D d ∷ []) ds (both-more met ws d both source h.0 i.0) (All-tail (IsSourceOf D) d ds all) h.1 i.1)
  alike met ws (d ∷ ds) both all (inl h) (inr i) =
      absurd (one_side A B k met d h.0 i.0 (forced-first met ws d both (All-head (IsSourceOf D) d ds all) i.0))
  alike met ws (d ∷ ds) both all (inr h) (inl i) =
      absurd (one_side B A k met d i.0 h.0 (forced-second met ws d both (All-head (IsSourceOf D) d ds all) h.0))
  alike met ws (d ∷ ds) both all (inr h) (inr i) =
      let source : IsSourceOf D d = All-head (IsSourceOf D) d ds all in
      not_defining met d ds source (forced-first met ws d both source i.0) (alike met ws ds both (All-tail (IsSourceOf D) d ds all) h.1 i.1)

  pub turns-alike : (ds : List Definition) → All (IsSourceOf D) ds → AreMet A k 0 ds → AreMet B k 0 ds → TurnAlike A B k 0 ds
  turns-alike ds all h i =
      alike 0 [] ds
      (record {
        words = tt;
        first = record { count = refl; room = omega arith; values = tt };
        second = record { count = refl; room = omega arith; values = tt };
      })
      all h i
