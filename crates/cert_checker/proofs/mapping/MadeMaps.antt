-- Elements of a consistent answer make a map of another answer into it exactly where their words satisfy its relations and carry its
-- images to their words.
use Rattle.std.proofs.Common.{◌≡◌, ◌<◌, ◌+◌, ◌-◌, ℕ, zero, suc, ℤ, List, [], get_or, length, map, refl, ap, ap₂, sym, ◌∙◌, subst, arith}
use Rattle.std.proofs.lemmas.List.{ext_get_or}
use Rattle.pq_base.specs.SignedWord.{copies, comm, sub, HasLetters}
use Rattle.pq_base.specs.Presentation.{Presentation, letter, power_word, commutator_word}
use Rattle.pq_base.specs.Joined.{Joined, IsConsistent}
use Rattle.pq_base.specs.Answer.{Answer, Definition, IsAnswer, HasDefinition, definition_at, image_words}
use Rattle.pq_base.specs.Answer.Definition.{image, commutator, power}
use Rattle.pq_base.proofs.words.JoinedLaws.{joined-sym, joined-trans, joined-from_equal}
use Rattle.pq_base.proofs.words.LetterLaws.{HasLetters-copies, HasLetters-comm, HasLetters-letter, HasLetters-power_word}
use Rattle.pq_base.proofs.words.LetterLaws.{HasLetters-commutator_word}
use Rattle.cover_quotient.proofs.fitting.TailValues.{image_word-letters}
use Rattle.pc_presentation.specs.Rowed.{without_rows, flat}
use Rattle.pc_presentation.specs.Collection.{State, IsState, plain_push}
use Rattle.pc_presentation.specs.Arithmetic.{word_of, evaluate_from}
use Rattle.pc_presentation.proofs.rows.FlatLaws.{flat-without_rows}
use Rattle.pc_presentation.proofs.quotients.WordValues.{value-state}
use Rattle.derivation_log.specs.PlainValues.{identity_of, plain_product, plain_power, element_at, IsValue, HaveOneValue, IsDefinedValue}
use Rattle.derivation_log.specs.PlainValues.{AreDefinedValues, MakeMap}
use Rattle.derivation_log.proofs.PlainValues.{value-joined}
use Rattle.derivation_log.proofs.PlainGroups.{AreElements, element-get_or, rowed-here, meaning-here, arithmetic-here, one-state, unflat}
use Rattle.derivation_log.proofs.PlainGroups.{product-element, same-elements, value-known, inverse_list, images-inverted}
use Rattle.derivation_log.proofs.PlainGroups.{word-at, commutator-known, power-known}
use Rattle.cert_checker.specs.MapWords.{definition_word, AreDefinedWords, MakeMapOfWords}

module _ (B A : Answer) (of : IsAnswer B) (is : IsAnswer A) where
  abbrev P : Presentation
  P = A.presentation

  abbrev W : State → List ℤ
  W s = word_of (without_rows A.presentation) s

  -- values of definitions are the only ones
  module _ (f g h : List State) (states : AreElements A.presentation g) (first : AreDefinedValues B A f g)
      (second : AreDefinedValues B A f h) where
    at-state : (k : ℕ) → k < B.presentation.rank → IsState (without_rows A.presentation) A.presentation.rank (get_or g k (identity_of A))
    at-state k l = let c = first.count in element-get_or P g (identity_of A) states k (omega arith)

    same-value : (k : ℕ) → k < B.presentation.rank → ((i : ℕ) → i < k → get_or h i (identity_of A) ≡ get_or g i (identity_of A))
        → (d : Definition) → HasDefinition B k d → (v w : State) → IsDefinedValue A f g d v → IsDefinedValue A f h d w → w ≡ v
    same-value k l before (image i) q v w a b = sym b ∙ a
    same-value k l before (commutator zero i) q v w a b = absurd q
    same-value k l before (commutator (suc j) zero) q v w a b = absurd q
    same-value k l before (commutator (suc j) (suc i)) q v w a b =
        let less : i < j = q.1 in
        let earlier : j < k = q.2 in
        let pj : suc j - 1 ≡ j = omega arith in
        let pi : suc i - 1 ≡ i = omega arith in
        let x : State = element_at A g (suc j) in
        let y : State = element_at A g (suc i) in
        let hx : element_at A h (suc j) ≡ element_at A g (suc j) = before (suc j - 1) (omega (arith, earlier)) in
        let hy : element_at A h (suc i) ≡ element_at A g (suc i) = before (suc i - 1) (omega (arith, less, earlier)) in
        let sx = at-state (suc j - 1) (omega (arith, earlier, l)) in
        let sy = at-state (suc i - 1) (omega (arith, less, earlier, l)) in
        let one = (arithmetic-here A is).quotients (plain_product A y x) (plain_product A x y) (product-element A is y x sy sx)
        (product-element A is x y sx sy) in
        let other : plain_product A (plain_product A y x) w ≡ plain_product A x y =
        ap₂ (λ (s t : State). plain_product A (plain_product A t s) w) (sym hx) (sym hy) ∙ b.product
        ∙ ap₂ (λ (s t : State). plain_product A s t) hx hy in
        one.1.only w b.state other ∙ sym (one.1.only v a.state a.product)
    same-value k l before (power zero) q v w a b = absurd q
    same-value k l before (power (suc j)) q v w a b =
        let earlier : j < k = q.1 in
        sym b ∙ ap (λ (s : State). plain_power A s A.presentation.prime) (before (suc j - 1) (omega (arith, earlier))) ∙ a

    same-below : (n k : ℕ) → k < n → k < B.presentation.rank → get_or h k (identity_of A) ≡ get_or g k (identity_of A)
    same-below zero k l m = absurd (omega arith)
    same-below (suc n) k l m =
        same-value k m (λ i b. same-below n i (omega arith) (omega arith)) (definition_at B k) (of.definitions k m)
        (get_or g k (identity_of A)) (get_or h k (identity_of A)) (first.values k m) (second.values k m)

    pub same-values : h ≡ g
    same-values =
        let c = first.count in
        let d = second.count in
        ext_get_or (identity_of A) h g (d ∙ sym c) (λ k l. same-below (suc k) k (omega arith) (omega arith))

  module _ (consistent : IsConsistent A.presentation) (f g : List State) (fs : AreElements A.presentation f)
      (gs : AreElements A.presentation g)
      (countf : length f ≡ length B.names) (countg : length g ≡ B.presentation.rank) where
    abbrev F : List (List ℤ)
    F = map (word_of (without_rows A.presentation)) f

    abbrev G : List (List ℤ)
    G = map (word_of (without_rows A.presentation)) g

    here : (k : ℕ) → k < B.presentation.rank → IsState (without_rows A.presentation) A.presentation.rank (get_or g k (identity_of A))
    here k l = element-get_or P g (identity_of A) gs k (omega (arith, l, countg))

    word-here : (k : ℕ) → k < B.presentation.rank → get_or G k [] ≡ W (get_or g k (identity_of A))
    word-here k l = word-at A is g k (omega (arith, l, countg))

    -- the value of a definition, by its word
    defined-value : (k : ℕ) → k < B.presentation.rank → (d : Definition) → HasDefinition B k d
        → Joined A.presentation (W (get_or g k (identity_of A))) (definition_word A.presentation.prime F G d)
        → IsDefinedValue A f g d (get_or g k (identity_of A))
    defined-value k l (image zero) h j = absurd h
    defined-value k l (image (suc i)) h j =
        let place : suc i - 1 ≡ i = omega arith in
        let within : i < length f = (let b : i < length B.images = h.1 in let c = of.image_count in omega (arith, b, c, countf)) in
        let x : State = get_or f i (identity_of A) in
        ap (λ (n : ℕ). get_or f n (identity_of A)) place
        ∙ same-elements A is consistent x (get_or g k (identity_of A)) (element-get_or P f (identity_of A) fs i within) (here k l)
        (joined-sym (joined-trans j (joined-from_equal P (word-at A is f i within))))
    defined-value k l (commutator zero i) h c = absurd h
    defined-value k l (commutator (suc j) zero) h c = absurd h
    defined-value k l (commutator (suc j) (suc i)) h c =
        let less : i < j = h.1 in
        let before : j < k = h.2 in
        let pj : suc j - 1 ≡ j = omega arith in
        let pi : suc i - 1 ≡ i = omega arith in
        let lj : j < B.presentation.rank = omega (arith, before, l) in
        let li : i < B.presentation.rank = omega (arith, less, before, l) in
        let u : State = get_or g j (identity_of A) in
        let v : State = get_or g i (identity_of A) in
        let s : State = get_or g k (identity_of A) in
        let us = here j lj in
        let vs = here i li in
        let spelt : Joined A.presentation (W s) (comm (W u) (W v)) =
        joined-trans c (joined-from_equal P (ap₂ comm (word-here j lj) (word-here i li))) in
        let product : plain_product A (plain_product A v u) s ≡ plain_product A u v =
        commutator-known A is consistent u v s us vs (here k l) spelt in
        record {
          state = here k l;
          product =
              ap₂ (λ (x y : ℕ). plain_product A (plain_product A (get_or g y (identity_of A)) (get_or g x (identity_of A))) s) pj pi
              ∙ product
              ∙ sym (ap₂ (λ (x y : ℕ). plain_product A (get_or g x (identity_of A)) (get_or g y (identity_of A))) pj pi);
        }
    defined-value k l (power zero) h j = absurd h
    defined-value k l (power (suc j)) h c =
        let before : j < k = h.1 in
        let pj : suc j - 1 ≡ j = omega arith in
        let lj : j < B.presentation.rank = omega (arith, before, l) in
        let u : State = get_or g j (identity_of A) in
        ap (λ (x : ℕ). plain_power A (get_or g x (identity_of A)) A.presentation.prime) pj
        ∙ power-known A is consistent u (get_or g k (identity_of A)) A.presentation.prime (here j lj) (here k l)
        (joined-trans c (joined-from_equal P (ap (λ (w : List ℤ). copies w A.presentation.prime) (word-here j lj))))

    module _ (defined : AreDefinedWords (without_rows A.presentation) B F G B.presentation.rank) where
      values : AreDefinedValues B A f g
      values = record {
        count = countg;
        values = λ k l.
            defined-value k l (definition_at B k) (of.definitions k l)
            (joined-trans (joined-from_equal P (sym (word-here k l))) (unflat A is (defined k l)));
      }

      -- a word has a value
      letters-here : (w : List ℤ) → HasLetters B.presentation.rank w → HasLetters (length g) w
      letters-here w l = subst (λ (n : ℕ). HasLetters n w) (sym countg) l

      known : (w : List ℤ) → HasLetters B.presentation.rank w → (v : State) → IsState (without_rows A.presentation) A.presentation.rank v
          → Joined A.presentation (W v) (sub w G) → IsValue A g w v
      known w l v state joined = value-known A is consistent g gs w (letters-here w l) v state joined

      one-value : (u w : List ℤ) → HasLetters B.presentation.rank u → HasLetters B.presentation.rank w
          → Joined A.presentation (sub u G) (sub w G) → HaveOneValue A g u w
      one-value u w l m joined =
          let images = images-inverted A is g gs in
          let lu = letters-here u l in
          let big : 1 < A.presentation.prime = (let b = is.presentation.prime in omega (arith, b)) in
          let v : State = evaluate_from (without_rows A.presentation) (plain_push (without_rows A.presentation)) g
          (inverse_list A is g gs) (identity_of A) u in
          let state = value-state (without_rows A.presentation) (rowed-here A is) big (plain_push (without_rows A.presentation))
          (meaning-here A is)
          g (inverse_list A is g gs) (identity_of A) u images (one-state A is) lu in
          let left : IsValue A g u v = record { inverses = inverse_list A is g gs; images = images; value = refl } in
          record {
            value = v;
            left = left;
            right = known w m v state (joined-trans (value-joined A is.presentation g u v lu left) joined);
          }

      reflat : {x y : List ℤ} → Joined A.presentation x y → Joined (flat (without_rows A.presentation)) x y
      reflat {x} {y} j = subst (λ (Q : Presentation). Joined Q x y) (sym (flat-without_rows A.presentation)) j

      joined-sides : (u w : List ℤ) → HasLetters B.presentation.rank u → HasLetters B.presentation.rank w → HaveOneValue A g u w
          → Joined (flat (without_rows A.presentation)) (sub u G) (sub w G)
      joined-sides u w l m one =
          reflat
          (joined-trans (joined-sym (value-joined A is.presentation g u one.value (letters-here u l) one.left))
          (value-joined A is.presentation g w one.value (letters-here w m) one.right))

      -- the letters of the sides
      power-left : (i : ℕ) → i < B.presentation.rank → HasLetters B.presentation.rank (copies (letter i) B.presentation.prime)
      power-left i l =
          HasLetters-copies B.presentation.rank (letter i) B.presentation.prime (HasLetters-letter B.presentation.rank i l)

      commutator-left : (j i : ℕ) → j < B.presentation.rank → i < j → HasLetters B.presentation.rank (comm (letter j) (letter i))
      commutator-left j i l m =
          HasLetters-comm B.presentation.rank (letter j) (letter i) (HasLetters-letter B.presentation.rank j l)
          (HasLetters-letter B.presentation.rank i (omega arith))

      abbrev Power-at : ℕ → Type 0
      Power-at n =
          Joined (flat (without_rows A.presentation)) (sub (copies (letter n) B.presentation.prime) G)
          (sub (power_word B.presentation n) G)

      abbrev Commutator-at : ℕ → ℕ → Type 0
      Commutator-at m n =
          Joined (flat (without_rows A.presentation)) (sub (comm (letter m) (letter n)) G)
          (sub (commutator_word B.presentation m n) G)

      image-letters : (i : ℕ) → i < length B.names → HasLetters B.presentation.rank (get_or (image_words B) i [])
      image-letters i l = let c = of.image_count in image_word-letters B of i (omega (arith, c, l))

      pub made : MakeMapOfWords (without_rows A.presentation) B F G → MakeMap B A f
      made m = record {
        elements = g;
        defined = values;
        satisfied = record {
          powers = λ i l.
              one-value (copies (letter i) B.presentation.prime) (power_word B.presentation i) (power-left i l)
              (HasLetters-power_word B.presentation of.presentation i l)
              (unflat A is (subst Power-at (let e : i + 1 - 1 ≡ i = omega arith in e) (m.powers i l)));
          commutators = λ j i l k.
              one-value (comm (letter j) (letter i)) (commutator_word B.presentation j i) (commutator-left j i l k)
              (HasLetters-commutator_word B.presentation of.presentation j i l k)
              (unflat A is (subst (λ (n : ℕ). Commutator-at j n) (let e : i + 1 - 1 ≡ i = omega arith in e)
              (subst (λ (n : ℕ). Commutator-at n (i + 1 - 1)) (let e : j + 1 - 1 ≡ j = omega arith in e) (m.commutators j i l k))));
        };
        images = λ i l.
            let within : i < length f = omega (arith, l, countf) in
            known (get_or (image_words B) i []) (image-letters i l) (get_or f i (identity_of A))
            (element-get_or P f (identity_of A) fs i within)
            (joined-trans (joined-from_equal P (sym (word-at A is f i within))) (joined-sym (unflat A is (m.images i l))));
      }

      module _ (m : MakeMap B A f) where
        same : m.elements ≡ g
        same = same-values f g m.elements gs values m.defined

        one-here : (u w : List ℤ) → HasLetters B.presentation.rank u → HasLetters B.presentation.rank w → HaveOneValue A m.elements u w
            → Joined (flat (without_rows A.presentation)) (sub u G) (sub w G)
        one-here u w l k h = joined-sides u w l k (subst (λ (e : List State). HaveOneValue A e u w) same h)

        pub words-make : MakeMapOfWords (without_rows A.presentation) B F G
        words-make = record {
          powers = λ i l.
              subst Power-at (let e : i ≡ i + 1 - 1 = omega arith in e)
              (one-here (copies (letter i) B.presentation.prime) (power_word B.presentation i) (power-left i l)
              (HasLetters-power_word B.presentation of.presentation i l) (m.satisfied.powers i l));
          commutators = λ j i l k.
              subst (λ (n : ℕ). Commutator-at (j + 1 - 1) n) (let e : i ≡ i + 1 - 1 = omega arith in e)
              (subst (λ (n : ℕ). Commutator-at n i) (let e : j ≡ j + 1 - 1 = omega arith in e)
              (one-here (comm (letter j) (letter i)) (commutator_word B.presentation j i) (commutator-left j i l k)
              (HasLetters-commutator_word B.presentation of.presentation j i l k) (m.satisfied.commutators j i l k)));
          images = λ i l.
              let within : i < length f = omega (arith, l, countf) in
              let u : List ℤ = get_or (image_words B) i [] in
              let v : State = get_or f i (identity_of A) in
              let is_value : IsValue A g u v = subst (λ (e : List State). IsValue A e u v) same (m.images i l) in
              reflat
              (joined-trans (joined-sym (value-joined A is.presentation g u v (letters-here u (image-letters i l)) is_value))
              (joined-from_equal P (sym (word-at A is f i within))));
        }
