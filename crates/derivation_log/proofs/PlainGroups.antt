-- Elements of an answer by the plain rule. Their powers are joined to the powers of their words. In a consistent answer they are equal
-- where their words are joined, each word has one, and a word has a value under elements where its word under theirs is joined to the
-- value's.
use Rattle.std.proofs.Common.{◌≡◌, ℕ, zero, suc, ◌<◌, ℤ, List, [], ◌∷◌, ◌++◌, length, get_or, map, refl, ap, ap₂, sym, ◌∙◌, subst, arith}
use Rattle.std.proofs.Common.{append_assoc}
use Rattle.pq_base.specs.SignedWord.{copies, comm, sub, HasLetters}
use Rattle.pq_base.specs.Presentation.{Presentation, IsNormal, normal_word}
use Rattle.pq_base.specs.Joined.{Joined, IsConsistent}
use Rattle.pq_base.specs.Answer.{Answer, IsAnswer, AreNormal, image_words}
use Rattle.pq_base.proofs.words.JoinedLaws.{joined-sym, joined-trans, joined-from_equal, joined-append, joined-append_right}
use Rattle.pq_base.proofs.words.JoinedLaws.{append-swap-joined}
use Rattle.pq_base.proofs.words.WordLaws.{append-copies}
use Rattle.pc_presentation.specs.Rowed.{RowedPresentation, IsRowed, without_rows, flat}
use Rattle.pc_presentation.specs.Collection.{State, IsState, plain_push, letters, spelled}
use Rattle.pc_presentation.specs.Arithmetic.{IsMeaning, HasArithmetic, IsQuotient, word_of, evaluate_from, AreImages}
use Rattle.pc_presentation.proofs.rows.FlatLaws.{without_rows-rowed, flat-without_rows}
use Rattle.pc_presentation.proofs.quotients.CollectorArithmetic.{collectors_have_arithmetic, plain_rule_is_a_meaning, identity-word}
use Rattle.pc_presentation.proofs.quotients.WordValues.{value-state}
use Rattle.derivation_log.specs.PlainValues.{bare_state, identity_of, plain_product, plain_power, IsValue, images_of, IsCarriedToIdentity}
use Rattle.pc_presentation.proofs.rows.RowLaws.{identity-state}
use Rattle.pc_presentation.proofs.consistent.LetterWords.{letters-spelled}
use Rattle.std.proofs.lemmas.List.{append-nil, length-map, get_or_default}
use Rattle.std.proofs.Math.ListN.{get_or-map}

no_entries : (x : List ℕ) → length x ≡ 0 → x ≡ []
no_entries [] e = refl
no_entries (a ∷ x) e = absurd (omega arith)

-- an element as a list of exponents
pub state-bare : (P : Presentation) (n : ℕ) (s : State) → IsState (without_rows P) n s → s ≡ bare_state s.exponents
state-bare P n s is = ap (λ (x : List ℕ). record { exponents = s.exponents; row = x }) (no_entries s.row is.row.count)

pub bare-state : (P : Presentation) (e : List ℕ) → IsNormal P.prime P.rank e → IsState (without_rows P) P.rank (bare_state e)
bare-state P e h = record { exponents = h; row = record { count = refl; below = tt } }

-- elements, each of which is a state
abbrev pub AreElements : Presentation → List State → Type 0
AreElements P [] = Unit {0}
AreElements P (s ∷ ss) = IsState (without_rows P) P.rank s × AreElements P ss

pub element-get_or : (P : Presentation) (f : List State) (d : State) → AreElements P f → (i : ℕ) → i < length f
    → IsState (without_rows P) P.rank (get_or f i d)
element-get_or P [] d are i l = absurd (omega arith)
element-get_or P (s ∷ f) d are zero l = are.0
element-get_or P (s ∷ f) d are (suc i) l = element-get_or P f d are.1 i (omega arith)

pub bare-elements : (P : Presentation) (es : List (List ℕ)) → AreNormal P.prime P.rank es → AreElements P (map bare_state es)
bare-elements P [] are = tt
bare-elements P (e ∷ es) are = (bare-state P e are.0, bare-elements P es are.1)

module _ (A : Answer) (is : IsAnswer A) where
  abbrev pub P : Presentation
  P = A.presentation

  abbrev pub Y : RowedPresentation
  Y = without_rows A.presentation

  pub rowed-here : IsRowed (without_rows A.presentation)
  rowed-here = without_rows-rowed P is.presentation

  pub meaning-here : IsMeaning (without_rows A.presentation) (plain_push (without_rows A.presentation))
  meaning-here = plain_rule_is_a_meaning Y rowed-here

  pub arithmetic-here : HasArithmetic (without_rows A.presentation) (plain_push (without_rows A.presentation))
  arithmetic-here = collectors_have_arithmetic Y rowed-here (plain_push Y) meaning-here

  two : 1 < P.prime
  two = let big = is.presentation.prime in omega arith

  pub one-state : IsState (without_rows A.presentation) A.presentation.rank (identity_of A)
  one-state = identity-state Y P.rank (let big = two in omega arith)

  -- the word of an element
  abbrev pub word : State → List ℤ
  word s = word_of (without_rows A.presentation) s

  pub bare-word : (e : List ℕ) → word_of (without_rows A.presentation) (bare_state e) ≡ normal_word e
  bare-word e = append-nil (letters (spelled 0 e)) ∙ letters-spelled 0 e

  pub one-word : word_of (without_rows A.presentation) (identity_of A) ≡ []
  one-word = identity-word Y rowed-here two (plain_push Y) meaning-here

  -- joined in the answer
  pub unflat : {u v : List ℤ} → Joined (flat (without_rows A.presentation)) u v → Joined A.presentation u v
  unflat {u} {v} c = subst (λ (Q : Presentation). Joined Q u v) (flat-without_rows P) c

  pub product-word : (u v : State) → IsState (without_rows A.presentation) A.presentation.rank u
      → IsState (without_rows A.presentation) A.presentation.rank v
      → Joined A.presentation (word_of (without_rows A.presentation) (plain_product A u v))
      (word_of (without_rows A.presentation) u ++ word_of (without_rows A.presentation) v)
  product-word u v h m = unflat (arithmetic-here.products u v h m)

  pub product-element : (u v : State) → IsState (without_rows A.presentation) A.presentation.rank u
      → IsState (without_rows A.presentation) A.presentation.rank v
      → IsState (without_rows A.presentation) A.presentation.rank (plain_product A u v)
  product-element u v h m = arithmetic-here.product_states u v h m

  -- the word of an element of a list
  pub word-at : (f : List State) (i : ℕ) → i < length f
      → get_or (map (word_of (without_rows A.presentation)) f) i [] ≡ word_of (without_rows A.presentation) (get_or f i (identity_of A))
  word-at f i l =
      let c : length (map word f) ≡ length f = length-map f word in
      get_or_default (map word f) i [] (word (identity_of A)) (omega arith) ∙ get_or-map word f i (identity_of A)

  -- powers
  pub power-element : (u : State) → IsState (without_rows A.presentation) A.presentation.rank u → (n : ℕ)
      → IsState (without_rows A.presentation) A.presentation.rank (plain_power A u n)
  power-element u h zero = one-state
  power-element u h (suc n) = product-element (plain_power A u n) u (power-element u h n) h

  pub power-joined : (u : State) → IsState (without_rows A.presentation) A.presentation.rank u → (n : ℕ)
      → Joined A.presentation (word_of (without_rows A.presentation) (plain_power A u n))
      (copies (word_of (without_rows A.presentation) u) n)
  power-joined u h zero = joined-from_equal P one-word
  power-joined u h (suc n) =
      joined-trans (product-word (plain_power A u n) u (power-element u h n) h)
      (joined-trans (joined-append_right (word u) (power-joined u h n)) (joined-from_equal P (sym (append-copies (word u) n))))

  -- the inverses of elements
  pub inverse-element : (u : State) → IsState (without_rows A.presentation) A.presentation.rank u
      → (e : State) × IsQuotient (without_rows A.presentation) (plain_push (without_rows A.presentation)) u (identity_of A) e
  inverse-element u h = arithmetic-here.quotients u (identity_of A) h one-state

  pub inverse_list : (f : List State) → AreElements P f → List State
  inverse_list [] are = []
  inverse_list (s ∷ f) are = (inverse-element s are.0).0 ∷ inverse_list f are.1

  inverse_list-at : (f : List State) (are : AreElements P f) (i : ℕ) → i < length f
      → IsQuotient Y (plain_push Y) (get_or f i (identity_of A)) (identity_of A) (get_or (inverse_list f are) i (identity_of A))
  unfolding inverse_list inverse-element
  inverse_list-at [] are i l = absurd (omega arith)
  inverse_list-at (s ∷ f) are zero l = (inverse-element s are.0).1
  inverse_list-at (s ∷ f) are (suc i) l = inverse_list-at f are.1 i (omega arith)

  pub images-inverted : (f : List State) (are : AreElements P f) → AreImages Y (plain_push Y) f (inverse_list f are)
  images-inverted f are = record {
    states = element-get_or P f (identity_of A) are;
    inverse_states = λ i l. (inverse_list-at f are i l).state;
    inverses = λ i l. (inverse_list-at f are i l).product;
  }

  module _ (consistent : IsConsistent A.presentation) where
    -- elements with joined words are equal
    pub same-elements : (u v : State) → IsState (without_rows A.presentation) A.presentation.rank u
        → IsState (without_rows A.presentation) A.presentation.rank v
        → Joined A.presentation (word_of (without_rows A.presentation) u) (word_of (without_rows A.presentation) v) → u ≡ v
    same-elements u v h m c =
        let a : u ≡ bare_state u.exponents = state-bare P P.rank u h in
        let b : v ≡ bare_state v.exponents = state-bare P P.rank v m in
        a
        ∙ ap bare_state (consistent.unique u.exponents v.exponents h.exponents m.exponents
        (joined-trans (joined-from_equal P (sym (bare-word u.exponents) ∙ sym (ap (word_of Y) a)))
        (joined-trans c (joined-from_equal P (ap (word_of Y) b ∙ bare-word v.exponents)))))
        ∙ sym b

    -- what is joined to the commutator of two elements is the element behind their product the other way round
    pub commutator-known : (u v s : State) → IsState (without_rows A.presentation) A.presentation.rank u
        → IsState (without_rows A.presentation) A.presentation.rank v → IsState (without_rows A.presentation) A.presentation.rank s
        → Joined A.presentation (word_of (without_rows A.presentation) s)
        (comm (word_of (without_rows A.presentation) u) (word_of (without_rows A.presentation) v))
        → plain_product A (plain_product A v u) s ≡ plain_product A u v
    commutator-known u v s us vs ss spelt =
        let vu = product-element v u vs us in
        same-elements (plain_product A (plain_product A v u) s) (plain_product A u v)
        (product-element (plain_product A v u) s vu ss) (product-element u v us vs)
        (joined-trans (product-word (plain_product A v u) s vu ss)
        (joined-trans (joined-append (product-word v u vs us) spelt)
        (joined-trans (joined-from_equal P (append_assoc (word v) (word u) (comm (word u) (word v))))
        (joined-trans (joined-sym (append-swap-joined P (word u) (word v))) (joined-sym (product-word u v us vs))))))

    -- and what is joined to a power is the power
    pub power-known : (u s : State) (n : ℕ) → IsState (without_rows A.presentation) A.presentation.rank u
        → IsState (without_rows A.presentation) A.presentation.rank s
        → Joined A.presentation (word_of (without_rows A.presentation) s) (copies (word_of (without_rows A.presentation) u) n)
        → plain_power A u n ≡ s
    power-known u s n us ss spelt =
        same-elements (plain_power A u n) s (power-element u us n) ss (joined-trans (power-joined u us n) (joined-sym spelt))

    -- each word has an element
    pub record IsElementOf (w : List ℤ) (s : State) : Type 0 where
      pub state : IsState (without_rows A.presentation) A.presentation.rank s
      pub joined : Joined A.presentation w (word_of (without_rows A.presentation) s)

    pub element : (w : List ℤ) → HasLetters A.presentation.rank w → (s : State) × IsElementOf w s
    element w l =
        let r = consistent.reached w l in (
          bare_state r.0,
          record {
            state = bare-state P r.0 r.1.normal;
            joined = joined-trans r.1.joined (joined-from_equal P (sym (bare-word r.0)));
          },
        )

    -- a value is known by its word
    pub value-known : (f : List State) → AreElements A.presentation f → (w : List ℤ) → HasLetters (length f) w → (v : State)
        → IsState (without_rows A.presentation) A.presentation.rank v
        → Joined A.presentation (word_of (without_rows A.presentation) v) (sub w (map (word_of (without_rows A.presentation)) f))
        → IsValue A f w v
    value-known f are w l v h c =
        let g : List State = inverse_list f are in
        let images = images-inverted f are in
        let x : State = evaluate_from Y (plain_push Y) f (inverse_list f are) (identity_of A) w in
        let state : IsState Y P.rank x =
        value-state Y rowed-here two (plain_push Y) meaning-here f g (identity_of A) w images one-state l in
        let joined : Joined P (word_of Y x) (word_of Y (identity_of A) ++ sub w (map (word_of Y) f)) =
        unflat (arithmetic-here.values f g (identity_of A) w images one-state l) in
        record {
          inverses = g;
          images = images;
          value =
              same-elements x v state h
              (joined-trans joined
              (joined-trans (joined-from_equal P (ap (λ (u : List ℤ). u ++ sub w (map (word_of Y) f)) one-word)) (joined-sym c)));
        }

    -- the words of the images
    images-words : (es : List (List ℕ)) → map (word_of Y) (map bare_state es) ≡ map normal_word es
    images-words [] = refl
    images-words (e ∷ es) = ap₂ (λ (w : List ℤ) (ws : List (List ℤ)). w ∷ ws) (bare-word e) (images-words es)

    pub words-of_images : map (word_of (without_rows A.presentation)) (images_of A) ≡ image_words A
    words-of_images = images-words A.images

    pub elements-of_images : AreElements A.presentation (images_of A)
    elements-of_images = bare-elements P A.images is.images

    -- the images carry the words that the answer kills to the identity
    pub dead-carried : (w : List ℤ) → HasLetters (length A.names) w → Joined A.presentation (sub w (image_words A)) []
        → IsCarriedToIdentity A w
    dead-carried w l dies =
        let long : length (images_of A) ≡ length A.names = length-map A.images bare_state ∙ is.image_count in
        value-known (images_of A) elements-of_images w
        (subst (λ (n : ℕ). HasLetters n w) (sym long) l) (identity_of A) one-state
        (joined-trans (joined-from_equal A.presentation one-word)
        (joined-trans (joined-sym dies)
        (joined-from_equal A.presentation (ap (sub w) (sym words-of_images)))))
