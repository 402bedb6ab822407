-- Tokens read as a word exactly where they are those of a tree, its names are known, and every trial keeps its limit;
-- and the word is what the tree means.
use Rattle.std.proofs.Common.{◌≡◌, ◌≤◌, ℕ, ℤ, List, [], ◌∷◌, ◌++◌, length, Option, Some, None, refl, sym, ap, ap₂, subst, ◌∙◌, arith}
use Rattle.pq_base.specs.SignedWord.{pow, comm, conj}
use Rattle.pq_base.specs.LPresentation.{AreDistinct}
use Rattle.lpres_reader.specs.declared.token.Symbol.TheVariants.{Star, Caret, Comma, OpenRound, CloseRound, OpenSquare, CloseSquare}
use Rattle.lpres_reader.specs.Tokens.{Token, name, number, symbol}
use Rattle.lpres_reader.specs.Words.{letter_limit, exponent_limit, ReadsExponent, unsigned, negative, ReadsWord, one_factor, product}
use Rattle.lpres_reader.specs.Words.{ReadsFactor, one_atom, power, conjugate, ReadsAtom, empty_word, one_unit, ReadsUnit, generator, group}
use Rattle.lpres_reader.specs.Words.{commutator, ReadsEntries, two_entries, more_entries}
use Rattle.lpres_reader.specs.Trees.{Exponent, plus, minus, WordTree, alone, times, FactorTree, one, unit, to_power, conjugated, UnitTree}
use Rattle.lpres_reader.specs.Trees.{named, round, square, EntriesTree, two, and_one, exponent_tokens, word_tokens, factor_tokens}
use Rattle.lpres_reader.specs.Trees.{unit_tokens, entries_tokens, place_of, letter_at, exponent_size, exponent_value, word_meaning}
use Rattle.lpres_reader.specs.Trees.{factor_meaning, unit_meaning, entries_meaning, AreKnown}
use Rattle.lpres_reader.specs.Trials.{Trial, AreKept, letters_tried, word_trials, factor_trials, unit_trials, entries_trials}
use Rattle.lpres_reader.proofs.names.Places.{place_of-known}

pub known_append : (names : List (List ℕ)) (us vs : List Token) → AreKnown names us → AreKnown names vs → AreKnown names (us ++ vs)
known_append names [] vs h k = k
known_append names (name n ∷ us) vs h k = (h.0, known_append names us vs h.1 k)
known_append names (number d ∷ us) vs h k = known_append names us vs h k
known_append names (symbol s ∷ us) vs h k = known_append names us vs h k

pub known_parts : (names : List (List ℕ)) (us vs : List Token) → AreKnown names (us ++ vs) → AreKnown names us × AreKnown names vs
known_parts names [] vs h = (tt, h)
known_parts names (name n ∷ us) vs h = let p = known_parts names us vs h.1 in ((h.0, p.0), p.1)
known_parts names (number d ∷ us) vs h = known_parts names us vs h
known_parts names (symbol s ∷ us) vs h = known_parts names us vs h

pub kept_append : (ts us : List Trial) → AreKept ts → AreKept us → AreKept (ts ++ us)
kept_append [] us h k = k
kept_append (t ∷ ts) us h k = (h.0, kept_append ts us h.1 k)

pub kept_parts : (ts us : List Trial) → AreKept (ts ++ us) → AreKept ts × AreKept us
kept_parts [] us h = (tt, h)
kept_parts (t ∷ ts) us h = let p = kept_parts ts us h.1 in ((h.0, p.0), p.1)

-- a tree of these tokens over known names, with its limits, that means w
pub record TreeOf {T : Type 0} (tokens : T → List Token) (trials : T → List Trial) (meaning : T → List ℤ) (names : List (List ℕ))
    (ts : List Token) (w : List ℤ) : Type 0 where
  pub tree : T
  pub spelled : ts ≡ tokens tree
  pub known : AreKnown names ts
  pub kept : AreKept (trials tree)
  pub means : w ≡ meaning tree

module _ (names : List (List ℕ)) (distinct : AreDistinct names) where
  abbrev pub WordOf : List Token → List ℤ → Type 0
  WordOf = TreeOf word_tokens (word_trials names) (word_meaning names) names

  abbrev pub FactorOf : List Token → List ℤ → Type 0
  FactorOf = TreeOf factor_tokens (factor_trials names) (factor_meaning names) names

  abbrev pub UnitOf : List Token → List ℤ → Type 0
  UnitOf = TreeOf unit_tokens (unit_trials names) (unit_meaning names) names

  abbrev pub EntriesOf : List Token → List ℤ → Type 0
  EntriesOf = TreeOf entries_tokens (entries_trials names) (entries_meaning names) names

  -- a tree of two parts, with a symbol between them and the trial of their letters behind
  pub joined_trials : (ps qs : List Trial) (w v : List ℤ) → AreKept ps → AreKept qs → w ≡ v → length w ≤ letter_limit
      → AreKept (ps ++ (qs ++ letters_tried v))
  joined_trials ps qs w v ha hb e short =
      kept_append ps (qs ++ letters_tried v) ha
      (kept_append qs (letters_tried v) hb (subst (λ (x : List ℤ). length x ≤ letter_limit) e short, tt))

  exponent_of : {ts : List Token} {n : ℤ} → ReadsExponent ts n
      → (x : Exponent) × (ts ≡ exponent_tokens x) × (exponent_size x ≤ exponent_limit) × (n ≡ exponent_value x) × AreKnown names ts
  exponent_of (unsigned digits small e) = (plus digits, refl, small, e, tt)
  exponent_of (negative digits small e) = (minus digits, refl, small, e, tt)

  mutual
    pub word_of : {ts : List Token} {w : List ℤ} → ReadsWord names ts w → WordOf ts w
    word_of (one_factor d) =
        let f = factor_of d in
        record { tree = alone f.tree; spelled = f.spelled; known = f.known; kept = f.kept; means = f.means }
    word_of (product us vs u v e d1 d2 m short) =
        let a = word_of d1 in
        let b = factor_of d2 in
        let means = m ∙ ap₂ (λ (x y : List ℤ). x ++ y) a.means b.means in
        record {
          tree = times a.tree b.tree;
          spelled = e ∙ ap₂ (λ (x y : List Token). x ++ symbol Star ∷ y) a.spelled b.spelled;
          known = subst (AreKnown names) (sym e) (known_append names us (symbol Star ∷ vs) a.known b.known);
          kept = joined_trials (word_trials names a.tree) (factor_trials names b.tree) _ _ a.kept b.kept means short;
          means = means;
        }

    pub factor_of : {ts : List Token} {w : List ℤ} → ReadsFactor names ts w → FactorOf ts w
    factor_of (one_atom d) = atom_of d
    factor_of (power us vs u n e d1 d2 m short) =
        let a = factor_of d1 in
        let x = exponent_of d2 in
        let means = m ∙ ap₂ pow a.means x.3 in
        record {
          tree = to_power a.tree x.0;
          spelled = e ∙ ap₂ (λ (x y : List Token). x ++ symbol Caret ∷ y) a.spelled x.1;
          known = subst (AreKnown names) (sym e) (known_append names us (symbol Caret ∷ vs) a.known x.4);
          kept = kept_append (factor_trials names a.tree) _ a.kept (x.2, (subst (λ (x : List ℤ). length x ≤ letter_limit) means short, tt));
          means = means;
        }
    factor_of (conjugate us vs u v e d1 d2 m short) =
        let a = factor_of d1 in
        let b = unit_of d2 in
        let means = m ∙ ap₂ conj a.means b.means in
        record {
          tree = conjugated a.tree b.tree;
          spelled = e ∙ ap₂ (λ (x y : List Token). x ++ symbol Caret ∷ y) a.spelled b.spelled;
          known = subst (AreKnown names) (sym e) (known_append names us (symbol Caret ∷ vs) a.known b.known);
          kept = joined_trials (factor_trials names a.tree) (unit_trials names b.tree) _ _ a.kept b.kept means short;
          means = means;
        }

    pub atom_of : {ts : List Token} {w : List ℤ} → ReadsAtom names ts w → FactorOf ts w
    atom_of empty_word = record { tree = one; spelled = refl; known = tt; kept = tt; means = refl }
    atom_of (one_unit d) =
        let u = unit_of d in
        record { tree = unit u.tree; spelled = u.spelled; known = u.known; kept = u.kept; means = u.means }

    pub unit_of : {ts : List Token} {w : List ℤ} → ReadsUnit names ts w → UnitOf ts w
    unit_of (generator k n short is) =
        record {
          tree = named n;
          spelled = refl;
          known = ((k, short, is), tt);
          kept = tt;
          means = sym (ap letter_at (place_of-known names n k distinct short is));
        }
    unit_of (group us e d) =
        let a = word_of d in
        record {
          tree = round a.tree;
          spelled = e ∙ ap (λ (x : List Token). symbol OpenRound ∷ (x ++ symbol CloseRound ∷ [])) a.spelled;
          known = subst (AreKnown names) (sym e) (known_append names us (symbol CloseRound ∷ []) a.known tt);
          kept = a.kept;
          means = a.means;
        }
    unit_of (commutator us e d) =
        let a = entries_of d in
        record {
          tree = square a.tree;
          spelled = e ∙ ap (λ (x : List Token). symbol OpenSquare ∷ (x ++ symbol CloseSquare ∷ [])) a.spelled;
          known = subst (AreKnown names) (sym e) (known_append names us (symbol CloseSquare ∷ []) a.known tt);
          kept = a.kept;
          means = a.means;
        }

    pub entries_of : {ts : List Token} {w : List ℤ} → ReadsEntries names ts w → EntriesOf ts w
    entries_of (two_entries us vs u v e d1 d2 m short) =
        let a = word_of d1 in
        let b = word_of d2 in
        let means = m ∙ ap₂ comm a.means b.means in
        record {
          tree = two a.tree b.tree;
          spelled = e ∙ ap₂ (λ (x y : List Token). x ++ symbol Comma ∷ y) a.spelled b.spelled;
          known = subst (AreKnown names) (sym e) (known_append names us (symbol Comma ∷ vs) a.known b.known);
          kept = joined_trials (word_trials names a.tree) (word_trials names b.tree) _ _ a.kept b.kept means short;
          means = means;
        }
    entries_of (more_entries us vs u v e d1 d2 m short) =
        let a = entries_of d1 in
        let b = word_of d2 in
        let means = m ∙ ap₂ comm a.means b.means in
        record {
          tree = and_one a.tree b.tree;
          spelled = e ∙ ap₂ (λ (x y : List Token). x ++ symbol Comma ∷ y) a.spelled b.spelled;
          known = subst (AreKnown names) (sym e) (known_append names us (symbol Comma ∷ vs) a.known b.known);
          kept = joined_trials (entries_trials names a.tree) (word_trials names b.tree) _ _ a.kept b.kept means short;
          means = means;
        }

  letter_short : (o : Option ℕ) → length (letter_at o) ≤ letter_limit
  letter_short None = omega arith
  letter_short (Some k) = omega arith

  reads_exponent : (x : Exponent) → exponent_size x ≤ exponent_limit → ReadsExponent (exponent_tokens x) (exponent_value x)
  reads_exponent (plus digits) small = unsigned digits small refl
  reads_exponent (minus digits) small = negative digits small refl

  -- a word that keeps its trials is short
  mutual
    pub word_short : (t : WordTree) → AreKept (word_trials names t) → length (word_meaning names t) ≤ letter_limit
    word_short (alone f) h = factor_short f h
    word_short (times w f) h =
        let last =
        kept_parts (factor_trials names f) (letters_tried (word_meaning names (times w f))) (kept_parts (word_trials names w) _ h).1 in
        last.1.0

    factor_short : (t : FactorTree) → AreKept (factor_trials names t) → length (factor_meaning names t) ≤ letter_limit
    factor_short one h = omega arith
    factor_short (unit u) h = unit_short u h
    factor_short (to_power f e) h = (kept_parts (factor_trials names f) _ h).1.1.0
    factor_short (conjugated f u) h =
        let last =
        kept_parts (unit_trials names u) (letters_tried (factor_meaning names (conjugated f u)))
        (kept_parts (factor_trials names f) _ h).1 in
        last.1.0

    unit_short : (t : UnitTree) → AreKept (unit_trials names t) → length (unit_meaning names t) ≤ letter_limit
    unit_short (named n) h = letter_short (place_of names n)
    unit_short (round w) h = word_short w h
    unit_short (square e) h = entries_short e h

    entries_short : (t : EntriesTree) → AreKept (entries_trials names t) → length (entries_meaning names t) ≤ letter_limit
    entries_short (two u v) h =
        let last =
        kept_parts (word_trials names v) (letters_tried (entries_meaning names (two u v))) (kept_parts (word_trials names u) _ h).1 in
        last.1.0
    entries_short (and_one e v) h =
        let last =
        kept_parts (word_trials names v) (letters_tried (entries_meaning names (and_one e v)))
        (kept_parts (entries_trials names e) _ h).1 in
        last.1.0

  -- and back: a tree over known names that keeps its trials is read as what it means
  mutual
    pub reads_word : (t : WordTree) → AreKnown names (word_tokens t) → AreKept (word_trials names t)
        → ReadsWord names (word_tokens t) (word_meaning names t)
    reads_word (alone f) k h = one_factor (reads_factor f k h)
    reads_word (times w f) k h =
        let known = known_parts names (word_tokens w) (symbol Star ∷ factor_tokens f) k in
        let kept = kept_parts (word_trials names w) _ h in
        let more = kept_parts (factor_trials names f) (letters_tried (word_meaning names (times w f))) kept.1 in
        product (word_tokens w) (factor_tokens f) (word_meaning names w) (factor_meaning names f) refl (reads_word w known.0 kept.0)
        (reads_factor f known.1 more.0) refl more.1.0

    pub reads_factor : (t : FactorTree) → AreKnown names (factor_tokens t) → AreKept (factor_trials names t)
        → ReadsFactor names (factor_tokens t) (factor_meaning names t)
    reads_factor one k h = one_atom empty_word
    reads_factor (unit u) k h = one_atom (one_unit (reads_unit u k h))
    reads_factor (to_power f e) k h =
        let known = known_parts names (factor_tokens f) (symbol Caret ∷ exponent_tokens e) k in
        let kept = kept_parts (factor_trials names f) _ h in
        power (factor_tokens f) (exponent_tokens e) (factor_meaning names f) (exponent_value e) refl (reads_factor f known.0 kept.0)
        (reads_exponent e kept.1.0) refl kept.1.1.0
    reads_factor (conjugated f u) k h =
        let known = known_parts names (factor_tokens f) (symbol Caret ∷ unit_tokens u) k in
        let kept = kept_parts (factor_trials names f) _ h in
        let more = kept_parts (unit_trials names u) (letters_tried (factor_meaning names (conjugated f u))) kept.1 in
        conjugate (factor_tokens f) (unit_tokens u) (factor_meaning names f) (unit_meaning names u) refl (reads_factor f known.0 kept.0)
        (reads_unit u known.1 more.0) refl more.1.0

    pub reads_unit : (t : UnitTree) → AreKnown names (unit_tokens t) → AreKept (unit_trials names t)
        → ReadsUnit names (unit_tokens t) (unit_meaning names t)
    reads_unit (named n) k h =
        subst (ReadsUnit names (name n ∷ [])) (sym (ap letter_at (place_of-known names n k.0.0 distinct k.0.1 k.0.2)))
        (generator k.0.0 n k.0.1 k.0.2)
    reads_unit (round w) k h = group (word_tokens w) refl (reads_word w (known_parts names (word_tokens w) (symbol CloseRound ∷ []) k).0 h)
    reads_unit (square e) k h =
        commutator (entries_tokens e) refl (reads_entries e (known_parts names (entries_tokens e) (symbol CloseSquare ∷ []) k).0 h)

    pub reads_entries : (t : EntriesTree) → AreKnown names (entries_tokens t) → AreKept (entries_trials names t)
        → ReadsEntries names (entries_tokens t) (entries_meaning names t)
    reads_entries (two u v) k h =
        let known = known_parts names (word_tokens u) (symbol Comma ∷ word_tokens v) k in
        let kept = kept_parts (word_trials names u) _ h in
        let more = kept_parts (word_trials names v) (letters_tried (entries_meaning names (two u v))) kept.1 in
        two_entries (word_tokens u) (word_tokens v) (word_meaning names u) (word_meaning names v) refl (reads_word u known.0 kept.0)
        (reads_word v known.1 more.0) refl more.1.0
    reads_entries (and_one e v) k h =
        let known = known_parts names (entries_tokens e) (symbol Comma ∷ word_tokens v) k in
        let kept = kept_parts (entries_trials names e) _ h in
        let more = kept_parts (word_trials names v) (letters_tried (entries_meaning names (and_one e v))) kept.1 in
        more_entries (entries_tokens e) (word_tokens v) (entries_meaning names e) (word_meaning names v) refl
        (reads_entries e known.0 kept.0) (reads_word v known.1 more.0) refl more.1.0
