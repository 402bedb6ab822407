-- Sparse words and lists of exponents are two forms of one thing: each function undoes the other, and both have the same
-- letters.
use Rattle.std.proofs.Common.{◌≡◌, ◌≢◌, ℕ, zero, suc, ◌+◌, ◌-◌, ◌<◌, ◌≤◌, ℤ, pos, Bool, true, false, cond, eqb, List, [], ◌∷◌, ◌++◌, length}
use Rattle.std.proofs.Common.{get_or, take, refl, ap, sym, ◌∙◌, subst, arith, append_assoc}
use Rattle.std.proofs.lemmas.List.{append-nil, take_more}
use borrow.Author.Tests.{eqb-true, eqb-false, eq-eqb}
use Rattle.pq_base.specs.SignedWord.{copies, sub}
use Rattle.pq_base.proofs.words.WordLaws.{sub-letter}
use Rattle.pq_base.specs.Table.{AllBelow}
use Rattle.pq_base.specs.Presentation.{word_from}
use Rattle.pq_base.specs.Answer.{word_at}
use Rattle.pc_presentation.specs.declared.syllable.Syllable.{Syllable}
use Rattle.pc_presentation.specs.Syllable.{syllable, first_exponent, after_first, spread, syllables_of, AreSyllables, letters_of}
use Rattle.pc_presentation.specs.Syllable.{SparseWordsAreExponents}

pub length-spread : (n k : ℕ) (w : List Syllable) → length (spread n k w) ≡ n
length-spread zero k w = refl
length-spread (suc n) k w = ap suc (length-spread n (suc k) (after_first k w))

pub length-syllables_of : (k : ℕ) (e : List ℕ) → length (syllables_of k e) ≤ length e
length-syllables_of k [] = omega arith
length-syllables_of k (zero ∷ es) = let rest = length-syllables_of (suc k) es in omega arith
length-syllables_of k (suc e ∷ es) = let rest = length-syllables_of (suc k) es in omega arith

-- a word whose first generator isn't before place k
abbrev pub StartsFrom : ℕ → List Syllable → Type 0
StartsFrom k [] = Unit {0}
StartsFrom k (s ∷ w) = k < s.generator

starts-syllables_of : (j k : ℕ) (e : List ℕ) → j ≤ k → StartsFrom j (syllables_of k e)
starts-syllables_of j k [] h = tt
starts-syllables_of j k (zero ∷ es) h = starts-syllables_of j (suc k) es (omega arith)
starts-syllables_of j k (suc e ∷ es) h = omega arith

eqb-later : (k g : ℕ) → suc k < g → eqb g (suc k) ≡ false
eqb-later k g h = elim (eqb g (suc k)) as (λ b. eqb g (suc k) ≡ b → b ≡ false) [
  | true ↦ λ e. absurd (omega (arith, eqb-true g (suc k) e))
  | false ↦ λ e. refl
] refl

first_exponent-later : (k : ℕ) (w : List Syllable) → StartsFrom (suc k) w → first_exponent k w ≡ 0
first_exponent-later k [] h = refl
first_exponent-later k (s ∷ w) h = ap (λ (b : Bool). cond b s.exponent 0) (eqb-later k s.generator h)

after_first-later : (k : ℕ) (w : List Syllable) → StartsFrom (suc k) w → after_first k w ≡ w
after_first-later k [] h = refl
after_first-later k (s ∷ w) h = ap (λ (b : Bool). cond b w (s ∷ w)) (eqb-later k s.generator h)

spread-later : (n k : ℕ) (w : List Syllable) → StartsFrom (suc k) w → spread (suc n) k w ≡ 0 ∷ spread n (suc k) w
spread-later n k w h =
    ap (λ (x : ℕ). x ∷ spread n (suc k) (after_first k w)) (first_exponent-later k w h)
    ∙ ap (λ (v : List Syllable). 0 ∷ spread n (suc k) v) (after_first-later k w h)

spread-now : (n k g x : ℕ) (w : List Syllable) → g ≡ suc k → spread (suc n) k (syllable g x ∷ w) ≡ x ∷ spread n (suc k) w
spread-now n k g x w h = ap (λ (b : Bool). cond b x 0 ∷ spread n (suc k) (cond b w (syllable g x ∷ w))) (eq-eqb g (suc k) h)

pub spread-syllables_of : (k : ℕ) (e : List ℕ) → spread (length e) k (syllables_of k e) ≡ e
spread-syllables_of k [] = refl
spread-syllables_of k (zero ∷ es) =
    spread-later (length es) k (syllables_of (suc k) es) (starts-syllables_of (suc k) (suc k) es (omega arith))
    ∙ ap (λ (v : List ℕ). 0 ∷ v) (spread-syllables_of (suc k) es)
spread-syllables_of k (suc e ∷ es) =
    spread-now (length es) k (suc k) (suc e) (syllables_of (suc k) es) refl
    ∙ ap (λ (v : List ℕ). suc e ∷ v) (spread-syllables_of (suc k) es)

pub AreSyllables-weaken : (p n j k : ℕ) (w : List Syllable) → j ≤ k → AreSyllables p n k w → AreSyllables p n j w
AreSyllables-weaken p n j k [] h a = tt
AreSyllables-weaken p n j k (s ∷ w) h a = (omega arith, a.1, a.2, a.3, a.4)

pub AreSyllables-syllables_of : (p n k : ℕ) (e : List ℕ) → k + length e ≤ n → AllBelow p e → AreSyllables p n k (syllables_of k e)
AreSyllables-syllables_of p n k [] h b = tt
AreSyllables-syllables_of p n k (zero ∷ es) h b =
    AreSyllables-weaken p n k (suc k) (syllables_of (suc k) es) (omega arith) (AreSyllables-syllables_of p n (suc k) es (omega arith) b.1)
AreSyllables-syllables_of p n k (suc e ∷ es) h b =
    (omega arith, omega arith, omega arith, b.0, AreSyllables-syllables_of p n (suc k) es (omega arith) b.1)

-- what a word from place k on is: it starts later, or it has the generator at place k and goes on later
pub data Split (p n k : ℕ) : List Syllable → Type 0 where
  later : (w : List Syllable) → StartsFrom (suc k) w → AreSyllables p n (suc k) w → Split p n k w
  now : (x : ℕ) (w : List Syllable) → suc x < p → k < n → AreSyllables p n (suc k) w → Split p n k (syllable (suc k) (suc x) ∷ w)

split_at : (p n k g x : ℕ) (w : List Syllable) → g ≡ suc k → 1 ≤ x → x < p → g ≤ n → AreSyllables p n g w → Split p n k (syllable g x ∷ w)
split_at p n k g zero w e h b l a = absurd (omega arith)
split_at p n k g (suc x) w e h b l a =
    subst (λ (i : ℕ). Split p n k (syllable i (suc x) ∷ w)) (sym e)
    (now x w (omega arith) (omega arith) (subst (λ (i : ℕ). AreSyllables p n i w) e a))

pub split : (p n k : ℕ) (w : List Syllable) → AreSyllables p n k w → Split p n k w
split p n k [] a = later [] tt tt
split p n k (s ∷ w) a = elim (eqb s.generator (suc k)) as (λ b. eqb s.generator (suc k) ≡ b → Split p n k (s ∷ w)) [
  | true ↦ λ e. split_at p n k s.generator s.exponent w (eqb-true s.generator (suc k) e) a.2 a.3 a.1 a.4
  | false ↦ λ e.
      let other : s.generator ≢ suc k = eqb-false s.generator (suc k) e in
      let after : suc k < s.generator = omega arith in
      later (s ∷ w) after (after, a.1, a.2, a.3, a.4)
] refl

syllables_of-split : (p n m k : ℕ) (w : List Syllable)
    → ((v : List Syllable) → AreSyllables p n (suc k) v → syllables_of (suc k) (spread m (suc k) v) ≡ v)
    → Split p n k w → syllables_of k (spread (suc m) k w) ≡ w
syllables_of-split p n m k w more (later w' h a) =
    ap (syllables_of k) (spread-later m k w' h) ∙ more w' a
syllables_of-split p n m k w more (now x w' b l a) =
    ap (syllables_of k) (spread-now m k (suc k) (suc x) w' refl)
    ∙ ap (λ (v : List Syllable). syllable (suc k) (suc x) ∷ v) (more w' a)

pub syllables_of-spread : (p n m k : ℕ) (w : List Syllable) → k + m ≡ n → AreSyllables p n k w → syllables_of k (spread m k w) ≡ w
syllables_of-spread p n zero k [] e a = refl
syllables_of-spread p n zero k (s ∷ w) e a = absurd (omega arith)
syllables_of-spread p n (suc m) k w e a =
    syllables_of-split p n m k w (λ v b. syllables_of-spread p n m (suc k) v (omega arith) b) (split p n k w a)

AllBelow-split : (p n m k : ℕ) (w : List Syllable) → 1 ≤ p
    → ((v : List Syllable) → AreSyllables p n (suc k) v → AllBelow p (spread m (suc k) v))
    → Split p n k w → AllBelow p (spread (suc m) k w)
AllBelow-split p n m k w h more (later w' s a) =
    subst (AllBelow p) (sym (spread-later m k w' s)) (omega arith, more w' a)
AllBelow-split p n m k w h more (now x w' b l a) =
    subst (AllBelow p) (sym (spread-now m k (suc k) (suc x) w' refl)) (b, more w' a)

pub AllBelow-spread : (p n m k : ℕ) (w : List Syllable) → 1 ≤ p → AreSyllables p n k w → AllBelow p (spread m k w)
AllBelow-spread p n zero k w h a = tt
AllBelow-spread p n (suc m) k w h a =
    AllBelow-split p n m k w h (λ v b. AllBelow-spread p n m (suc k) v h b) (split p n k w a)

-- both forms have the same letters
pub letters_of-syllables_of : (k : ℕ) (e : List ℕ) → letters_of (syllables_of k e) ≡ word_from k e
letters_of-syllables_of k [] = refl
letters_of-syllables_of k (zero ∷ es) = letters_of-syllables_of (suc k) es
letters_of-syllables_of k (suc e ∷ es) =
    ap (λ (w : List ℤ). copies (pos (suc k) ∷ []) (suc e) ++ w) (letters_of-syllables_of (suc k) es)

-- the letters of two words, one behind the other
pub letters_of-append : (u v : List Syllable) → letters_of (u ++ v) ≡ letters_of u ++ letters_of v
letters_of-append [] v = refl
letters_of-append (s ∷ u) v =
    ap (λ (w : List ℤ). copies (pos s.generator ∷ []) s.exponent ++ w) (letters_of-append u v)
    ∙ sym (append_assoc (copies (pos s.generator ∷ []) s.exponent) (letters_of u) (letters_of v))

-- the letters of the first syllables, one syllable more
pub letters_of-more : (w : List Syllable) (i : ℕ) (d : Syllable) → i < length w
    → letters_of (take (i + 1) w) ≡ letters_of (take i w) ++ copies (pos (get_or w i d).generator ∷ []) (get_or w i d).exponent
letters_of-more w i d l =
    ap letters_of (take_more w i d l)
    ∙ letters_of-append (take i w) (get_or w i d ∷ [])
    ∙ ap (λ (x : List ℤ). letters_of (take i w) ++ x) (append-nil (copies (pos (get_or w i d).generator ∷ []) (get_or w i d).exponent))

-- an entry of a list of words, counted from 1
pub word_at-place : (words : List (List ℤ)) (g : ℕ) → 1 ≤ g → word_at words g ≡ get_or words (g - 1) []
word_at-place words zero l = absurd (omega arith)
word_at-place words (suc g) l = let place : suc g - 1 ≡ g = omega arith in ap (λ (n : ℕ). get_or words n []) (sym place)

-- the value of the letter of a generator, counted from 1
pub sub-number : (g : ℕ) (words : List (List ℤ)) → 1 ≤ g → sub (pos g ∷ []) words ≡ get_or words (g - 1) []
sub-number g words l =
    let e : g ≡ suc (g - 1) = omega arith in
    ap (λ (n : ℕ). sub (pos n ∷ []) words) e ∙ sub-letter (g - 1) words

pub sparse_words_are_exponents : SparseWordsAreExponents
sparse_words_are_exponents = record {
  spread_undoes = spread-syllables_of;
  spread_is_undone = syllables_of-spread;
  sparse = AreSyllables-syllables_of;
  normal = λ p n m k w h a. record { count = length-spread m k w; below = AllBelow-spread p n m k w h a };
  same_letters = letters_of-syllables_of;
}
