-- A word is read from its text syllable by syllable, and in one way only.
use Rattle.std.proofs.Common.{◌≡◌, ◌<◌, ◌≤◌, ℕ, true, List, [], ◌∷◌, ◌++◌, length, refl, ap, sym, subst, ◌∙◌, arith, append_assoc}
use Rattle.std.proofs.Common.{append-nil, Bor}
use Rattle.std.specs.Prelude.{codes, Option, Some, None, MatchOption, option_map}
use Rattle.pc_presentation.specs.declared.syllable.Syllable.{Syllable}
use Rattle.pc_presentation.specs.Syllable.{AreSyllables}
use Rattle.answer_text.specs.Words.{syllable_text, word_text, IsWritten}
use Rattle.answer_text.proofs.Splits.{avoids, split-same}
use Rattle.answer_text.proofs.texts.WordTexts.{star, avoids-syllable, syllable_text-same}
use Rattle.answer_text.proofs.texts.PieceTexts.{avoids-not}

-- what is left is the text of these syllables
abbrev pub LeftIs : Option (List ℕ) → List Syllable → Type 0
LeftIs None v = v ≡ []
LeftIs (Some t) v = (1 ≤ length v) × (t ≡ word_text v)

-- the words of the text go on, behind the syllables that were read, with what is left
pub record HasRead (p n after : ℕ) (text : List ℕ) (last : ℕ) (word : List Syllable) (rest : Option (List ℕ)) : Type 0 where
  pub sound : (v : List Syllable) → AreSyllables p n last v → LeftIs rest v
      → AreSyllables p n after (word ++ v) × (text ≡ word_text (word ++ v))
  pub complete : (w : List Syllable) → AreSyllables p n after w → text ≡ word_text w
      → (v : List Syllable) × AreSyllables p n last v × LeftIs rest v

some-syllable : (w : List Syllable) (text : List ℕ) → ¬ (text ≡ codes "1") → text ≡ word_text w → 1 ≤ length w
some-syllable [] text other e = absurd (other e)
some-syllable (s ∷ w) text other e = omega arith

pub HasRead-start : (p n after : ℕ) (text : List ℕ) → ¬ (text ≡ codes "1") → HasRead p n after text after [] (Some text)
HasRead-start p n after text other = record {
  sound = λ v a l. (a, l.1);
  complete = λ w a e. (w, a, (some-syllable w text other e, e));
}

abbrev pub IsCut : List ℕ → List ℕ → Option (List ℕ) → Type 0
IsCut left piece None = piece ≡ left
IsCut left piece (Some more) = left ≡ piece ++ 42 ∷ more

pub IsCut-of : (left piece : List ℕ) (more : Option (Bor (List ℕ))) → MatchOption more (piece ≡ left) (λ m. left ≡ piece ++ 42 ∷ m.now)
    → IsCut left piece (option_map (λ t. t.now) more)
IsCut-of left piece None h = h
IsCut-of left piece (Some m) h = h

first-cut : (s : Syllable) (vs : List Syllable) (left piece : List ℕ) (more : Option (List ℕ)) → IsCut left piece more
    → avoids 42 piece ≡ true → IsWritten s
    → left ≡ word_text (s ∷ vs) → (piece ≡ syllable_text s) × LeftIs more vs
first-cut s [] left piece None cut a w e = (cut ∙ e ∙ append-nil (syllable_text s), refl)
first-cut s (t ∷ ts) left piece None cut a w e =
    absurd (avoids-not 42 (syllable_text s) (word_text (t ∷ ts)) (ap (λ (x : List ℕ). avoids 42 x) (sym (cut ∙ e)) ∙ a))
first-cut s [] left piece (Some more) cut a w e =
    absurd (avoids-not 42 piece more
    (ap (λ (x : List ℕ). avoids 42 x) (sym cut ∙ e ∙ append-nil (syllable_text s)) ∙ avoids-syllable 42 s star w))
first-cut s (t ∷ ts) left piece (Some more) cut a w e =
    let parts = split-same 42 piece (syllable_text s) more (word_text (t ∷ ts)) a (avoids-syllable 42 s star w) (sym cut ∙ e) in
    (parts.0, (omega arith, parts.1))

cut-word : (s : Syllable) (v : List Syllable) (left piece : List ℕ) (more : Option (List ℕ)) → IsCut left piece more
    → piece ≡ syllable_text s → LeftIs more v → left ≡ word_text (s ∷ v)
cut-word s v left piece None cut e l =
    sym cut ∙ e ∙ sym (append-nil (syllable_text s)) ∙ ap (λ (x : List Syllable). word_text (s ∷ x)) (sym l)
cut-word s [] left piece (Some more) cut e l = absurd (omega (arith, l.0))
cut-word s (t ∷ ts) left piece (Some more) cut e l =
    cut ∙ ap (λ (x : List ℕ). x ++ 42 ∷ more) e ∙ ap (λ (x : List ℕ). syllable_text s ++ 42 ∷ x) l.1

-- the first syllable of what is left
abbrev FirstLeft : ℕ → ℕ → ℕ → List ℕ → Option (List ℕ) → Type 0
FirstLeft p n last piece more =
    (s : Syllable) × (vs : List Syllable) × IsWritten s × (last < s.generator) × (s.generator ≤ n) × (s.exponent < p)
    × AreSyllables p n s.generator vs × (piece ≡ syllable_text s) × LeftIs more vs

first-of : (p n last : ℕ) (left piece : List ℕ) (more : Option (List ℕ)) (v : List Syllable) → p ≤ 100 → n < 1000 → IsCut left piece more
    → avoids 42 piece ≡ true
    → AreSyllables p n last v → LeftIs (Some left) v → FirstLeft p n last piece more
first-of p n last left piece more [] small limit cut a r l = absurd (omega (arith, l.0))
first-of p n last left piece more (s ∷ vs) small limit cut a r l =
    let written : IsWritten s = (omega (arith, r.1), r.2, omega (arith, r.3)) in
    let first = first-cut s vs left piece more cut a written l.1 in
    (s, vs, written, r.0, r.1, r.3, r.4, first.0, first.1)

pub HasRead-first : (p n after : ℕ) (text : List ℕ) (last : ℕ) (word : List Syllable) (left piece : List ℕ) (more : Option (List ℕ))
    → p ≤ 100 → n < 1000
    → HasRead p n after text last word (Some left) → IsCut left piece more → avoids 42 piece ≡ true
    → (w : List Syllable) → AreSyllables p n after w → text ≡ word_text w → FirstLeft p n last piece more
HasRead-first p n after text last word left piece more small limit h cut a w r e =
    let found = h.complete w r e in
    first-of p n last left piece more found.0 small limit cut a found.1 found.2

pub HasRead-next : (p n after : ℕ) (text : List ℕ) (last : ℕ) (word : List Syllable) (left piece : List ℕ) (more : Option (List ℕ))
    (s : Syllable) → p ≤ 100 → n < 1000
    → HasRead p n after text last word (Some left) → IsCut left piece more → avoids 42 piece ≡ true → IsWritten s → piece ≡ syllable_text s
    → last < s.generator → s.generator ≤ n → s.exponent < p → HasRead p n after text s.generator (word ++ s ∷ []) more
HasRead-next p n after text last word left piece more s small limit h cut a w e rises inside low = record {
  sound = λ v r l.
      let old = h.sound (s ∷ v) (rises, inside, w.1, low, r) (omega arith, cut-word s v left piece more cut e l) in
      let same : word ++ (s ∷ v) ≡ (word ++ s ∷ []) ++ v = sym (append_assoc word (s ∷ []) v) in
      (subst (λ (x : List Syllable). AreSyllables p n after x) same old.0, old.1 ∙ ap (λ (x : List Syllable). word_text x) same);
  complete = λ u r g.
      let first = HasRead-first p n after text last word left piece more small limit h cut a u r g in
      let same : first.0 ≡ s = syllable_text-same first.0 s first.2 w (sym first.7 ∙ e) in
      (first.1, subst (λ (x : Syllable). AreSyllables p n x.generator first.1) same first.6, first.8);
}

-- where the first syllable of what is left can't be read, or is out of range, the text is no word's
pub no-syllable : (p n after : ℕ) (text : List ℕ) (last : ℕ) (word : List Syllable) (left piece : List ℕ) (more : Option (List ℕ)) → p ≤ 100
    → n < 1000
    → HasRead p n after text last word (Some left) → IsCut left piece more → avoids 42 piece ≡ true
    → ((s : Syllable) → IsWritten s → ¬ (piece ≡ syllable_text s))
    → (w : List Syllable) → AreSyllables p n after w → ¬ (text ≡ word_text w)
no-syllable p n after text last word left piece more small limit h cut a none w r e =
    let first = HasRead-first p n after text last word left piece more small limit h cut a w r e in
    none first.0 first.2 first.7

pub no-further : (p n after : ℕ) (text : List ℕ) (last : ℕ) (word : List Syllable) (left piece : List ℕ) (more : Option (List ℕ))
    (s : Syllable) → p ≤ 100 → n < 1000
    → HasRead p n after text last word (Some left) → IsCut left piece more → avoids 42 piece ≡ true → IsWritten s → piece ≡ syllable_text s
    → (last < s.generator → s.generator ≤ n → s.exponent < p → ⊥)
    → (w : List Syllable) → AreSyllables p n after w → ¬ (text ≡ word_text w)
no-further p n after text last word left piece more s small limit h cut a w e out u r g =
    let first = HasRead-first p n after text last word left piece more small limit h cut a u r g in
    let same : first.0 ≡ s = syllable_text-same first.0 s first.2 w (sym first.7 ∙ e) in
    let low : s.exponent < p = subst (λ (x : Syllable). x.exponent < p) same first.5 in
    out (subst (λ (x : Syllable). last < x.generator) same first.3) (subst (λ (x : Syllable). x.generator ≤ n) same first.4) low

pub HasRead-end : (p n after : ℕ) (text : List ℕ) (last : ℕ) (word : List Syllable) → HasRead p n after text last word None
    → AreSyllables p n after word × (text ≡ word_text word)
HasRead-end p n after text last word h =
    let old = h.sound [] tt refl in (
      subst (λ (x : List Syllable). AreSyllables p n after x) (append-nil word) old.0,
      old.1 ∙ ap (λ (x : List Syllable). word_text x) (append-nil word),
    )
