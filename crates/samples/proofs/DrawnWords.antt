-- The words that are drawn have as many letters as numbers are drawn, and these are letters of the first two generators.
use Rattle.std.proofs.Common.{◌≡◌, ℕ, zero, suc, ◌/◌, ◌%◌, ℤ, List, [], ◌∷◌, ◌++◌, length, All, refl, ap, append_assoc, sym, ◌∙◌, arith}
use Rattle.std.proofs.lemmas.List.{append-nil}
use Rattle.std.proofs.lemmas.List.Elements.{All-nil, All-cons}
use Rattle.pq_base.specs.SignedWord.{IsLetter, HasLetters}
use Rattle.samples.specs.Samples.{next_number, letter_for, letter_of_number, number_after, drawn_word, drawn_words}
use Rattle.samples.specs.Pieces.{IsDrawn, AreDrawn}

-- step by step
pub number_after-zero : (s : ℕ) → number_after zero s ≡ s
unfolding number_after
number_after-zero s = refl

pub number_after-suc : (k s : ℕ) → number_after (suc k) s ≡ number_after k (next_number s)
unfolding number_after
number_after-suc k s = refl

pub drawn_word-zero : (s : ℕ) → drawn_word zero s ≡ []
unfolding drawn_word
drawn_word-zero s = refl

pub drawn_word-suc : (k s : ℕ) → drawn_word (suc k) s ≡ letter_of_number (next_number s) ∷ drawn_word k (next_number s)
unfolding drawn_word
drawn_word-suc k s = refl

pub drawn_words-zero : (s : ℕ) → drawn_words zero s ≡ []
unfolding drawn_words
drawn_words-zero s = refl

pub drawn_words-suc : (k s : ℕ) → drawn_words (suc k) s ≡ drawn_word 200 s ∷ drawn_words k (number_after 200 s)
unfolding drawn_words
drawn_words-suc k s = refl

letter_for-IsLetter : (k : ℕ) → IsLetter 2 (letter_for k)
letter_for-IsLetter zero = omega arith
letter_for-IsLetter (suc zero) = omega arith
letter_for-IsLetter (suc (suc zero)) = omega arith
letter_for-IsLetter (suc (suc (suc k))) = omega arith

pub HasLetters-drawn_word : (k s : ℕ) → HasLetters 2 (drawn_word k s)
HasLetters-drawn_word zero s = rw (drawn_word-zero s) tt
HasLetters-drawn_word (suc k) s =
    rw (drawn_word-suc k s) (letter_for-IsLetter ((next_number s / 65536) % 4), HasLetters-drawn_word k (next_number s))

pub length-drawn_word : (k s : ℕ) → length (drawn_word k s) ≡ k
length-drawn_word zero s = rw (drawn_word-zero s) refl
length-drawn_word (suc k) s = rw (drawn_word-suc k s) (ap suc (length-drawn_word k (next_number s)))

All-drawn_words : (k s : ℕ) → All IsDrawn (drawn_words k s)
All-drawn_words zero s = rw (drawn_words-zero s) (All-nil IsDrawn)
All-drawn_words (suc k) s =
    rw (drawn_words-suc k s)
    (All-cons IsDrawn (drawn_word 200 s) (drawn_words k (number_after 200 s))
    (record { letters = HasLetters-drawn_word 200 s; count = length-drawn_word 200 s }) (All-drawn_words k (number_after 200 s)))

length-drawn_words : (k s : ℕ) → length (drawn_words k s) ≡ k
length-drawn_words zero s = rw (drawn_words-zero s) refl
length-drawn_words (suc k) s = rw (drawn_words-suc k s) (ap suc (length-drawn_words k (number_after 200 s)))

pub drawn_words_are_drawn : (s : ℕ) → AreDrawn (drawn_words 30 s)
drawn_words_are_drawn s = record { each = All-drawn_words 30 s; count = length-drawn_words 30 s }

-- one letter more
pub word_more : (done whole : List ℤ) (k s t : ℕ) (x : ℤ) → t ≡ next_number s → x ≡ letter_of_number t
    → done ++ drawn_word (suc k) s ≡ whole
    → (done ++ x ∷ []) ++ drawn_word k t ≡ whole
word_more done whole k s t x number letter so_far =
    rw (append_assoc, letter, number, ← drawn_word-suc k s) so_far

-- one word more
pub words_more : (done whole : List (List ℤ)) (k s t : ℕ) (w : List ℤ) → t ≡ number_after 200 s → w ≡ drawn_word 200 s
    → done ++ drawn_words (suc k) s ≡ whole
    → (done ++ w ∷ []) ++ drawn_words k t ≡ whole
words_more done whole k s t w number word so_far =
    rw (append_assoc, number, word, ← drawn_words-suc k s) so_far

-- no letter more
pub word_whole : (done : List ℤ) (s k t : ℕ) → done ++ drawn_word 0 s ≡ drawn_word k t → done ≡ drawn_word k t
word_whole done s k t so_far = sym (append-nil done) ∙ ap (λ (w : List ℤ). done ++ w) (sym (drawn_word-zero s)) ∙ so_far

pub words_whole : (done : List (List ℤ)) (s k t : ℕ) → done ++ drawn_words 0 s ≡ drawn_words k t → done ≡ drawn_words k t
words_whole done s k t so_far = sym (append-nil done) ∙ ap (λ (ws : List (List ℤ)). done ++ ws) (sym (drawn_words-zero s)) ∙ so_far
