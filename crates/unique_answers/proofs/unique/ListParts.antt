-- Parts of lists of exponents, and their words.
use Rattle.std.proofs.Common.{◌≡◌, ◌≢◌, ℕ, zero, suc, ◌+◌, ◌<◌, ◌≤◌, ℤ, List, [], ◌∷◌, ◌++◌, get_or, length, take, drop, replicate, refl}
use Rattle.std.proofs.Common.{ap, sym, ◌∙◌, arith}
use Rattle.std.proofs.lemmas.List.{length-take-le}
use Rattle.pq_base.specs.SignedWord.{copies}
use Rattle.pq_base.specs.Presentation.{letter, word_from}
use Rattle.pq_base.proofs.UnitLaws.{get_or-zeros}
use Rattle.pq_base.proofs.words.WordLaws.{word_from-append}
use Rattle.cover_quotient.proofs.canonical_answers.ClassesByWeight.{word_from-zero}

take-nil : (c : ℕ) → take {A = ℕ} c [] ≡ []
take-nil zero = refl
take-nil (suc c) = refl

-- the first entries, and those after them
pub take-add : (a c : ℕ) (e : List ℕ) → take (a + c) e ≡ take a e ++ take c (drop a e)
take-add zero c e = ap (λ (n : ℕ). take n e) (let same : 0 + c ≡ c = omega arith in same)
take-add (suc a) c [] = take-nil (suc a + c) ∙ sym (take-nil c)
take-add (suc a) c (x ∷ e) =
    ap (λ (n : ℕ). take n (x ∷ e)) (let same : suc a + c ≡ suc (a + c) = omega arith in same)
    ∙ ap (λ (l : List ℕ). x ∷ l) (take-add a c e)

pub word_from-take_add : (s a c : ℕ) (e : List ℕ) → a ≤ length e
    → word_from s (take (a + c) e) ≡ word_from s (take a e) ++ word_from (s + a) (take c (drop a e))
word_from-take_add s a c e l =
    let long : length (take a e) ≡ a = length-take-le a e l in
    ap (word_from s) (take-add a c e) ∙ word_from-append s (take a e) (take c (drop a e))
    ∙ ap (λ (n : ℕ). word_from s (take a e) ++ word_from (s + n) (take c (drop a e))) long

-- entries of a part are entries of the whole
pub take-drop_take : (c d n : ℕ) (e : List ℕ) → d + c ≤ n → take c (drop d (take n e)) ≡ take c (drop d e)
take-drop_take c d zero [] l = refl
take-drop_take zero zero zero (x ∷ e) l = refl
take-drop_take (suc c) zero zero (x ∷ e) l = absurd (omega arith)
take-drop_take c (suc d) zero (x ∷ e) l = absurd (omega arith)
take-drop_take c d (suc n) [] l = refl
take-drop_take zero zero (suc n) (x ∷ e) l = refl
take-drop_take (suc c) zero (suc n) (x ∷ e) l = ap (λ (r : List ℕ). x ∷ r) (take-drop_take c zero n e (omega arith))
take-drop_take c (suc d) (suc n) (x ∷ e) l = take-drop_take c d n e (omega arith)

-- an entry that is not 0 is one of those that stay
pub entry-taken : (n m : ℕ) (e : List ℕ) → get_or (take n e) m 0 ≢ 0 → (m < n) × (get_or e m 0 ≢ 0)
entry-taken zero m e h = absurd (h refl)
entry-taken (suc n) m [] h = absurd (h refl)
entry-taken (suc n) zero (x ∷ e) h = (omega arith, h)
entry-taken (suc n) (suc m) (x ∷ e) h = let rest = entry-taken n m e h in let below = rest.0 in (omega arith, rest.1)

-- a list whose entries are 0 from some place on
pub word_from-part : (s n : ℕ) (e : List ℕ) → ((i : ℕ) → n ≤ i → get_or e i 0 ≡ 0) → word_from s e ≡ word_from s (take n e)
word_from-part s zero e h = word_from-zero s e (λ i l. h i (omega arith))
word_from-part s (suc n) [] h = refl
word_from-part s (suc n) (x ∷ e) h =
    ap (λ (w : List ℤ). copies (letter s) x ++ w) (word_from-part (suc s) n e (λ i l. h (suc i) (omega arith)))

pub get_or-part_zeros : (n m : ℕ) (e : List ℕ) → n ≤ length e → ((i : ℕ) → n ≤ i → get_or e i 0 ≡ 0)
    → (i : ℕ) → get_or (take n e ++ replicate m 0) i 0 ≡ get_or e i 0
get_or-part_zeros zero m e l h i = get_or-zeros m i ∙ sym (h i (omega arith))
get_or-part_zeros (suc n) m [] l h i = absurd (omega arith)
get_or-part_zeros (suc n) m (x ∷ e) l h zero = refl
get_or-part_zeros (suc n) m (x ∷ e) l h (suc i) = get_or-part_zeros n m e (omega arith) (λ j b. h (suc j) (omega arith)) i

-- the word of a list is empty where its entries are 0
pub zeros-from_word : (s : ℕ) (e : List ℕ) → word_from s e ≡ [] → (i : ℕ) → get_or e i 0 ≡ 0
zeros-from_word s [] h i = refl
zeros-from_word s (zero ∷ e) h zero = refl
zeros-from_word s (zero ∷ e) h (suc i) = zeros-from_word (suc s) e h i
zeros-from_word s (suc x ∷ e) h i = absurd (some_letter h)
  where
    some_letter : {k : ℤ} {w : List ℤ} → k ∷ w ≡ [] → ⊥
    some_letter e = let long = ap length e in absurd (omega arith)
