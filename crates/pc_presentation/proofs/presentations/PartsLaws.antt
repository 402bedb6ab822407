-- The conditions of an answer as they are tested, and as they are stated of the answer that the parts make.
use Rattle.std.proofs.Common.{◌≡◌, ℕ, zero, suc, ◌+◌, ◌-◌, ◌<◌, ◌≤◌, true, List, [], ◌∷◌, ◌&&◌, get_or, length, map, refl, ap, sym, ◌∙◌}
use Rattle.std.proofs.Common.{arith}
use Rattle.std.specs.Prelude.{nat_le}
use Rattle.std.specs.declared.vec.Vec.{Vec}
use Rattle.std.specs.Global.{Global}
use Rattle.std.proofs.lemmas.Bool.{and_parts, and_from, leb-true, le-leb}
use Rattle.std.proofs.lemmas.List.{get_or-map, length-map}
use Rattle.pq_base.specs.Limits.{max_class}
use Rattle.pq_base.specs.Presentation.{letter, word_from}
use Rattle.pq_base.specs.Answer.{AreWeights, AreNormal, last_or_zero}
use Rattle.pc_presentation.specs.declared.syllable.Syllable.{Syllable}
use Rattle.pc_presentation.specs.Syllable.{syllable, spread, syllables_of, letters_of, IsGenerator}
use Rattle.pc_presentation.specs.Parts.{words_of, AreImages, are_weights}
use Rattle.pc_presentation.proofs.presentations.SyllableLaws.{length-spread, AllBelow-spread, syllables_of-spread, letters_of-syllables_of}

pub last_or_zero-last : (w : ℕ) (ws : List ℕ) → last_or_zero (w ∷ ws) ≡ get_or (w ∷ ws) (length ws) 0
last_or_zero-last w [] = refl
last_or_zero-last w (v ∷ vs) = last_or_zero-last v vs

pub last_or_zero-get_or : (ws : List ℕ) → last_or_zero ws ≡ get_or ws (length ws - 1) 0
last_or_zero-get_or [] = refl
last_or_zero-get_or (w ∷ ws) =
    let place : length ws ≡ suc (length ws) - 1 = omega arith in
    last_or_zero-last w ws ∙ ap (λ (k : ℕ). get_or (w ∷ ws) k 0) place

pub AreWeights-tested : (least : ℕ) (ws : List ℕ) → are_weights least ws ≡ true → AreWeights least ws
AreWeights-tested least [] h = tt
AreWeights-tested least (w ∷ ws) h =
    let first = and_parts (nat_le least w) (nat_le w max_class && are_weights w ws) h in
    let second = and_parts (nat_le w max_class) (are_weights w ws) first.1 in
    (leb-true least w first.0, leb-true w max_class second.0, AreWeights-tested w ws second.1)

pub are_weights-AreWeights : (least : ℕ) (ws : List ℕ) → AreWeights least ws → are_weights least ws ≡ true
are_weights-AreWeights least [] h = refl
are_weights-AreWeights least (w ∷ ws) h =
    and_from (nat_le least w) (nat_le w max_class && are_weights w ws) (le-leb least w h.0)
    (and_from (nat_le w max_class) (are_weights w ws) (le-leb w max_class h.1) (are_weights-AreWeights w ws h.2))

-- the word that a vector holds
pub words_of-at : (images : List (Vec Syllable Global)) (i : ℕ) (v : Vec Syllable Global) (d : List Syllable) → i < length images
    → v ≡ get_or images i v → get_or (words_of images) i d ≡ v.items
words_of-at images i v d h e =
    get_or-map (λ (u : Vec Syllable Global). u.items) images i v d h ∙ ap (λ (u : Vec Syllable Global). u.items) (sym e)

pub length-words_of : (images : List (Vec Syllable Global)) → length (words_of images) ≡ length images
length-words_of images = length-map images (λ (v : Vec Syllable Global). v.items)

-- images, as they are stored and as exponents
pub image_at : (p n k : ℕ) (words : List (List Syllable)) → AreImages p n words → k < length words
    → get_or words k [] ≡ syllables_of 0 (get_or (map (spread n 0) words) k [])
image_at p n k words a h =
    let total : 0 + n ≡ n = omega arith in
    sym (ap (syllables_of 0) (get_or-map (spread n 0) words k [] [] h)
    ∙ syllables_of-spread p n n 0 (get_or words k []) total (a k [] h))

pub AreNormal-spread : (p n : ℕ) (words : List (List Syllable)) → 1 ≤ p → AreImages p n words → AreNormal p n (map (spread n 0) words)
AreNormal-spread p n [] h a = tt
AreNormal-spread p n (w ∷ ws) h a = (
  record {
    count = length-spread n 0 w;
    below = AllBelow-spread p n n 0 w h (a 0 [] (omega arith));
  },
  AreNormal-spread p n ws h (λ k d l. a (suc k) d (omega arith)),
)

-- a word is a generator alone exactly where its letters are that generator alone
letters_of-nil : (k : ℕ) (e : List ℕ) → letters_of (syllables_of k e) ≡ [] → syllables_of k e ≡ []
letters_of-nil k [] h = refl
letters_of-nil k (zero ∷ es) h = letters_of-nil (suc k) es h
letters_of-nil k (suc e ∷ es) h = cc

one_letter : (a k e : ℕ) (rest : List Syllable) → letters_of (syllable (suc a) (suc e) ∷ rest) ≡ letter k
    → (letters_of rest ≡ [] → rest ≡ []) → IsGenerator (suc k) (syllable (suc a) (suc e) ∷ rest)
one_letter a k zero rest h empty =
    let same : a ≡ k = cc in
    let nothing : letters_of rest ≡ [] = cc in
    ap (λ (i : ℕ). syllable (suc i) 1 ∷ rest) same ∙ ap (λ (w : List Syllable). syllable (suc k) 1 ∷ w) (empty nothing)
one_letter a k (suc e) rest h empty = cc

generator_from_letters : (k c : ℕ) (e : List ℕ) → letters_of (syllables_of c e) ≡ letter k → IsGenerator (suc k) (syllables_of c e)
generator_from_letters k c [] h = cc
generator_from_letters k c (zero ∷ es) h = generator_from_letters k (suc c) es h
generator_from_letters k c (suc e ∷ es) h = one_letter c k e (syllables_of (suc c) es) h (letters_of-nil (suc c) es)

pub IsGenerator-word : (k c : ℕ) (e : List ℕ) → word_from c e ≡ letter k → IsGenerator (suc k) (syllables_of c e)
IsGenerator-word k c e h = generator_from_letters k c e (letters_of-syllables_of c e ∙ h)

pub word_from-IsGenerator : (k c : ℕ) (e : List ℕ) → IsGenerator (suc k) (syllables_of c e) → word_from c e ≡ letter k
word_from-IsGenerator k c e h = sym (letters_of-syllables_of c e) ∙ ap letters_of h
