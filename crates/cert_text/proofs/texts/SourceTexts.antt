-- The text of a source tells the source, and is one line.
use Rattle.std.proofs.Common.{◌≡◌, ◌<◌, ◌≤◌, ℕ, Bool, true, false, ◌&&◌, ◌||◌, List, [], ◌∷◌, ◌++◌, get_or, drop, length, decimal, refl, ap}
use Rattle.std.proofs.Common.{ap₂, sym, ◌∙◌, append-nil, arith}
use Rattle.std.specs.Prelude.{leb, eqb}
use Rattle.std.proofs.lemmas.Bool.{leb-true, and_parts}
use Rattle.pq_base.specs.Table.{AllBelow}
use Rattle.pq_base.specs.LPresentation.{LPresentation}
use Rattle.pc_presentation.specs.declared.overlap.Overlap.{Overlap}
use Rattle.pc_presentation.specs.declared.overlap.Overlap.TheVariants.{Triple, Left, Right, Own}
use Rattle.lpres_reader.specs.Limits.{IsWithinLimits}
use Rattle.derivation_log.specs.declared.source.Run.{Run}
use Rattle.derivation_log.specs.declared.source.Run.TheVariants as run
use Rattle.derivation_log.specs.declared.source.RowSource.{RowSource}
use Rattle.derivation_log.specs.declared.source.RowSource.TheVariants.{Test, Fixed, Iterated}
use Rattle.derivation_log.specs.CertificateForms.{max_number, is_number_from, is_written_overlap, is_one_of, are_each_one_of, is_source_in}
use Rattle.answer_text.proofs.Splits.{first-same, first-apart, avoids, avoids-append}
use Rattle.cert_text.specs.CertificateText.{numbers_text, overlap_text, along_text, source_text, source_line}
pub use Rattle.cert_text.specs.WrittenNumbers.{overlap_numbers, IsWrittenSource}
use Rattle.cert_text.proofs.texts.NumbersRead.{AllBelow-wider}
use Rattle.cert_text.proofs.texts.NumberTexts.{greatest, StartsWell, is_no_digit, decimal-told, numbers_text-same, avoids-numbers}

pub number-below : (least n : ℕ) → is_number_from least n ≡ true → n < greatest
number-below least n h = let most : n ≤ max_number = leb-true n max_number (and_parts (leb least n) (leb n max_number) h).1 in omega arith

one_of-below : (m n : ℕ) → m ≤ 4096 → is_one_of m n ≡ true → n < greatest
one_of-below m n few h = let most : n ≤ m = leb-true n m (and_parts (leb 1 n) (leb n m) h).1 in omega arith

one_of-small : (m n : ℕ) → m ≤ 16 → is_one_of m n ≡ true → n < 256
one_of-small m n few h = let most : n ≤ m = leb-true n m (and_parts (leb 1 n) (leb n m) h).1 in omega arith

each-below : (m : ℕ) (s : List ℕ) → m ≤ 16 → are_each_one_of m s ≡ true → AllBelow 256 s
each-below m [] few h = tt
each-below m (e ∷ s) few h =
    let parts = and_parts (is_one_of m e) (are_each_one_of m s) h in
    (one_of-small m e few parts.0, each-below m s few parts.1)

two-below : (j i : ℕ) → (is_number_from 1 j && is_number_from 1 i) ≡ true → AllBelow greatest (j ∷ i ∷ [])
two-below j i h =
    let parts = and_parts (is_number_from 1 j) (is_number_from 1 i) h in
    (number-below 1 j parts.0, (number-below 1 i parts.1, tt))

pub overlap-below : (o : Overlap) → is_written_overlap o ≡ true → AllBelow greatest (overlap_numbers o)
overlap-below (Triple k j i) h =
    let parts = and_parts (is_number_from 1 k) (is_number_from 1 j && is_number_from 1 i) h in
    (number-below 1 k parts.0, two-below j i parts.1)
overlap-below (Left j i) h = two-below j i h
overlap-below (Right j i) h = two-below j i h
overlap-below (Own i) h = (number-below 1 i h, tt)

-- the entry at a place of lists that are the same
entry : (n : ℕ) (xs ys : List ℕ) → xs ≡ ys → get_or xs n 0 ≡ get_or ys n 0
entry n xs ys e = ap (λ (l : List ℕ). get_or l n 0) e

-- behind keywords of some length, the numbers are the same
behind : (k : ℕ) (xs ys ms ns : List ℕ) → drop k xs ≡ numbers_text ms → drop k ys ≡ numbers_text ns → AllBelow greatest ms
    → AllBelow greatest ns → xs ≡ ys → ms ≡ ns
behind k xs ys ms ns f g a b e = numbers_text-same ms ns a b (sym f ∙ ap (λ (t : List ℕ). drop k t) e ∙ g)

overlap_text-same : (o q : Overlap) → AllBelow greatest (overlap_numbers o) → AllBelow greatest (overlap_numbers q)
    → overlap_text o ≡ overlap_text q → o ≡ q
overlap_text-same (Triple k j i) (Triple c b a) h g e =
    let same : k ∷ j ∷ i ∷ [] ≡ c ∷ b ∷ a ∷ [] = behind 6 _ _ (k ∷ j ∷ i ∷ []) (c ∷ b ∷ a ∷ []) refl refl h g e in
    ap (λ (ns : List ℕ). Triple (get_or ns 0 0) (get_or ns 1 0) (get_or ns 2 0)) same
overlap_text-same (Left j i) (Left b a) h g e =
    ap (λ (ns : List ℕ). Left (get_or ns 0 0) (get_or ns 1 0)) (behind 4 _ _ (j ∷ i ∷ []) (b ∷ a ∷ []) refl refl h g e)
overlap_text-same (Right j i) (Right b a) h g e =
    ap (λ (ns : List ℕ). Right (get_or ns 0 0) (get_or ns 1 0)) (behind 5 _ _ (j ∷ i ∷ []) (b ∷ a ∷ []) refl refl h g e)
overlap_text-same (Own i) (Own a) h g e = ap (λ (ns : List ℕ). Own (get_or ns 0 0)) (behind 3 _ _ (i ∷ []) (a ∷ []) refl refl h g e)
overlap_text-same (Triple k j i) (Left b a) h g e = absurd (first-apart 116 108 _ _ refl e)
overlap_text-same (Triple k j i) (Right b a) h g e = absurd (first-apart 116 114 _ _ refl e)
overlap_text-same (Triple k j i) (Own a) h g e = absurd (first-apart 116 111 _ _ refl e)
overlap_text-same (Left j i) (Triple c b a) h g e = absurd (first-apart 108 116 _ _ refl e)
overlap_text-same (Left j i) (Right b a) h g e = absurd (first-apart 108 114 _ _ refl e)
overlap_text-same (Left j i) (Own a) h g e = absurd (first-apart 108 111 _ _ refl e)
overlap_text-same (Right j i) (Triple c b a) h g e = absurd (first-apart 114 116 _ _ refl e)
overlap_text-same (Right j i) (Left b a) h g e = absurd (first-apart 114 108 _ _ refl e)
overlap_text-same (Right j i) (Own a) h g e = absurd (first-apart 114 111 _ _ refl e)
overlap_text-same (Own i) (Triple c b a) h g e = absurd (first-apart 111 116 _ _ refl e)
overlap_text-same (Own i) (Left b a) h g e = absurd (first-apart 111 108 _ _ refl e)
overlap_text-same (Own i) (Right b a) h g e = absurd (first-apart 111 114 _ _ refl e)

-- the first byte of an overlap's text
abbrev is_overlap_byte : ℕ → Bool
is_overlap_byte b = eqb b 116 || (eqb b 108 || (eqb b 114 || eqb b 111))

other_byte : (a c : ℕ) (us vs : List ℕ) → is_overlap_byte a ≡ true → is_overlap_byte c ≡ false → a ∷ us ≡ c ∷ vs → ⊥
other_byte a c us vs h g e = let bad : true ≡ false = sym h ∙ ap is_overlap_byte (first-same a c us vs e) ∙ g in cc

pub overlap-apart : (o : Overlap) (c : ℕ) (us : List ℕ) → is_overlap_byte c ≡ false → overlap_text o ≡ c ∷ us → ⊥
overlap-apart (Triple k j i) c us h e = other_byte 116 c _ us refl h e
overlap-apart (Left j i) c us h e = other_byte 108 c _ us refl h e
overlap-apart (Right j i) c us h e = other_byte 114 c _ us refl h e
overlap-apart (Own i) c us h e = other_byte 111 c _ us refl h e

pub along-start : (s : List ℕ) → StartsWell is_no_digit (along_text s)
along-start [] = tt
along-start (e ∷ s) = refl

pub along_text-same : (s t : List ℕ) → AllBelow greatest s → AllBelow greatest t → along_text s ≡ along_text t → s ≡ t
along_text-same [] [] a b e = refl
along_text-same [] (n ∷ t) a b e = cc
along_text-same (m ∷ s) [] a b e = cc
along_text-same (m ∷ s) (n ∷ t) a b e = numbers_text-same (m ∷ s) (n ∷ t) a b (ap (λ (x : List ℕ). drop 6 x) e)

pub IsWrittenSource-in : (L : LPresentation) (r : Run) (a : RowSource) → IsWithinLimits L → is_source_in L r a ≡ true → IsWrittenSource a
IsWrittenSource-in L r (Test o) limits h = overlap-below o h
IsWrittenSource-in L run.Iterated (Fixed i) limits h = cc
IsWrittenSource-in L run.Whole (Fixed i) limits h = one_of-below (length L.fixed) i limits.fixed h
IsWrittenSource-in L r (Iterated i s) limits h =
    let parts = and_parts (is_one_of (length L.iterated) i) (are_each_one_of (length L.endos) s) h in
    (one_of-below (length L.iterated) i limits.iterated parts.0, each-below (length L.endos) s limits.endos parts.1)

pub source_text-same : (a b : RowSource) → IsWrittenSource a → IsWrittenSource b → source_text a ≡ source_text b → a ≡ b
source_text-same (Test o) (Test q) h g e = ap (λ (x : Overlap). Test x) (overlap_text-same o q h g e)
source_text-same (Fixed i) (Fixed j) h g e =
    ap (λ (ns : List ℕ). Fixed (get_or ns 0 0)) (behind 5 _ _ (i ∷ []) (j ∷ []) refl refl (h, tt) (g, tt) e)
source_text-same (Iterated i s) (Iterated j t) h g e =
    let shifted : decimal i ++ along_text s ≡ decimal j ++ along_text t =
    ap (λ (x : List ℕ). x ++ along_text s) (sym (append-nil (decimal i))) ∙ ap (λ (x : List ℕ). drop 9 x) e
    ∙ ap (λ (x : List ℕ). x ++ along_text t) (append-nil (decimal j)) in
    let parts = decimal-told i j (along_text s) (along_text t) h.0 g.0 (along-start s) (along-start t) shifted in
    ap₂ (λ (n : ℕ) (p : List ℕ). Iterated n p) parts.0 (along_text-same s t (AllBelow-wider s h.1) (AllBelow-wider t g.1) parts.1)
source_text-same (Test o) (Fixed j) h g e = absurd (overlap-apart o 102 _ refl e)
source_text-same (Test o) (Iterated j t) h g e = absurd (overlap-apart o 105 _ refl e)
source_text-same (Fixed i) (Test q) h g e = absurd (overlap-apart q 102 _ refl (sym e))
source_text-same (Fixed i) (Iterated j t) h g e = absurd (first-apart 102 105 _ _ refl e)
source_text-same (Iterated i s) (Test q) h g e = absurd (overlap-apart q 105 _ refl (sym e))
source_text-same (Iterated i s) (Fixed j) h g e = absurd (first-apart 105 102 _ _ refl e)

pub source_line-same : (a b : RowSource) → IsWrittenSource a → IsWrittenSource b → source_line a ≡ source_line b → a ≡ b
source_line-same a b h g e = source_text-same a b h g (ap (λ (t : List ℕ). drop 7 t) e)

avoids-overlap : (o : Overlap) → avoids 10 (overlap_text o) ≡ true
avoids-overlap (Triple k j i) = avoids-numbers (k ∷ j ∷ i ∷ [])
avoids-overlap (Left j i) = avoids-numbers (j ∷ i ∷ [])
avoids-overlap (Right j i) = avoids-numbers (j ∷ i ∷ [])
avoids-overlap (Own i) = avoids-numbers (i ∷ [])

avoids-along : (s : List ℕ) → avoids 10 (along_text s) ≡ true
avoids-along [] = refl
avoids-along (e ∷ s) = avoids-numbers (e ∷ s)

avoids-source : (a : RowSource) → avoids 10 (source_text a) ≡ true
avoids-source (Test o) = avoids-overlap o
avoids-source (Fixed i) = avoids-numbers (i ∷ [])
avoids-source (Iterated i s) = avoids-append 10 (numbers_text (i ∷ [])) (along_text s) (avoids-numbers (i ∷ [])) (avoids-along s)

pub avoids-source_line : (a : RowSource) → avoids 10 (source_line a) ≡ true
avoids-source_line a = avoids-source a
