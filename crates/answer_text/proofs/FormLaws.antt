-- A line that has the form of a line in its place has no newline in it, and leads to one place only.
use Rattle.std.proofs.Common.{◌≡◌, ◌<◌, ◌≤◌, ℕ, zero, suc, true, List, [], ◌∷◌, ◌++◌, drop, decimal, refl, ap, ap₂, sym, subst, ◌∙◌, inl}
use Rattle.std.proofs.Common.{inr, arith}
use Rattle.std.specs.Prelude.{codes}
use Rattle.std.proofs.lemmas.Fmt.{decimal_injective}
use Rattle.pq_base.specs.Limits.{max_rank}
use Rattle.pq_base.proofs.PrimeLaws.{offered-small}
use Rattle.pc_presentation.specs.declared.syllable.Syllable.{Syllable}
use Rattle.pc_presentation.specs.declared.relation.Relation.{Relation}
use Rattle.pc_presentation.specs.declared.relation.Relation.TheVariants.{Power, Commutator}
use Rattle.pc_presentation.specs.Syllable.{AreSyllables}
use Rattle.pc_presentation.specs.Relation.{IsRelation}
use Rattle.answer_text.specs.declared.source.Source.{Source}
use Rattle.answer_text.specs.declared.source.Source.TheVariants.{Image, RightSide}
use Rattle.answer_text.specs.Words.{word_text}
use Rattle.answer_text.specs.AnswerPlaces.{Place, HasForm, IsSource, left_text, source_text, order_of}
use Rattle.answer_text.specs.AnswerPlaces.Place.{for_class, for_order, in_body, at_end}
use Rattle.answer_text.specs.AnswerPlaces.HasForm.{prime, class, rank, order, generator, relation, image, last}
use Rattle.answer_text.specs.AnswerFaults.{IsEnd}
use Rattle.answer_text.proofs.lines.LineByLine.{TellsPlaces}
use Rattle.answer_text.proofs.Splits.{first-apart, avoids, avoids-append, avoids-decimal, decimal-same}
use Rattle.answer_text.proofs.texts.WordTexts.{AreWritten, avoids-word}
use Rattle.answer_text.proofs.texts.RelationTexts.{power-commutator-apart, commutator_text-same, power_text-long}
use Rattle.answer_text.proofs.ImagesTold.{avoids-name}

pub AreWritten-AreSyllables : (p n k : ℕ) (w : List Syllable) → p ≤ 100 → n < 1000 → AreSyllables p n k w → AreWritten w
AreWritten-AreSyllables p n k [] small limit a = tt
AreWritten-AreSyllables p n k (s ∷ w) small limit a =
    ((omega (arith, a.1), a.2, omega (arith, a.3)), AreWritten-AreSyllables p n s.generator w small limit a.4)

pub avoids-left : (p n : ℕ) (r : Relation) → p < 1000 → n < 1000 → IsRelation n r → avoids 10 (left_text p r) ≡ true
avoids-left p n (Power j) small limit h =
    avoids-append 10 (decimal j) (94 ∷ decimal p) (avoids-decimal 10 j (λ d l e. omega arith) (omega (arith, h.1)))
    (avoids-decimal 10 p (λ d l e. omega arith) small)
avoids-left p n (Commutator j i) small limit h =
    avoids-append 10 (decimal j) (44 ∷ 97 ∷ (decimal i ++ 93 ∷ [])) (avoids-decimal 10 j (λ d l e. omega arith) (omega (arith, h.2)))
    (avoids-append 10 (decimal i) (93 ∷ []) (avoids-decimal 10 i (λ d l e. omega arith) (omega (arith, h.1, h.2))) refl)

avoids-source : (p n : ℕ) (s : Source) → p < 1000 → n < 1000 → IsSource n s → avoids 10 (source_text p s) ≡ true
avoids-source p n (Image name) small limit h = avoids-name 10 name refl h
avoids-source p n (RightSide r) small limit h = avoids-left p n r small limit h

pub avoids-form : {P Q : Place} {l : List ℕ} → HasForm P l Q → avoids 10 l ≡ true
avoids-form (prime p o) = let small : p < 8 = offered-small p o in avoids-decimal 10 p (λ d l e. omega arith) (omega arith)
avoids-form (class p c h) = avoids-decimal 10 c (λ d l e. omega arith) (omega arith)
avoids-form (rank p n h) = avoids-decimal 10 n (λ d l e. omega arith) (omega arith)
avoids-form (order p n s) =
    let small : p < 8 = offered-small p s.offered in
    let limit : n ≤ max_rank = s.limit in
    avoids-append 10 (decimal p) (94 ∷ decimal n) (avoids-decimal 10 p (λ d l e. omega arith) (omega arith))
    (avoids-decimal 10 n (λ d l e. omega arith) (omega arith))
avoids-form (generator p n m left k w s z inside one top source) =
    let small : p < 8 = offered-small p z.offered in
    let limit : n ≤ max_rank = z.limit in
    avoids-append 10 (decimal (suc k)) (codes " weight " ++ (decimal w ++ (codes " from " ++ source_text p s)))
    (avoids-decimal 10 (suc k) (λ d l e. omega arith) (omega arith))
    (avoids-append 10 (decimal w) (codes " from " ++ source_text p s) (avoids-decimal 10 w (λ d l e. omega arith) (omega arith))
    (avoids-source p n s (omega arith) (omega arith) source))
avoids-form (relation p n m r w z is rises some a) =
    let small : p < 8 = offered-small p z.offered in
    let limit : n ≤ max_rank = z.limit in
    avoids-append 10 (left_text p r) (codes " = " ++ word_text w) (avoids-left p n r (omega arith) (omega arith) is)
    (avoids-word w (AreWritten-AreSyllables p n _ w (omega arith) (omega arith) a))
avoids-form (image p n m name w z is a) =
    let small : p < 8 = offered-small p z.offered in
    let limit : n ≤ max_rank = z.limit in
    avoids-append 10 name (codes " = " ++ word_text w) (avoids-name 10 name refl is)
    (avoids-word w (AreWritten-AreSyllables p n 0 w (omega arith) (omega arith) a))
avoids-form (last p n m) = refl

-- the left side of a relation tells it, whatever follows
pub left_text-same : (p n : ℕ) (q r : Relation) (x y : List ℕ) → n < 1000 → IsRelation n q → IsRelation n r
    → left_text p q ++ x ≡ left_text p r ++ y → q ≡ r
left_text-same p n (Power i) (Power j) x y limit a b h =
    let long : 97 ∷ (decimal i ++ 94 ∷ (decimal p ++ x)) ≡ 97 ∷ (decimal j ++ 94 ∷ (decimal p ++ y)) =
    sym (power_text-long p i x) ∙ h ∙ power_text-long p j y in
    ap (λ (k : ℕ). Power k)
    (decimal-same 94 i j (decimal p ++ x) (decimal p ++ y) (λ d l e. omega arith) (omega (arith, a.1)) (omega (arith, b.1))
    (ap (λ (t : List ℕ). drop 1 t) long)).0
left_text-same p n (Power i) (Commutator k l) x y limit a b h = absurd (power-commutator-apart p i k l y x (sym h))
left_text-same p n (Commutator j i) (Power k) x y limit a b h = absurd (power-commutator-apart p k j i x y h)
left_text-same p n (Commutator j i) (Commutator k l) x y limit a b h =
    let same : (j ≡ k) × (i ≡ l) =
    commutator_text-same j i k l x y (omega (arith, a.2)) (omega (arith, a.1, a.2)) (omega (arith, b.2)) (omega (arith, b.1, b.2)) h in
    ap₂ (λ (s t : ℕ). Commutator s t) same.0 same.1

pub form-same : {P Q R : Place} {l k : List ℕ} → HasForm P l Q → HasForm P k R → l ≡ k → Q ≡ R
form-same (prime p o) (prime q u) h =
    let small : p < 8 = offered-small p o in
    let low : q < 8 = offered-small q u in
    ap (λ (x : ℕ). for_class x) (decimal_injective p q (omega arith) (omega arith) (ap (λ (x : List ℕ). drop 6 x) h))
form-same (class p c a) (class q d b) h = refl
form-same (rank p n a) (rank q m b) h =
    ap (λ (x : ℕ). for_order p x) (decimal_injective n m (omega arith) (omega arith) (ap (λ (x : List ℕ). drop 5 x) h))
form-same (order p n s) (order q m t) h = refl
form-same (generator p n m left k w s z inside one top source) (generator p2 n2 m2 left2 k2 w2 s2 z2 inside2 one2 top2 source2) h = refl
form-same (relation p n m r w z is rises some a) (relation p2 n2 m2 q v z2 is2 rises2 some2 b) h =
    let limit : n ≤ max_rank = z.limit in
    ap (λ (x : Relation). in_body p n zero (order_of x))
    (left_text-same p n r q (codes " = " ++ word_text w) (codes " = " ++ word_text v) (omega arith) is is2
    (ap (λ (x : List ℕ). drop 9 x) h))
form-same (relation p n m r w z is rises some a) (image p2 n2 m2 name v z2 is2 b) h = absurd (first-apart 114 105 _ _ refl h)
form-same (relation p n m r w z is rises some a) (last p2 n2 m2) h = absurd (first-apart 114 101 _ _ refl h)
form-same (image p n m name v z is b) (relation p2 n2 m2 r w z2 is2 rises some a) h = absurd (first-apart 105 114 _ _ refl h)
form-same (image p n m name v z is b) (image p2 n2 m2 other w z2 is2 a) h = refl
form-same (image p n m name v z is b) (last p2 n2 m2) h = absurd (first-apart 105 101 _ _ refl h)
form-same (last p n m) (relation p2 n2 m2 r w z2 is2 rises some a) h = absurd (first-apart 101 114 _ _ refl h)
form-same (last p n m) (image p2 n2 m2 other w z2 is2 a) h = absurd (first-apart 101 105 _ _ refl h)
form-same (last p n m) (last p2 n2 m2) h = refl

no_form_at_end : (l : List ℕ) (Q : Place) → HasForm at_end l Q → ⊥
no_form_at_end l Q f = elim f [ ]

no-form-IsEnd : (P Q : Place) (l : List ℕ) → IsEnd P → HasForm P l Q → ⊥
no-form-IsEnd P Q l end f = no_form_at_end l Q (subst (λ (x : Place). HasForm x l Q) end f)

-- so the lines of an answer's text tell the places between them
pub tells_places : TellsPlaces Place HasForm IsEnd
tells_places = record {
  avoids_newline = λ P Q l f. avoids-form f;
  leads_to_one = λ P Q R l k f g e. form-same f g e;
  nothing_follows = no-form-IsEnd;
}
