-- What a line tells of the places at which it is split.
use Rattle.std.proofs.Common.{◌≡◌, ◌<◌, ◌≤◌, ℕ, true, List, [], ◌∷◌, ◌++◌, length, drop, decimal, refl, ap, sym, subst, ◌∙◌, arith}
use Rattle.std.specs.Prelude.{codes}
use Rattle.pq_base.specs.Name.{IsName}
use Rattle.pc_presentation.specs.declared.syllable.Syllable.{Syllable}
use Rattle.pc_presentation.specs.declared.relation.Relation.{Relation}
use Rattle.pc_presentation.specs.declared.relation.Relation.TheVariants.{Power, Commutator}
use Rattle.pc_presentation.specs.Relation.{IsRelation, side_start}
use Rattle.pc_presentation.specs.Syllable.{AreSyllables}
use Rattle.answer_text.specs.Words.{word_text}
use Rattle.answer_text.specs.AnswerPlaces.{left_text, generator_start, order_line, relation_line, word_line}
use Rattle.answer_text.proofs.Splits.{avoids, avoids-append, avoids-decimal, split-same, decimal-same}
use Rattle.answer_text.proofs.texts.WordTexts.{word_text-same}
use Rattle.answer_text.proofs.ImagesTold.{avoids-name}
use Rattle.answer_text.proofs.texts.PieceTexts.{number-same}
use Rattle.answer_text.proofs.FormLaws.{left_text-same, AreWritten-AreSyllables}

pub generator_start-same : (k w a b : ℕ) (t u : List ℕ) → k < 1000 → w < 1000 → a < 1000 → b < 1000
    → generator_start k w t ≡ generator_start a b u → (k ≡ a) × (w ≡ b) × (t ≡ u)
generator_start-same k w a b t u h1 h2 h3 h4 e =
    let number =
    decimal-same 32 k a (codes "weight " ++ (decimal w ++ (codes " from " ++ t))) (codes "weight " ++ (decimal b ++ (codes " from " ++ u)))
    (λ d l g. omega arith) h1 h3 (ap (λ (x : List ℕ). drop 11 x) e) in
    let weight =
    decimal-same 32 w b (codes "from " ++ t) (codes "from " ++ u) (λ d l g. omega arith) h2 h4 (ap (λ (x : List ℕ). drop 7 x) number.1) in
    (number.0, weight.0, ap (λ (x : List ℕ). drop 5 x) weight.1)

pub order_line-same : (p n q m : ℕ) → p < 1000 → n < 1000 → q < 1000 → m < 1000 → order_line p n ≡ order_line q m → (p ≡ q) × (n ≡ m)
order_line-same p n q m h1 h2 h3 h4 e =
    let prime = decimal-same 94 p q (decimal n) (decimal m) (λ d l g. omega arith) h1 h3 (ap (λ (x : List ℕ). drop 6 x) e) in
    (prime.0, number-same n m h2 h4 prime.1)

pub avoids-space : (p n : ℕ) (r : Relation) → p < 1000 → n < 1000 → IsRelation n r → avoids 32 (left_text p r) ≡ true
avoids-space p n (Power j) small limit h =
    avoids-append 32 (decimal j) (94 ∷ decimal p) (avoids-decimal 32 j (λ d l e. omega arith) (omega (arith, h.1)))
    (avoids-decimal 32 p (λ d l e. omega arith) small)
avoids-space p n (Commutator j i) small limit h =
    avoids-append 32 (decimal j) (44 ∷ 97 ∷ (decimal i ++ 93 ∷ [])) (avoids-decimal 32 j (λ d l e. omega arith) (omega (arith, h.2)))
    (avoids-append 32 (decimal i) (93 ∷ []) (avoids-decimal 32 i (λ d l e. omega arith) (omega (arith, h.1, h.2))) refl)

-- what stands on both sides of an equals sign
pub sides-same : (l m x y : List ℕ) → avoids 32 l ≡ true → avoids 32 m ≡ true → l ++ (codes " = " ++ x) ≡ m ++ (codes " = " ++ y)
    → (l ≡ m) × (x ≡ y)
sides-same l m x y a b e =
    let parts = split-same 32 l m (61 ∷ 32 ∷ x) (61 ∷ 32 ∷ y) a b e in
    (parts.0, ap (λ (t : List ℕ). drop 2 t) parts.1)

pub relation_start-same : (p n : ℕ) (q r : Relation) (x y : List ℕ) → p < 1000 → n < 1000 → IsRelation n q → IsRelation n r
    → codes "relation " ++ (left_text p q ++ (codes " = " ++ x)) ≡ codes "relation " ++ (left_text p r ++ (codes " = " ++ y))
    → (q ≡ r) × (x ≡ y)
relation_start-same p n q r x y small limit a b e =
    let parts =
    sides-same (left_text p q) (left_text p r) x y (avoids-space p n q small limit a) (avoids-space p n r small limit b)
    (ap (λ (t : List ℕ). drop 9 t) e) in
    (left_text-same p n q r [] [] limit a b (ap (λ (t : List ℕ). t ++ []) parts.0), parts.1)

pub image_start-same : (m n x y : List ℕ) → IsName m → IsName n
    → codes "image " ++ (m ++ (codes " = " ++ x)) ≡ codes "image " ++ (n ++ (codes " = " ++ y)) → (m ≡ n) × (x ≡ y)
image_start-same m n x y a b e = sides-same m n x y (avoids-name 32 m refl a) (avoids-name 32 n refl b) (ap (λ (t : List ℕ). drop 6 t) e)

-- the text of the empty word is that of no other
pub some-word : (p n k : ℕ) (v w : List Syllable) → p ≤ 100 → n < 1000 → AreSyllables p n k v → AreSyllables p n k w
    → word_text v ≡ word_text w → 1 ≤ length w → 1 ≤ length v
some-word p n k v w small limit a b e h =
    let same : v ≡ w =
    word_text-same v w (AreWritten-AreSyllables p n k v small limit a) (AreWritten-AreSyllables p n k w small limit b) e in
    subst (λ (x : List Syllable). 1 ≤ length x) (sym same) h

-- where what stands behind the equals sign is no word, the line is that of no relation
pub no-relation-word : (p n : ℕ) (line right : List ℕ) (q : Relation) → p ≤ 100 → n < 1000 → IsRelation n q
    → line ≡ codes "relation " ++ (left_text p q ++ (codes " = " ++ right))
    → ((w : List Syllable) → AreSyllables p n (side_start q) w → ¬ (right ≡ word_text w))
    → (r : Relation) (w : List Syllable) → IsRelation n r → 1 ≤ length w → AreSyllables p n (side_start r) w
    → ¬ (line ≡ relation_line p r w)
no-relation-word p n line right q small limit is cut none r w it some a e =
    let parts = relation_start-same p n q r right (word_text w) (omega arith) limit is it (sym cut ∙ e) in
    none w (subst (λ (x : Relation). AreSyllables p n (side_start x) w) (sym parts.0) a) parts.1

pub no-empty-word : (p n : ℕ) (line right : List ℕ) (q : Relation) (v : List Syllable) → p ≤ 100 → n < 1000 → IsRelation n q
    → line ≡ codes "relation " ++ (left_text p q ++ (codes " = " ++ right))
    → AreSyllables p n (side_start q) v → right ≡ word_text v → length v ≡ 0
    → (r : Relation) (w : List Syllable) → IsRelation n r → 1 ≤ length w → AreSyllables p n (side_start r) w
    → ¬ (line ≡ relation_line p r w)
no-empty-word p n line right q v small limit is cut b read empty r w it some a e =
    let parts = relation_start-same p n q r right (word_text w) (omega arith) limit is it (sym cut ∙ e) in
    let long : 1 ≤ length v =
    some-word p n (side_start q) v w small limit b (subst (λ (x : Relation). AreSyllables p n (side_start x) w) (sym parts.0) a)
    (sym read ∙ parts.1) some in
    omega arith

pub no-image-word : (p n : ℕ) (line right m : List ℕ) → IsName m → line ≡ codes "image " ++ (m ++ (codes " = " ++ right))
    → ((w : List Syllable) → AreSyllables p n 0 w → ¬ (right ≡ word_text w))
    → (name : List ℕ) (w : List Syllable) → IsName name → AreSyllables p n 0 w → ¬ (line ≡ word_line name w)
no-image-word p n line right m is cut none name w it a e =
    none w a (image_start-same m name right (word_text w) is it (sym cut ∙ e)).1
