-- The text of the images tells the names and the images.
use Rattle.std.proofs.Common.{◌≡◌, ◌<◌, ◌≤◌, ℕ, true, false, List, [], ◌∷◌, ◌++◌, length, drop, refl, ap, ap₂, sym, ◌∙◌, arith}
use Rattle.std.proofs.Common.{append_assoc}
use Rattle.std.proofs.lemmas.Bool.{and_parts}
use Rattle.std.specs.Prelude.{codes}
use Rattle.std.specs.List.{list_all}
use Rattle.pq_base.specs.Limits.{max_rank}
use Rattle.pq_base.specs.Name.{is_letter, is_name_byte, is_name_text, IsName}
use Rattle.pq_base.specs.Answer.{AreNormal}
use Rattle.pq_base.specs.Lines.{text_of_lines}
use Rattle.pc_presentation.specs.Syllable.{syllables_of}
use Rattle.answer_text.specs.Words.{word_text}
use Rattle.answer_text.specs.AnswerText.{image_lines}
use Rattle.answer_text.specs.OneText.{AreNames}
use Rattle.answer_text.proofs.Splits.{first-apart, avoids, avoids-cons, split-same}
use Rattle.answer_text.proofs.texts.WordTexts.{AreWritten-syllables_of, avoids-word, word_text-same, syllables_of-same}
use Rattle.answer_text.proofs.texts.RelationTexts.{NoRelation}

no_name_byte : (c b : ℕ) → is_name_byte c ≡ false → is_name_byte b ≡ true → b ≡ c → ⊥
no_name_byte c b out in_name same =
    let bad : true ≡ false = sym in_name ∙ ap is_name_byte same ∙ out in
    cc

avoids-name_bytes : (c : ℕ) (bs : List ℕ) → is_name_byte c ≡ false → list_all is_name_byte bs ≡ true → avoids c bs ≡ true
avoids-name_bytes c [] out h = refl
avoids-name_bytes c (b ∷ bs) out h =
    let parts = and_parts (is_name_byte b) (list_all is_name_byte bs) h in
    avoids-cons c b bs (no_name_byte c b out parts.0) (avoids-name_bytes c bs out parts.1)

avoids-name_text : (c : ℕ) (bs : List ℕ) → is_name_byte c ≡ false → is_name_text bs ≡ true → avoids c bs ≡ true
avoids-name_text c [] out h = refl
avoids-name_text c (b ∷ bs) out h =
    let parts = and_parts (is_letter b) (list_all is_name_byte bs) h in
    let byte : is_name_byte b ≡ true = rw parts.0 refl in
    avoids-cons c b bs (no_name_byte c b out byte) (avoids-name_bytes c bs out parts.1)

pub avoids-name : (c : ℕ) (bs : List ℕ) → is_name_byte c ≡ false → IsName bs → avoids c bs ≡ true
avoids-name c bs out name = avoids-name_text c bs out name.text

-- the images and the last line
abbrev pub images_text : List (List ℕ) → List (List ℕ) → List ℕ
images_text names es = text_of_lines (image_lines names es) ++ codes "end\n"

pub NoRelation-images : (left : List ℕ) (names es : List (List ℕ)) → NoRelation left (images_text names es)
NoRelation-images left [] es x h = first-apart 101 114 _ _ refl h
NoRelation-images left (n ∷ ns) [] x h = first-apart 101 114 _ _ refl h
NoRelation-images left (n ∷ ns) (e ∷ es) x h = first-apart 105 114 _ _ refl h

images_text-first : (n e : List ℕ) (ns es : List (List ℕ))
    → images_text (n ∷ ns) (e ∷ es) ≡ codes "image " ++ (n ++ 32 ∷ (codes "= " ++ (word_text (syllables_of 0 e) ++ 10 ∷ images_text ns es)))
images_text-first n e ns es = simp append_assoc

pub images-same : (p m : ℕ) (ns es os fs : List (List ℕ)) → p < 100 → m ≤ max_rank → AreNames ns → AreNames os → length es ≡ length ns
    → length fs ≡ length os
    → AreNormal p m es → AreNormal p m fs → images_text ns es ≡ images_text os fs → (ns ≡ os) × (es ≡ fs)
images-same p m [] [] [] [] small inside a b k l u v h = (refl, refl)
images-same p m [] [] [] (f ∷ fs) small inside a b k l u v h = absurd (omega arith)
images-same p m [] [] (o ∷ os) [] small inside a b k l u v h = absurd (omega arith)
images-same p m [] [] (o ∷ os) (f ∷ fs) small inside a b k l u v h = absurd (first-apart 101 105 _ _ refl h)
images-same p m [] (e ∷ es) os fs small inside a b k l u v h = absurd (omega arith)
images-same p m (n ∷ ns) [] os fs small inside a b k l u v h = absurd (omega arith)
images-same p m (n ∷ ns) (e ∷ es) [] [] small inside a b k l u v h = absurd (first-apart 105 101 _ _ refl h)
images-same p m (n ∷ ns) (e ∷ es) [] (f ∷ fs) small inside a b k l u v h = absurd (omega arith)
images-same p m (n ∷ ns) (e ∷ es) (o ∷ os) [] small inside a b k l u v h = absurd (omega arith)
images-same p m (n ∷ ns) (e ∷ es) (o ∷ os) (f ∷ fs) small inside a b k l u v h =
    let long : length e ≡ m = u.0.count in
    let other : length f ≡ m = v.0.count in
    let whole = sym (images_text-first n e ns es) ∙ h ∙ images_text-first o f os fs in
    let name =
    split-same 32 n o (codes "= " ++ (word_text (syllables_of 0 e) ++ 10 ∷ images_text ns es))
    (codes "= " ++ (word_text (syllables_of 0 f) ++ 10 ∷ images_text os fs))
    (avoids-name 32 n refl a.0) (avoids-name 32 o refl b.0) (ap (λ (t : List ℕ). drop 6 t) whole) in
    let ws = AreWritten-syllables_of p 0 e (omega arith) (omega arith) u.0.below in
    let vs = AreWritten-syllables_of p 0 f (omega arith) (omega arith) v.0.below in
    let word = split-same 10 (word_text (syllables_of 0 e)) (word_text (syllables_of 0 f)) (images_text ns es) (images_text os fs)
    (avoids-word (syllables_of 0 e) ws) (avoids-word (syllables_of 0 f) vs) (ap (λ (t : List ℕ). drop 2 t) name.1) in
    let image = syllables_of-same 0 e f (omega arith) (word_text-same (syllables_of 0 e) (syllables_of 0 f) ws vs word.0) in
    let more = images-same p m ns es os fs small inside a.1 b.1 (omega arith) (omega arith) u.1 v.1 word.1 in
    (ap₂ (λ (x : List ℕ) (xs : List (List ℕ)). x ∷ xs) name.0 more.0, ap₂ (λ (x : List ℕ) (xs : List (List ℕ)). x ∷ xs) image more.1)
