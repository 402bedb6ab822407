-- Two answers that are one answer D where they are cut to class k, and in which the same words die where they are cut to class k + 1.
-- Where an entry has none but the first so many new generators in its new part in the one, it has the same new part in the other: a product
-- of powers of the words of the entries that define these generators has the value of the word of the entry.
use Rattle.std.proofs.Common.{◌≡◌, ℕ, suc, ◌+◌, ◌-◌, ◌<◌, ◌≤◌, ℤ, List, [], ◌∷◌, ◌++◌, get_or, length, take, drop, replicate, ap, sym, ◌∙◌}
use Rattle.std.proofs.Common.{subst, arith, length-append}
use Rattle.std.proofs.lemmas.List.{length-take-le, length-replicate, drop_at}
use Rattle.pq_base.specs.SignedWord.{copies, sub, HasLetters}
use Rattle.pq_base.specs.LPresentation.{AreWords}
use Rattle.pq_base.specs.Presentation.{Presentation, IsNormal, letter, word_from, normal_word}
use Rattle.pq_base.specs.Table.{AllBelow}
use Rattle.pq_base.specs.Joined.{Joined, IsConsistent}
use Rattle.pq_base.specs.Answer.{Answer, Definition, image_words}
use Rattle.pq_base.specs.Canonical.{rank_up_to, new_count, new_part, up_to_class}
use Rattle.pq_base.specs.EntryWords.{IsSourceOf, entry_word}
use Rattle.pq_base.proofs.words.WordLaws.{sub-append, sub-copies, word_from-append-zeros, word_from-zeros-append}
use Rattle.pq_base.proofs.words.LetterLaws.{HasLetters-append, HasLetters-copies}
use Rattle.pq_base.proofs.words.JoinedLaws.{joined-refl, joined-from_equal, joined-sym, joined-trans, joined-append, joined-copies}
use Rattle.fp_rows.proofs.BelowLaws.{AllBelow-append, AllBelow-take}
use Rattle.pc_presentation.proofs.rows.RowLaws.{zeros-normal}
use Rattle.unique_answers.specs.UniqueLaws.{DiesIn}
use Rattle.unique_answers.proofs.unique.CarriedDeaths.{values-carried}
use Rattle.unique_answers.proofs.unique.ListParts.{word_from-part, get_or-part_zeros}

-- the generators of weight k + 1 of an answer over the answer D of class k, and what the words of the entries of D are there
pub record IsLayer (D A : Answer) (k : ℕ) : Type 0 where
  pub prime : 2 ≤ A.presentation.prime
  pub consistent : IsConsistent (up_to_class A (suc k)).presentation
  pub ranks : rank_up_to A k + new_count A k ≡ rank_up_to A (suc k)
  pub parts : (d : Definition) → IsSourceOf D d → IsNormal A.presentation.prime (new_count A k) (new_part A k d)
  pub values : (d : Definition) → IsSourceOf D d
      → Joined (up_to_class A (suc k)).presentation (sub (entry_word D d) (image_words (up_to_class A (suc k))))
      (word_from (rank_up_to A k) (new_part A k d))

-- the product of powers of words
abbrev combined : List (List ℤ) → List ℕ → List ℤ
combined [] es = []
combined (w ∷ ws) [] = []
combined (w ∷ ws) (e ∷ es) = copies w e ++ combined ws es

combined-letters : (n : ℕ) (ws : List (List ℤ)) (es : List ℕ) → AreWords n ws → HasLetters n (combined ws es)
combined-letters n [] es h = tt
combined-letters n (w ∷ ws) [] h = tt
combined-letters n (w ∷ ws) (e ∷ es) h =
    HasLetters-append n (copies w e) (combined ws es) (HasLetters-copies n w e h.0) (combined-letters n ws es h.1)

-- words whose values are the generators from place s on
abbrev pub AreLettersFrom : Answer → ℕ → List (List ℤ) → Type 0
AreLettersFrom N s [] = Unit {0}
AreLettersFrom N s (w ∷ ws) = Joined N.presentation (sub w (image_words N)) (letter s) × AreLettersFrom N (suc s) ws

combined-value : (N : Answer) (s : ℕ) (ws : List (List ℤ)) (es : List ℕ) → length ws ≡ length es → AreLettersFrom N s ws
    → Joined N.presentation (sub (combined ws es) (image_words N)) (word_from s es)
combined-value N s [] [] c h = joined-refl N.presentation []
combined-value N s [] (e ∷ es) c h = absurd (omega arith)
combined-value N s (w ∷ ws) [] c h = absurd (omega arith)
combined-value N s (w ∷ ws) (e ∷ es) c h =
    let f : List (List ℤ) = image_words N in
    joined-trans
    (joined-from_equal N.presentation
    (sub-append (copies w e) (combined ws es) f ∙ ap (λ (u : List ℤ). u ++ sub (combined ws es) f) (sub-copies w e f)))
    (joined-append (joined-copies e h.0) (combined-value N (suc s) ws es (omega arith) h.1))

-- words of the last generators of a consistent presentation
later-unique : (P : Presentation) → IsConsistent P → (m c : ℕ) (x y : List ℕ) → 0 < P.prime → m + c ≡ P.rank
    → IsNormal P.prime c x → IsNormal P.prime c y → Joined P (word_from m x) (word_from m y) → x ≡ y
later-unique P consistent m c x y positive ranks h i j =
    let zeros : List ℕ = replicate {A = ℕ} m 0 in
    let none : IsNormal P.prime m (replicate {A = ℕ} m 0) = zeros-normal P.prime m positive in
    let place : 0 + m ≡ m = omega arith in
    let word : (z : List ℕ) → normal_word (replicate {A = ℕ} m 0 ++ z) ≡ word_from m z =
    λ z. word_from-zeros-append 0 m z ∙ ap (λ (s : ℕ). word_from s z) place in
    let normal : (z : List ℕ) → IsNormal P.prime c z → IsNormal P.prime P.rank (replicate {A = ℕ} m 0 ++ z) =
    λ z n. record {
      count = length-append zeros z ∙ (let a = none.count in let b = n.count in omega arith);
      below = AllBelow-append P.prime zeros z none.below n.below;
    } in
    let same : replicate {A = ℕ} m 0 ++ x ≡ replicate {A = ℕ} m 0 ++ y =
    consistent.unique (replicate {A = ℕ} m 0 ++ x) (replicate {A = ℕ} m 0 ++ y) (normal x h) (normal y i)
    (joined-trans (joined-from_equal P (word x)) (joined-trans j (joined-from_equal P (sym (word y))))) in
    sym (drop_at zeros x m (length-replicate m 0)) ∙ ap (drop m) same ∙ drop_at zeros y m (length-replicate m 0)

-- entries that were met: the words of those that define generators, and how many there are
pub record AreMetWords (A : Answer) (k met : ℕ) (ws : List (List ℤ)) : Type 0 where
  pub count : length ws ≡ met
  pub room : met ≤ new_count A k
  pub values : AreLettersFrom (up_to_class A (suc k)) (rank_up_to A k) ws

module _ (D A B : Answer) (k : ℕ) (a : IsLayer D A k) (b : IsLayer D B k) (prime : A.presentation.prime ≡ B.presentation.prime)
    (dies : (w : List ℤ) → HasLetters (length B.names) w → DiesIn (up_to_class B (suc k)) w → DiesIn (up_to_class A (suc k)) w)
    (met : ℕ) (ws : List (List ℤ)) (words : AreWords (length B.names) ws)
    (first : AreMetWords A k met ws) (second : AreMetWords B k met ws)
    (d : Definition) (source : IsSourceOf D d) (letters : HasLetters (length B.names) (entry_word D d))
    (alone : (g : ℕ) → met ≤ g → get_or (new_part B k d) g 0 ≡ 0) where
  abbrev Q : Presentation
  Q = (up_to_class A (suc k)).presentation

  abbrev R : Presentation
  R = (up_to_class B (suc k)).presentation

  abbrev y : List ℕ
  y = new_part B k d

  abbrev es : List ℕ
  es = take met (new_part B k d)

  long : length (take met (new_part B k d)) ≡ met
  long = let room = second.room in let all = (b.parts d source).count in length-take-le met y (omega arith)

  many : length ws ≡ length (take met (new_part B k d))
  many = first.count ∙ sym long

  -- the word of the entry has the value of a product of powers in the second answer, and so in the first
  in_second : Joined R (sub (entry_word D d) (image_words (up_to_class B (suc k))))
      (sub (combined ws es) (image_words (up_to_class B (suc k))))
  in_second =
      joined-trans (b.values d source)
      (joined-trans (joined-from_equal R (word_from-part (rank_up_to B k) met y alone))
      (joined-sym (combined-value (up_to_class B (suc k)) (rank_up_to B k) ws es many second.values)))

  in_first : Joined Q (word_from (rank_up_to A k) (new_part A k d)) (word_from (rank_up_to A k) es)
  in_first =
      joined-trans (joined-sym (a.values d source))
      (joined-trans
      (values-carried (up_to_class B (suc k)) (up_to_class A (suc k)) dies (entry_word D d) (combined ws es) letters
      (combined-letters (length B.names) ws es words) in_second)
      (combined-value (up_to_class A (suc k)) (rank_up_to A k) ws es many first.values))

  pub forced : (g : ℕ) → get_or (new_part A k d) g 0 ≡ get_or (new_part B k d) g 0
  forced g =
      let rest : ℕ = new_count A k - met in
      let room = first.room in
      let length_es = long in
      let big = a.prime in
      let none = zeros-normal A.presentation.prime rest (omega arith) in
      let all : List ℕ = es ++ replicate {A = ℕ} rest 0 in
      let normal : IsNormal A.presentation.prime (new_count A k) (es ++ replicate {A = ℕ} rest 0) = record {
        count = length-append es (replicate {A = ℕ} rest 0) ∙ (let c = none.count in omega arith);
        below =
            AllBelow-append A.presentation.prime es (replicate {A = ℕ} rest 0)
            (subst (λ (p : ℕ). AllBelow p (take met (new_part B k d))) (sym prime)
            (AllBelow-take B.presentation.prime met y (b.parts d source).below))
            none.below;
      } in
      let same : new_part A k d ≡ es ++ replicate {A = ℕ} rest 0 =
      later-unique Q a.consistent (rank_up_to A k) (new_count A k) (new_part A k d) all (omega arith) a.ranks (a.parts d source) normal
      (joined-trans in_first (joined-from_equal Q (sym (word_from-append-zeros (rank_up_to A k) rest es)))) in
      let enough = (b.parts d source).count in
      let fits = second.room in
      ap (λ (x : List ℕ). get_or x g 0) same ∙ get_or-part_zeros met rest y (omega arith) alone g
