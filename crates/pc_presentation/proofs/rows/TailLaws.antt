-- In the flat reading the words of rows commute with the generators and add up as the rows do. So the ends of a directed
-- run are joined there, and a push of the plain rule is joined to the word with the letter behind it.
use Rattle.std.proofs.Common.{◌≡◌, ℕ, zero, suc, ◌+◌, ◌-◌, ◌*◌, ◌/◌, ◌%◌, ◌<◌, ℤ, List, [], ◌∷◌, ◌++◌, length, ap, sym, ◌∙◌, subst, arith}
use Rattle.std.proofs.Common.{append_assoc}
use Rattle.std.proofs.lemmas.List.{append-nil}
use Rattle.std.proofs.Math.Nat.{div-add-mod}
use Rattle.pq_base.specs.SignedWord.{copies, comm}
use Rattle.pq_base.specs.Table.{AllBelow}
use Rattle.pq_base.specs.Presentation.{Presentation, IsNormal, letter, word_from, power_side, commutator_side, power_word, commutator_word}
use Rattle.pq_base.specs.Joined.{Joined}
use Rattle.pq_base.proofs.words.WordLaws.{copies-add, copies-mul, copies-nil, word_from-zeros}
use Rattle.pq_base.proofs.words.JoinedLaws.{joined-refl, joined-from_equal, joined-sym, joined-trans, joined-append, joined-append_left}
use Rattle.pq_base.proofs.words.JoinedLaws.{joined-append_right, joined-copies, power-joined, commutator-joined, letter-swap-joined}
use Rattle.pq_base.proofs.words.JoinedLaws.{commute-from_comm}
use Rattle.pq_base.proofs.PrimeLaws.{positive_prime}
use Rattle.fp_rows.proofs.BelowLaws.{AllBelow-append}
use Rattle.pc_presentation.specs.Rowed.{RowedPresentation, IsRowed, power_row, commutator_row, row_sum, flat}
use Rattle.pc_presentation.specs.Collection.{Configuration, State, IsState, Step, Replacement, DirectedRun, spelled, letters, signed_word}
use Rattle.pc_presentation.specs.Collection.{configuration_of, plain_push}
use Rattle.pc_presentation.specs.Collection.Step.{replace}
use Rattle.pc_presentation.specs.Collection.Run.{stop, move}
use Rattle.pc_presentation.specs.Collection.Replacement.{swap, power}
use Rattle.pc_presentation.specs.CollectionLaws.{DirectedRunsAreJoined, PlainPushesAreJoined}
use Rattle.pc_presentation.proofs.rows.RowLaws.{row_sum-comm, row_sum-normal}
use Rattle.pc_presentation.proofs.collecting.PlainRuns.{plain_push-run, AllBelow-spelled}
use Rattle.pc_presentation.proofs.consistent.LetterWords.{letters-append, letters-replicate, word_from-side_and_row}
use Rattle.pc_presentation.proofs.rows.FlatLaws.{power_side-flat, power_side-tail, commutator_side-flat, commutator_side-tail}

-- words that commute
abbrev pub Commute : Presentation → List ℤ → List ℤ → Type 0
Commute Q u v = Joined Q (u ++ v) (v ++ u)

commute-nil : (Q : Presentation) (u : List ℤ) → Commute Q u []
commute-nil Q u = joined-from_equal Q (append-nil u)

commute-append : {Q : Presentation} (u v w : List ℤ) → Commute Q u v → Commute Q u w → Commute Q u (v ++ w)
commute-append {Q} u v w c d =
    let first : Joined Q ((u ++ v) ++ w) ((v ++ u) ++ w) = joined-append_right w c in
    let second : Joined Q (v ++ (u ++ w)) (v ++ (w ++ u)) = joined-append_left v d in
    joined-trans (joined-from_equal Q (sym (append_assoc u v w)))
    (joined-trans first (joined-trans (joined-from_equal Q (append_assoc v u w))
    (joined-trans second (joined-from_equal Q (sym (append_assoc v w u))))))

commute-copies : {Q : Presentation} (u v : List ℤ) (n : ℕ) → Commute Q u v → Commute Q u (copies v n)
commute-copies {Q} u v zero c = commute-nil Q u
commute-copies u v (suc n) c = commute-append u v (copies v n) c (commute-copies u v n c)

-- powers of a word whose p-th power is trivial
copies-mod : {Q : Presentation} (u : List ℤ) (p n : ℕ) → Joined Q (copies u p) [] → Joined Q (copies u n) (copies u (n % p))
copies-mod {Q} u p n c =
    let whole : copies u n ≡ copies (copies u p) (n / p) ++ copies u (n % p) =
    ap (copies u) (sym (div-add-mod n p)) ∙ copies-add u (p * (n / p)) (n % p)
    ∙ ap (λ (w : List ℤ). w ++ copies u (n % p)) (copies-mul u p (n / p)) in
    joined-trans (joined-from_equal Q whole)
    (joined-append_right (copies u (n % p))
    (joined-trans (joined-copies (n / p) c) (joined-from_equal Q (copies-nil (n / p)))))

-- the parts of a word of generators
pub AllBelow-append_left : (n : ℕ) (u v : List ℕ) → AllBelow n (u ++ v) → AllBelow n u
AllBelow-append_left n [] v h = tt
AllBelow-append_left n (x ∷ u) v h = (h.0, AllBelow-append_left n u v h.1)

pub AllBelow-append_right : (n : ℕ) (u v : List ℕ) → AllBelow n (u ++ v) → AllBelow n v
AllBelow-append_right n [] v h = h
AllBelow-append_right n (x ∷ u) v h = AllBelow-append_right n u v h.1

module _ (Y : RowedPresentation) (rowed : IsRowed Y) where
  -- a tail commutes with each generator and with each tail before it
  tail-commutes : (t i : ℕ) → t < Y.width → i < Y.base.rank + t → Commute (flat Y) (letter (Y.base.rank + t)) (letter i)
  tail-commutes t i l m =
      let r : ℕ = Y.width - suc t in
      let word_is : commutator_word (flat Y) (Y.base.rank + t) i ≡ [] =
      ap (word_from (suc (Y.base.rank + t))) (commutator_side-tail Y rowed t r i (omega arith) m)
      ∙ word_from-zeros (suc (Y.base.rank + t)) r in
      commute-from_comm (letter (Y.base.rank + t)) (letter i)
      (subst (λ (w : List ℤ). Joined (flat Y) (comm (letter (Y.base.rank + t)) (letter i)) w) word_is
      (commutator-joined (flat Y) (Y.base.rank + t) i (omega arith) m))

  tail-power : (t : ℕ) → t < Y.width → Joined (flat Y) (copies (letter (Y.base.rank + t)) Y.base.prime) []
  tail-power t l =
      let r : ℕ = Y.width - suc t in
      subst (λ (w : List ℤ). Joined (flat Y) (copies (letter (Y.base.rank + t)) Y.base.prime) w)
      (ap (word_from (suc (Y.base.rank + t))) (power_side-tail Y rowed t r (omega arith)) ∙ word_from-zeros (suc (Y.base.rank + t)) r)
      (power-joined (flat Y) (Y.base.rank + t) (omega arith))

  -- a letter that comes before tails commutes with their words
  letter-commutes : (i t : ℕ) (x : List ℕ) → t + length x ≡ Y.width → i < Y.base.rank + t
      → Commute (flat Y) (letter i) (word_from (Y.base.rank + t) x)
  letter-commutes i t [] e l = commute-nil (flat Y) (letter i)
  letter-commutes i t (a ∷ x) e l =
      let rest : Commute (flat Y) (letter i) (word_from (suc (Y.base.rank + t)) x) =
      subst (λ (m : ℕ). Commute (flat Y) (letter i) (word_from m x))
      (let g : Y.base.rank + suc t ≡ suc (Y.base.rank + t) = omega arith in g)
      (letter-commutes i (suc t) x (omega arith) (omega arith)) in
      commute-append (letter i) (copies (letter (Y.base.rank + t)) a) (word_from (suc (Y.base.rank + t)) x)
      (commute-copies (letter i) (letter (Y.base.rank + t)) a (joined-sym (tail-commutes t i (omega arith) l))) rest

  -- the word of a row commutes with letters of generators
  pub row-commutes : (x u : List ℕ) → length x ≡ Y.width → AllBelow Y.base.rank u → Commute (flat Y) (word_from Y.base.rank x) (letters u)
  row-commutes x [] e h = commute-nil (flat Y) (word_from Y.base.rank x)
  row-commutes x (i ∷ u) e h =
      let first : Commute (flat Y) (letter i) (word_from Y.base.rank x) =
      subst (λ (m : ℕ). Commute (flat Y) (letter i) (word_from m x)) (let g : Y.base.rank + 0 ≡ Y.base.rank = omega arith in g)
      (letter-commutes i 0 x (omega arith) (let l = h.0 in omega arith)) in
      commute-append (word_from Y.base.rank x) (letter i) (letters u) (joined-sym first) (row-commutes x u e h.1)

  -- words of rows add up
  sums-from : (t : ℕ) (x y : List ℕ) → t + length x ≡ Y.width → length y ≡ length x
      → Joined (flat Y) (word_from (Y.base.rank + t) x ++ word_from (Y.base.rank + t) y)
      (word_from (Y.base.rank + t) (row_sum Y.base.prime x y))
  sums-from t [] [] e f = joined-refl (flat Y) []
  sums-from t [] (b ∷ y) e f = absurd (omega arith)
  sums-from t (a ∷ x) [] e f = absurd (omega arith)
  sums-from t (a ∷ x) (b ∷ y) e f =
      let z : List ℤ = letter (Y.base.rank + t) in
      let k : ℕ = suc (Y.base.rank + t) in
      let g : Y.base.rank + suc t ≡ suc (Y.base.rank + t) = omega arith in
      let p : ℕ = Y.base.prime in
      let later : Joined (flat Y) (word_from (suc (Y.base.rank + t)) x ++ word_from (suc (Y.base.rank + t)) y)
      (word_from (suc (Y.base.rank + t)) (row_sum Y.base.prime x y)) =
      subst (λ (m : ℕ). Joined (flat Y) (word_from m x ++ word_from m y) (word_from m (row_sum Y.base.prime x y))) g
      (sums-from (suc t) x y (omega arith) (omega arith)) in
      let passes : Commute (flat Y) (letter (Y.base.rank + t)) (word_from (suc (Y.base.rank + t)) x) =
      subst (λ (m : ℕ). Commute (flat Y) (letter (Y.base.rank + t)) (word_from m x)) g
      (letter-commutes (Y.base.rank + t) (suc t) x (omega arith) (omega arith)) in
      let exchange : Joined (flat Y) (word_from k x ++ copies z b) (copies z b ++ word_from k x) =
      commute-copies (word_from k x) z b (joined-sym passes) in
      let reduced : Joined (flat Y) (copies z a ++ copies z b) (copies z ((a + b) % p)) =
      joined-trans (joined-from_equal (flat Y) (sym (copies-add z a b))) (copies-mod z Y.base.prime (a + b) (tail-power t (omega arith))) in
      let start : (copies z a ++ word_from k x) ++ (copies z b ++ word_from k y)
      ≡ copies z a ++ ((word_from k x ++ copies z b) ++ word_from k y) =
      append_assoc (copies z a) (word_from k x) (copies z b ++ word_from k y)
      ∙ ap (λ (w : List ℤ). copies (letter (Y.base.rank + t)) a ++ w) (sym (append_assoc (word_from k x) (copies z b) (word_from k y))) in
      let middle : copies z a ++ ((copies z b ++ word_from k x) ++ word_from k y)
      ≡ (copies z a ++ copies z b) ++ (word_from k x ++ word_from k y) =
      ap (λ (w : List ℤ). copies (letter (Y.base.rank + t)) a ++ w) (append_assoc (copies z b) (word_from k x) (word_from k y))
      ∙ sym (append_assoc (copies z a) (copies z b) (word_from k x ++ word_from k y)) in
      joined-trans (joined-from_equal (flat Y) start)
      (joined-trans (joined-append_left (copies z a) (joined-append_right (word_from k y) exchange))
      (joined-trans (joined-from_equal (flat Y) middle) (joined-append reduced later)))

  pub row_words-add : (x y : List ℕ) → length x ≡ Y.width → length y ≡ Y.width
      → Joined (flat Y) (word_from Y.base.rank x ++ word_from Y.base.rank y) (word_from Y.base.rank (row_sum Y.base.prime x y))
  row_words-add x y e f =
      subst (λ (m : ℕ). Joined (flat Y) (word_from m x ++ word_from m y) (word_from m (row_sum Y.base.prime x y)))
      (let g : Y.base.rank + 0 ≡ Y.base.rank = omega arith in g)
      (sums-from 0 x y (omega arith) (omega arith))

  -- the sides of a replacement
  replacement-sides : {l r t : List ℕ} → Replacement Y l r t → Joined (flat Y) (letters l) (letters r ++ word_from Y.base.rank t)
  replacement-sides (swap j i h m) =
      let side : List ℕ = commutator_side Y.base j i in
      let word_is : commutator_word (flat Y) j i
      ≡ letters (spelled (suc j) (commutator_side Y.base j i)) ++ word_from Y.base.rank (commutator_row Y j i) =
      ap (word_from (suc j)) (commutator_side-flat Y rowed j i h)
      ∙ word_from-side_and_row Y.base.rank j side (commutator_row Y j i) (rowed.base.commutator_sides j i h m).count in
      subst (λ (w : List ℤ). Joined (flat Y) (letter j ++ letter i) (letter i ++ (letter j ++ w))) word_is
      (letter-swap-joined (flat Y) j i (omega arith) m)
  replacement-sides (power i h) =
      let side : List ℕ = power_side Y.base i in
      let word_is : power_word (flat Y) i ≡ letters (spelled (suc i) (power_side Y.base i)) ++ word_from Y.base.rank (power_row Y i) =
      ap (word_from (suc i)) (power_side-flat Y rowed i h)
      ∙ word_from-side_and_row Y.base.rank i side (power_row Y i) (rowed.base.power_sides i h).count in
      subst (λ (w : List ℤ). Joined (flat Y) w (letters (spelled (suc i) (power_side Y.base i)) ++ word_from Y.base.rank (power_row Y i)))
      (sym (letters-replicate Y.base.prime i))
      (subst (λ (w : List ℤ). Joined (flat Y) (copies (letter i) Y.base.prime) w) word_is (power-joined (flat Y) i (omega arith)))

  replacement-below : {l r t : List ℕ} → Replacement Y l r t → AllBelow Y.base.rank r
  replacement-below (swap j i h m) =
      let c = (rowed.base.commutator_sides j i h m).count in
      (omega arith, (h, AllBelow-spelled Y.base.rank (suc j) (commutator_side Y.base j i) (omega arith)))
  replacement-below (power i h) = let c = (rowed.base.power_sides i h).count in
      AllBelow-spelled Y.base.rank (suc i) (power_side Y.base i) (omega arith)

  replacement-row : {l r t : List ℕ} → Replacement Y l r t → IsNormal Y.base.prime Y.width t
  replacement-row (swap j i h m) = rowed.commutator_rows j i h m
  replacement-row (power i h) = rowed.power_rows i h

  -- the row that comes in goes to the end
  row-out : (a r b t x : List ℕ) → AllBelow Y.base.rank b → length t ≡ Y.width → length x ≡ Y.width
      → Joined (flat Y) (letters a ++ ((letters r ++ word_from Y.base.rank t) ++ (letters b ++ word_from Y.base.rank x)))
      (letters a ++ (letters r ++ (letters b ++ word_from Y.base.rank (row_sum Y.base.prime x t))))
  row-out a r b t x h e f =
      let n : ℕ = Y.base.rank in
      let passes : Joined (flat Y) (word_from n t ++ letters b) (letters b ++ word_from n t) = row-commutes t b e h in
      let added : Joined (flat Y) (word_from n t ++ word_from n x) (word_from n (row_sum Y.base.prime x t)) =
      joined-trans (row_words-add t x e f) (joined-from_equal (flat Y) (ap (word_from Y.base.rank) (row_sum-comm Y.base.prime t x))) in
      let moved : Joined (flat Y) ((word_from n t ++ letters b) ++ word_from n x) ((letters b ++ word_from n t) ++ word_from n x) =
      joined-append_right (word_from n x) passes in
      let inner : Joined (flat Y) (word_from n t ++ (letters b ++ word_from n x)) (letters b ++ word_from n (row_sum Y.base.prime x t)) =
      joined-trans (joined-from_equal (flat Y) (sym (append_assoc (word_from n t) (letters b) (word_from n x))))
      (joined-trans moved
      (joined-trans (joined-from_equal (flat Y) (append_assoc (letters b) (word_from n t) (word_from n x)))
      (joined-append_left (letters b) added))) in
      joined-append_left (letters a)
      (joined-trans (joined-from_equal (flat Y) (append_assoc (letters r) (word_from n t) (letters b ++ word_from n x)))
      (joined-append_left (letters r) inner))

  signed_word-three : (a l b x : List ℕ) → signed_word Y.base.rank (record { word = a ++ (l ++ b); row = x })
      ≡ letters a ++ (letters l ++ (letters b ++ word_from Y.base.rank x))
  signed_word-three a l b x =
      ap (λ (w : List ℤ). w ++ word_from Y.base.rank x)
      (letters-append a (l ++ b) ∙ ap (λ (w : List ℤ). letters a ++ w) (letters-append l b))
      ∙ append_assoc (letters a) (letters l ++ letters b) (word_from Y.base.rank x)
      ∙ ap (λ (w : List ℤ). letters a ++ w) (append_assoc (letters l) (letters b) (word_from Y.base.rank x))

  -- a step
  record StepJoined (c d : Configuration) : Type 0 where
    pub joined : Joined (flat Y) (signed_word Y.base.rank c) (signed_word Y.base.rank d)
    pub below : AllBelow Y.base.rank d.word
    pub row : IsNormal Y.base.prime Y.width d.row

  module _ (positive : 0 < Y.base.prime) where
    step-joined_flat : {c d : Configuration} → Step Y.base.prime (Replacement Y) c d → AllBelow Y.base.rank c.word
        → IsNormal Y.base.prime Y.width c.row → StepJoined c d
    step-joined_flat (replace a l r b t x h) below row =
        let lb : AllBelow Y.base.rank (l ++ b) = AllBelow-append_right Y.base.rank a (l ++ b) below in
        let bb : AllBelow Y.base.rank b = AllBelow-append_right Y.base.rank l b lb in
        let ab : AllBelow Y.base.rank a = AllBelow-append_left Y.base.rank a (l ++ b) below in
        let s : Joined (flat Y) (letters a ++ (letters l ++ (letters b ++ word_from Y.base.rank x)))
        (letters a ++ ((letters r ++ word_from Y.base.rank t) ++ (letters b ++ word_from Y.base.rank x))) =
        joined-append_left (letters a) (joined-append_right (letters b ++ word_from Y.base.rank x) (replacement-sides h)) in
        record {
          joined =
              joined-trans (joined-from_equal (flat Y) (signed_word-three a l b x))
              (joined-trans s
              (joined-trans (row-out a r b t x bb (replacement-row h).count row.count)
              (joined-from_equal (flat Y) (sym (signed_word-three a r b (row_sum Y.base.prime x t))))));
          below = AllBelow-append Y.base.rank a (r ++ b) ab (AllBelow-append Y.base.rank r b (replacement-below h) bb);
          row = row_sum-normal Y.base.prime Y.width x t positive row (replacement-row h);
        }

    pub run-joined_flat : {c d : Configuration} → DirectedRun Y c d → AllBelow Y.base.rank c.word → IsNormal Y.base.prime Y.width c.row
        → Joined (flat Y) (signed_word Y.base.rank c) (signed_word Y.base.rank d)
    run-joined_flat {c} stop below row = joined-refl (flat Y) (signed_word Y.base.rank c)
    run-joined_flat (move s m) below row =
        let j = step-joined_flat s below row in
        joined-trans j.joined (run-joined_flat m j.below j.row)

    -- the word of a state and a letter
    pub letter-behind : (s : State) (i : ℕ) → IsState Y Y.base.rank s → i < Y.base.rank
        → Joined (flat Y) (signed_word Y.base.rank (configuration_of s) ++ letter i)
        (signed_word Y.base.rank (record { word = spelled 0 s.exponents ++ i ∷ []; row = s.row }))
    letter-behind s i h l =
        let n : ℕ = Y.base.rank in
        let u : List ℤ = letters (spelled 0 s.exponents) in
        let v : List ℤ = word_from n s.row in
        let passes : Joined (flat Y) (v ++ letter i) (letter i ++ v) = row-commutes s.row (i ∷ []) h.row.count (l, tt) in
        joined-trans (joined-from_equal (flat Y) (append_assoc u v (letter i)))
        (joined-trans (joined-append_left u passes)
        (joined-from_equal (flat Y)
        (sym (append_assoc u (letter i) v)
        ∙ ap (λ (w : List ℤ). w ++ word_from Y.base.rank s.row) (sym (letters-append (spelled 0 s.exponents) (i ∷ []))))))

    pub plain_push-joined : (s : State) (i : ℕ) → IsState Y Y.base.rank s → i < Y.base.rank
        → Joined (flat Y) (signed_word Y.base.rank (configuration_of s) ++ letter i)
        (signed_word Y.base.rank (configuration_of (plain_push Y s i)))
    plain_push-joined s i h l =
        let c = h.exponents.count in
        joined-trans (letter-behind s i h l)
        (run-joined_flat (plain_push-run Y rowed positive s i h l)
        (AllBelow-append Y.base.rank (spelled 0 s.exponents) (i ∷ []) (AllBelow-spelled Y.base.rank 0 s.exponents (omega arith)) (l, tt))
        h.row)

pub directed_runs_are_joined : DirectedRunsAreJoined
directed_runs_are_joined Y rowed c d below row m = run-joined_flat Y rowed (positive_prime Y.base rowed.base) m below row

pub plain_pushes_are_joined : PlainPushesAreJoined
plain_pushes_are_joined Y rowed s i h l = plain_push-joined Y rowed (positive_prime Y.base rowed.base) s i h l
