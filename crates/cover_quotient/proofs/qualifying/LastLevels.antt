-- Over an answer that is ready for the next class, the words of the last level of the flat reading are joined to words of
-- combinations of the rows of the qualifying relations.
use Rattle.std.proofs.Common.{◌≡◌, ℕ, zero, suc, ◌+◌, ◌-◌, ◌<◌, ◌≤◌, ℤ, List, [], ◌∷◌, ◌++◌, length, replicate, ap, sym, ◌∙◌, subst, arith}
use Rattle.std.proofs.Common.{inl, inr}
use Rattle.std.proofs.lemmas.List.{append-nil}
use Rattle.std.proofs.lemmas.Bool.{cases_lt}
use Rattle.pq_base.specs.SignedWord.{copies, comm, HasLetters}
use Rattle.pq_base.specs.Presentation.{Presentation, IsNormal, letter, word_from, power_word, commutator_word}
use Rattle.pq_base.specs.Joined.{Joined}
use Rattle.pq_base.specs.Series.{NextWord, InSeries, HasClass}
use Rattle.pq_base.specs.Series.NextWord.{no_word, then_commutator, then_power}
use Rattle.pq_base.specs.Answer.{Answer, Definition as Source, HasDefinition, weight_at, definition_at}
use Rattle.pq_base.specs.Answer.Definition.{image, commutator, power}
use Rattle.pq_base.specs.Canonical.{rank_up_to, up_to_class}
use Rattle.pq_base.proofs.words.WordLaws.{copies-nil, word_from-zeros}
use Rattle.pq_base.proofs.words.LetterLaws.{HasLetters-letter, HasLetters-append, HasLetters-weaken, HasLetters-word_from}
use Rattle.pq_base.proofs.words.JoinedLaws.{joined-refl, joined-from_equal, joined-sym, joined-trans, joined-comm, joined-copies}
use Rattle.pq_base.proofs.words.JoinedLaws.{comm-joined_nil}
use Rattle.pq_base.proofs.SeriesLaws.{series-letters}
use Rattle.pc_presentation.specs.Rowed.{RowedPresentation, power_row, commutator_row, flat}
use Rattle.p_cover.specs.RowedAnswer.{RowedAnswer, IsRowedAnswer, rowed, row_at}
use Rattle.pc_presentation.specs.RowedLaws.{IsUpToRow, projected}
use Rattle.pc_presentation.proofs.rows.FlatWords.{power-with_row, commutator-with_row}
use Rattle.pc_presentation.proofs.rows.RowsCentral.{row_word-central, row_word-power}
use Rattle.pc_presentation.proofs.rows.Projections.{HasLetters-projection, sub-projection, series-projected}
use Rattle.pc_presentation.proofs.rows.Lifting.{up_to_row-joined, lifted}
use Rattle.pc_presentation.specs.CutLaws.{ReachesLater, cut_word}
use Rattle.cover_quotient.specs.Levels.{IsReady, IsSpanned, qualifying_rows, LastLevelIsSpanned}
use Rattle.pc_presentation.proofs.cuts.CutSides.{series-cut}
use Rattle.pc_presentation.proofs.cuts.Cuts.{cut_words_are_later}
use Rattle.pq_base.proofs.WeightLaws.{weights-least, weights-rise, weights-past_count, count_up_to-within}
use Rattle.pq_base.proofs.groups.CentralCommutators.{IsCentralSet, comm_right-word, comm_right-central, comm-turned, comm_left-times}
use Rattle.pq_base.proofs.groups.CentralCommutators.{comm-nested, comm-copies, copies-product_kept}
use Rattle.cover_quotient.proofs.qualifying.QualifyingRows.{qualifying-are_rows, commutator-spanned, power-spanned}
use Rattle.cover_quotient.proofs.spans.SpannedWords.{up_to_row-set, tail-central, spanned-set}

module _ (Y : RowedAnswer) (is : IsRowedAnswer Y) (big : 1 < Y.answer.presentation.prime) (k : ℕ) (ready : IsReady Y.answer (suc k)) where
  abbrev A : Answer
  A = Y.answer

  abbrev P : Presentation
  P = Y.answer.presentation

  abbrev Z : RowedPresentation
  Z = rowed Y

  abbrev F : Presentation
  F = flat (rowed Y)

  abbrev n : ℕ
  n = Y.answer.presentation.rank

  abbrev p : ℕ
  p = Y.answer.presentation.prime

  -- words of rows, and of combinations of the qualifying rows
  abbrev IsTail : List ℤ → Type 0
  IsTail w = IsUpToRow (rowed Y) w []

  abbrev InSpanned : List ℤ → Type 0
  InSpanned w = IsSpanned Y (qualifying_rows Y (suc k)) w

  tails : IsCentralSet F IsTail
  tails = up_to_row-set Z is.presentation big

  spanned : IsCentralSet F InSpanned
  spanned = spanned-set Y is big (qualifying_rows Y (suc k)) (qualifying-are_rows Y is (suc k))

  letter-within : (i : ℕ) → i < n → HasLetters (Y.answer.presentation.rank + Y.width) (letter i)
  letter-within i l = HasLetters-letter (Y.answer.presentation.rank + Y.width) i (omega arith)

  -- generators after one of the last weight have it too
  same_weight : (l i : ℕ) → l ≤ i → i < n → weight_at A l ≡ suc k → weight_at A i ≡ suc k
  same_weight l i b m w =
      let long : length Y.answer.weights ≡ Y.answer.presentation.rank = is.answer.weight_count in
      let rises = weights-rise 1 A.weights is.answer.weights l i b (omega arith) in
      let most = ready.weights i m in
      omega arith

  -- a relation whose first generator has the last weight
  commutator-tail : (j i : ℕ) → j < n → i < j → weight_at A j ≡ suc k
      → Joined F (comm (letter j) (letter i)) (word_from n (commutator_row Z j i))
  commutator-tail j i l b w =
      subst (λ (u : List ℤ). Joined F (comm (letter j) (letter i)) (u ++ word_from n (commutator_row Z j i))) (ready.commutators j i l b w)
      (commutator-with_row Z is.presentation j i l b)

  turned_tail : (j i : ℕ) → j < n → i < j → weight_at A j ≡ suc k → IsTail (comm (letter j) (letter i))
  turned_tail j i l b w = record {
    row = commutator_row Z j i;
    normal = is.presentation.commutator_rows j i l b;
    joined = commutator-tail j i l b w;
  }

  own_commutator : (l i : ℕ) → l ≤ i → i ≤ l → Joined F (comm (letter l) (letter i)) []
  own_commutator l i a b =
      let same : l ≡ i = omega arith in
      subst (λ (j : ℕ). Joined F (comm (letter l) (letter j)) []) same
      (comm-joined_nil (letter l) (letter l) (joined-refl F (letter l ++ letter l)))

  letter-tail : (l i : ℕ) → l < n → weight_at A l ≡ suc k → i < n → IsTail (comm (letter l) (letter i))
  letter-tail l i b w m = elim (cases_lt i l) [
    | inl before ↦ turned_tail l i b before w
    | inr after ↦ elim (cases_lt l i) [
      | inl behind ↦ comm-turned F IsTail tails (letter i) (letter l) (turned_tail i l m behind (same_weight l i (omega arith) m w))
      | inr equal ↦ up_to_row-joined Z (omega arith) (own_commutator l i (omega arith) (omega arith))
    ]
  ]

  -- with a generator of weight 1 it is a qualifying relation or its inverse
  relation-spanned : (j i : ℕ) → j < n → i < j → weight_at A j ≡ suc k → weight_at A i ≡ 1 → InSpanned (comm (letter j) (letter i))
  relation-spanned j i l b w v = record {
    row = commutator_row Z j i;
    span = commutator-spanned Y is (suc k) big j i l b w v;
    joined = commutator-tail j i l b w;
  }

  first-spanned : (l i : ℕ) → l < n → weight_at A l ≡ suc k → i < n → weight_at A i ≡ 1 → InSpanned (comm (letter l) (letter i))
  first-spanned l i b w m v = elim (cases_lt i l) [
    | inl before ↦ relation-spanned l i b before w v
    | inr after ↦ elim (cases_lt l i) [
      | inl behind ↦
          let same : weight_at Y.answer i ≡ suc k = same_weight l i (omega arith) m w in
          comm-turned F InSpanned spanned (letter i) (letter l) (relation-spanned i l m behind same (omega arith))
      | inr equal ↦ spanned.kept (joined-sym (own_commutator l i (omega arith) (omega arith))) spanned.one
    ]
  ]

  -- with a generator of greater weight, which is a commutator or a power, it is trivial
  zero_row : (w : List ℤ) (x : List ℕ) → x ≡ replicate Y.width 0 → w ++ word_from n x ≡ w
  zero_row w x e =
      ap (λ (y : List ℕ). w ++ word_from Y.answer.presentation.rank y) e
      ∙ ap (λ (y : List ℤ). w ++ y) (word_from-zeros Y.answer.presentation.rank Y.width) ∙ append-nil w

  defined-trivial : (l i : ℕ) (d : Source) → l < n → weight_at A l ≡ suc k → i < n → 1 < weight_at A i → HasDefinition A i d
      → row_at Y d ≡ replicate Y.width 0 → Joined F (comm (letter l) (letter i)) []
  defined-trivial l i (image zero) b w m v d r = absurd d
  defined-trivial l i (image (suc s)) b w m v d r = let one = d.0 in absurd (omega arith)
  defined-trivial l i (commutator zero t) b w m v d r = absurd d
  defined-trivial l i (commutator (suc s) zero) b w m v d r = absurd d
  defined-trivial l i (commutator (suc s) (suc t)) b w m v d r =
      let below : t < s = d.1 in
      let before : s < i = d.2 in
      let side : commutator_word Y.answer.presentation s t ++ word_from Y.answer.presentation.rank (commutator_row (rowed Y) s t)
      ≡ letter i =
      zero_row (commutator_word P s t) (commutator_row Z s t) r ∙ d.3 in
      let relation : Joined F (comm (letter s) (letter t)) (letter i) =
      subst (λ (u : List ℤ). Joined F (comm (letter s) (letter t)) u) side
      (commutator-with_row Z is.presentation s t (omega arith) below) in
      joined-trans (joined-comm (joined-refl F (letter l)) (joined-sym relation))
      (comm-nested F IsTail tails (letter l) (letter s) (letter t)
      (letter-within l b) (letter-within s (omega arith)) (letter-within t (omega arith))
      (letter-tail l s b w (omega arith)) (letter-tail l t b w (omega arith)))
  defined-trivial l i (power zero) b w m v d r = absurd d
  defined-trivial l i (power (suc s)) b w m v d r =
      let before : s < i = d.1 in
      let side : power_word Y.answer.presentation s ++ word_from Y.answer.presentation.rank (power_row (rowed Y) s) ≡ letter i =
      zero_row (power_word P s) (power_row Z s) r ∙ d.2 in
      let relation : Joined F (copies (letter s) p) (letter i) =
      subst (λ (u : List ℤ). Joined F (copies (letter s) p) u) side (power-with_row Z is.presentation s (omega arith)) in
      let t = letter-tail l s b w (omega arith) in
      joined-trans (joined-comm (joined-refl F (letter l)) (joined-sym relation))
      (joined-trans (comm-copies F IsTail tails (letter l) (letter s) p (letter-within s (omega arith)) t)
      (joined-trans (joined-copies p t.joined) (row_word-power Z is.presentation (omega arith) t.row t.normal)))

  letter-spanned : (l i : ℕ) → l < n → weight_at A l ≡ suc k → i < n → InSpanned (comm (letter l) (letter i))
  letter-spanned l i b w m =
      let long : length Y.answer.weights ≡ Y.answer.presentation.rank = is.answer.weight_count in
      let least = weights-least 1 A.weights is.answer.weights i (omega arith) in
      elim (cases_lt 1 (weight_at A i)) [
        | inl greater ↦
            spanned.kept
            (joined-sym (defined-trivial l i (definition_at A i) b w m greater (is.answer.definitions i m) (is.definitions i m)))
            spanned.one
        | inr one ↦ first-spanned l i b w m (omega arith)
      ]

  -- with a tail it is trivial
  each-spanned : (l i : ℕ) → l < n → weight_at A l ≡ suc k → i < n + Y.width → InSpanned (comm (letter l) (letter i))
  each-spanned l i b w m = elim (cases_lt i Y.answer.presentation.rank) [
    | inl h ↦ letter-spanned l i b w h
    | inr h ↦
        let t : ℕ = i - Y.answer.presentation.rank in
        let place : Y.answer.presentation.rank + t ≡ i = omega arith in
        subst (λ (j : ℕ). InSpanned (comm (letter l) (letter j))) place
        (comm_right-central F InSpanned spanned (letter l) (letter (n + t)) (letter-within l b)
        (tail-central Z is.presentation big t (omega arith)))
  ]

  -- words whose commutators and powers are spanned
  record IsLastWord (x : List ℤ) : Type 0 where
    pub letters : HasLetters (Y.answer.presentation.rank + Y.width) x
    pub commutators : (v : List ℤ) → HasLetters (Y.answer.presentation.rank + Y.width) v → InSpanned (comm x v)
    pub power : InSpanned (copies x p)

  last-letter : (l : ℕ) → l < n → weight_at A l ≡ suc k → IsLastWord (letter l)
  last-letter l b w = record {
    letters = letter-within l b;
    commutators = λ v h. comm_right-word F InSpanned spanned (letter l) (λ i m. each-spanned l i b w m) v h;
    power = record {
      row = power_row Z l;
      span = power-spanned Y is (suc k) big l b w;
      joined =
          subst (λ (u : List ℤ). Joined F (copies (letter l) p) (u ++ word_from n (power_row Z l))) (ready.powers l b w)
          (power-with_row Z is.presentation l b);
    };
  }

  last-nil : IsLastWord []
  last-nil = record {
    letters = tt;
    commutators = λ v h. spanned.kept (joined-sym (comm-joined_nil [] v (joined-from_equal F (sym (append-nil v))))) spanned.one;
    power = subst InSpanned (sym (copies-nil p)) spanned.one;
  }

  last-append : (x y : List ℤ) → IsLastWord x → IsLastWord y → IsLastWord (x ++ y)
  last-append x y h i = record {
    letters = HasLetters-append (Y.answer.presentation.rank + Y.width) x y h.letters i.letters;
    commutators = λ v l. comm_left-times F InSpanned spanned x y v i.letters (h.commutators v l) (i.commutators v l);
    power = copies-product_kept F InSpanned spanned x y p h.letters i.letters (i.commutators x h.letters) h.power i.power;
  }

  last-copies : (x : List ℤ) (e : ℕ) → IsLastWord x → IsLastWord (copies x e)
  last-copies x zero h = last-nil
  last-copies x (suc e) h = last-append x (copies x e) h (last-copies x e h)

  last-word_from : (m : ℕ) → ((l : ℕ) → m ≤ l → l < n → weight_at A l ≡ suc k) → (j : ℕ) (e : List ℕ) → m ≤ j → j + length e ≤ n
      → IsLastWord (word_from j e)
  last-word_from m last j [] b l = last-nil
  last-word_from m last j (x ∷ e) b l =
      last-append (copies (letter j) x) (word_from (suc j) e)
      (last-copies (letter j) x (last-letter j (omega arith) (last j b (omega arith))))
      (last-word_from m last (suc j) e (omega arith) (omega arith))

  last-row : (x : List ℕ) → IsNormal p Y.width x → IsLastWord (word_from n x)
  last-row x h =
      let c = h.count in
      let central = row_word-central Z is.presentation x c in
      record {
        letters = HasLetters-word_from (Y.answer.presentation.rank + Y.width) n x (omega arith);
        commutators = λ v l. spanned.kept (joined-sym (comm-joined_nil (word_from n x) v (central.commutes v l))) spanned.one;
        power = spanned.kept (joined-sym (row_word-power Z is.presentation (omega arith) x h)) spanned.one;
      }

  last-kept : {x y : List ℤ} → Joined F x y → HasLetters (Y.answer.presentation.rank + Y.width) y → IsLastWord x → IsLastWord y
  last-kept e l h = record {
    letters = l;
    commutators = λ v m. spanned.kept (joined-comm e (joined-refl F v)) (h.commutators v m);
    power = spanned.kept (joined-copies p e) h.power;
  }

  -- a word of the level before the last is a product of generators of the last weight and tails
  below-last : (u : List ℤ) → InSeries F k u → IsLastWord u
  below-last u s =
      let m : ℕ = rank_up_to Y.answer k in
      let count : length Y.answer.weights ≡ Y.answer.presentation.rank = is.answer.weight_count in
      let fits = count_up_to-within k A.weights in
      let within : rank_up_to Y.answer k ≤ Y.answer.presentation.rank = omega arith in
      let letters = series-letters F k u s in
      let in_base : InSeries P k (projected Z u) = series-projected Z is.presentation k u s in
      let one_less : suc k - 1 ≡ k = omega arith in
      let class : HasClass (up_to_class Y.answer k).presentation k =
      subst (λ (j : ℕ). HasClass (up_to_class Y.answer j).presentation j) one_less ready.below in
      let trivial = class (cut_word m P (projected Z u)) (series-cut P is.answer.presentation m within k (projected Z u) in_base) in
      let reached : ReachesLater P m (projected Z u) =
      cut_words_are_later P m is.answer.presentation within (projected Z u) (HasLetters-projection n Y.width u) trivial in
      let long : length reached.exponents ≡ Y.answer.presentation.rank - rank_up_to Y.answer k = reached.normal.count in
      let word : List ℤ = word_from m reached.exponents in
      let word_letters : HasLetters n word = HasLetters-word_from n m reached.exponents (omega arith) in
      let word_within : HasLetters (Y.answer.presentation.rank + Y.width) word =
      HasLetters-weaken n (Y.answer.presentation.rank + Y.width) word (omega arith) word_letters in
      let same : Joined P (projected Z u) (projected Z word) =
      joined-trans reached.joined (joined-from_equal P (sym (sub-projection n Y.width word word_letters))) in
      let up = lifted Z is.presentation big u word letters word_within same in
      let last : (l : ℕ) → rank_up_to Y.answer k ≤ l → l < Y.answer.presentation.rank → weight_at Y.answer l ≡ suc k =
      λ l b h.
      let past = weights-past_count 1 k A.weights is.answer.weights l b (omega arith) in
      let most = ready.weights l h in
      omega arith in
      last-kept (joined-sym up.joined) letters
      (last-append word (word_from n up.row) (last-word_from m last m reached.exponents (omega arith) (omega arith))
      (last-row up.row up.normal))

  -- the last level
  next-spanned : {w : List ℤ} → NextWord F (InSeries F k) w → InSpanned w
  next-spanned no_word = spanned.one
  next-spanned (then_commutator u v w s h next) =
      spanned.times (comm u v) w ((below-last u s).commutators v h) (next-spanned next)
  next-spanned (then_power u w s next) = spanned.times (copies u p) w (below-last u s).power (next-spanned next)

  pub level-spanned : (w : List ℤ) → InSeries (flat (rowed Y)) (suc k) w → IsSpanned Y (qualifying_rows Y (suc k)) w
  level-spanned w s = spanned.kept (joined-sym s.joined) (next-spanned s.next)

pub last_level_is_spanned : LastLevelIsSpanned
last_level_is_spanned Y zero is big some ready w s = absurd (omega arith)
last_level_is_spanned Y (suc k) is big some ready w s = level-spanned Y is big k ready w s
