-- In a consistent flat reading all runs that push a generator on a state end alike, and each overlap agrees. Over a
-- consistent base they end at the same exponents, and at rows whose words are joined.
use Rattle.std.proofs.Common.{◌≡◌, ℕ, ◌+◌, ◌<◌, ℤ, List, [], ◌∷◌, ◌++◌, length, refl, ap, sym, ◌∙◌, subst, arith, length-append}
use Rattle.pq_base.specs.Table.{AllBelow}
use Rattle.pq_base.specs.Presentation.{Presentation, IsNormal, word_from, normal_word}
use Rattle.pq_base.specs.Joined.{Joined, IsConsistent}
use Rattle.pq_base.proofs.words.WordLaws.{word_from-append}
use Rattle.pq_base.proofs.words.JoinedLaws.{joined-sym, joined-trans, joined-from_equal, joined-cancel_left}
use Rattle.pq_base.proofs.PrimeLaws.{positive_prime}
use Rattle.fp_rows.proofs.BelowLaws.{AllBelow-append}
use Rattle.pc_presentation.specs.Rowed.{RowedPresentation, IsRowed, without_rows, flat}
use Rattle.pc_presentation.specs.Collection.{State, IsState, spelled, letters, signed_word, configuration_of}
use Rattle.pc_presentation.specs.Overlaps.{IsPushed}
use Rattle.pc_presentation.specs.CollectionLaws.{ConsistentPushesAreUnique, PushesOverConsistentBase}
use Rattle.pc_presentation.proofs.collecting.PlainRuns.{AllBelow-spelled}
use Rattle.pc_presentation.proofs.rows.FlatLaws.{nothing, without_rows-rowed, flat-without_rows}
use Rattle.pc_presentation.proofs.consistent.LetterWords.{letters-spelled}
use Rattle.pc_presentation.proofs.rows.TailLaws.{run-joined_flat}
use Rattle.pc_presentation.proofs.rows.RowMaps.{dropped_rows, run-mapped}

-- the word of a state is the normal word of its exponents and its row
pub state-normal_word : (n : ℕ) (s : State) → length s.exponents ≡ n
    → signed_word n (configuration_of s) ≡ normal_word (s.exponents ++ s.row)
state-normal_word n s c =
    ap (λ (w : List ℤ). w ++ word_from n s.row) (letters-spelled 0 s.exponents)
    ∙ ap (λ (m : ℕ). word_from 0 s.exponents ++ word_from m s.row) (let e : n ≡ 0 + length s.exponents = omega arith in e)
    ∙ sym (word_from-append 0 s.exponents s.row)

-- lists whose parts are of equal length
record EqualParts (a b c d : List ℕ) : Type 0 where
  pub front : a ≡ c
  pub back : b ≡ d

equal_parts : (a b c d : List ℕ) → length a ≡ length c → a ++ b ≡ c ++ d → EqualParts a b c d
equal_parts [] b [] d l e = record { front = refl; back = e }
equal_parts [] b (y ∷ c) d l e = absurd (omega arith)
equal_parts (x ∷ a) b [] d l e = absurd (omega arith)
equal_parts (x ∷ a) b (y ∷ c) d l e =
    let h : x ≡ y = cc in
    let g : a ++ b ≡ c ++ d = cc in
    let r = equal_parts a b c d (omega arith) g in
    record { front = ap (λ (z : ℕ). z ∷ a) h ∙ ap (λ (z : List ℕ). y ∷ z) r.front; back = r.back }

module _ (Y : RowedPresentation) (rowed : IsRowed Y) (positive : 0 < Y.base.prime) where
  state-normal : (s : State) → IsState Y Y.base.rank s → IsNormal Y.base.prime (Y.base.rank + Y.width) (s.exponents ++ s.row)
  state-normal s h =
      let c = h.exponents.count in
      let d = h.row.count in
      record {
        count = simp length-append (omega arith);
        below = AllBelow-append Y.base.prime s.exponents s.row h.exponents.below h.row.below;
      }

  -- states whose words are joined
  pub states-unique : IsConsistent (flat Y) → (s t : State) → IsState Y Y.base.rank s → IsState Y Y.base.rank t
      → Joined (flat Y) (signed_word Y.base.rank (configuration_of s)) (signed_word Y.base.rank (configuration_of t)) → s ≡ t
  states-unique consistent s t h v c =
      let words : Joined (flat Y) (normal_word (s.exponents ++ s.row)) (normal_word (t.exponents ++ t.row)) =
      joined-trans (joined-from_equal (flat Y) (sym (state-normal_word Y.base.rank s h.exponents.count)))
      (joined-trans c (joined-from_equal (flat Y) (state-normal_word Y.base.rank t v.exponents.count))) in
      let same = consistent.unique (s.exponents ++ s.row) (t.exponents ++ t.row) (state-normal s h) (state-normal t v) words in
      let parts = equal_parts s.exponents s.row t.exponents t.row (h.exponents.count ∙ sym v.exponents.count) same in
      ap (λ (e : List ℕ). record { exponents = e; row = s.row }) parts.front
      ∙ ap (λ (x : List ℕ). record { exponents = t.exponents; row = x }) parts.back

  -- the ends of two runs from one configuration
  ends-joined : (s t u : State) (i : ℕ) → IsState Y Y.base.rank s → i < Y.base.rank → IsPushed Y s i t → IsPushed Y s i u
      → Joined (flat Y) (signed_word Y.base.rank (configuration_of t)) (signed_word Y.base.rank (configuration_of u))
  ends-joined s t u i h l a b =
      let c = h.exponents.count in
      let below : AllBelow Y.base.rank (spelled 0 s.exponents ++ i ∷ []) =
      AllBelow-append Y.base.rank (spelled 0 s.exponents) (i ∷ []) (AllBelow-spelled Y.base.rank 0 s.exponents (omega arith)) (l, tt) in
      joined-trans (joined-sym (run-joined_flat Y rowed positive a.run below h.row)) (run-joined_flat Y rowed positive b.run below h.row)

  pub pushes-unique : IsConsistent (flat Y) → (s t u : State) (i : ℕ) → IsState Y Y.base.rank s → i < Y.base.rank → IsPushed Y s i t
      → IsPushed Y s i u → t ≡ u
  pushes-unique consistent s t u i h l a b = states-unique consistent t u a.state b.state (ends-joined s t u i h l a b)

pub consistent_pushes_are_unique : ConsistentPushesAreUnique
consistent_pushes_are_unique Y rowed consistent s t u i h l a b =
    pushes-unique Y rowed (positive_prime Y.base rowed.base) consistent s t u i h l a b

-- rows dropped
bare-state : (Y : RowedPresentation) (s : State) → IsState Y Y.base.rank s
    → IsState (without_rows Y.base) Y.base.rank (record { exponents = s.exponents; row = [] })
bare-state Y s h = record { exponents = h.exponents; row = record { count = refl; below = tt } }

bare-pushed : (Y : RowedPresentation) (s t : State) (i : ℕ) → IsPushed Y s i t
    → IsPushed (without_rows Y.base) (record { exponents = s.exponents; row = [] }) i (record { exponents = t.exponents; row = [] })
bare-pushed Y s t i a = record {
  run = run-mapped Y nothing 0 (without_rows Y.base).power_rows (without_rows Y.base).commutator_rows (dropped_rows Y) a.run;
  state = bare-state Y t a.state;
}

pub pushes_over_consistent_base : PushesOverConsistentBase
pushes_over_consistent_base Y rowed consistent s t u i h l a b =
    let positive = positive_prime Y.base rowed.base in
    let flat_base : IsConsistent (flat (without_rows Y.base)) =
    subst (λ (Q : Presentation). IsConsistent Q) (sym (flat-without_rows Y.base)) consistent in
    let bare : record { exponents = t.exponents; row = [] } ≡ record { exponents = u.exponents; row = [] } =
    pushes-unique (without_rows Y.base) (without_rows-rowed Y.base rowed.base) positive flat_base
    (record { exponents = s.exponents; row = [] })
    (record { exponents = t.exponents; row = [] }) (record { exponents = u.exponents; row = [] }) i (bare-state Y s h) l
    (bare-pushed Y s t i a) (bare-pushed Y s u i b) in
    let same : t.exponents ≡ u.exponents = ap (λ (z : State). z.exponents) bare in
    record {
      exponents = same;
      rows =
          joined-cancel_left (letters (spelled 0 u.exponents)) (word_from Y.base.rank t.row) (word_from Y.base.rank u.row)
          (subst (λ (e : List ℕ). Joined (flat Y) (letters (spelled 0 e) ++ word_from Y.base.rank t.row)
          (letters (spelled 0 u.exponents) ++ word_from Y.base.rank u.row)) same
          (ends-joined Y rowed positive s t u i h l a b));
    }
