-- The two ways of an overlap as sparse words pushed on the element one: the letters of the left way, and those of the right
-- way up to the right side of a relation, which follows with its tail.
use Rattle.std.proofs.Common.{◌≡◌, ℕ, suc, pred, ◌-◌, ◌<◌, ◌≤◌, None, List, [], ◌∷◌, ◌++◌, length, replicate, ap, sym, ◌∙◌, subst, arith}
use Rattle.std.proofs.Common.{append_assoc, append-nil}
use Rattle.pq_base.specs.Table.{AllBelow}
use Rattle.pq_base.specs.Presentation.{commutator_side}
use Rattle.fp_rows.proofs.BelowLaws.{AllBelow-append}
use Rattle.pc_presentation.specs.declared.syllable.Syllable.{Syllable}
use Rattle.pc_presentation.specs.declared.relation.Relation.TheVariants.{Commutator}
use Rattle.pc_presentation.specs.Syllable.{syllable, AreGenerators}
use Rattle.pc_presentation.specs.Pcp.{TailedPresentation, IsTailedPresentation}
use Rattle.pc_presentation.specs.Collection.{Configuration, State, IsState, identity, spelled, add_row, push_word, push_configuration}
use Rattle.pc_presentation.specs.Overlaps.{right_way}
use Rattle.pc_presentation.specs.Overlaps.Overlap.{triple, left}
use Rattle.pc_presentation.specs.Arithmetic.{IsMeaning}
use Rattle.pc_presentation.specs.Tailed.{Element, rowed_presentation, IsElement, with_state, places_of, sparse_configuration}
use Rattle.pc_presentation.specs.OverlapNumbers.{before_side}
use Rattle.pc_presentation.proofs.presentations.WordTests.{All-cons, All-head, All-tail}
use Rattle.pc_presentation.proofs.collecting.PlainRuns.{AllBelow-replicate}
use Rattle.pc_presentation.proofs.collecting.PushLaws.{push_word-append}
use Rattle.pc_presentation.proofs.rows.RowLaws.{row_sum-zeros, identity-state}
use Rattle.pc_presentation.proofs.quotients.TailedLaws.{rowed_presentation-is}
use Rattle.pc_presentation.proofs.consistent.ConsistentOverlaps.{pushed-state}
use Rattle.pc_presentation.proofs.presentations.RelationSides.{commutator_side-numbered}

-- the places of a sparse word of n generators
pub places_of-below : (n : ℕ) (w : List Syllable) → AreGenerators n w → AllBelow n (places_of w)
places_of-below n [] h = tt
places_of-below n (s ∷ w) h =
    let first = All-head (λ (s : Syllable). (1 ≤ s.generator) × (s.generator ≤ n)) s w h in
    let a = first.0 in
    let b = first.1 in
    AllBelow-append n (replicate s.exponent (s.generator - 1)) (places_of w)
    (AllBelow-replicate n s.exponent (s.generator - 1) (omega arith))
    (places_of-below n w (All-tail (λ (s : Syllable). (1 ≤ s.generator) × (s.generator ≤ n)) s w h))

-- the element one in place of another
pub cleared_is_one : (T : TailedPresentation) (e e' : Element) → IsElement T e
    → e' ≡ with_state e (record { exponents = replicate (length e.state.exponents) 0; row = replicate (length e.state.row) 0 })
    → e' ≡ with_state e (identity (rowed_presentation T) T.presentation.rank)
cleared_is_one T e e' h q =
    q
    ∙ ap (λ (n : ℕ). with_state e (record { exponents = replicate n 0; row = replicate (length e.state.row) 0 })) h.state.exponents.count
    ∙ ap (λ (n : ℕ). with_state e (record { exponents = replicate T.presentation.rank 0; row = replicate n 0 })) h.state.row.count

pub cleared_is_element : (T : TailedPresentation) (e e' : Element) → IsElement T e
    → e' ≡ with_state e (record { exponents = replicate (length e.state.exponents) 0; row = replicate (length e.state.row) 0 })
    → IsElement T e'
cleared_is_element T e e' h q =
    let two = h.presentation.presentation.prime in
    subst (IsElement T) (sym (cleared_is_one T e e' h q)) (record {
      presentation = h.presentation;
      prime = h.prime;
      state = identity-state (rowed_presentation T) T.presentation.rank (omega arith);
    })

-- a word without a tail
pub push_configuration-no_tail : (T : TailedPresentation) (push : State → ℕ → State) → IsTailedPresentation T
    → IsMeaning (rowed_presentation T) push
    → (s : State) → IsState (rowed_presentation T) T.presentation.rank s → (w : List Syllable) → AreGenerators T.presentation.rank w
    → push_configuration (rowed_presentation T) push s (sparse_configuration T.tails w None) ≡ push_word push s (places_of w)
push_configuration-no_tail T push is meaning s h w g =
    let two = is.presentation.prime in
    let t : State = push_word push s (places_of w) in
    let v : IsState (rowed_presentation T) T.presentation.rank (push_word push s (places_of w)) =
    pushed-state (rowed_presentation T) (rowed_presentation-is T is) (omega arith) push meaning (places_of w) s h
    (places_of-below T.presentation.rank w g) in
    ap (λ (x : List ℕ). let u : State = record { exponents = t.exponents; row = x } in u)
    (row_sum-zeros T.presentation.prime T.tails t.row v.row)

-- a power of a generator alone
pub push_configuration-power : (T : TailedPresentation) (push : State → ℕ → State) → IsTailedPresentation T
    → IsMeaning (rowed_presentation T) push
    → (s : State) → IsState (rowed_presentation T) T.presentation.rank s → (g e : ℕ) → 1 ≤ g → g ≤ T.presentation.rank
    → push_configuration (rowed_presentation T) push s (sparse_configuration T.tails (syllable g e ∷ []) None)
    ≡ push_word push s (replicate e (g - 1))
push_configuration-power T push is meaning s h g e one last =
    push_configuration-no_tail T push is meaning s h (syllable g e ∷ [])
    (All-cons (λ (s : Syllable). (1 ≤ s.generator) × (s.generator ≤ T.presentation.rank)) (syllable g e) [] (one, last)
    (λ k d l. absurd (omega arith)))
    ∙ ap (push_word push s) (append-nil (replicate e (g - 1)))

-- a word from a state on, and a configuration behind it
pub word-before : (T : TailedPresentation) (push : State → ℕ → State) → IsTailedPresentation T → IsMeaning (rowed_presentation T) push
    → (e m e' : Element) (s : State) → IsState (rowed_presentation T) T.presentation.rank s
    → (w : List Syllable) (c : Configuration) → AreGenerators T.presentation.rank w
    → m ≡ with_state e (push_configuration (rowed_presentation T) push s (sparse_configuration T.tails w None))
    → e' ≡ with_state m (push_configuration (rowed_presentation T) push m.state c)
    → e' ≡ with_state e (push_configuration (rowed_presentation T) push s (record { word = places_of w ++ c.word; row = c.row }))
word-before T push is meaning e m e' s h w c g q r =
    r
    ∙ ap (λ (z : Element). with_state z (push_configuration (rowed_presentation T) push z.state c))
    (q ∙ ap (with_state e) (push_configuration-no_tail T push is meaning s h w g))
    ∙ ap (λ (z : State). with_state e (add_row T.presentation.prime c.row z)) (sym (push_word-append push s (places_of w) c.word))

-- the right ways
module _ (T : TailedPresentation) (is : IsTailedPresentation T) where
  pub triple-right_way : (k j i : ℕ) → 1 ≤ i → i < j → j < k → k ≤ T.presentation.rank
      → before_side T (syllable k 1 ∷ syllable i 1 ∷ syllable j 1 ∷ []) (Commutator j i)
      ≡ right_way (rowed_presentation T) (triple (k - 1) (j - 1) (i - 1))
  triple-right_way k j i a b c d =
      ap (λ (x : Configuration). let y : Configuration = record { word = (k - 1) ∷ (i - 1) ∷ (j - 1) ∷ x.word; row = x.row } in y)
      (commutator_side-numbered T is j i a b (omega arith))

  pub left-right_way : (j i : ℕ) → 1 ≤ i → i < j → j ≤ T.presentation.rank
      → before_side T (syllable j (T.presentation.prime - 1) ∷ syllable i 1 ∷ syllable j 1 ∷ []) (Commutator j i)
      ≡ right_way (rowed_presentation T) (left (j - 1) (i - 1))
  left-right_way j i a b d =
      let fewer : T.presentation.prime - 1 ≡ pred T.presentation.prime = omega arith in
      let w : List ℕ = places_of (syllable j (T.presentation.prime - 1) ∷ syllable i 1 ∷ syllable j 1 ∷ []) in
      let make : List ℕ → Configuration = λ u. record { word = u; row = (right_way (rowed_presentation T) (left (j - 1) (i - 1))).row } in
      let side : List ℕ = spelled (suc (j - 1)) (commutator_side T.presentation (j - 1) (i - 1)) in
      ap (λ (x : Configuration). let y : Configuration = record { word = w ++ x.word; row = x.row } in y)
      (commutator_side-numbered T is j i a b d)
      ∙ ap make (append_assoc (replicate (T.presentation.prime - 1) (j - 1)) ((i - 1) ∷ (j - 1) ∷ []) side)
      ∙ ap (λ (n : ℕ). make (replicate n (j - 1) ++ ((i - 1) ∷ (j - 1) ∷ side))) fewer
