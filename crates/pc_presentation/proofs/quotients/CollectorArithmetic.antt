-- The arithmetic of each collector: the identity is neutral, and products, inverses, commutators and values are joined to
-- the words of these names in the flat reading.
use Rattle.std.proofs.Common.{◌≡◌, ℕ, zero, suc, ◌<◌, ℤ, pos, negsuc, List, [], ◌∷◌, ◌++◌, get_or, length, map, replicate, refl, ap, sym}
use Rattle.std.proofs.Common.{◌∙◌, subst, arith, append_assoc}
use Rattle.std.proofs.lemmas.List.{append-nil, get_or_default, length-map}
use Rattle.std.proofs.Math.ListN.{get_or-map}
use Rattle.pq_base.specs.SignedWord.{inv, comm, sub, HasLetters}
use Rattle.pq_base.specs.Table.{AllBelow}
use Rattle.pq_base.specs.Presentation.{IsNormal, letter, word_from}
use Rattle.pq_base.specs.Joined.{Joined}
use Rattle.pq_base.proofs.words.WordLaws.{word_from-zeros, inv-append}
use Rattle.pq_base.proofs.words.JoinedLaws.{joined-sym, joined-trans, joined-from_equal, joined-append_left, joined-append_right}
use Rattle.pq_base.proofs.words.JoinedLaws.{joined-solve_right}
use Rattle.pq_base.proofs.PrimeLaws.{positive_prime}
use Rattle.fp_rows.proofs.BelowLaws.{AllBelow-append}
use Rattle.pc_presentation.specs.Rowed.{RowedPresentation, IsRowed, row_sum, flat}
use Rattle.pc_presentation.specs.Collection.{Configuration, State, IsState, identity, spelled, letters, configuration_of, add_row}
use Rattle.pc_presentation.specs.Collection.{push_word}
use Rattle.pc_presentation.specs.Collection.Run.{stop, move}
use Rattle.pc_presentation.specs.Arithmetic.{IsMeaning, product_by, word_of, evaluate_from, AreImages, HasArithmetic}
use Rattle.pc_presentation.specs.CollectionLaws.{PlainRuleIsAMeaning, CollectorsHaveArithmetic}
use Rattle.pc_presentation.proofs.rows.RowLaws.{zeros-row_sum, identity-state}
use Rattle.pc_presentation.proofs.collecting.PlainRule.{spelled-suc, spelled-zeros}
use Rattle.pc_presentation.proofs.collecting.PlainRuns.{AllBelow-spelled}
use Rattle.pc_presentation.proofs.collecting.RunLaws.{RunFrom, replacement_from, run-weaken}
use Rattle.pc_presentation.proofs.collecting.StateProducts.{push_configuration-identity}
use Rattle.pc_presentation.proofs.collecting.StepPlaces.{StepAt, IsIrreducible, step-suffix, placed_step}
use Rattle.pc_presentation.proofs.collecting.StepShapes.{spelled-irreducible}
use Rattle.pc_presentation.proofs.collecting.AnyRun.{same_behind}
use Rattle.pc_presentation.proofs.rows.TailLaws.{row_words-add, run-joined_flat, letter-behind}
use Rattle.pc_presentation.proofs.quotients.Quotients.{push-spelled, product-state, is_quotient}
use Rattle.pc_presentation.proofs.consistent.Reached.{plain_meaning}

-- a run from an irreducible word is empty
run-irreducible : (Y : RowedPresentation) (k : ℕ) {c d : Configuration} → IsIrreducible Y k c.word → RunFrom Y k c d → c ≡ d
run-irreducible Y k h stop = refl
run-irreducible Y k h (move {d = d} s m) = let q = placed_step Y k s in absurd (h d.word q.added q.step)

spelled-injective : (e f : List ℕ) → length e ≡ length f → spelled 0 e ≡ spelled 0 f → e ≡ f
spelled-injective [] [] c q = refl
spelled-injective [] (y ∷ f) c q = absurd (omega arith)
spelled-injective (x ∷ e) [] c q = absurd (omega arith)
spelled-injective (x ∷ e) (y ∷ f) c q =
    let words : replicate x 0 ++ map suc (spelled 0 e) ≡ replicate y 0 ++ map suc (spelled 0 f) =
    ap (λ (w : List ℕ). replicate x 0 ++ w) (sym (spelled-suc 0 e)) ∙ q ∙ ap (λ (w : List ℕ). replicate y 0 ++ w) (spelled-suc 0 f) in
    let r = same_behind x y (spelled 0 e) (spelled 0 f) words in
    ap (λ (z : ℕ). z ∷ e) r.0 ∙ ap (λ (z : List ℕ). y ∷ z) (spelled-injective e f (omega arith) r.1)

module _ (Y : RowedPresentation) (rowed : IsRowed Y) (big : 1 < Y.base.prime) (push : State → ℕ → State) (meaning : IsMeaning Y push) where
  -- the letters of exponents that begin with those of s lead from s to the exponents
  push-rest : (w e : List ℕ) (s : State) → IsState Y Y.base.rank s → AllBelow Y.base.rank w → IsNormal Y.base.prime Y.base.rank e
      → spelled 0 s.exponents ++ w ≡ spelled 0 e → push_word push s w ≡ record { exponents = e; row = s.row }
  push-rest [] e s h b n q =
      ap (λ (u : List ℕ). record { exponents = u; row = s.row })
      (spelled-injective s.exponents e (h.exponents.count ∙ sym n.count) (sym (append-nil (spelled 0 s.exponents)) ∙ q))
  push-rest (i ∷ w) e s h b n q =
      let v : List ℕ = spelled 0 s.exponents in
      let whole : (v ++ i ∷ []) ++ w ≡ spelled 0 e = append_assoc v (i ∷ []) w ∙ q in
      let irreducible : IsIrreducible Y 0 (spelled 0 s.exponents ++ i ∷ []) =
      λ o t a. spelled-irreducible Y 0 e (omega arith) n.below (o ++ w) t
      (subst (λ (z : List ℕ). StepAt Y 0 z (o ++ w) t) whole (step-suffix Y 0 (v ++ i ∷ []) o t w a)) in
      let m = meaning.pushed s i h b.0 in
      let same : record { word = spelled 0 s.exponents ++ i ∷ []; row = s.row } ≡ configuration_of (push s i) =
      run-irreducible Y 0 irreducible (run-weaken (replacement_from Y) m.run) in
      let words : spelled 0 (push s i).exponents ++ w ≡ spelled 0 e =
      ap (λ (z : Configuration). z.word ++ w) (sym same) ∙ whole in
      push-rest w e (push s i) m.state b.1 n words
      ∙ ap (λ (x : List ℕ). record { exponents = e; row = x }) (sym (ap (λ (z : Configuration). z.row) same))

  -- the identity is neutral
  identity-product : (u : State) → IsState Y Y.base.rank u → product_by Y push (identity Y Y.base.rank) u ≡ u
  identity-product u h =
      let c = h.exponents.count in
      ap (add_row Y.base.prime u.row)
      (push-rest (spelled 0 u.exponents) u.exponents (identity Y Y.base.rank) (identity-state Y Y.base.rank (omega arith))
      (AllBelow-spelled Y.base.rank 0 u.exponents (omega arith)) h.exponents
      (ap (λ (w : List ℕ). w ++ spelled 0 u.exponents) (spelled-zeros 0 Y.base.rank)))
      ∙ ap (λ (x : List ℕ). record { exponents = u.exponents; row = x }) (zeros-row_sum Y.base.prime Y.width u.row h.row)

  product-identity : (u : State) → IsState Y Y.base.rank u → product_by Y push u (identity Y Y.base.rank) ≡ u
  product-identity u h = push_configuration-identity Y push Y.base.rank Y.base.rank u h

  -- pushes are joined
  push-joined : (s : State) (i : ℕ) → IsState Y Y.base.rank s → i < Y.base.rank
      → Joined (flat Y) (word_of Y s ++ letter i) (word_of Y (push s i))
  push-joined s i h l =
      let c = h.exponents.count in
      joined-trans (letter-behind Y rowed (omega arith) s i h l)
      (run-joined_flat Y rowed (omega arith) (meaning.pushed s i h l).run
      (AllBelow-append Y.base.rank (spelled 0 s.exponents) (i ∷ []) (AllBelow-spelled Y.base.rank 0 s.exponents (omega arith)) (l, tt))
      h.row)

  pub push_word-joined : (u : List ℕ) (s : State) → IsState Y Y.base.rank s → AllBelow Y.base.rank u
      → Joined (flat Y) (word_of Y s ++ letters u) (word_of Y (push_word push s u))
  push_word-joined [] s h b = joined-from_equal (flat Y) (append-nil (word_of Y s))
  push_word-joined (i ∷ u) s h b =
      joined-trans (joined-from_equal (flat Y) (sym (append_assoc (word_of Y s) (letter i) (letters u))))
      (joined-trans (joined-append_right (letters u) (push-joined s i h b.0))
      (push_word-joined u (push s i) (meaning.pushed s i h b.0).state b.1))

  product-joined : (u v : State) → IsState Y Y.base.rank u → IsState Y Y.base.rank v
      → Joined (flat Y) (word_of Y (product_by Y push u v)) (word_of Y u ++ word_of Y v)
  product-joined u v h m =
      let c = m.exponents.count in
      let w : List ℕ = spelled 0 v.exponents in
      let s : State = push_word push u w in
      let ends : IsState Y Y.base.rank (push_word push u (spelled 0 v.exponents)) =
      (push-spelled Y rowed big push meaning 0 v.exponents u (omega arith) h).state in
      let rows : Joined (flat Y) (word_from Y.base.rank s.row ++ word_from Y.base.rank v.row)
      (word_from Y.base.rank (row_sum Y.base.prime s.row v.row)) =
      row_words-add Y rowed s.row v.row ends.row.count m.row.count in
      let pushed : Joined (flat Y) (word_of Y u ++ letters w) (word_of Y s) =
      push_word-joined w u h (AllBelow-spelled Y.base.rank 0 v.exponents (omega arith)) in
      joined-trans (joined-append_left (letters (spelled 0 s.exponents)) (joined-sym rows))
      (joined-trans (joined-from_equal (flat Y)
      (sym (append_assoc (letters (spelled 0 s.exponents)) (word_from Y.base.rank s.row) (word_from Y.base.rank v.row))))
      (joined-trans (joined-append_right (word_from Y.base.rank v.row) (joined-sym pushed))
      (joined-from_equal (flat Y) (append_assoc (word_of Y u) (letters w) (word_from Y.base.rank v.row)))))

  pub identity-word : word_of Y (identity Y Y.base.rank) ≡ []
  identity-word =
      ap (λ (u : List ℕ). letters u ++ word_from Y.base.rank (replicate Y.width 0)) (spelled-zeros 0 Y.base.rank)
      ∙ word_from-zeros Y.base.rank Y.width

  inverse-joined : (u e : State) → IsState Y Y.base.rank u → IsState Y Y.base.rank e → product_by Y push u e ≡ identity Y Y.base.rank
      → Joined (flat Y) (word_of Y e) (inv (word_of Y u))
  inverse-joined u e h m q =
      let c : Joined (flat Y) (word_of Y u ++ word_of Y e) [] =
      joined-trans (joined-sym (product-joined u e h m)) (joined-from_equal (flat Y) (ap (word_of Y) q ∙ identity-word)) in
      joined-trans (joined-solve_right (word_of Y u) (word_of Y e) c) (joined-from_equal (flat Y) (append-nil (inv (word_of Y u))))

  commutator-joined_words : (u v e : State) → IsState Y Y.base.rank u → IsState Y Y.base.rank v → IsState Y Y.base.rank e
      → product_by Y push (product_by Y push v u) e ≡ product_by Y push u v
      → Joined (flat Y) (word_of Y e) (comm (word_of Y u) (word_of Y v))
  commutator-joined_words u v e h m n q =
      let a : List ℤ = word_of Y u in
      let b : List ℤ = word_of Y v in
      let vu = product-state Y rowed big push meaning v u m h in
      let left : Joined (flat Y) ((word_of Y v ++ word_of Y u) ++ word_of Y e) (word_of Y u ++ word_of Y v) =
      joined-trans (joined-append_right (word_of Y e) (joined-sym (product-joined v u m h)))
      (joined-trans (joined-sym (product-joined (product_by Y push v u) e vu n))
      (joined-trans (joined-from_equal (flat Y) (ap (word_of Y) q)) (product-joined u v h m))) in
      joined-trans (joined-solve_right (b ++ a) (word_of Y e) left)
      (joined-from_equal (flat Y) (ap (λ (w : List ℤ). w ++ (a ++ b)) (inv-append b a) ∙ append_assoc (inv a) (inv b) (a ++ b)))

  -- values
  image-word : (f : List State) (i : ℕ) → i < length f → get_or (map (word_of Y) f) i [] ≡ word_of Y (get_or f i (identity Y Y.base.rank))
  image-word f i l =
      let c : length (map (word_of Y) f) ≡ length f = length-map f (word_of Y) in
      get_or_default (map (word_of Y) f) i [] (word_of Y (identity Y Y.base.rank)) (omega arith)
      ∙ get_or-map (word_of Y) f i (identity Y Y.base.rank)

  value-joined : (f g : List State) (s : State) (w : List ℤ) → AreImages Y push f g → IsState Y Y.base.rank s → HasLetters (length f) w
      → Joined (flat Y) (word_of Y (evaluate_from Y push f g s w)) (word_of Y s ++ sub w (map (word_of Y) f))
  value-joined f g s [] images h l = joined-from_equal (flat Y) (sym (append-nil (word_of Y s)))
  value-joined f g s (pos zero ∷ w) images h l = absurd l.0
  value-joined f g s (pos (suc i) ∷ w) images h l =
      let x : State = get_or f i (identity Y Y.base.rank) in
      let xs = images.states i l.0 in
      let rest : List ℤ = sub w (map (word_of Y) f) in
      joined-trans (value-joined f g (product_by Y push s x) w images (product-state Y rowed big push meaning s x h xs) l.1)
      (joined-trans (joined-append_right rest (product-joined s x h xs))
      (joined-from_equal (flat Y)
      (append_assoc (word_of Y s) (word_of Y x) rest
      ∙ ap (λ (z : List ℤ). word_of Y s ++ (z ++ sub w (map (word_of Y) f))) (sym (image-word f i l.0)))))
  value-joined f g s (negsuc i ∷ w) images h l =
      let x : State = get_or f i (identity Y Y.base.rank) in
      let y : State = get_or g i (identity Y Y.base.rank) in
      let xs = images.states i l.0 in
      let ys = images.inverse_states i l.0 in
      let rest : List ℤ = sub w (map (word_of Y) f) in
      let inverted : Joined (flat Y) (word_of Y y) (inv (get_or (map (word_of Y) f) i [])) =
      joined-trans (inverse-joined x y xs ys (images.inverses i l.0)) (joined-from_equal (flat Y) (ap inv (sym (image-word f i l.0)))) in
      joined-trans (value-joined f g (product_by Y push s y) w images (product-state Y rowed big push meaning s y h ys) l.1)
      (joined-trans (joined-append_right rest (product-joined s y h ys))
      (joined-trans (joined-from_equal (flat Y) (append_assoc (word_of Y s) (word_of Y y) rest))
      (joined-append_left (word_of Y s) (joined-append_right rest inverted))))

  pub has_arithmetic : HasArithmetic Y push
  has_arithmetic = record {
    product_states = product-state Y rowed big push meaning;
    neutral_left = identity-product;
    neutral_right = product-identity;
    quotients = is_quotient Y rowed big push meaning;
    products = product-joined;
    inverses = inverse-joined;
    commutators = commutator-joined_words;
    values = value-joined;
  }

pub collectors_have_arithmetic : CollectorsHaveArithmetic
collectors_have_arithmetic Y rowed push meaning = has_arithmetic Y rowed rowed.base.prime push meaning

pub plain_rule_is_a_meaning : PlainRuleIsAMeaning
plain_rule_is_a_meaning Y rowed = plain_meaning Y rowed (positive_prime Y.base rowed.base)
