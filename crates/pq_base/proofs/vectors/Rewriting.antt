-- The relations of a presentation as rules from left to right. A word is joined to what the rules make of it, so that a
-- closed word is brought to its normal word by `refl`.
use Rattle.std.proofs.Common.{◌≡◌, ◌<◌, ◌++◌, ◌&&◌, ℕ, zero, suc, pred, ℤ, pos, negsuc, Bool, true, false, eqb, List, [], ◌∷◌, length, drop}
use Rattle.std.proofs.Common.{refl, sym, ap, ◌∙◌, subst, arith, eqb-true}
use Rattle.pq_base.specs.SignedWord.{inv, copies}
use Rattle.pq_base.specs.Presentation.{Presentation, letter, power_word, commutator_word}
use Rattle.pq_base.specs.Joined.{Joined}
use Rattle.pq_base.specs.Joined.Chain.{done}
use Rattle.pq_base.proofs.words.JoinedLaws.{joined-trans, joined-sym, joined-from_equal, joined-append_left, joined-append_right}
use Rattle.pq_base.proofs.words.JoinedLaws.{joined-solve_right, append-append-inv-joined, power-joined, letter-swap-joined}
use Rattle.pq_base.proofs.vectors.Tests.{differ, both}

pub record Rule : Type 0 where
  pub before : List ℤ
  pub after : List ℤ

-- the test of equal letters
abbrev pub same_letter : ℤ → ℤ → Bool
same_letter (pos a) (pos b) = eqb a b
same_letter (negsuc a) (negsuc b) = eqb a b
same_letter _ _ = false

-- letters that pass are equal
pub same_letter-true : (k l : ℤ) → same_letter k l ≡ true → k ≡ l
same_letter-true (pos a) (pos b) h = ap pos (eqb-true a b h)
same_letter-true (negsuc a) (negsuc b) h = ap negsuc (eqb-true a b h)
same_letter-true (pos a) (negsuc b) h = absurd (differ (sym h))
same_letter-true (negsuc a) (pos b) h = absurd (differ (sym h))

-- the word begins so
abbrev pub begins : List ℤ → List ℤ → Bool
begins [] w = true
begins (k ∷ u) [] = false
begins (k ∷ u) (l ∷ w) = same_letter k l && begins u w

-- such a word is the front and the rest
pub begins-true : (u w : List ℤ) → begins u w ≡ true → u ++ drop (length u) w ≡ w
begins-true [] w h = refl
begins-true (k ∷ u) [] h = absurd (differ (sym h))
begins-true (k ∷ u) (l ∷ w) h =
    let parts = both (same_letter k l) (begins u w) h in
    ap (λ (m : ℤ). m ∷ (u ++ drop (length u) w)) (same_letter-true k l parts.0) ∙ ap (λ (v : List ℤ). l ∷ v) (begins-true u w parts.1)

-- the first word where the test passes, else the second
abbrev pub choose : Bool → List ℤ → List ℤ → List ℤ
choose true u v = u
choose false u v = v

-- the first rule that fits the front
abbrev pub rewrite_front : List Rule → List ℤ → List ℤ
rewrite_front [] w = w
rewrite_front (r ∷ rs) w = choose (begins r.before w) (r.after ++ drop (length r.before) w) (rewrite_front rs w)

-- a rule at each place, from the end on
abbrev pub rewrite_once : List Rule → List ℤ → List ℤ
rewrite_once rs [] = []
rewrite_once rs (k ∷ w) = rewrite_front rs (k ∷ rewrite_once rs w)

-- so many times over
abbrev pub reduce : ℕ → List Rule → List ℤ → List ℤ
reduce zero rs w = w
reduce (suc n) rs w = reduce n rs (rewrite_once rs w)

-- each rule's sides are joined
abbrev pub AreJoined : Presentation → List Rule → Type 0
AreJoined P [] = Unit {0}
AreJoined P (r ∷ rs) = Joined P r.before r.after × AreJoined P rs

module _ (P : Presentation) where
  chosen : (b : Bool) (w u v : List ℤ) → (b ≡ true → Joined P w u) → Joined P w v → Joined P w (choose b u v)
  chosen true w u v h g = h refl
  chosen false w u v h g = g

  -- a rule at the front keeps the element
  pub front-joined : (rs : List Rule) → AreJoined P rs → (w : List ℤ) → Joined P w (rewrite_front rs w)
  front-joined [] h w = done
  front-joined (r ∷ rs) h w =
      chosen (begins r.before w) w (r.after ++ drop (length r.before) w) (rewrite_front rs w)
      (λ fits. joined-trans (joined-from_equal P (sym (begins-true r.before w fits))) (joined-append_right (drop (length r.before) w) h.0))
      (front-joined rs h.1 w)

  -- a pass keeps the element
  pub once-joined : (rs : List Rule) → AreJoined P rs → (w : List ℤ) → Joined P w (rewrite_once rs w)
  once-joined rs h [] = done
  once-joined rs h (k ∷ w) =
      joined-trans (joined-append_left (k ∷ []) (once-joined rs h w)) (front-joined rs h (k ∷ rewrite_once rs w))

  -- so a word is joined to what the rules make of it
  pub reduce-joined : (n : ℕ) (rs : List Rule) → AreJoined P rs → (w : List ℤ) → Joined P w (reduce n rs w)
  reduce-joined zero rs h w = done
  reduce-joined (suc n) rs h w = joined-trans (once-joined rs h w) (reduce-joined n rs h (rewrite_once rs w))

  are-joined-append : (rs qs : List Rule) → AreJoined P rs → AreJoined P qs → AreJoined P (rs ++ qs)
  are-joined-append [] qs h g = g
  are-joined-append (r ∷ rs) qs h g = (h.0, are-joined-append rs qs h.1 g)

  -- the power of generator i, its inverse, and its passing to the left of generator j
  abbrev pub power_rule : ℕ → Rule
  power_rule i = record { before = copies (letter i) P.prime; after = power_word P i }

  -- the inverse of generator i as a power
  abbrev pub inverse_rule : ℕ → Rule
  inverse_rule i = record { before = negsuc i ∷ []; after = copies (letter i) (pred P.prime) ++ inv (power_word P i) }

  -- generator i passes to the left of generator j
  abbrev pub swap_rule : ℕ → ℕ → Rule
  swap_rule j i = record { before = letter j ++ letter i; after = letter i ++ (letter j ++ commutator_word P j i) }

  -- the rules of powers and inverses of the first generators
  abbrev pub rules_up_to : ℕ → List Rule
  rules_up_to zero = []
  rules_up_to (suc i) = power_rule i ∷ inverse_rule i ∷ rules_up_to i

  -- generator j and the first ones
  abbrev pub swaps_of : ℕ → ℕ → List Rule
  swaps_of j zero = []
  swaps_of j (suc i) = swap_rule j i ∷ swaps_of j i

  -- all pairs of the first generators
  abbrev pub swaps_up_to : ℕ → List Rule
  swaps_up_to zero = []
  swaps_up_to (suc j) = swaps_of j j ++ swaps_up_to j

  -- all rules of the presentation
  abbrev pub all_rules : List Rule
  all_rules = rules_up_to P.rank ++ swaps_up_to P.rank

  inverse-rule-joined : suc (pred P.prime) ≡ P.prime → (i : ℕ) → i < P.rank
      → Joined P (negsuc i ∷ []) (copies (letter i) (pred P.prime) ++ inv (power_word P i))
  inverse-rule-joined e i h =
      let power : Joined P (letter i ++ copies (letter i) (pred P.prime)) (power_word P i) =
      subst (λ (m : ℕ). Joined P (copies (letter i) m) (power_word P i)) (sym e) (power-joined P i h) in
      let rest : Joined P (copies (letter i) (pred P.prime)) ((negsuc i ∷ []) ++ power_word P i) =
      joined-solve_right (letter i) (copies (letter i) (pred P.prime)) power in
      joined-sym (joined-trans (joined-append_right (inv (power_word P i)) rest)
      (append-append-inv-joined P (negsuc i ∷ []) (power_word P i)))

  rules-joined : suc (pred P.prime) ≡ P.prime → (n : ℕ) → (i : ℕ) → i < suc n → n < suc P.rank → AreJoined P (rules_up_to i)
  rules-joined e n zero h l = tt
  rules-joined e n (suc i) h l =
      (power-joined P i (omega (arith, h, l)), (inverse-rule-joined e i (omega (arith, h, l)), rules-joined e n i (omega (arith, h)) l))

  swaps-of-joined : (j : ℕ) → j < P.rank → (i : ℕ) → i < suc j → AreJoined P (swaps_of j i)
  swaps-of-joined j l zero h = tt
  swaps-of-joined j l (suc i) h = (letter-swap-joined P j i l (omega (arith, h)), swaps-of-joined j l i (omega (arith, h)))

  swaps-joined : (j : ℕ) → j < suc P.rank → AreJoined P (swaps_up_to j)
  swaps-joined zero h = tt
  swaps-joined (suc j) h =
      are-joined-append (swaps_of j j) (swaps_up_to j) (swaps-of-joined j (omega (arith, h)) j (omega arith))
      (swaps-joined j (omega (arith, h)))

  -- the sides of each rule are joined
  pub all-rules-joined : suc (pred P.prime) ≡ P.prime → AreJoined P all_rules
  all-rules-joined e =
      are-joined-append (rules_up_to P.rank) (swaps_up_to P.rank)
      (rules-joined e P.rank P.rank (omega arith) (omega arith)) (swaps-joined P.rank (omega arith))
