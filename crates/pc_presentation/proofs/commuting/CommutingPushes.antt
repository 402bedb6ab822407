-- Generators that commute with all those after some place: a push of the one and a push of the other may be exchanged, and
-- the power of such a generator pushes its right side, in every presentation, consistent or not.
use Rattle.std.proofs.Common.{◌≡◌, ℕ, zero, suc, ◌+◌, ◌<◌, ◌≤◌, List, ◌++◌, replicate, refl, ap, sym, ◌∙◌, subst, arith, inl, inr}
use Rattle.std.proofs.lemmas.Bool.{cases_lt}
use Rattle.pq_base.specs.Presentation.{power_side, commutator_side}
use Rattle.pc_presentation.specs.Rowed.{RowedPresentation, IsRowed, power_row, commutator_row}
use Rattle.pc_presentation.specs.Collection.{Configuration, State, IsState, identity, spelled, configuration_of, add_row, before, push_word}
use Rattle.pc_presentation.specs.Collection.{push_configuration, push_power}
use Rattle.pc_presentation.specs.Commuting.{CommuteFrom}
use Rattle.pc_presentation.proofs.rows.RowLaws.{is_before, identity-state}
use Rattle.pc_presentation.proofs.collecting.PlainRule.{plain, plain-later, plain-later_word, plain-past_end, plain-rides, plain-state}
use Rattle.pc_presentation.proofs.collecting.PlainRule.{plain-spelled, spelled-suc, map-replicate, push_power-state}
use Rattle.pc_presentation.proofs.collecting.StateProducts.{push_configuration-state}
use Rattle.pc_presentation.proofs.collecting.PassedStates.{past, passed, full_power, past-rides, past-state, full_power-state, first-raise}
use Rattle.pc_presentation.proofs.collecting.PassedStates.{first-full}
use Rattle.pc_presentation.proofs.commuting.SpelledPushes.{spelled-zeros_before, copies-same, spelled-same, word-through, spelled-through}
use Rattle.pc_presentation.proofs.commuting.FollowedPushes.{CommuteAndWrap, push-followed}
use Rattle.pc_presentation.proofs.commuting.BarePasses.{PassesExponents, place-within, zeros_with, zeros_with-state, past-bare}
use Rattle.pc_presentation.proofs.commuting.BarePasses.{behind_power, copies-added, copies-wrap}

-- plain pushes of the letters from place z on, with n generators from place k on
pub record PushesCommute (Y : RowedPresentation) (z n k : ℕ) : Type 0 where
  pub swaps : (s : State) (l m : ℕ) → IsState Y n s → z ≤ k + l → plain Y n k (plain Y n k s l) m ≡ plain Y n k (plain Y n k s m) l
  pub powers : (s : State) (l : ℕ) → IsState Y n s → z ≤ k + l → k + l < Y.base.rank
      → push_word (plain Y n k) s (replicate Y.base.prime l)
      ≡ add_row Y.base.prime (power_row Y (k + l)) (push_word (plain Y n k) s (spelled (suc l) (power_side Y.base (k + l))))

module _ (Y : RowedPresentation) (rowed : IsRowed Y) (positive : 0 < Y.base.prime) (z n k : ℕ) (inner : PushesCommute Y z n k) where
  -- they go through pushes of words with a row
  pub configuration-through : (c : Configuration) (s : State) (l : ℕ) → IsState Y n s → z ≤ k + l
      → push_configuration Y (plain Y n k) (plain Y n k s l) c ≡ plain Y n k (push_configuration Y (plain Y n k) s c) l
  configuration-through c s l h a =
      ap (add_row Y.base.prime c.row)
      (sym (word-through (plain Y n k) (IsState Y n) (plain-state Y rowed positive n k) (λ (t : State). plain Y n k t l)
      (λ t i v. sym (inner.swaps t l i v a)) s c.word h))
      ∙ sym (plain-rides Y n k c.row (push_word (plain Y n k) s c.word) l)

  plain-commuting : CommuteAndWrap Y n z k (plain Y n k)
  plain-commuting = record {
    keeps = plain-state Y rowed positive n k;
    rides = plain-rides Y n k;
    swaps = λ s j i h a b c. sym (inner.swaps s i j h a);
    powers = inner.powers;
  }

module _ (Y : RowedPresentation) (rowed : IsRowed Y) (positive : 0 < Y.base.prime) (i z : ℕ) (early : i ≤ z)
    (commute : CommuteFrom Y i z) where
  module _ (n k : ℕ) (after : i ≤ k) (size : suc k + n ≡ Y.base.rank) where
    -- such letters are passed barely
    pub past-plain : (s : State) (j : ℕ) → z ≤ suc k + j → suc k + j < Y.base.rank → IsState Y n s → past Y n k s j ≡ plain Y n (suc k) s j
    past-plain s j a b h = past-bare Y rowed positive n k s j (commute (suc (k + j)) k (omega arith) (omega arith) after (omega arith)) h

    module _ (inner : PushesCommute Y z n (suc k)) where
      pub power-through : (s : State) (l : ℕ) → IsState Y n s → z ≤ suc k + l
          → push_power Y (plain Y n (suc k)) k (plain Y n (suc k) s l) ≡ plain Y n (suc k) (push_power Y (plain Y n (suc k)) k s) l
      power-through s l h a =
          configuration-through Y rowed positive z n (suc k) inner (record { word = spelled 0 (power_side Y.base k); row = power_row Y k })
          s l h a

      pub past-through : (s : State) (l j : ℕ) → IsState Y n s → z ≤ suc k + l
          → past Y n k (plain Y n (suc k) s l) j ≡ plain Y n (suc k) (past Y n k s j) l
      past-through s l j h a =
          let c : Configuration =
          record { word = spelled (suc j) (commutator_side Y.base (suc (k + j)) k); row = commutator_row Y (suc (k + j)) k } in
          ap (λ (t : State). push_configuration Y (plain Y n (suc k)) t c) (inner.swaps s l j h a)
          ∙ configuration-through Y rowed positive z n (suc k) inner c (plain Y n (suc k) s j) l
          (plain-state Y rowed positive n (suc k) s j h) a

      past-commuting : CommuteAndWrap Y n z (suc k) (past Y n k)
      past-commuting = record {
        keeps = past-state Y rowed positive n k;
        rides = past-rides Y n k;
        swaps = λ s j l h a b c.
            ap (λ (t : State). past Y n k t l) (past-plain s j (omega arith) c h)
            ∙ past-plain (plain Y n (suc k) s j) l a (omega arith) (plain-state Y rowed positive n (suc k) s j h)
            ∙ sym (inner.swaps s l j h a)
            ∙ sym (past-plain (plain Y n (suc k) s l) j (omega arith) c (plain-state Y rowed positive n (suc k) s l h))
            ∙ ap (λ (t : State). past Y n k t j) (sym (past-plain s l a (omega arith) h));
        powers = λ s l h a b.
            let c = (rowed.base.power_sides (suc k + l) b).count in
            copies-same (plain Y n (suc k)) (IsState Y n) (plain-state Y rowed positive n (suc k)) (past Y n k) Y.base.prime l s
            (λ t v. past-plain t l a b v) h
            ∙ inner.powers s l h a b
            ∙ ap (add_row Y.base.prime (power_row Y (suc k + l)))
            (sym (spelled-same (plain Y n (suc k)) (IsState Y n) (plain-state Y rowed positive n (suc k)) (past Y n k)
            (power_side Y.base (suc k + l)) (suc l) s
            (λ t m j v e q.
            let w = place-within (power_side Y.base (suc k + l)) j q in
            past-plain t m (omega arith) (omega arith) v) h));
      }

      -- the first generator and a later letter
      passed-push : (r s : State) (l : ℕ) → IsState Y n r → IsState Y n s → z ≤ suc k + l → l < n
          → push_configuration Y (past Y n k) r (configuration_of (plain Y n (suc k) s l))
          ≡ plain Y n (suc k) (push_configuration Y (past Y n k) r (configuration_of s)) l
      passed-push r s l v h a b =
          push-followed Y n z (λ l k a b c. commute l k (omega arith) c (omega arith) b) rowed positive n (suc k)
          (past Y n k) past-commuting size r s l v h a b
          ∙ past-plain (push_configuration Y (past Y n k) r (configuration_of s)) l a (omega arith)
          (push_configuration-state Y rowed positive n (suc k) (past Y n k) (past-state Y rowed positive n k) r s v h)

      within-swaps : (e : ℕ) (s : State) (l : ℕ) → e < Y.base.prime → IsState Y n s → z ≤ suc k + l → l < n
          → plain Y (suc n) k (plain Y (suc n) k (before e s) (suc l)) 0 ≡ plain Y (suc n) k (plain Y (suc n) k (before e s) 0) (suc l)
      within-swaps e s l c h a b = elim (cases_lt (suc e) Y.base.prime) [
        | inl m ↦
            start ∙ first-raise Y rowed positive n k e (plain Y n (suc k) s l) m ls
            ∙ ap (before (suc e)) (passed-push (identity Y n) s l (identity-state Y n positive) h a b)
            ∙ sym (plain-later Y n k (suc e) (passed Y n k s) l)
            ∙ ap (λ (t : State). plain Y (suc n) k t (suc l)) (sym (first-raise Y rowed positive n k e s m h))
        | inr m ↦
            start ∙ first-full Y rowed positive n k e (plain Y n (suc k) s l) (omega arith) ls
            ∙ ap (before 0) (passed-push (full_power Y n k) s l (full_power-state Y rowed positive n k) h a b)
            ∙ sym (plain-later Y n k 0 (push_configuration Y (past Y n k) (full_power Y n k) (configuration_of s)) l)
            ∙ ap (λ (t : State). plain Y (suc n) k t (suc l)) (sym (first-full Y rowed positive n k e s (omega arith) h))
      ]
        where
          ls : IsState Y n (plain Y n (suc k) s l)
          ls = plain-state Y rowed positive n (suc k) s l h

          start : plain Y (suc n) k (plain Y (suc n) k (before e s) (suc l)) 0 ≡ plain Y (suc n) k (before e (plain Y n (suc k) s l)) 0
          start = ap (λ (t : State). plain Y (suc n) k t 0) (plain-later Y n k e s l)

      first_swaps : (e : ℕ) (s : State) (l : ℕ) → e < Y.base.prime → IsState Y n s → z ≤ suc k + l
          → plain Y (suc n) k (plain Y (suc n) k (before e s) (suc l)) 0 ≡ plain Y (suc n) k (plain Y (suc n) k (before e s) 0) (suc l)
      first_swaps e s l c h a = elim (cases_lt l n) [
        | inl b ↦ within-swaps e s l c h a b
        | inr b ↦
            ap (λ (t : State). plain Y (suc n) k t 0) (plain-past_end Y (suc n) k (before e s) (suc l) (omega arith))
            ∙ sym (plain-past_end Y (suc n) k (plain Y (suc n) k (before e s) 0) (suc l) (omega arith))
      ]

      all_swaps : (e : ℕ) (s : State) (l m : ℕ) → e < Y.base.prime → IsState Y n s → z ≤ k + l
          → plain Y (suc n) k (plain Y (suc n) k (before e s) l) m ≡ plain Y (suc n) k (plain Y (suc n) k (before e s) m) l
      all_swaps e s zero zero c h a = refl
      all_swaps e s (suc l) zero c h a = first_swaps e s l c h (omega arith)
      all_swaps e s zero (suc m) c h a = sym (first_swaps e s m c h (omega arith))
      all_swaps e s (suc l) (suc m) c h a =
          ap (λ (t : State). plain Y (suc n) k t (suc m)) (plain-later Y n k e s l)
          ∙ plain-later Y n k e (plain Y n (suc k) s l) m
          ∙ ap (before e) (inner.swaps s l m h (omega arith))
          ∙ sym (plain-later Y n k e (plain Y n (suc k) s m) l)
          ∙ ap (λ (t : State). plain Y (suc n) k t (suc l)) (sym (plain-later Y n k e s m))

      -- where all the letters of a state are such, they go through the right side of the power
      pub power-behind : (s : State) (a : ℕ) (h : List ℕ) → s.exponents ≡ replicate a 0 ++ h → IsState Y n s → z ≤ suc k + a
          → behind_power Y n k s ≡ push_power Y (plain Y n (suc k)) k s
      power-behind s a h q v b =
          let letters : spelled 0 s.exponents ≡ spelled a h =
          let e : 0 + a ≡ a = omega arith in
          ap (spelled 0) q ∙ spelled-zeros_before 0 a h ∙ ap (λ (j : ℕ). spelled j h) e in
          ap (push_word (plain Y n (suc k)) (push_power Y (plain Y n (suc k)) k (zeros_with n s.row))) letters
          ∙ sym (spelled-through (plain Y n (suc k)) (IsState Y n) (plain-state Y rowed positive n (suc k))
          (push_power Y (plain Y n (suc k)) k) h a (zeros_with n s.row)
          (λ t j w l. power-through t j w (omega arith)) (zeros_with-state Y rowed positive n k s v))
          ∙ ap (λ (u : List ℕ). push_power Y (plain Y n (suc k)) k (push_word (plain Y n (suc k)) (zeros_with n s.row) u)) (sym letters)
          ∙ ap (push_power Y (plain Y n (suc k)) k) (plain-spelled Y n (suc k) s.exponents s.row v.exponents)

      -- the power of the first generator
      passes_all : (s : State) → IsState Y n s → z ≤ k → PassesExponents Y k s.exponents
      passes_all s h a j q =
          let w = place-within s.exponents j q in
          let c = h.exponents.count in
          commute (suc (k + j)) k (omega arith) (omega arith) after (omega arith)

      first_power : (e : ℕ) (s : State) → e < Y.base.prime → IsState Y n s → z ≤ k
          → push_word (plain Y (suc n) k) (before e s) (replicate Y.base.prime 0)
          ≡ add_row Y.base.prime (power_row Y k) (push_word (plain Y (suc n) k) (before e s) (spelled 1 (power_side Y.base k)))
      first_power e s c h a =
          let ws = push_power-state Y rowed positive n (plain Y n (suc k)) k (plain-state Y rowed positive n (suc k)) s h in
          copies-wrap Y rowed positive n k e Y.base.prime e s c (omega arith) h (passes_all s h a)
          ∙ ap (λ (t : State). push_word (plain Y (suc n) k) (before 0 t) (replicate e 0))
          (power-behind s 0 s.exponents refl h (omega arith))
          ∙ copies-added Y rowed positive n k 0 e e (push_power Y (plain Y n (suc k)) k s) (omega arith) c ws
          (passes_all (push_power Y (plain Y n (suc k)) k s) ws a)
          ∙ ap (add_row Y.base.prime (power_row Y k))
          (sym (ap (push_word (plain Y (suc n) k) (before e s)) (spelled-suc 0 (power_side Y.base k))
          ∙ plain-later_word Y n k e s (spelled 0 (power_side Y.base k))))

      all_powers : (e : ℕ) (s : State) (l : ℕ) → e < Y.base.prime → IsState Y n s → z ≤ k + l → k + l < Y.base.rank
          → push_word (plain Y (suc n) k) (before e s) (replicate Y.base.prime l)
          ≡ add_row Y.base.prime (power_row Y (k + l))
          (push_word (plain Y (suc n) k) (before e s) (spelled (suc l) (power_side Y.base (k + l))))
      all_powers e s zero c h a b =
          let g : k ≡ k + 0 = omega arith in
          first_power e s c h (omega arith)
          ∙ ap (λ (j : ℕ). add_row Y.base.prime (power_row Y j)
          (push_word (plain Y (suc n) k) (before e s) (spelled 1 (power_side Y.base j)))) g
      all_powers e s (suc l) c h a b =
          let g : suc k + l ≡ k + suc l = omega arith in
          ap (push_word (plain Y (suc n) k) (before e s)) (sym (map-replicate Y.base.prime l))
          ∙ plain-later_word Y n k e s (replicate Y.base.prime l)
          ∙ ap (before e) (inner.powers s l h (omega arith) (omega arith))
          ∙ ap (add_row Y.base.prime (power_row Y (suc k + l)))
          (sym (plain-later_word Y n k e s (spelled (suc l) (power_side Y.base (suc k + l)))))
          ∙ ap (λ (u : List ℕ). add_row Y.base.prime (power_row Y (suc k + l)) (push_word (plain Y (suc n) k) (before e s) u))
          (sym (spelled-suc (suc l) (power_side Y.base (suc k + l))))
          ∙ ap (λ (j : ℕ). add_row Y.base.prime (power_row Y j)
          (push_word (plain Y (suc n) k) (before e s) (spelled (suc (suc l)) (power_side Y.base j)))) g

  -- one generator after the other
  pub pushes-commute : (n k : ℕ) → i ≤ k → k + n ≡ Y.base.rank → PushesCommute Y z n k
  pushes-commute zero k a q = record {
    swaps = λ s l m h b. ap (λ (t : State). plain Y 0 k t m) (plain-past_end Y 0 k s l (omega arith))
        ∙ sym (plain-past_end Y 0 k (plain Y 0 k s m) l (omega arith));
    powers = λ s l h b c. absurd (omega arith);
  }
  pushes-commute (suc n) k a q =
      let inner = pushes-commute n (suc k) (omega arith) (omega arith) in
      let size : suc k + n ≡ Y.base.rank = omega arith in
      record {
        swaps = λ s l m h b.
            let w = is_before Y n s h in
            subst (λ (t : State). plain Y (suc n) k (plain Y (suc n) k t l) m ≡ plain Y (suc n) k (plain Y (suc n) k t m) l) (sym w.same)
            (all_swaps n k a size inner w.exponent w.rest l m w.below w.state b);
        powers = λ s l h b c.
            let w = is_before Y n s h in
            subst (λ (t : State). push_word (plain Y (suc n) k) t (replicate Y.base.prime l)
            ≡ add_row Y.base.prime (power_row Y (k + l)) (push_word (plain Y (suc n) k) t (spelled (suc l) (power_side Y.base (k + l)))))
            (sym w.same)
            (all_powers n k a size inner w.exponent w.rest l w.below w.state b c);
      }
