-- Where the first generator is pushed, the letters that commute with all that comes stay in place: the letters before them
-- are passed on the state of these.
use Rattle.std.proofs.Common.{◌≡◌, ℕ, zero, suc, ◌+◌, ◌<◌, ◌≤◌, Bool, true, false, List, [], ◌∷◌, ◌++◌, get_or, length, drop, replicate}
use Rattle.std.proofs.Common.{refl, ap, sym, ◌∙◌, arith, inl, inr}
use Rattle.std.proofs.lemmas.List.{length-append}
use Rattle.std.proofs.lemmas.Bool.{cases_lt}
use Rattle.pq_base.specs.Table.{AllBelow}
use Rattle.pq_base.specs.Presentation.{IsNormal}
use Rattle.pc_presentation.specs.Rowed.{RowedPresentation, IsRowed}
use Rattle.pc_presentation.specs.Collection.{State, IsState, spelled, before, push_word, push_power, raise}
use Rattle.pc_presentation.specs.Commuting.{CommuteFrom}
use Rattle.pc_presentation.proofs.collecting.PushLaws.{push_word-append, push_word-keeps}
use Rattle.pc_presentation.proofs.collecting.PlainRule.{plain, plain-state, plain-spelled, push_power-state}
use Rattle.pc_presentation.proofs.collecting.PassedStates.{past, past-state}
use Rattle.pc_presentation.proofs.commuting.SpelledPushes.{spelled-append, spelled-zeros_before, spelled-same, word-through}
use Rattle.pc_presentation.proofs.commuting.SpelledPushes.{spelled-through}
use Rattle.pc_presentation.proofs.commuting.BarePasses.{PassesExponents, place-within, zeros_with, zeros_with-state, copies-wrap}
use Rattle.pc_presentation.proofs.commuting.CommutingPushes.{PushesCommute, pushes-commute, past-plain, power-through, past-through}
use Rattle.pc_presentation.proofs.commuting.CommutingPushes.{power-behind}

-- zeros in the place of the first exponents
zeros-below : (p : ℕ) (g h : List ℕ) → 0 < p → AllBelow p (g ++ h) → AllBelow p (replicate (length g) 0 ++ h)
zeros-below p [] h l b = b
zeros-below p (e ∷ g) h l b = (l, zeros-below p g h l b.1)

length-zeros : (g h : List ℕ) → length (replicate (length g) 0 ++ h) ≡ length (g ++ h)
length-zeros [] h = refl
length-zeros (e ∷ g) h = ap suc (length-zeros g h)

-- exponents that begin with zeros
zeros-first : (c : ℕ) (h : List ℕ) → c ≤ length h → ((j : ℕ) → j < c → get_or h j 0 ≡ 0) → h ≡ replicate c 0 ++ drop c h
zeros-first zero h l z = refl
zeros-first (suc c) [] l z = absurd (omega arith)
zeros-first (suc c) (e ∷ h) l z =
    ap (λ (d : ℕ). d ∷ h) (z 0 (omega arith)) ∙ ap (λ (r : List ℕ). 0 ∷ r) (zeros-first c h (omega arith) (λ j m. z (suc j) (omega arith)))

-- the exponents h with zeros in the place of g, which is before them
abbrev pub kept : List ℕ → List ℕ → List ℕ → State
kept g h x = record { exponents = replicate (length g) 0 ++ h; row = x }

module _ (Y : RowedPresentation) (rowed : IsRowed Y) (positive : 0 < Y.base.prime) (i z : ℕ) (early : i ≤ z) (commute : CommuteFrom Y i z)
    (n k : ℕ) (after : i ≤ k) (size : suc k + n ≡ Y.base.rank) where
  inner : PushesCommute Y z n (suc k)
  inner = pushes-commute Y rowed positive i z early commute n (suc k) (omega arith) size

  module _ (g h : List ℕ) (from : z ≡ suc k + length g) (count : length (g ++ h) ≡ n) where
    -- the later letters go to the front of the earlier ones
    later-first : (s : State) → IsState Y n s
        → push_word (past Y n k) s (spelled 0 (g ++ h))
        ≡ push_word (past Y n k) (push_word (plain Y n (suc k)) s (spelled (length g) h)) (spelled 0 g)
    later-first s v =
        let keeps = plain-state Y rowed positive n (suc k) in
        let passes = past-state Y rowed positive n k in
        let start : 0 + length g ≡ length g = omega arith in
        let total = length-append g h in
        ap (push_word (past Y n k) s) (spelled-append 0 g h ∙ ap (λ (a : ℕ). spelled 0 g ++ spelled a h) start)
        ∙ push_word-append (past Y n k) s (spelled 0 g) (spelled (length g) h)
        ∙ spelled-same (plain Y n (suc k)) (IsState Y n) keeps (past Y n k) h (length g) (push_word (past Y n k) s (spelled 0 g))
        (λ t l j w e q.
        let b = place-within h j q in
        past-plain Y rowed positive i z early commute n k after size t l (omega arith) (omega arith) w)
        (push_word-keeps (past Y n k) (IsState Y n) passes s (spelled 0 g) v)
        ∙ sym (spelled-through (plain Y n (suc k)) (IsState Y n) keeps (λ (t : State). push_word (past Y n k) t (spelled 0 g)) h
        (length g) s
        (λ t j w l. sym (word-through (past Y n k) (IsState Y n) passes (λ (r : State). plain Y n (suc k) r j)
        (λ r m x. sym (past-through Y rowed positive i z early commute n k after size inner r j m x (omega arith))) t (spelled 0 g) w)) v)

    zeros-kept : (x : List ℕ) → IsState Y n (record { exponents = g ++ h; row = x })
        → push_word (plain Y n (suc k)) (zeros_with n x) (spelled (length g) h) ≡ kept g h x
    zeros-kept x v =
        let start : 0 + length g ≡ length g = omega arith in
        let normal : IsNormal Y.base.prime n (replicate (length g) 0 ++ h) =
        record { count = length-zeros g h ∙ count; below = zeros-below Y.base.prime g h positive v.exponents.below } in
        ap (push_word (plain Y n (suc k)) (zeros_with n x))
        (ap (λ (a : ℕ). spelled a h) (sym start) ∙ sym (spelled-zeros_before 0 (length g) h))
        ∙ plain-spelled Y n (suc k) (replicate (length g) 0 ++ h) x normal

    -- so the earlier letters alone are passed
    pub raise-stays : (b : Bool) (e : ℕ) (x : List ℕ) → IsState Y n (record { exponents = g ++ h; row = x })
        → raise b Y (plain Y n (suc k)) k e (zeros_with n x) (g ++ h) ≡ raise b Y (plain Y n (suc k)) k e (kept g h x) g
    raise-stays true e x v =
        let zs : IsState Y n (zeros_with n x) = zeros_with-state Y rowed positive n k (record { exponents = g ++ h; row = x }) v in
        let keeps = plain-state Y rowed positive n (suc k) in
        ap (before 0)
        (later-first (push_power Y (plain Y n (suc k)) k (zeros_with n x))
        (push_power-state Y rowed positive n (plain Y n (suc k)) k keeps (zeros_with n x) zs)
        ∙ ap (λ (t : State). push_word (past Y n k) t (spelled 0 g))
        (sym (spelled-through (plain Y n (suc k)) (IsState Y n) keeps (push_power Y (plain Y n (suc k)) k) h (length g) (zeros_with n x)
        (λ t j w l. power-through Y rowed positive i z early commute n k after size inner t j w (omega arith)) zs)
        ∙ ap (push_power Y (plain Y n (suc k)) k) (zeros-kept x v)))
    raise-stays false e x v =
        ap (before (suc e))
        (later-first (zeros_with n x) (zeros_with-state Y rowed positive n k (record { exponents = g ++ h; row = x }) v)
        ∙ ap (λ (t : State). push_word (past Y n k) t (spelled 0 g)) (zeros-kept x v))

  -- a state of such letters alone, where the exponent before it passes the prime
  pub copies-wrap-kept : (c a e r : ℕ) (s : State) → z ≡ suc k + c → c ≤ n → ((j : ℕ) → j < c → get_or s.exponents j 0 ≡ 0)
      → a < Y.base.prime → a + e ≡ Y.base.prime + r → IsState Y n s
      → push_word (plain Y (suc n) k) (before a s) (replicate e 0)
      ≡ push_word (plain Y (suc n) k) (before 0 (push_power Y (plain Y n (suc k)) k s)) (replicate r 0)
  copies-wrap-kept c a e r s from within zeros l q v =
      let count : length s.exponents ≡ n = v.exponents.count in
      let passes : PassesExponents Y k s.exponents =
      λ j m. elim (cases_lt j c) [
        | inl b ↦ absurd (m (zeros j b))
        | inr b ↦ let w = place-within s.exponents j m in commute (suc (k + j)) k (omega arith) (omega arith) after (omega arith)
      ] in
      copies-wrap Y rowed positive n k a e r s l q v passes
      ∙ ap (λ (t : State). push_word (plain Y (suc n) k) (before 0 t) (replicate r 0))
      (power-behind Y rowed positive i z early commute n k after size inner s c (drop c s.exponents)
      (zeros-first c s.exponents (omega arith) zeros) v (omega arith))
