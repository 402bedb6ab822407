-- Overlaps that agree by some chains of pushes make the relations of the presentation act: by going down the generators,
-- where each overlap whose least generator is the one at place k gives one of the facts that the step wants.
use Rattle.std.proofs.Common.{◌≡◌, ℕ, zero, suc, pred, ◌+◌, ◌-◌, ◌<◌, ◌≤◌, List, [], ◌∷◌, ◌++◌, length, map, replicate, refl, ap, sym, ◌∙◌}
use Rattle.std.proofs.Common.{subst, arith}
use Rattle.std.proofs.lemmas.List.{replicate-append-replicate, length-replicate, append-nil}
use Rattle.pq_base.specs.Table.{AllBelow}
use Rattle.pq_base.specs.Presentation.{IsNormal, power_side, commutator_side}
use Rattle.pc_presentation.specs.Rowed.{RowedPresentation, IsRowed, power_row, commutator_row}
use Rattle.pc_presentation.specs.Collection.{State, IsState, identity, spelled, add_row, before, push_word}
use Rattle.pc_presentation.proofs.rows.RowLaws.{before-injective, row_sum-zeros, identity-state, AllBelow-zeros}
use Rattle.pc_presentation.proofs.collecting.PushLaws.{Acts, push_word-append, push_word-keeps}
use Rattle.pc_presentation.proofs.collecting.PlainRule.{plain, plain-later, plain-later_word, plain-state, plain-spelled, spelled-suc}
use Rattle.pc_presentation.proofs.collecting.PlainRule.{spelled-zeros, map-replicate}
use Rattle.pc_presentation.proofs.collecting.RunLaws.{ReplacementFrom}
use Rattle.pc_presentation.proofs.collecting.RunLaws.ReplacementFrom.{swap_from, power_from}
use Rattle.pc_presentation.proofs.collecting.StateProducts.{star, RelationsAct, star-identity_left, star-identity_right, star-add_row}
use Rattle.pc_presentation.proofs.collecting.PassedStates.{past, passed, passed_times, full_power, past-state, passed-identity}
use Rattle.pc_presentation.proofs.collecting.PassedStates.{passed-add_row, passed_times-identity, passed_times-add, passed_times-state}
use Rattle.pc_presentation.proofs.collecting.PassedStates.{full_power-state, first-raise, first-times, first-carry, past-word, power-end}
use Rattle.pc_presentation.proofs.collecting.RelationsAct.{relations-act}
use Rattle.pc_presentation.proofs.collecting.OverlapsFrom.{OverlapFrom, AllAgreeFrom, agree-later, agree-plainly}
use Rattle.pc_presentation.proofs.collecting.OverlapsFrom.OverlapFrom.{triple_from, left_from, right_from, own_from}

-- words of letters from place i on that spell exponents
pub record Spells (p n i : ℕ) (u : List ℕ) : Type 0 where
  pub exponents : List ℕ
  pub is : spelled i exponents ≡ u
  pub count : i + length exponents ≡ n
  pub below : AllBelow p exponents

spells_side : (p n i : ℕ) (h : List ℕ) → i + length h ≡ n → AllBelow p h → Spells p n i (spelled i h)
spells_side p n i h c b = record { exponents = h; is = refl; count = c; below = b }

spells_before : (p n i e : ℕ) (u : List ℕ) → e < p → Spells p n (suc i) u → Spells p n i (replicate e i ++ u)
spells_before p n i e u l s =
    let c = s.count in
    record { exponents = e ∷ s.exponents; is = ap (λ (w : List ℕ). replicate e i ++ w) s.is; count = omega arith; below = (l, s.below) }

-- from an earlier place on
spells_from : (p n i d : ℕ) (u : List ℕ) → 0 < p → Spells p n (i + d) u → Spells p n i u
spells_from p n i zero u l s = subst (λ (m : ℕ). Spells p n m u) (let e : i + 0 ≡ i = omega arith in e) s
spells_from p n i (suc d) u l s =
    spells_before p n i 0 u l
    (spells_from p n (suc i) d u l (subst (λ (m : ℕ). Spells p n m u) (let e : i + suc d ≡ suc i + d = omega arith in e) s))

pub spells_whole : (p n i : ℕ) (u : List ℕ) → 0 < p → Spells p n i u → Spells p n 0 u
spells_whole p n i u l s = spells_from p n 0 i u l (subst (λ (m : ℕ). Spells p n m u) (let e : i ≡ 0 + i = omega arith in e) s)

spells_nothing : (p n i : ℕ) → 0 < p → i ≤ n → Spells p n i []
spells_nothing p n i l m =
    let c : length (replicate {A = ℕ} (n - i) 0) ≡ n - i = length-replicate {A = ℕ} (n - i) 0 in
    record { exponents = replicate (n - i) 0; is = spelled-zeros i (n - i); count = omega arith; below = AllBelow-zeros p (n - i) l }

-- copies of one letter, and a letter before a later word
pub spells_copies : (p n e i : ℕ) → e < p → i < n → Spells p n 0 (replicate e i)
spells_copies p n e i l m =
    let s : Spells p n i (replicate e i ++ []) = spells_before p n i e [] l (spells_nothing p n (suc i) (omega arith) (omega arith)) in
    spells_whole p n i (replicate e i) (omega arith) (simp append-nil at s)

pub spells_pair : (p n i j : ℕ) (h : List ℕ) → 1 < p → i < j → suc j + length h ≡ n → AllBelow p h
    → Spells p n 0 (i ∷ j ∷ spelled (suc j) h)
spells_pair p n i j h l m c b =
    let later : Spells p n j (j ∷ spelled (suc j) h) = spells_before p n j 1 (spelled (suc j) h) l (spells_side p n (suc j) h c b) in
    let d : ℕ = j - suc i in
    let at_i : Spells p n (suc i) (j ∷ spelled (suc j) h) =
    spells_from p n (suc i) d (j ∷ spelled (suc j) h) (omega arith)
    (subst (λ (z : ℕ). Spells p n z (j ∷ spelled (suc j) h)) (let e : j ≡ suc i + d = omega arith in e) later) in
    spells_whole p n i (i ∷ j ∷ spelled (suc j) h) (omega arith) (spells_before p n i 1 (j ∷ spelled (suc j) h) l at_i)

module _ (Y : RowedPresentation) (rowed : IsRowed Y) (big : 1 < Y.base.prime) (n k : ℕ) (size : suc k + n ≡ Y.base.rank)
    (acts : RelationsAct Y n (suc k))
    (agree : (a l r t : List ℕ) → OverlapFrom Y k a l r t
    → push_word (plain Y (suc n) k) (identity Y (suc n)) (a ++ l)
    ≡ add_row Y.base.prime t (push_word (plain Y (suc n) k) (identity Y (suc n)) (a ++ r))) where
  -- letters of a state, passed
  passed-spelled : (u : List ℕ) → Spells Y.base.prime n 0 u
      → passed Y n k (push_word (plain Y n (suc k)) (identity Y n) u) ≡ push_word (past Y n k) (identity Y n) u
  passed-spelled u s =
      let c = s.count in
      let h : IsNormal Y.base.prime n s.exponents = record { count = omega arith; below = s.below } in
      let v = push_word-keeps (past Y n k) (IsState Y n) (past-state Y rowed (omega arith) n k) (identity Y n) (spelled 0 s.exponents)
      (identity-state Y n (omega arith)) in
      ap (λ (w : List ℕ). passed Y n k (push_word (plain Y n (suc k)) (identity Y n) w)) (sym s.is)
      ∙ ap (passed Y n k) (plain-spelled Y n (suc k) s.exponents (replicate Y.width 0) h)
      ∙ ap (λ (x : List ℕ). record { exponents = (push_word (past Y n k) (identity Y n) (spelled 0 s.exponents)).exponents; row = x })
      (row_sum-zeros Y.base.prime Y.width (push_word (past Y n k) (identity Y n) (spelled 0 s.exponents)).row v.row)
      ∙ ap (push_word (past Y n k) (identity Y n)) s.is

  -- an overlap of later letters b and j with the generator
  passed-snoc : (b : List ℕ) (j : ℕ) → Spells Y.base.prime n 0 b
      → push_word (plain Y (suc n) k) (identity Y (suc n)) (map suc b ++ suc j ∷ 0 ∷ [])
      ≡ add_row Y.base.prime (commutator_row Y (suc (k + j)) k)
      (push_word (plain Y (suc n) k) (identity Y (suc n))
      (map suc b ++ 0 ∷ suc j ∷ spelled (suc (suc j)) (commutator_side Y.base (suc (k + j)) k)))
      → passed Y n k (push_word (plain Y n (suc k)) (identity Y n) (b ++ j ∷ [])) ≡ push_word (past Y n k) (identity Y n) (b ++ j ∷ [])
  passed-snoc b j s q =
      let z : State = push_word (plain Y n (suc k)) (identity Y n) b in
      let keeps = plain-state Y rowed (omega arith) n (suc k) in
      let zs : IsState Y n (push_word (plain Y n (suc k)) (identity Y n) b) =
      push_word-keeps (plain Y n (suc k)) (IsState Y n) keeps (identity Y n) b (identity-state Y n (omega arith)) in
      let side : List ℕ = commutator_side Y.base (suc (k + j)) k in
      let row : List ℕ = commutator_row Y (suc (k + j)) k in
      let left : push_word (plain Y (suc n) k) (identity Y (suc n)) (map suc b ++ suc j ∷ 0 ∷ [])
      ≡ before 1 (passed Y n k (plain Y n (suc k) (push_word (plain Y n (suc k)) (identity Y n) b) j)) =
      push_word-append (plain Y (suc n) k) (identity Y (suc n)) (map suc b) (suc j ∷ 0 ∷ [])
      ∙ ap (λ (y : State). push_word (plain Y (suc n) k) y (suc j ∷ 0 ∷ [])) (plain-later_word Y n k 0 (identity Y n) b)
      ∙ ap (λ (y : State). plain Y (suc n) k y 0) (plain-later Y n k 0 z j)
      ∙ first-raise Y rowed (omega arith) n k 0 (plain Y n (suc k) z j) big (keeps z j zs) in
      let right : add_row Y.base.prime (commutator_row Y (suc (k + j)) k)
      (push_word (plain Y (suc n) k) (identity Y (suc n))
      (map suc b ++ 0 ∷ suc j ∷ spelled (suc (suc j)) (commutator_side Y.base (suc (k + j)) k)))
      ≡ before 1 (past Y n k (passed Y n k (push_word (plain Y n (suc k)) (identity Y n) b)) j) =
      ap (add_row Y.base.prime row)
      (push_word-append (plain Y (suc n) k) (identity Y (suc n)) (map suc b) (0 ∷ suc j ∷ spelled (suc (suc j)) side)
      ∙ ap (λ (y : State). push_word (plain Y (suc n) k) y (0 ∷ suc j ∷ spelled (suc (suc j)) (commutator_side Y.base (suc (k + j)) k)))
      (plain-later_word Y n k 0 (identity Y n) b)
      ∙ ap (λ (y : State). push_word (plain Y (suc n) k) y (suc j ∷ spelled (suc (suc j)) (commutator_side Y.base (suc (k + j)) k)))
      (first-raise Y rowed (omega arith) n k 0 z big zs)
      ∙ ap (λ (u : List ℕ). push_word (plain Y (suc n) k) (before 1 (passed Y n k z)) (suc j ∷ u)) (spelled-suc (suc j) side)
      ∙ plain-later_word Y n k 1 (passed Y n k z) (j ∷ spelled (suc j) side)) in
      ap (passed Y n k) (push_word-append (plain Y n (suc k)) (identity Y n) b (j ∷ []))
      ∙ before-injective 1 (passed Y n k (plain Y n (suc k) z j)) (past Y n k (passed Y n k z) j) (sym left ∙ q ∙ right)
      ∙ ap (λ (y : State). past Y n k y j) (passed-spelled b s)
      ∙ sym (push_word-append (past Y n k) (identity Y n) b (j ∷ []))

  -- relations of the later generators on passed states: the triples, and powers of later generators
  at_identity : (l r t : List ℕ) → ReplacementFrom Y (suc k) l r t
      → push_word (past Y n k) (identity Y n) l ≡ add_row Y.base.prime t (push_word (past Y n k) (identity Y n) r)
  at_identity _ _ _ (swap_from j i a b f g m q) =
      let l : List ℕ = j ∷ i ∷ [] in
      let r : List ℕ = i ∷ j ∷ spelled (suc j) (commutator_side Y.base a b) in
      let t : List ℕ = commutator_row Y a b in
      let o = agree (suc j ∷ []) (suc i ∷ 0 ∷ []) (0 ∷ suc i ∷ spelled (suc (suc i)) (commutator_side Y.base (suc (k + i)) k))
      (commutator_row Y (suc (k + i)) k)
      (triple_from (suc j) (suc i) 0 (suc (k + i)) k (omega arith) (omega arith) (omega arith) (omega arith) (omega arith)) in
      let c = rowed.base.commutator_sides a b m (omega arith) in
      let count = c.count in
      sym (passed-snoc (j ∷ []) i (spells_copies Y.base.prime n 1 j big (omega arith)) o)
      ∙ ap (passed Y n k) (acts (identity Y n) (identity-state Y n (omega arith)) l r t (swap_from j i a b f g m q))
      ∙ passed-add_row Y rowed (omega arith) n k t (push_word (plain Y n (suc k)) (identity Y n) r)
      ∙ ap (add_row Y.base.prime t)
      (passed-spelled r (spells_pair Y.base.prime n i j (commutator_side Y.base a b) big q (omega arith) c.below))
  at_identity _ _ _ (power_from j a f m) =
      let p : ℕ = Y.base.prime in
      let l : List ℕ = replicate Y.base.prime j in
      let r : List ℕ = spelled (suc j) (power_side Y.base a) in
      let t : List ℕ = power_row Y a in
      let o = agree (replicate (pred Y.base.prime) (suc j)) (suc j ∷ 0 ∷ [])
      (0 ∷ suc j ∷ spelled (suc (suc j)) (commutator_side Y.base (suc (k + j)) k)) (commutator_row Y (suc (k + j)) k)
      (left_from (suc j) 0 (suc (k + j)) k (omega arith) (omega arith) (omega arith) (omega arith)) in
      let o' = subst (λ (w : List ℕ). push_word (plain Y (suc n) k) (identity Y (suc n)) (w ++ suc j ∷ 0 ∷ [])
      ≡ add_row Y.base.prime (commutator_row Y (suc (k + j)) k)
      (push_word (plain Y (suc n) k) (identity Y (suc n))
      (w ++ 0 ∷ suc j ∷ spelled (suc (suc j)) (commutator_side Y.base (suc (k + j)) k))))
      (sym (map-replicate (pred Y.base.prime) j)) o in
      let c = rowed.base.power_sides a m in
      let count = c.count in
      let q : pred Y.base.prime + 1 ≡ Y.base.prime = omega arith in
      let word : ◌≡◌ {A = List ℕ} (replicate (pred Y.base.prime) j ++ j ∷ []) (replicate Y.base.prime j) =
      replicate-append-replicate {A = ℕ} (pred Y.base.prime) 1 j ∙ ap (λ (e : ℕ). replicate e j) q in
      ap (push_word (past Y n k) (identity Y n)) (sym word)
      ∙ sym (passed-snoc (replicate (pred Y.base.prime) j) j
      (spells_copies Y.base.prime n (pred Y.base.prime) j (omega arith) (omega arith)) o')
      ∙ ap (λ (w : List ℕ). passed Y n k (push_word (plain Y n (suc k)) (identity Y n) w)) word
      ∙ ap (passed Y n k) (acts (identity Y n) (identity-state Y n (omega arith)) l r t (power_from j a f m))
      ∙ passed-add_row Y rowed (omega arith) n k t (push_word (plain Y n (suc k)) (identity Y n) r)
      ∙ ap (add_row Y.base.prime t) (passed-spelled r (spells_whole Y.base.prime n (suc j) r (omega arith)
      (spells_side Y.base.prime n (suc j) (power_side Y.base a) (omega arith) c.below)))

  passed_acts : Acts Y.base.prime (past Y n k) (IsState Y n) (ReplacementFrom Y (suc k))
  passed_acts s v l r t m =
      past-word Y rowed (omega arith) n k size acts s l v
      ∙ ap (star Y n (suc k) s) (at_identity l r t m)
      ∙ star-add_row Y n (suc k) t s (push_word (past Y n k) (identity Y n) r)
      ∙ ap (add_row Y.base.prime t) (sym (past-word Y rowed (omega arith) n k size acts s r v))

  -- a later generator and the full power
  turns : (j : ℕ) → j < n
      → star Y n (suc k) (full_power Y n k) (passed_times Y n k Y.base.prime (plain Y n (suc k) (identity Y n) j))
      ≡ star Y n (suc k) (plain Y n (suc k) (identity Y n) j) (full_power Y n k)
  turns j l =
      let g : State = plain Y n (suc k) (identity Y n) j in
      let gs : IsState Y n (plain Y n (suc k) (identity Y n) j) =
      plain-state Y rowed (omega arith) n (suc k) (identity Y n) j (identity-state Y n (omega arith)) in
      let d : ℕ = pred Y.base.prime in
      let q : d + 1 ≡ Y.base.prime = omega arith in
      let ds = passed_times-state Y rowed (omega arith) n k d g gs in
      let letters : ◌≡◌ {A = List ℕ} (replicate Y.base.prime 0) (replicate d 0 ++ 0 ∷ []) =
      sym (replicate-append-replicate {A = ℕ} d 1 0 ∙ ap (λ (m : ℕ). replicate m 0) q) in
      let o = agree (suc j ∷ []) (replicate Y.base.prime 0) (spelled 1 (power_side Y.base k)) (power_row Y k)
      (right_from (suc j) 0 k (omega arith) (omega arith) (omega arith)) in
      let first : plain Y (suc n) k (identity Y (suc n)) (suc j) ≡ before 0 (plain Y n (suc k) (identity Y n) j) =
      plain-later Y n k 0 (identity Y n) j in
      let left : push_word (plain Y (suc n) k) (before 0 (plain Y n (suc k) (identity Y n) j)) (replicate Y.base.prime 0)
      ≡ before 0 (star Y n (suc k) (full_power Y n k) (passed_times Y n k Y.base.prime (plain Y n (suc k) (identity Y n) j))) =
      ap (push_word (plain Y (suc n) k) (before 0 g)) letters
      ∙ push_word-append (plain Y (suc n) k) (before 0 g) (replicate d 0) (0 ∷ [])
      ∙ ap (λ (y : State). plain Y (suc n) k y 0) (first-times Y rowed (omega arith) n k 0 d d g (omega arith) (omega arith) gs)
      ∙ first-carry Y rowed (omega arith) n k size acts d (passed_times Y n k d g) (omega arith) ds
      ∙ ap (λ (y : State). before 0 (star Y n (suc k) (full_power Y n k) y))
      (sym (passed_times-add Y rowed (omega arith) n k d 1 g) ∙ ap (λ (m : ℕ). passed_times Y n k m g) q) in
      before-injective 0 (star Y n (suc k) (full_power Y n k) (passed_times Y n k Y.base.prime g)) (star Y n (suc k) g (full_power Y n k))
      (sym left
      ∙ ap (λ (y : State). push_word (plain Y (suc n) k) y (replicate Y.base.prime 0)) (sym first)
      ∙ o
      ∙ ap (λ (y : State). add_row Y.base.prime (power_row Y k) (push_word (plain Y (suc n) k) y (spelled 1 (power_side Y.base k)))) first
      ∙ power-end Y rowed (omega arith) n k size acts 0 g gs)

  -- the full power and the generator itself
  fixed : passed Y n k (full_power Y n k) ≡ full_power Y n k
  fixed =
      let one : State = identity Y n in
      let ones : IsState Y n (identity Y n) = identity-state Y n (omega arith) in
      let w : State = full_power Y n k in
      let ws = full_power-state Y rowed (omega arith) n k in
      let d : ℕ = Y.base.prime - 2 in
      let q : d + 2 ≡ Y.base.prime = omega arith in
      let letters : ◌≡◌ {A = List ℕ} (replicate Y.base.prime 0) (replicate d 0 ++ 0 ∷ 0 ∷ []) =
      sym (replicate-append-replicate {A = ℕ} d 2 0 ∙ ap (λ (m : ℕ). replicate m 0) q) in
      let o = agree (0 ∷ []) (replicate Y.base.prime 0) (spelled 1 (power_side Y.base k)) (power_row Y k)
      (own_from 0 k (omega arith) (omega arith)) in
      let first : plain Y (suc n) k (identity Y (suc n)) 0 ≡ before 1 (identity Y n) =
      first-raise Y rowed (omega arith) n k 0 one big ones ∙ ap (before 1) (passed-identity Y rowed (omega arith) n k) in
      let left : push_word (plain Y (suc n) k) (before 1 (identity Y n)) (replicate Y.base.prime 0)
      ≡ before 1 (passed Y n k (full_power Y n k)) =
      ap (push_word (plain Y (suc n) k) (before 1 one)) letters
      ∙ push_word-append (plain Y (suc n) k) (before 1 one) (replicate d 0) (0 ∷ 0 ∷ [])
      ∙ ap (λ (y : State). push_word (plain Y (suc n) k) y (0 ∷ 0 ∷ []))
      (first-times Y rowed (omega arith) n k 1 d (suc d) one (omega arith) (omega arith) ones
      ∙ ap (before (suc d)) (passed_times-identity Y rowed (omega arith) n k d))
      ∙ ap (λ (y : State). plain Y (suc n) k y 0)
      (first-carry Y rowed (omega arith) n k size acts (suc d) one (omega arith) ones
      ∙ ap (λ (y : State). before 0 (star Y n (suc k) (full_power Y n k) y)) (passed-identity Y rowed (omega arith) n k)
      ∙ ap (before 0) (star-identity_right Y n (suc k) w ws))
      ∙ first-raise Y rowed (omega arith) n k 0 w big ws in
      before-injective 1 (passed Y n k w) w
      (sym left
      ∙ ap (λ (y : State). push_word (plain Y (suc n) k) y (replicate Y.base.prime 0)) (sym first)
      ∙ o
      ∙ ap (λ (y : State). add_row Y.base.prime (power_row Y k) (push_word (plain Y (suc n) k) y (spelled 1 (power_side Y.base k)))) first
      ∙ power-end Y rowed (omega arith) n k size acts 1 one ones
      ∙ ap (before 1) (star-identity_left Y n (suc k) w ws))

  pub one_more : RelationsAct Y (suc n) k
  one_more = relations-act Y rowed (omega arith) n k size acts passed_acts turns fixed

-- behind the last generator there are no relations
pub no_relations : (Y : RowedPresentation) (k : ℕ) → k + 0 ≡ Y.base.rank → RelationsAct Y 0 k
no_relations Y k size s v _ _ _ (swap_from j i a b f g m q) = absurd (omega arith)
no_relations Y k size s v _ _ _ (power_from i a f m) = absurd (omega arith)

-- down the generators
pub overlaps-act : (Y : RowedPresentation) → IsRowed Y → 1 < Y.base.prime → (n k : ℕ) → k + n ≡ Y.base.rank → AllAgreeFrom Y n k
    → RelationsAct Y n k
overlaps-act Y rowed big zero k size agree = no_relations Y k size
overlaps-act Y rowed big (suc n) k size agree =
    let acts : RelationsAct Y n (suc k) = overlaps-act Y rowed big n (suc k) (omega arith) (agree-later Y n k (omega arith) agree) in
    one_more Y rowed big n k (omega arith) acts (agree-plainly Y rowed big n k acts (identity-state Y (suc n) (omega arith)) agree)
