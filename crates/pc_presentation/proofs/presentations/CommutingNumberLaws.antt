-- The numbers from which on generators commute: what they are where all words are empty, and what one relation more makes of them.
use Rattle.std.proofs.Common.{◌≡◌, ◌≢◌, ◌↔◌, ℕ, zero, suc, ◌+◌, ◌-◌, ◌<◌, ◌≤◌, max, Option, None, Some, List, [], ◌∷◌, get_or, length}
use Rattle.std.proofs.Common.{replicate, refl, ap, sym, ◌∙◌, subst, arith, inl, inr}
use Rattle.std.proofs.lemmas.Bool.{cases_eq, cases_lt}
use Rattle.pq_base.specs.Limits.{max_rank}
use Rattle.pq_base.specs.Prime.{IsOffered}
use Rattle.pc_presentation.specs.declared.syllable.Syllable.{Syllable}
use Rattle.pc_presentation.specs.declared.relation.Relation.{Relation}
use Rattle.pc_presentation.specs.declared.relation.Relation.TheVariants.{Power, Commutator}
use Rattle.pc_presentation.specs.Syllable.{AreSyllables}
use Rattle.pc_presentation.specs.Relation.{IsRelation, IsTail, side_start, relation_number, relation_count, tabulate}
use Rattle.pc_presentation.specs.Store.{Entry, blank, AreEntries}
use Rattle.pc_presentation.specs.Pcp.{TailedPresentation, IsTailedPresentation, IsBareRelation, with_relation, plain_presentation}
use Rattle.pc_presentation.specs.Pcp.{tailed_presentation}
use Rattle.pc_presentation.specs.Tailed.{rowed_presentation}
use Rattle.pc_presentation.specs.Commuting.{IsBare, IsFirstCommuting}
use Rattle.pc_presentation.specs.CommutingNumbers.{AreCommutingNumbers, raised_to, numbers_with}
use Rattle.pc_presentation.proofs.presentations.RelationNumbers.{relation_number-injective}
use Rattle.pc_presentation.proofs.presentations.RelationTables.{length-tabulate, get_or-tabulate}
use Rattle.pc_presentation.proofs.presentations.PcpLaws.{tailed_presentation-is}
use Rattle.pc_presentation.proofs.presentations.PlainLaws.{AreEntries-plain, plain-made}
use Rattle.pc_presentation.proofs.presentations.PutLaws.{put_entries, put_entries-are, with_relation-tailed}
use Rattle.pc_presentation.proofs.presentations.RaisedNumbers.{length-raised_to, get_or-raised_to, get_or-raised_to_later}
use Rattle.pc_presentation.proofs.presentations.BareRelations.{IsBareRelation-plain, IsBareRelation-with_other}
use Rattle.pc_presentation.proofs.presentations.BareRelations.{IsBareRelation-without_other, IsBareRelation-with_nothing}
use Rattle.pc_presentation.proofs.presentations.BareRelations.{nothing-IsBareRelation, IsBare-relation, IsBareRelation-bare}
use Rattle.pc_presentation.proofs.presentations.FirstCommuting.{IsFirstCommuting-plain, IsFirstCommuting-same, IsFirstCommuting-before}
use Rattle.pc_presentation.proofs.presentations.FirstCommuting.{IsFirstCommuting-behind}

pub AreCommutingNumbers-plain : (p tails : ℕ) (weights : List ℕ) → IsTailedPresentation (plain_presentation p weights tails)
    → AreCommutingNumbers (plain_presentation p weights tails) (tabulate (length weights) (λ m. m + 2))
AreCommutingNumbers-plain p tails weights is =
    let n : ℕ = length weights in
    let T : TailedPresentation = plain_presentation p weights tails in
    record {
      count = length-tabulate n (λ m. m + 2);
      first = λ m h.
          let next : suc m ≡ (m + 2) - 1 = omega arith in
          subst (IsFirstCommuting (rowed_presentation T) m) (next ∙ ap (λ (z : ℕ). z - 1) (sym (get_or-tabulate n (λ k. k + 2) m 0 h)))
          (IsFirstCommuting-plain (rowed_presentation T)
          (λ l k a b. IsBare-relation T is l k a b
          (IsBareRelation-plain p tails weights (Commutator (suc l) (suc k)) (omega arith, omega arith, omega arith))) m h);
    }

-- of what is kept of it
pub AreCommutingNumbers-blank_entries : (p tails m : ℕ) (weights copied : List ℕ) (entries : List Entry) (numbers : List ℕ) → IsOffered p
    → length weights ≤ max_rank
    → copied ≡ weights → m ≡ relation_count (length weights) → entries ≡ replicate m blank
    → numbers ≡ tabulate (length weights) (λ k. k + 2)
    → AreCommutingNumbers (tailed_presentation p copied tails entries) numbers
AreCommutingNumbers-blank_entries p tails m weights copied entries numbers offered limit same count blanks next =
    let plain : IsTailedPresentation (tailed_presentation p weights tails entries) =
    tailed_presentation-is p tails weights entries (AreEntries-plain p tails m (length weights) entries count blanks) offered limit in
    let made : tailed_presentation p weights tails entries ≡ plain_presentation p weights tails =
    plain-made p tails m weights weights entries refl blanks in
    subst (λ (ws : List ℕ). AreCommutingNumbers (tailed_presentation p ws tails entries) numbers) (sym same)
    (subst (λ (T : TailedPresentation). AreCommutingNumbers T numbers) (sym made)
    (subst (AreCommutingNumbers (plain_presentation p weights tails)) (sym next)
    (AreCommutingNumbers-plain p tails weights (subst IsTailedPresentation made plain))))

first_number : (j i l k : ℕ) → Commutator j i ≡ Commutator l k → j ≡ l
first_number j i l k e = cc

second_number : (j i l k : ℕ) → Commutator j i ≡ Commutator l k → i ≡ k
second_number j i l k e = cc

commutator_no_power : (j i k : ℕ) → Commutator j i ≢ Power k
commutator_no_power j i k e = cc

module _ (T : TailedPresentation) (is : IsTailedPresentation T) (r : Relation) (word : List Syllable) (tail : Option ℕ)
    (h : IsRelation T.presentation.rank r) (more : IsTailedPresentation (with_relation T r word tail)) where
  abbrev one_more : TailedPresentation
  one_more = with_relation T r word tail

  -- the commutator of the generators at places l > k
  same_elsewhere : (l k : ℕ) → l < T.presentation.rank → k < l → Commutator (suc l) (suc k) ≢ r
      → IsBare (rowed_presentation T) l k ↔ IsBare (rowed_presentation one_more) l k
  same_elsewhere l k a b ne =
      let q : IsRelation T.presentation.rank (Commutator (suc l) (suc k)) = (omega arith, omega arith, omega arith) in (
        λ f. IsBare-relation one_more more l k a b
            (IsBareRelation-with_other T is r word tail h (Commutator (suc l) (suc k)) q ne (IsBareRelation-bare T is l k a b f)),
        λ f. IsBare-relation T is l k a b
            (IsBareRelation-without_other T is r word tail h (Commutator (suc l) (suc k)) q ne
            (IsBareRelation-bare one_more more l k a b f)),
      )

  same_everywhere : IsBareRelation T r → IsBareRelation one_more r → (l k : ℕ) → l < T.presentation.rank → k < l
      → IsBare (rowed_presentation T) l k ↔ IsBare (rowed_presentation one_more) l k
  same_everywhere old new l k a b =
      let n : ℕ = T.presentation.rank in
      let q : Relation = Commutator (suc l) (suc k) in
      let inside : IsRelation T.presentation.rank (Commutator (suc l) (suc k)) = (omega arith, omega arith, omega arith) in
      elim (cases_eq (relation_number n q) (relation_number n r)) [
        | inl e ↦
            let same : r ≡ Commutator (suc l) (suc k) = sym (relation_number-injective n q r inside h e) in (
              λ f. IsBare-relation one_more more l k a b (subst (IsBareRelation one_more) same new),
              λ f. IsBare-relation T is l k a b (subst (IsBareRelation T) same old),
            )
        | inr ne ↦ same_elsewhere l k a b (λ (e : Commutator (suc l) (suc k) ≡ r). ne (ap (relation_number n) e))
      ]

  same_numbers : ((l k : ℕ) → l < T.presentation.rank → k < l
      → IsBare (rowed_presentation T) l k ↔ IsBare (rowed_presentation one_more) l k)
      → (numbers : List ℕ) → AreCommutingNumbers T numbers → AreCommutingNumbers one_more numbers
  same_numbers same numbers old = record {
    count = old.count;
    first = λ m b. IsFirstCommuting-same (rowed_presentation T) (rowed_presentation one_more) refl same m (get_or numbers m 0 - 1)
        (old.first m b);
  }

-- the commutator of the generators at places j > i is bare no more
module _ (T : TailedPresentation) (is : IsTailedPresentation T) (j i : ℕ) (word : List Syllable) (tail : Option ℕ)
    (h : IsRelation T.presentation.rank (Commutator (suc j) (suc i)))
    (more : IsTailedPresentation (with_relation T (Commutator (suc j) (suc i)) word tail))
    (lost : ¬ IsBareRelation (with_relation T (Commutator (suc j) (suc i)) word tail) (Commutator (suc j) (suc i))) where
  abbrev with_commutator : TailedPresentation
  with_commutator = with_relation T (Commutator (suc j) (suc i)) word tail

  others : (l k : ℕ) → l < T.presentation.rank → k < l → ¬ ((l ≡ j) × (k ≡ i))
      → IsBare (rowed_presentation T) l k ↔ IsBare (rowed_presentation with_commutator) l k
  others l k a b ne = same_elsewhere T is (Commutator (suc j) (suc i)) word tail h more l k a b
      (λ (e : Commutator (suc l) (suc k) ≡ Commutator (suc j) (suc i)).
      let first : suc l ≡ suc j = first_number (suc l) (suc k) (suc j) (suc i) e in
      let second : suc k ≡ suc i = second_number (suc l) (suc k) (suc j) (suc i) e in
      ne (omega arith, omega arith))

  no_longer_bare : ¬ IsBare (rowed_presentation with_commutator) j i
  no_longer_bare b = lost (IsBareRelation-bare with_commutator more j i (omega (arith, h)) (omega (arith, h)) b)

  raised_first : (numbers : List ℕ) → AreCommutingNumbers T numbers → (m : ℕ) → m < T.presentation.rank
      → IsFirstCommuting (rowed_presentation with_commutator) m (get_or (raised_to (suc (suc j)) (suc i) numbers) m 0 - 1)
  raised_first numbers old m b =
      let inside : j < T.presentation.rank = omega (arith, h) in
      let order : i < j = omega (arith, h) in
      let count = old.count in
      elim (cases_lt i m) [
        | inl behind ↦
            subst (λ (x : ℕ). IsFirstCommuting (rowed_presentation with_commutator) m (x - 1))
            (sym (get_or-raised_to_later (suc (suc j)) (suc i) m numbers (omega arith)))
            (IsFirstCommuting-behind (rowed_presentation T) (rowed_presentation with_commutator) refl j i inside order no_longer_bare others
            m
            (get_or numbers m 0 - 1) behind (old.first m b))
        | inr before ↦
            let after = (old.first m b).after in
            let highest : max (suc j) (get_or numbers m 0 - 1) ≡ max (suc (suc j)) (get_or numbers m 0) - 1 = omega arith in
            subst (IsFirstCommuting (rowed_presentation with_commutator) m)
            (highest ∙ ap (λ (x : ℕ). x - 1) (sym (get_or-raised_to (suc (suc j)) (suc i) m numbers (omega arith) (omega arith))))
            (IsFirstCommuting-before (rowed_presentation T) (rowed_presentation with_commutator) refl j i inside order no_longer_bare others
            m
            (get_or numbers m 0 - 1) before (old.first m b))
      ]

  raised_numbers : (numbers : List ℕ) → AreCommutingNumbers T numbers
      → AreCommutingNumbers with_commutator (raised_to (suc (suc j)) (suc i) numbers)
  raised_numbers numbers old = record {
    count = length-raised_to (suc (suc j)) (suc i) numbers ∙ old.count;
    first = raised_first numbers old;
  }

-- one relation more, which was bare before
pub AreCommutingNumbers-with_relation : (T : TailedPresentation) (is : IsTailedPresentation T) (r : Relation) (word : List Syllable)
    (tail : Option ℕ)
    (numbers : List ℕ) → IsRelation T.presentation.rank r → AreSyllables T.presentation.prime T.presentation.rank (side_start r) word
    → IsBareRelation T r
    → IsTailedPresentation (with_relation T r word tail) → AreCommutingNumbers T numbers
    → AreCommutingNumbers (with_relation T r word tail) (numbers_with r word tail numbers)
AreCommutingNumbers-with_relation T is (Power i) word tail numbers h a bare more old =
    same_numbers T is (Power i) word tail h more
    (λ l k c d. same_elsewhere T is (Power i) word tail h more l k c d (commutator_no_power (suc l) (suc k) i)) numbers old
AreCommutingNumbers-with_relation T is (Commutator zero i) word tail numbers h a bare more old = absurd (omega (arith, h))
AreCommutingNumbers-with_relation T is (Commutator (suc j) zero) word tail numbers h a bare more old = absurd (omega (arith, h))
AreCommutingNumbers-with_relation T is (Commutator (suc j) (suc i)) [] None numbers h a bare more old =
    same_numbers T is (Commutator (suc j) (suc i)) [] None h more
    (same_everywhere T is (Commutator (suc j) (suc i)) [] None h more bare
    (IsBareRelation-with_nothing T is (Commutator (suc j) (suc i)) [] None h refl refl)) numbers old
AreCommutingNumbers-with_relation T is (Commutator (suc j) (suc i)) [] (Some t) numbers h a bare more old =
    raised_numbers T is j i [] (Some t) h more
    (λ b. let e : Some t ≡ None = (nothing-IsBareRelation T is (Commutator (suc j) (suc i)) [] (Some t) h a b).1 in cc) numbers old
AreCommutingNumbers-with_relation T is (Commutator (suc j) (suc i)) (s ∷ w) tail numbers h a bare more old =
    raised_numbers T is j i (s ∷ w) tail h more
    (λ b. let e : s ∷ w ≡ [] = (nothing-IsBareRelation T is (Commutator (suc j) (suc i)) (s ∷ w) tail h a b).0 in cc) numbers old

-- of what is kept
pub AreCommutingNumbers-put_entries : (p tails : ℕ) (weights : List ℕ) (entries : List Entry) (r : Relation) (word : List Syllable)
    (tail : Option ℕ) (numbers : List ℕ)
    → IsOffered p → length weights ≤ max_rank → AreEntries p (length weights) tails entries → IsRelation (length weights) r
    → AreSyllables p (length weights) (side_start r) word → IsTail tails tail
    → IsBareRelation (tailed_presentation p weights tails entries) r
    → AreCommutingNumbers (tailed_presentation p weights tails entries) numbers
    → AreCommutingNumbers (tailed_presentation p weights tails (put_entries (length weights) entries r word tail))
    (numbers_with r word tail numbers)
AreCommutingNumbers-put_entries p tails weights entries r word tail numbers offered limit are h a t bare old =
    let new : List Entry = put_entries (length weights) entries r word tail in
    let made : tailed_presentation p weights tails (put_entries (length weights) entries r word tail)
    ≡ with_relation (tailed_presentation p weights tails entries) r word tail =
    with_relation-tailed p tails weights entries r word tail are.count h in
    subst (λ (T : TailedPresentation). AreCommutingNumbers T (numbers_with r word tail numbers)) (sym made)
    (AreCommutingNumbers-with_relation (tailed_presentation p weights tails entries)
    (tailed_presentation-is p tails weights entries are offered limit)
    r word tail numbers h a bare
    (subst IsTailedPresentation made
    (tailed_presentation-is p tails weights new (put_entries-are (length weights) entries r word tail p tails are h a t) offered limit))
    old)
