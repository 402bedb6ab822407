-- The first place after a generator from which on all commute: where all commutators are bare it is the next one, and where one
-- of them is no longer bare it rises for generators up to the lower one of this commutator.
use Rattle.std.proofs.Common.{◌≡◌, ◌↔◌, ℕ, suc, ◌<◌, ◌≤◌, max, arith, inl, inr}
use Rattle.std.proofs.lemmas.Bool.{cases_lt}
use Rattle.pc_presentation.specs.Rowed.{RowedPresentation}
use Rattle.pc_presentation.specs.Commuting.{IsBare, IsFirstCommuting}

pub IsFirstCommuting-plain : (Y : RowedPresentation) → ((l k : ℕ) → l < Y.base.rank → k < l → IsBare Y l k) → (m : ℕ) → m < Y.base.rank
    → IsFirstCommuting Y m (suc m)
IsFirstCommuting-plain Y bare m h = record {
  after = omega arith;
  within = omega arith;
  commute = λ l k a b c d. bare l k b d;
  first = λ y a c. omega arith;
}

module _ (Y Z : RowedPresentation) (ranks : Z.base.rank ≡ Y.base.rank) where
  pub IsFirstCommuting-same : ((l k : ℕ) → l < Y.base.rank → k < l → IsBare Y l k ↔ IsBare Z l k) → (m z : ℕ)
      → IsFirstCommuting Y m z → IsFirstCommuting Z m z
  IsFirstCommuting-same same m z c =
      let within = c.within in
      record {
        after = c.after;
        within = omega arith;
        commute = λ l k a b d e. (same l k (omega arith) e).0 (c.commute l k a (omega arith) d e);
        first = λ y a d. c.first y a (λ l k f b g e. (same l k b e).1 (d l k f (omega arith) g e));
      }

  -- the commutator of the generators at places j > i is bare no more
  module _ (j i : ℕ) (j_below : j < Y.base.rank) (i_below : i < j) (lost : ¬ IsBare Z j i)
      (others : (l k : ℕ) → l < Y.base.rank → k < l → ¬ ((l ≡ j) × (k ≡ i)) → IsBare Y l k ↔ IsBare Z l k) where
    pub IsFirstCommuting-before : (m z : ℕ) → m ≤ i → IsFirstCommuting Y m z → IsFirstCommuting Z m (max (suc j) z)
    IsFirstCommuting-before m z h c =
        let after = c.after in
        let within = c.within in
        record {
          after = omega arith;
          within = omega arith;
          commute =
              λ l k a b d e. (others l k (omega arith) e (λ s. let t = s.0 in omega arith)).0
              (c.commute l k (omega arith) (omega arith) d e);
          first = λ y a d. elim (cases_lt j y) [
            | inl later ↦
                let least : z ≤ y =
                c.first y a (λ l k f b g e. (others l k b e (λ s. let t = s.0 in omega arith)).1 (d l k f (omega arith) g e)) in
                omega arith
            | inr before ↦ absurd (lost (d j i before (omega arith) h i_below))
          ];
        }

    pub IsFirstCommuting-behind : (m z : ℕ) → i < m → IsFirstCommuting Y m z → IsFirstCommuting Z m z
    IsFirstCommuting-behind m z h c =
        let within = c.within in
        record {
          after = c.after;
          within = omega arith;
          commute = λ l k a b d e. (others l k (omega arith) e (λ s. let t = s.1 in omega arith)).0 (c.commute l k a (omega arith) d e);
          first = λ y a d. c.first y a (λ l k f b g e. (others l k b e (λ s. let t = s.1 in omega arith)).1 (d l k f (omega arith) g e));
        }
