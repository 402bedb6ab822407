-- The relations without tails, kind by kind, and the presentation in which all were given: it is the cover's.
use Rattle.std.proofs.Common.{◌≡◌, ◌⊎◌, ◌<◌, ◌≤◌, ◌+◌, ◌-◌, ℕ, false, None, List, [], length, ap, sym, ◌∙◌, subst, inl, inr, arith}
use Rattle.std.proofs.lemmas.Bool.{cases_lt, false≢true}
use Rattle.pq_base.specs.Presentation.{Presentation, IsPresentation}
use Rattle.pq_base.specs.Elementary.{elementary}
use Rattle.pq_base.specs.Answer.{Answer, Definition as Source}
use Rattle.pq_base.proofs.ElementarySides.{elementary-presentation}
use Rattle.pc_presentation.specs.declared.relation.Relation.{Relation}
use Rattle.pc_presentation.specs.declared.relation.Relation.TheVariants.{Power as PowerOf, Commutator as CommutatorOf}
use Rattle.pc_presentation.specs.Relation.{IsRelation, per_relation}
use Rattle.pc_presentation.specs.Pcp.{TailedPresentation, HasShape, sides_of}
use Rattle.pc_presentation.specs.Builder.{Draft, WasGiven, empty_draft}
use Rattle.pc_presentation.proofs.presentations.RelationTables.{entry_at-per_relation, per_relation-shape}
use Rattle.pc_presentation.proofs.normal_tables.EntryLaws.{same_tables}
use Rattle.p_cover.specs.Sources.{relation_source, place_in}
use Rattle.p_cover.specs.Covers.{covering}
use Rattle.p_cover.specs.Given.{IsFaithful, IsBegun, Completes, IsPowerTo, IsCommutatorOf, IsCommutatorTo, IsAny}
use Rattle.p_cover.proofs.GivenLaws.{goes_on-then, goes_on-none}

module _ (A : Answer) (D : Draft) where
  pub no_powers : Completes A (IsPowerTo 0) D D
  no_powers = goes_on-none A (IsPowerTo 0) D none
    where
      none : (q : Relation) → IsRelation A.presentation.rank q → ¬ IsPowerTo 0 q
      none (PowerOf i) l h = omega (arith, l.0)
      none (CommutatorOf j i) l h = h

  pub no_commutators_of : (j : ℕ) → Completes A (IsCommutatorOf j 0) D D
  no_commutators_of j = goes_on-none A (IsCommutatorOf j 0) D none
    where
      none : (q : Relation) → IsRelation A.presentation.rank q → ¬ IsCommutatorOf j 0 q
      none (PowerOf i) l h = h
      none (CommutatorOf l i) m h = omega (arith, m.0, h.1)

  pub no_commutators : Completes A (IsCommutatorTo 0) D D
  no_commutators = goes_on-none A (IsCommutatorTo 0) D none
    where
      none : (q : Relation) → IsRelation A.presentation.rank q → ¬ IsCommutatorTo 0 q
      none (PowerOf i) l h = h
      none (CommutatorOf j i) l h = omega (arith, l.0, l.1)

module _ (A : Answer) (D E F : Draft) where
  pub powers-more : (k : ℕ) → Completes A (IsPowerTo k) D E → Completes A (λ q. q ≡ PowerOf (k + 1)) E F
      → Completes A (IsPowerTo (k + 1)) D F
  powers-more k x y = goes_on-then A (IsPowerTo k) (λ q. q ≡ PowerOf (k + 1)) (IsPowerTo (k + 1)) D E F x y either
    where
      either : (q : Relation) → IsRelation A.presentation.rank q → IsPowerTo (k + 1) q → IsPowerTo k q ⊎ (q ≡ PowerOf (k + 1))
      either (PowerOf i) l h = elim (cases_lt i (k + 1)) [
        | inl below ↦ inl (omega arith)
        | inr above ↦ let same : i ≡ k + 1 = omega arith in inr (ap PowerOf same)
      ]
      either (CommutatorOf j i) l h = absurd h

  pub commutators_of-more : (j k : ℕ) → Completes A (IsCommutatorOf j k) D E → Completes A (λ q. q ≡ CommutatorOf j (k + 1)) E F
      → Completes A (IsCommutatorOf j (k + 1)) D F
  commutators_of-more j k x y =
      goes_on-then A (IsCommutatorOf j k) (λ q. q ≡ CommutatorOf j (k + 1)) (IsCommutatorOf j (k + 1)) D E F x y either
    where
      either : (q : Relation) → IsRelation A.presentation.rank q → IsCommutatorOf j (k + 1) q
          → IsCommutatorOf j k q ⊎ (q ≡ CommutatorOf j (k + 1))
      either (PowerOf i) l h = absurd h
      either (CommutatorOf l i) m h =
          let last : i ≤ k + 1 = h.1 in
          elim (cases_lt i (k + 1)) [
            | inl below ↦ inl (h.0, omega arith)
            | inr above ↦
                let same : i ≡ k + 1 = omega arith in
                inr (ap (λ (x : ℕ). CommutatorOf x i) h.0 ∙ ap (CommutatorOf j) same)
          ]

  pub commutators-more : (k : ℕ) → Completes A (IsCommutatorTo k) D E → Completes A (IsCommutatorOf (k + 1) (k + 1 - 1)) E F
      → Completes A (IsCommutatorTo (k + 1)) D F
  commutators-more k x y = goes_on-then A (IsCommutatorTo k) (IsCommutatorOf (k + 1) (k + 1 - 1)) (IsCommutatorTo (k + 1)) D E F x y either
    where
      either : (q : Relation) → IsRelation A.presentation.rank q → IsCommutatorTo (k + 1) q
          → IsCommutatorTo k q ⊎ IsCommutatorOf (k + 1) (k + 1 - 1) q
      either (PowerOf i) l h = absurd h
      either (CommutatorOf j i) l h =
          let less : i < j = l.1 in
          let last : j ≤ k + 1 = h in
          elim (cases_lt j (k + 1)) [
            | inl below ↦ inl (omega arith)
            | inr above ↦ inr (omega arith, omega arith)
          ]

  pub all_more : Completes A (IsPowerTo A.presentation.rank) D E → Completes A (IsCommutatorTo A.presentation.rank) E F
      → Completes A IsAny D F
  all_more x y = goes_on-then A (IsPowerTo A.presentation.rank) (IsCommutatorTo A.presentation.rank) IsAny D E F x y either
    where
      either : (q : Relation) → IsRelation A.presentation.rank q → IsAny q
          → IsPowerTo A.presentation.rank q ⊎ IsCommutatorTo A.presentation.rank q
      either (PowerOf i) l h = inl l.1
      either (CommutatorOf j i) l h = inr l.2

module _ (A : Answer) (ds : List Source) (is : IsPresentation A.presentation) where
  -- nothing was given
  pub begun-empty : (p tails : ℕ) (weights : List ℕ) → 2 ≤ p → p ≡ A.presentation.prime → weights ≡ A.weights → tails ≡ length ds
      → length A.weights ≡ A.presentation.rank → IsBegun A ds 0 (empty_draft p weights tails)
  begun-empty p tails weights one prime same count rank =
      let n : ℕ = length weights in
      let e : n ≡ A.presentation.rank = ap (length {A = ℕ}) same ∙ rank in
      let E : IsPresentation (elementary p n) = elementary-presentation p n one in
      let none : (r : Relation) → IsRelation A.presentation.rank r → ¬ WasGiven (empty_draft p weights tails) r =
      λ r l g. false≢true (sym (entry_at-per_relation n (λ _. false) false r (subst (λ (m : ℕ). IsRelation m r) (sym e) l)) ∙ g) in
      record {
        faithful = record {
          prime = prime;
          rank = e;
          weights = same;
          tails = count;
          side_shape = subst (λ (m : ℕ). HasShape m (sides_of (elementary p n))) e
              (record { power_count = E.power_count; row_count = E.commutator_count; row_lengths = E.commutator_counts });
          tail_shape = subst (λ (m : ℕ). HasShape m (empty_draft p weights tails).built.tail_table) e (per_relation-shape n (λ _. None));
          given_shape = subst (λ (m : ℕ). HasShape m (empty_draft p weights tails).given) e (per_relation-shape n (λ _. false));
          sides = λ r l g. absurd (none r l g);
          tail_numbers = λ r l g. absurd (none r l g);
        };
        listed = λ i r l h e. absurd (omega (arith, l));
      }

  presentation_same : (P Q : Presentation) → P.prime ≡ Q.prime → P.rank ≡ Q.rank → sides_of P ≡ sides_of Q → P ≡ Q
  presentation_same P Q e f g = λ i. record { prime = e i; rank = f i; powers = (g i).powers; commutators = (g i).commutators }

  tailed_same : (T U : TailedPresentation) → T.presentation ≡ U.presentation → T.weights ≡ U.weights → T.tails ≡ U.tails
      → T.tail_table ≡ U.tail_table → T ≡ U
  tailed_same T U e f g h = λ i. record { presentation = e i; weights = f i; tails = g i; tail_table = h i }

  -- all were given
  pub all_given : (D : Draft) → IsFaithful A ds D → ((r : Relation) → IsRelation A.presentation.rank r → WasGiven D r)
      → D.built ≡ covering A ds
  all_given D f all =
      let n : ℕ = A.presentation.rank in
      let sides : sides_of D.built.presentation ≡ sides_of A.presentation =
      same_tables n (sides_of D.built.presentation) (sides_of A.presentation) [] f.side_shape
      (record { power_count = is.power_count; row_count = is.commutator_count; row_lengths = is.commutator_counts })
      (λ r h. f.sides r h (all r h)) in
      let table : D.built.tail_table ≡ per_relation n (λ r. place_in ds (relation_source r)) =
      same_tables n D.built.tail_table (per_relation n (λ r. place_in ds (relation_source r))) None f.tail_shape
      (per_relation-shape n (λ r. place_in ds (relation_source r)))
      (λ r h. f.tail_numbers r h (all r h) ∙ sym (entry_at-per_relation n (λ q. place_in ds (relation_source q)) None r h)) in
      tailed_same D.built (covering A ds) (presentation_same D.built.presentation A.presentation f.prime f.rank sides) f.weights f.tails
      table

  pub complete-is : (D E : Draft) → IsBegun A ds (length ds) D → Completes A IsAny D E → E.built ≡ covering A ds
  complete-is D E b c = let g = c ds b in all_given E g.begun.faithful (λ r h. g.given r h tt)
