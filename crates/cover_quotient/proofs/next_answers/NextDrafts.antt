-- The next answer's presentation in the making: one relation after the other gets its right side, and where all relations of
-- the answer's generators have theirs, the presentation is the next answer's.
use Rattle.std.proofs.Common.{◌≡◌, ◌≢◌, ◌⊎◌, ◌<◌, ◌≤◌, ◌+◌, ◌-◌, ℕ, zero, suc, true, false, None, List, [], get_or, length, replicate, inl}
use Rattle.std.proofs.Common.{inr, ap, ap₂, sym, ◌∙◌, subst, arith}
use Rattle.std.proofs.lemmas.Bool.{cases_eq, cases_lt}
use Rattle.std.proofs.lemmas.List.{get_or-replicate}
use Rattle.pq_base.specs.Presentation.{Presentation, IsPresentation}
use Rattle.pq_base.specs.Elementary.{zero_powers, zero_rows, elementary}
use Rattle.pq_base.specs.Answer.{Answer}
use Rattle.pq_base.proofs.ElementarySides.{elementary-presentation}
use Rattle.pc_presentation.specs.declared.relation.Relation.{Relation}
use Rattle.pc_presentation.specs.declared.relation.Relation.TheVariants.{Power, Commutator}
use Rattle.pc_presentation.specs.Syllable.{spread}
use Rattle.pc_presentation.specs.Relation.{IsRelation, PerRelation, side_start, entry_at, per_relation}
use Rattle.pc_presentation.specs.Pcp.{HasShape, sides_of, right_side, side_word}
use Rattle.pc_presentation.specs.Builder.{Draft, empty_draft, extended}
use Rattle.pc_presentation.proofs.presentations.RelationNumbers.{same_or_other}
use Rattle.pc_presentation.proofs.presentations.RelationTables.{entry_at-per_relation, per_relation-shape}
use Rattle.pc_presentation.proofs.presentations.SideLaws.{spread-side_word}
use Rattle.pc_presentation.proofs.normal_tables.EntryLaws.{with_entry-shape, entry_at-with_entry_same, entry_at-with_entry_other}
use Rattle.pc_presentation.proofs.normal_tables.EntryLaws.{same_tables}
use Rattle.cover_quotient.specs.NextParts.{IsAmong, IsDraft, Awaits, IsPresentationOf}

-- the right sides of an elementary presentation are zeros
zero_power : (n i m : ℕ) → suc i + m ≡ n → get_or (zero_powers n) i [] ≡ replicate m 0
zero_power zero i m e = absurd (omega arith)
zero_power (suc n) zero m e = let same : n ≡ m = omega arith in ap (λ (k : ℕ). replicate k 0) same
zero_power (suc n) (suc i) m e = zero_power n i m (omega arith)

zero_row : (j n i m : ℕ) → suc i + m ≡ n → get_or (zero_rows j n) i [] ≡ replicate (j + i) (replicate m 0)
zero_row j zero i m e = absurd (omega arith)
zero_row j (suc n) zero m e =
    let same : n ≡ m = omega arith in
    let place : j ≡ j + 0 = omega arith in
    ap (λ (x : ℕ). replicate j (replicate x 0)) same ∙ ap (λ (x : ℕ). replicate x (replicate m 0)) place
zero_row j (suc n) (suc i) m e =
    let place : suc j + i ≡ j + suc i = omega arith in
    zero_row (suc j) n i m (omega arith) ∙ ap (λ (x : ℕ). replicate x (replicate m 0)) place

elementary_side : (p n : ℕ) (r : Relation) → IsRelation n r → right_side (elementary p n) r ≡ replicate (n - side_start r) 0
elementary_side p n (Power i) h = zero_power n (i - 1) (n - i) (omega arith)
elementary_side p n (Commutator j i) h =
    let place : i - 1 < 0 + (j - 1) = omega arith in
    ap (λ (row : List (List ℕ)). get_or row (i - 1) []) (zero_row 0 n (j - 1) (n - j) (omega arith))
    ∙ get_or-replicate (0 + (j - 1)) (i - 1) (replicate (n - j) 0) [] place

-- in a draft to which nothing was given
none_given : (n : ℕ) (r : Relation) → IsRelation n r → entry_at false (per_relation n (λ (q : Relation). false)) r ≡ false
none_given n r h = entry_at-per_relation n (λ (q : Relation). false) false r h

nothing : false ≢ true
nothing e = cc

module _ (A : Answer) (is : IsPresentation A.presentation) where
  presentation-shape : HasShape A.presentation.rank (sides_of A.presentation)
  presentation-shape = record { power_count = is.power_count; row_count = is.commutator_count; row_lengths = is.commutator_counts }

  module _ (n : ℕ) where
    -- one relation more
    pub draft-more : (a b c a' b' c' : ℕ) (D E : Draft) (r : Relation) → IsRelation A.presentation.rank r
        → ((s : Relation) → IsRelation A.presentation.rank s → IsAmong n a' b' c' s → IsAmong n a b c s ⊎ (s ≡ r))
        → ((s : Relation) → IsAmong n a b c s → IsAmong n a' b' c' s) → IsAmong n a' b' c' r
        → IsDraft A n a b c D → E ≡ extended D r (side_word A.presentation r) None → IsDraft A n a' b' c' E
    draft-more a b c a' b' c' D E r h either still last d e =
        let side : List ℕ = spread (D.built.presentation.rank - side_start r) (side_start r) (side_word A.presentation r) in
        let F : Draft = extended D r (side_word A.presentation r) None in
        let here : right_side F.built.presentation r ≡ right_side A.presentation r =
        entry_at-with_entry_same A.presentation.rank (sides_of D.built.presentation) [] d.side_shape r side h
        ∙ spread-side_word A.presentation is r D.built.presentation.rank h d.rank in
        subst (IsDraft A n a' b' c') (sym e) (record {
          of = is;
          prime = d.prime;
          rank = d.rank;
          weights = d.weights;
          tails = d.tails;
          side_shape = with_entry-shape A.presentation.rank (sides_of D.built.presentation) [] d.side_shape r side h;
          given_shape = with_entry-shape A.presentation.rank D.given false d.given_shape r true h;
          sides = λ s l m. elim (same_or_other A.presentation.rank s r l h) [
            | inl same ↦ subst (λ (x : Relation). right_side F.built.presentation x ≡ right_side A.presentation x) (sym same) here
            | inr other ↦
                entry_at-with_entry_other A.presentation.rank (sides_of D.built.presentation) [] d.side_shape r side h s l other
                ∙ elim (either s l m) [
                  | inl before ↦ d.sides s l before
                  | inr same ↦ absurd (other same)
                ]
          ];
          given = λ s l g. elim (same_or_other A.presentation.rank s r l h) [
            | inl same ↦ subst (IsAmong n a' b' c') (sym same) last
            | inr other ↦
                still s (d.given s l (sym (entry_at-with_entry_other A.presentation.rank D.given false d.given_shape r true h s l other)
                ∙ g))
          ];
        })

    pub power-more : (k : ℕ) (D E : Draft) → k < A.presentation.rank → IsDraft A n k 0 0 D
        → E ≡ extended D (Power (k + 1)) (side_word A.presentation (Power (k + 1))) None → IsDraft A n (k + 1) 0 0 E
    power-more k D E h d e =
        draft-more k 0 0 (k + 1) 0 0 D E (Power (k + 1)) (omega arith, omega arith) either still (inl (omega arith)) d e
      where
        still : (s : Relation) → IsAmong n k 0 0 s → IsAmong n (k + 1) 0 0 s
        still (Power i) (inl m) = inl (omega arith)
        still (Power i) (inr m) = inr m
        still (Commutator j i) m = m

        either : (s : Relation) → IsRelation A.presentation.rank s → IsAmong n (k + 1) 0 0 s → IsAmong n k 0 0 s ⊎ (s ≡ Power (k + 1))
        either (Power i) l (inl m) = elim (cases_eq i (k + 1)) [
          | inl same ↦ inr (ap Power same)
          | inr other ↦ inl (inl (omega arith))
        ]
        either (Power i) l (inr m) = inl (inr m)
        either (Commutator j i) l m = inl m

    pub commutator-more : (k i : ℕ) (D E : Draft) → k < A.presentation.rank → i < k → IsDraft A n n k i D
        → E ≡ extended D (Commutator (k + 1) (i + 1)) (side_word A.presentation (Commutator (k + 1) (i + 1))) None
        → IsDraft A n n k (i + 1) E
    commutator-more k i D E h m d e =
        draft-more n k i n k (i + 1) D E (Commutator (k + 1) (i + 1)) (omega arith, omega arith, omega arith) either still
        (inr (inl (omega arith, omega arith))) d e
      where
        still : (s : Relation) → IsAmong n n k i s → IsAmong n n k (i + 1) s
        still (Power x) w = w
        still (Commutator y x) (inl w) = inl w
        still (Commutator y x) (inr (inl w)) = let most = w.1 in inr (inl (w.0, omega arith))
        still (Commutator y x) (inr (inr w)) = inr (inr w)

        either : (s : Relation) → IsRelation A.presentation.rank s → IsAmong n n k (i + 1) s
            → IsAmong n n k i s ⊎ (s ≡ Commutator (k + 1) (i + 1))
        either (Power x) l w = inl w
        either (Commutator y x) l (inl w) = inl (inl w)
        either (Commutator y x) l (inr (inr w)) = inl (inr (inr w))
        either (Commutator y x) l (inr (inl w)) =
            let row = w.0 in
            let most = w.1 in
            elim (cases_eq x (i + 1)) [
              | inl same ↦
                  let next : y ≡ k + 1 = omega arith in
                  inr (ap₂ (λ (u v : ℕ). Commutator u v) next same)
              | inr other ↦ inl (inr (inl (row, omega arith)))
            ]

    -- the next relation wasn't given yet
    pub power-awaited : (k : ℕ) (D : Draft) → k < n → k < A.presentation.rank → IsDraft A n k 0 0 D → Awaits A (Power (k + 1)) D
    power-awaited k D inside h d =
        record {
          of = is;
          draft = record { prime = d.prime; rank = d.rank };
          new = λ g. after (d.given (Power (k + 1)) (omega arith, omega arith) g);
        }
      where
        after : ¬ IsAmong n k 0 0 (Power (k + 1))
        after (inl m) = absurd (omega arith)
        after (inr m) = absurd (omega arith)

    pub commutator-awaited : (k i : ℕ) (D : Draft) → k < n → k < A.presentation.rank → i < k → IsDraft A n n k i D
        → Awaits A (Commutator (k + 1) (i + 1)) D
    commutator-awaited k i D inside h m d = record {
      of = is;
      draft = record { prime = d.prime; rank = d.rank };
      new = λ g. after (d.given (Commutator (k + 1) (i + 1)) (omega arith, omega arith, omega arith) g);
    }
      where
        after : ¬ IsAmong n n k i (Commutator (k + 1) (i + 1))
        after (inl w) = absurd (omega arith)
        after (inr (inl w)) = let most = w.1 in absurd (omega arith)
        after (inr (inr w)) = absurd (omega arith)

    -- a row of commutators is whole
    pub row-whole : (k : ℕ) (D : Draft) → IsDraft A n n k k D → IsDraft A n n (k + 1) 0 D
    row-whole k D d = record {
      of = is;
      prime = d.prime;
      rank = d.rank;
      weights = d.weights;
      tails = d.tails;
      side_shape = d.side_shape;
      given_shape = d.given_shape;
      sides = λ s l m. d.sides s l (among s l m);
      given = λ s l g. still s (d.given s l g);
    }
      where
        still : (s : Relation) → IsAmong n n k k s → IsAmong n n (k + 1) 0 s
        still (Power i) w = w
        still (Commutator j i) (inl w) = inl (omega arith)
        still (Commutator j i) (inr (inl w)) = let row = w.0 in inl (omega arith)
        still (Commutator j i) (inr (inr w)) = inr (inr w)

        among : (s : Relation) → IsRelation A.presentation.rank s → IsAmong n n (k + 1) 0 s → IsAmong n n k k s
        among (Power i) l w = w
        among (Commutator j i) l (inl w) = elim (cases_lt j (k + 1)) [
          | inl before ↦ inl (omega arith)
          | inr here ↦
              let row : j ≡ suc k = omega arith in
              inr (inl (row, (let h = l.1 in omega arith)))
        ]
        among (Commutator j i) l (inr (inl w)) = let a = w.1 in let b = l.0 in absurd (omega arith)
        among (Commutator j i) l (inr (inr w)) = inr (inr w)

    -- nothing was given yet
    pub draft-empty : (p tails : ℕ) (weights : List ℕ) (D : Draft) → 2 ≤ p → p ≡ A.presentation.prime → weights ≡ A.weights → tails ≡ 0
        → length A.weights ≡ A.presentation.rank
        → ((r : Relation) → IsRelation A.presentation.rank r → n < side_start r
        → right_side A.presentation r ≡ replicate (A.presentation.rank - side_start r) 0)
        → D ≡ empty_draft p weights tails → IsDraft A n 0 0 0 D
    draft-empty p tails weights D positive prime same none count new e =
        let long : length weights ≡ A.presentation.rank = ap length same ∙ count in
        let base : IsPresentation (elementary p (length weights)) = elementary-presentation p (length weights) positive in
        subst (IsDraft A n 0 0 0) (sym e) (record {
          of = is;
          prime = prime;
          rank = long;
          weights = same;
          tails = none;
          side_shape = subst (λ (k : ℕ). HasShape k (sides_of (elementary p (length weights)))) long
              (record { power_count = base.power_count; row_count = base.commutator_count; row_lengths = base.commutator_counts });
          given_shape = subst (λ (k : ℕ). HasShape k (per_relation (length weights) (λ (r : Relation). false))) long
              (per_relation-shape (length weights) (λ (r : Relation). false));
          sides = λ r l w.
              elementary_side p (length weights) r (subst (λ (k : ℕ). IsRelation k r) (sym long) l)
              ∙ ap (λ (k : ℕ). replicate (k - side_start r) 0) long ∙ sym (new r l (late r l w));
          given = λ r l g. absurd (nothing (sym (none_given (length weights) r (subst (λ (k : ℕ). IsRelation k r) (sym long) l)) ∙ g));
        })
      where
        late : (r : Relation) → IsRelation A.presentation.rank r → IsAmong n 0 0 0 r → n < side_start r
        late (Power i) l (inl w) = let a = l.0 in absurd (omega arith)
        late (Power i) l (inr w) = w
        late (Commutator j i) l (inl w) = let a = l.1 in absurd (omega arith)
        late (Commutator j i) l (inr (inl w)) = let a = w.1 in let b = l.0 in absurd (omega arith)
        late (Commutator j i) l (inr (inr w)) = w

    -- all relations were given
    pub draft-whole : (D : Draft) → IsDraft A n n n 0 D → IsPresentationOf A D.built
    draft-whole D d =
        let same : sides_of D.built.presentation ≡ sides_of A.presentation =
        same_tables A.presentation.rank (sides_of D.built.presentation) (sides_of A.presentation) [] d.side_shape presentation-shape
        (λ r h. d.sides r h (any r)) in
        record {
          presentation =
              ap₂ (λ (p k : ℕ). let P : Presentation =
              record { prime = p; rank = k; powers = D.built.presentation.powers; commutators = D.built.presentation.commutators } in P)
              d.prime d.rank
              ∙ ap (λ (t : PerRelation (List ℕ)). let P : Presentation = record {
                prime = A.presentation.prime;
                rank = A.presentation.rank;
                powers = t.powers;
                commutators = t.commutators;
              } in P) same;
          weights = d.weights;
          tails = d.tails;
        }
      where
        any : (r : Relation) → IsAmong n n n 0 r
        any (Power i) = elim (cases_lt n i) [
          | inl after ↦ inr after
          | inr before ↦ inl (omega arith)
        ]
        any (Commutator j i) = elim (cases_lt n j) [
          | inl after ↦ inr (inr after)
          | inr before ↦ inl (omega arith)
        ]
