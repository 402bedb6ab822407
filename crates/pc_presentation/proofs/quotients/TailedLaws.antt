-- A presentation with tails is one with rows, and the zero state is an element of it. The letters of a sparse word are
-- those of its exponents.
use Rattle.std.proofs.Common.{◌≡◌, ℕ, zero, suc, ◌+◌, ◌-◌, ◌<◌, ◌≤◌, List, [], ◌∷◌, ◌++◌, get_or, length, replicate, refl, ap, sym, ◌∙◌}
use Rattle.std.proofs.Common.{subst, arith}
use Rattle.pq_base.specs.Presentation.{IsNormal, power_side, commutator_side}
use Rattle.pc_presentation.specs.declared.syllable.Syllable.{Syllable}
use Rattle.pc_presentation.specs.declared.relation.Relation.TheVariants.{Power, Commutator}
use Rattle.pc_presentation.specs.Syllable.{syllable, syllables_of, AreGenerators, AreLater}
use Rattle.pc_presentation.specs.Relation.{IsRelation}
use Rattle.pc_presentation.specs.Pcp.{TailedPresentation, IsTailedPresentation, HasShape, right_side, tail_rows}
use Rattle.pc_presentation.specs.Rowed.{IsRowed, power_row, commutator_row}
use Rattle.pc_presentation.specs.Collection.{Configuration, spelled}
use Rattle.pc_presentation.specs.Tailed.{rowed_presentation, IsElement, one_of, places_of, side_with_tail}
use Rattle.pq_base.proofs.PrimeLaws.{positive_prime}
use Rattle.pc_presentation.proofs.presentations.PcpLaws.{one_less}
use Rattle.pc_presentation.proofs.rows.TailRowLaws.{tail_rows-shape, tail_rows-normal, entry_at-tail_rows}
use Rattle.pc_presentation.proofs.rows.RowLaws.{identity-state}
use Rattle.pc_presentation.proofs.presentations.WordTests.{All-cons}

module _ (T : TailedPresentation) (is : IsTailedPresentation T) where
  pub rowed_presentation-is : IsRowed (rowed_presentation T)
  rowed_presentation-is =
      let two = is.presentation.prime in
      let shape : HasShape T.presentation.rank (tail_rows T) = tail_rows-shape T is in
      record {
        base = is.presentation;
        power_count = shape.power_count;
        power_rows = λ i h.
            subst (λ (k : ℕ). IsNormal T.presentation.prime T.tails (get_or (tail_rows T).powers k [])) (sym (one_less i))
            (tail_rows-normal T is two (Power (suc i)) (omega arith, omega arith));
        commutator_count = shape.row_count;
        commutator_counts = shape.row_lengths;
        commutator_rows = λ j i h l.
            subst (λ (k : ℕ). IsNormal T.presentation.prime T.tails (get_or (get_or (tail_rows T).commutators j []) k []))
            (sym (one_less i))
            (subst (λ (k : ℕ). IsNormal T.presentation.prime T.tails (get_or (get_or (tail_rows T).commutators k []) (suc i - 1) []))
            (sym (one_less j))
            (tail_rows-normal T is two (Commutator (suc j) (suc i)) (omega arith, omega arith, omega arith)));
      }

  pub one_of-is : IsElement T (one_of T)
  one_of-is = record {
    presentation = is;
    prime = refl;
    state = identity-state (rowed_presentation T) T.presentation.rank (positive_prime T.presentation is.presentation);
  }

  -- the right side of a relation with its tail, by places
  pub power_side-with_tail : (i : ℕ) → i < T.presentation.rank
      → side_with_tail T (Power (suc i))
      ≡ record { word = spelled (suc i) (power_side (rowed_presentation T).base i); row = power_row (rowed_presentation T) i }
  power_side-with_tail i h =
      let relation : IsRelation T.presentation.rank (Power (suc i)) = (omega arith, omega arith) in
      let make : List ℕ → List ℕ → Configuration = λ e x. record { word = spelled (suc i) e; row = x } in
      ap (make (right_side T.presentation (Power (suc i)))) (sym (entry_at-tail_rows T is (Power (suc i)) relation))
      ∙ sym (ap (λ (k : ℕ). make (get_or T.presentation.powers k []) (get_or (tail_rows T).powers k [])) (one_less i))

  pub commutator_side-with_tail : (j i : ℕ) → j < T.presentation.rank → i < j
      → side_with_tail T (Commutator (suc j) (suc i))
      ≡ record { word = spelled (suc j) (commutator_side (rowed_presentation T).base j i); row = commutator_row (rowed_presentation T) j i }
  commutator_side-with_tail j i h l =
      let relation : IsRelation T.presentation.rank (Commutator (suc j) (suc i)) = (omega arith, omega arith, omega arith) in
      let make : List ℕ → List ℕ → Configuration = λ e x. record { word = spelled (suc j) e; row = x } in
      ap (make (right_side T.presentation (Commutator (suc j) (suc i))))
      (sym (entry_at-tail_rows T is (Commutator (suc j) (suc i)) relation))
      ∙ sym (ap (λ (k : ℕ). make (get_or (get_or T.presentation.commutators k []) (suc i - 1) [])
      (get_or (get_or (tail_rows T).commutators k []) (suc i - 1) [])) (one_less j))
      ∙ sym (ap (λ (k : ℕ). make (get_or (get_or T.presentation.commutators j []) k [])
      (get_or (get_or (tail_rows T).commutators j []) k [])) (one_less i))

-- the letters of a sparse word
pub places_of-syllables_of : (k : ℕ) (e : List ℕ) → places_of (syllables_of k e) ≡ spelled k e
places_of-syllables_of k [] = refl
places_of-syllables_of k (zero ∷ es) = places_of-syllables_of (suc k) es
places_of-syllables_of k (suc e ∷ es) =
    ap (λ (i : ℕ). replicate (suc e) i ++ places_of (syllables_of (suc k) es)) (sym (one_less k))
    ∙ ap (λ (w : List ℕ). replicate (suc e) k ++ w) (places_of-syllables_of (suc k) es)

-- each of its generators is one of n, and comes after place k
pub generators-syllables_of : (n k : ℕ) (e : List ℕ) → k + length e ≤ n → AreGenerators n (syllables_of k e)
generators-syllables_of n k [] h = λ m d l. absurd (omega arith)
generators-syllables_of n k (zero ∷ es) h = generators-syllables_of n (suc k) es (omega arith)
generators-syllables_of n k (suc e ∷ es) h =
    All-cons (λ (s : Syllable). (1 ≤ s.generator) × (s.generator ≤ n)) (syllable (suc k) (suc e)) (syllables_of (suc k) es)
    (omega arith, omega arith)
    (generators-syllables_of n (suc k) es (omega arith))

pub later-syllables_of : (j k : ℕ) (e : List ℕ) → j ≤ k → AreLater j (syllables_of k e)
later-syllables_of j k [] h = λ m d l. absurd (omega arith)
later-syllables_of j k (zero ∷ es) h = later-syllables_of j (suc k) es (omega arith)
later-syllables_of j k (suc e ∷ es) h =
    All-cons (λ (s : Syllable). j < s.generator) (syllable (suc k) (suc e)) (syllables_of (suc k) es) (omega arith)
    (later-syllables_of j (suc k) es (omega arith))
