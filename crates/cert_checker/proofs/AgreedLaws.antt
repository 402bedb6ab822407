-- Overlaps that agree: by states that elements reach, and one generator after the other.
use Rattle.std.proofs.Common.{◌≡◌, ◌↔◌, ⊎_elim, ℕ, suc, ◌+◌, ◌<◌, ◌≤◌, Bool, IsTrue, List, [], length, ap, sym, ◌∙◌, subst, arith}
use Rattle.std.proofs.lemmas.Bool.{cases_lt}
use Rattle.pc_presentation.specs.declared.overlap.Overlap.{Overlap}
use Rattle.pc_presentation.specs.declared.overlap.Overlap.TheVariants.{Triple, Left, Right, Own}
use Rattle.pc_presentation.specs.Pcp.{TailedPresentation}
use Rattle.pc_presentation.specs.Rowed.{RowedPresentation, without_rows}
use Rattle.pc_presentation.specs.Collection.{State, identity, plain_push, push_configuration}
use Rattle.pc_presentation.specs.OverlapNumbers.{AreOverlapNumbers, overlap_of}
use Rattle.pc_presentation.specs.Overlaps.{AgreesPlainly, left_way, right_way}
use Rattle.pc_presentation.specs.Tailed.{Element, rowed_presentation, IsElement}
use Rattle.derivation_log.specs.CertificateParts.{full_kind, OverlapsAgree}
use Rattle.pq_base.specs.Answer.{Answer}
use Rattle.cert_checker.specs.AgreedOverlaps.{Agrees, AllAgree}
use Rattle.cert_checker.proofs.Tailless.{tailless, no_entries}

bare : (s : State) → length s.row ≡ 0 → s ≡ record { exponents = s.exponents; row = [] }
bare s none = ap (λ (x : List ℕ). record { exponents = s.exponents; row = x }) (no_entries s.row none)

-- elements of a presentation without tails that both ways of an overlap reach
pub ends-agree : (T : TailedPresentation) → T.tails ≡ 0 → (o : Overlap) (l r : Element) (same : Bool) → IsElement T l → IsElement T r
    → l.state ≡ push_configuration (rowed_presentation T) (plain_push (rowed_presentation T))
    (identity (rowed_presentation T) T.presentation.rank)
    (left_way (rowed_presentation T) (overlap_of o))
    → r.state ≡ push_configuration (rowed_presentation T) (plain_push (rowed_presentation T))
    (identity (rowed_presentation T) T.presentation.rank)
    (right_way (rowed_presentation T) (overlap_of o))
    → (IsTrue same ↔ (l.state.exponents ≡ r.state.exponents)) → IsTrue same ↔ Agrees T.presentation o
ends-agree T none o l r same left right lefts rights is =
    let equal : rowed_presentation T ≡ without_rows T.presentation = tailless T left.presentation none in
    let states : l.state.exponents ≡ r.state.exponents → l.state ≡ r.state = λ e.
    bare l.state (left.state.row.count ∙ none)
    ∙ ap (λ (x : List ℕ). record { exponents = x; row = [] }) e ∙ sym (bare r.state (right.state.row.count ∙ none)) in (
      λ t. subst (λ (Y : RowedPresentation). AgreesPlainly Y (overlap_of o)) equal (sym lefts ∙ states (is.0 t) ∙ rights),
      λ agrees.
          let here : AgreesPlainly (rowed_presentation T) (overlap_of o) =
          subst (λ (Y : RowedPresentation). AgreesPlainly Y (overlap_of o)) (sym equal) agrees in
          is.1 (ap (λ (s : State). s.exponents) (lefts ∙ here ∙ sym rights)),
    )

-- what holds below n and at n holds below the next number
pub one_more : (Q : ℕ → Type 0) (n : ℕ) → ((i : ℕ) → 1 ≤ i → i < n → Q i) → Q n → (i : ℕ) → 1 ≤ i → i < n + 1 → Q i
one_more Q n below at i positive less =
    ⊎_elim (λ (l : i < n). below i positive l) (λ (l : n ≤ i). let same : n ≡ i = omega arith in subst Q same at) (cases_lt i n)

-- all overlaps by their latest generators are all overlaps
pub all-agree : (A : Answer) → AllAgree A.presentation (suc A.presentation.rank) ↔ OverlapsAgree full_kind A
all-agree A = (
  λ all o numbers judged. agree all o numbers,
  λ all k positive less. record {
    own = all (Own k) (positive, omega arith) tt;
    pairs = λ i one before. (all (Left k i) (one, before, omega arith) tt, all (Right k i) (one, before, omega arith) tt);
    triples = λ j one before i first last. all (Triple k j i) (first, last, before, omega arith) tt;
  },
)
  where
    agree : AllAgree A.presentation (suc A.presentation.rank) → (o : Overlap) → AreOverlapNumbers A.presentation.rank o
        → Agrees A.presentation o
    agree all (Triple k j i) h = (all k (omega arith) (omega arith)).triples j (omega arith) (omega arith) i h.0 h.1
    agree all (Left j i) h = ((all j (omega arith) (omega arith)).pairs i h.0 h.1).0
    agree all (Right j i) h = ((all j (omega arith) (omega arith)).pairs i h.0 h.1).1
    agree all (Own i) h = (all i h.0 (omega arith)).own
