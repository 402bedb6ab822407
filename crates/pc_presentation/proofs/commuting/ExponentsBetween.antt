-- Exponents copied at their places, one by one: what is copied, and that the parts of both lists between these places are equal.
use Rattle.std.proofs.Common.{◌≡◌, ◌≢◌, ℕ, ◌+◌, ◌-◌, ◌<◌, ◌≤◌, List, get_or, length, replicate, take, drop, sym, ◌∙◌, subst, arith, inl}
use Rattle.std.proofs.Common.{inr}
use Rattle.std.proofs.Math.ListN.{set}
use Rattle.std.proofs.lemmas.List.{get_or-drop, get_or-take, get_or-set_same, get_or-set_other, length-set, length-drop, length-replicate}
use Rattle.std.proofs.lemmas.List.{length-take-le}
use Rattle.std.proofs.lemmas.Grind.{same_number_lists}
use Rattle.std.proofs.lemmas.Bool.Decides.{eqb_tells}
use Rattle.pq_base.specs.Limits.{max_rank}
use Rattle.pq_base.proofs.UnitLaws.{get_or-zeros}
use Rattle.pc_presentation.specs.Commuting.{AreBetween}

pub between-none : (a : ℕ) (e : List ℕ) → AreBetween a a e (replicate {A = ℕ} max_rank 0)
between-none a e = record {
  count = length-replicate {A = ℕ} max_rank 0;
  same = λ k h l. absurd (omega arith);
  before = λ k h. get_or-zeros max_rank k;
  behind = λ k h. get_or-zeros max_rank k;
}

pub between-more : (a k x : ℕ) (e part : List ℕ) → a ≤ k → k < max_rank → AreBetween a k e part → x ≡ get_or e k 0
    → AreBetween a (k + 1) e (set part k x)
between-more a k x e part first limit h q =
    let count = h.count in
    record {
      count = length-set part k x ∙ h.count;
      same = λ j s l. elim (eqb_tells j k) [
        | inl t ↦
            let here : k ≡ j = sym t.1 in
            subst (λ (i : ℕ). get_or (set part k x) i 0 ≡ get_or e i 0) here (get_or-set_same part k x 0 (omega arith) ∙ q)
        | inr f ↦ let ne : j ≢ k = f.1 in get_or-set_other part k j x 0 ne ∙ h.same j s (omega arith)
      ];
      before = λ j l. get_or-set_other part k j x 0 (omega arith) ∙ h.before j l;
      behind = λ j l. get_or-set_other part k j x 0 (omega arith) ∙ h.behind j (omega arith);
    }

pub between-parts : (a z : ℕ) (e part : List ℕ) → z ≤ max_rank → z ≤ length e → AreBetween a z e part
    → drop a (take z part) ≡ drop a (take z e)
between-parts a z e part limit within h =
    let count = h.count in
    let first : length (take z part) ≡ z = length-take-le z part (omega arith) in
    let second : length (take z e) ≡ z = length-take-le z e within in
    let left : length (drop a (take z part)) ≡ length (take z part) - a = length-drop a (take z part) in
    let right : length (drop a (take z e)) ≡ length (take z e) - a = length-drop a (take z e) in
    same_number_lists (drop a (take z part)) (drop a (take z e)) (omega arith) (λ j l.
    get_or-drop a (take z part) j 0
    ∙ get_or-take z part (a + j) 0 (omega arith)
    ∙ h.same (a + j) (omega arith) (omega arith)
    ∙ sym (get_or-take z e (a + j) 0 (omega arith))
    ∙ sym (get_or-drop a (take z e) j 0))
