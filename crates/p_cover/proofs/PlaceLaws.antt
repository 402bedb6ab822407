-- The place of a source in a list: none where no entry is the source, and else that of the first such entry.
use Rattle.std.proofs.Common.{◌≡◌, ◌<◌, ◌≤◌, ◌+◌, ◌-◌, ℕ, zero, suc, Bool, true, false, eqb, Option, None, Some, List, [], ◌∷◌, get_or}
use Rattle.std.proofs.Common.{length, drop, refl, ap, sym, ◌∙◌, subst, inl, inr, arith}
use Rattle.std.specs.Prelude.{All}
use Rattle.std.proofs.lemmas.Bool.{false≢true, eqb-true, and_parts, cases_Bool, false_from_ne_true}
use Rattle.std.proofs.lemmas.List.{drop_more}
use Rattle.std.proofs.lemmas.Option.{same_Some, none-some}
use Rattle.std.proofs.lemmas.List.Elements.{All-head, All-tail, All-weaker}
use Rattle.pq_base.specs.Answer.{Definition as Source}
use Rattle.pq_base.specs.Answer.Definition.{image, commutator, power}
use Rattle.pq_base.specs.Canonical.{same_definition}
use Rattle.pc_presentation.specs.Relation.{IsTail}
use Rattle.p_cover.specs.Sources.{found, place_from, place_in}

pub same_definition-eq : (d e : Source) → same_definition d e ≡ true → d ≡ e
same_definition-eq (image i) (image k) h = ap image (eqb-true i k h)
same_definition-eq (image i) (commutator l k) h = absurd (false≢true h)
same_definition-eq (image i) (power k) h = absurd (false≢true h)
same_definition-eq (commutator j i) (image k) h = absurd (false≢true h)
same_definition-eq (commutator j i) (commutator l k) h =
    let parts = and_parts (eqb j l) (eqb i k) h in
    ap (λ (x : ℕ). commutator x i) (eqb-true j l parts.0) ∙ ap (commutator l) (eqb-true i k parts.1)
same_definition-eq (commutator j i) (power k) h = absurd (false≢true h)
same_definition-eq (power j) (image k) h = absurd (false≢true h)
same_definition-eq (power j) (commutator l k) h = absurd (false≢true h)
same_definition-eq (power j) (power k) h = ap power (eqb-true j k h)

found-true : (b : Bool) (t : ℕ) (later : Option ℕ) → b ≡ true → found b t later ≡ Some t
found-true true t later h = refl
found-true false t later h = absurd (false≢true h)

found-false : (b : Bool) (t : ℕ) (later : Option ℕ) → b ≡ false → found b t later ≡ later
found-false true t later h = absurd (false≢true (sym h))
found-false false t later h = refl

pub place_from-none : (t : ℕ) (ds : List Source) (d : Source) → All (λ e. same_definition d e ≡ false) ds → place_from t ds d ≡ None
place_from-none t [] d h = refl
place_from-none t (e ∷ es) d h =
    found-false (same_definition d e) t (place_from (suc t) es d) (All-head (λ x. same_definition d x ≡ false) e es h)
    ∙ place_from-none (suc t) es d (All-tail (λ x. same_definition d x ≡ false) e es h)

-- what each entry is, and the source is not
pub place_in-outside : (P : Source → Type 0) (ds : List Source) (d : Source) → All P ds → ¬ P d → place_in ds d ≡ None
place_in-outside P ds d all n =
    place_from-none 1 ds d (All-weaker P (λ e. same_definition d e ≡ false)
    (λ e p. false_from_ne_true (same_definition d e) (λ h. n (subst P (sym (same_definition-eq d e h)) p))) ds all)

-- the first entry that is the source
pub place_from-first : (t i : ℕ) (ds : List Source) (d : Source) → i < length ds
    → ((k : ℕ) → k < i → same_definition d (get_or ds k (image 0)) ≡ false) → same_definition d (get_or ds i (image 0)) ≡ true
    → place_from t ds d ≡ Some (t + i)
place_from-first t i [] d l before here = absurd (omega arith)
place_from-first t zero (e ∷ es) d l before here =
    let place : t ≡ t + 0 = omega arith in found-true (same_definition d e) t (place_from (suc t) es d) here ∙ ap Some place
place_from-first t (suc i) (e ∷ es) d l before here =
    let place : suc t + i ≡ t + suc i = omega arith in
    found-false (same_definition d e) t (place_from (suc t) es d) (before 0 (omega arith))
    ∙ place_from-first (suc t) i es d (omega arith) (λ k m. before (suc k) (omega arith)) here ∙ ap Some place

IsTail-found : (b : Bool) (n t : ℕ) (later : Option ℕ) → 1 ≤ t → t ≤ n → IsTail n later → IsTail n (found b t later)
IsTail-found true n t later l m h = (l, m)
IsTail-found false n t later l m h = h

IsTail-place_from : (n t : ℕ) (ds : List Source) (d : Source) → 1 ≤ t → t + length ds ≤ suc n → IsTail n (place_from t ds d)
IsTail-place_from n t [] d l m = tt
IsTail-place_from n t (e ∷ es) d l m =
    IsTail-found (same_definition d e) n t (place_from (suc t) es d) l (omega arith)
    (IsTail-place_from n (suc t) es d (omega arith) (omega arith))

pub IsTail-place_in : (ds : List Source) (d : Source) → IsTail (length ds) (place_in ds d)
IsTail-place_in ds d = IsTail-place_from (length ds) 1 ds d (omega arith) (omega arith)

-- the place k, counted from t on, has the source
pub record HasPlace (t : ℕ) (ds : List Source) (d : Source) (k : ℕ) : Type 0 where
  pub first : t ≤ k
  pub last : k < t + length ds
  pub entry : get_or ds (k - t) (image 0) ≡ d

place_here : (t : ℕ) (e : Source) (es : List Source) (d : Source) (k : ℕ) → d ≡ e → t ≡ k → HasPlace t (e ∷ es) d k
place_here t e es d k same here =
    let start : k - t ≡ 0 = omega arith in
    record { first = omega arith; last = omega arith; entry = ap (λ (i : ℕ). get_or (e ∷ es) i (image 0)) start ∙ sym same }

place_later : (t : ℕ) (e : Source) (es : List Source) (d : Source) (k : ℕ) → HasPlace (suc t) es d k → HasPlace t (e ∷ es) d k
place_later t e es d k h =
    let first : suc t ≤ k = h.first in
    let last : k < suc t + length es = h.last in
    let place : k - t ≡ suc (k - suc t) = omega arith in
    record { first = omega arith; last = omega arith; entry = ap (λ (i : ℕ). get_or (e ∷ es) i (image 0)) place ∙ h.entry }

pub place_from-has : (t : ℕ) (ds : List Source) (d : Source) (k : ℕ) → place_from t ds d ≡ Some k → HasPlace t ds d k
place_from-has t [] d k h = absurd (none-some k h)
place_from-has t (e ∷ es) d k h = elim (cases_Bool (same_definition d e)) [
  | inl same ↦
      place_here t e es d k (same_definition-eq d e same)
      (same_Some t k (sym (found-true (same_definition d e) t (place_from (suc t) es d) same) ∙ h))
  | inr other ↦
      place_later t e es d k
      (place_from-has (suc t) es d k (sym (found-false (same_definition d e) t (place_from (suc t) es d) other) ∙ h))
]

-- a search through the list, entry by entry
module _ (ds : List Source) (d : Source) (k : ℕ) where
  next_entry : k < length ds → place_from (suc k) (drop k ds) d
      ≡ found (same_definition d (get_or ds k (image 0))) (suc k) (place_from (suc (suc k)) (drop (k + 1) ds) d)
  next_entry l = ap (λ (es : List Source). place_from (suc k) es d) (drop_more ds k (image 0) l)

  pub place_from-past : k < length ds → same_definition d (get_or ds k (image 0)) ≡ false
      → place_from (suc k) (drop k ds) d ≡ place_from (suc (k + 1)) (drop (k + 1) ds) d
  place_from-past l h =
      let next : suc k ≡ k + 1 = omega arith in
      next_entry l
      ∙ found-false (same_definition d (get_or ds k (image 0))) (suc k) (place_from (suc (suc k)) (drop (k + 1) ds) d) h
      ∙ ap (λ (t : ℕ). place_from (suc t) (drop (k + 1) ds) d) next

  pub place_from-here : k < length ds → same_definition d (get_or ds k (image 0)) ≡ true → place_from (suc k) (drop k ds) d ≡ Some (k + 1)
  place_from-here l h =
      let next : suc k ≡ k + 1 = omega arith in
      next_entry l
      ∙ found-true (same_definition d (get_or ds k (image 0))) (suc k) (place_from (suc (suc k)) (drop (k + 1) ds) d) h
      ∙ ap Some next

-- equal sources have equal numbers
pub same_power : (i k : ℕ) → power i ≡ power k → i ≡ k
same_power i k e = cc

pub same_first : (j i l k : ℕ) → commutator j i ≡ commutator l k → j ≡ l
same_first j i l k e = cc

pub same_second : (j i l k : ℕ) → commutator j i ≡ commutator l k → i ≡ k
same_second j i l k e = cc
