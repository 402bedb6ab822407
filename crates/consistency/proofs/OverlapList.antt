-- The list of all overlaps of n generators has exactly the overlaps whose numbers are those of n generators and fall
-- strictly, and none at two places.
use Rattle.std.proofs.Common.{◌≡◌, inl, inr, ℕ, ◌-◌, ◌<◌, ◌≤◌, ◌++◌, refl, ap, sym, ◌∙◌, subst, arith}
use Rattle.pq_base.specs.Canonical.{numbers_from}
use Rattle.pc_presentation.specs.declared.overlap.Overlap.{Overlap}
use Rattle.pc_presentation.specs.declared.overlap.Overlap.TheVariants.{Triple, Left, Right, Own}
use Rattle.pc_presentation.specs.OverlapNumbers.{AreOverlapNumbers}
use Rattle.pc_presentation.proofs.consistent.OverlapKinds.{kind_of, latest_of, middle_of, earliest_of}
use Rattle.consistency.specs.AllOverlaps.{with_smaller, pairs, triples_with, triples, owns, all_overlaps}
use Rattle.consistency.specs.ConsistencyLaws.{EachOverlapOnce}
use Rattle.pq_base.proofs.ListMembers.{In, Apart, In-append_left, In-append_right, In-append_cases, In-map, In-map_cases, In-flat_map}
use Rattle.pq_base.proofs.ListMembers.{In-flat_map_cases, In-numbers, numbers-range, Contains-from_In, In-from_Contains, Apart-append}
use Rattle.pq_base.proofs.ListMembers.{Apart-map, Apart-flat_map, Apart-numbers, Apart-places}

-- an overlap of two numbers up to n
record IsPair (f : ℕ → ℕ → Overlap) (n : ℕ) (o : Overlap) : Type 0 where
  pub j : ℕ
  pub i : ℕ
  pub from_one : 1 ≤ i
  pub falls : i < j
  pub in_range : j ≤ n
  pub same : f j i ≡ o

module _ (f : ℕ → ℕ → Overlap) where
  pairs-has : (n j i : ℕ) → 1 ≤ i → i < j → j ≤ n → In (f j i) (pairs f n)
  pairs-has n j i a b c =
      In-flat_map (with_smaller f) j (f j i) (numbers_from 1 n) (In-numbers 1 n j (omega arith) (omega arith))
      (In-map (f j) i (numbers_from 1 (j - 1)) (In-numbers 1 (j - 1) i a (omega arith)))

  pairs-only : (n : ℕ) (o : Overlap) → In o (pairs f n) → IsPair f n o
  pairs-only n o h =
      let w = In-flat_map_cases (with_smaller f) o (numbers_from 1 n) h in
      let m = In-map_cases (f w.source) o (numbers_from 1 (w.source - 1)) w.inside in
      let r = numbers-range 1 n w.source w.member in
      let r' = numbers-range 1 (w.source - 1) m.source m.member in
      let a = r.0 in
      let b = r.1 in
      let c = r'.0 in
      let d = r'.1 in
      record { j = w.source; i = m.source; from_one = c; falls = omega arith; in_range = omega arith; same = m.made }

  module _ (middle : (j i : ℕ) → middle_of (f j i) ≡ j) (earliest : (j i : ℕ) → earliest_of (f j i) ≡ i) where
    smaller-middle : (j : ℕ) (o : Overlap) → In o (with_smaller f j) → middle_of o ≡ j
    smaller-middle j o h =
        let m = In-map_cases (f j) o (numbers_from 1 (j - 1)) h in
        ap middle_of (sym m.made) ∙ middle j m.source

    pairs-apart : (n : ℕ) → Apart (pairs f n)
    pairs-apart n =
        Apart-flat_map (with_smaller f) (numbers_from 1 n)
        (λ j. Apart-map (f j) (numbers_from 1 (j - 1)) (λ i i' e. sym (earliest j i) ∙ ap earliest_of e ∙ earliest j i')
        (Apart-numbers 1 (j - 1)))
        (λ j j' o h h'. sym (smaller-middle j o h) ∙ smaller-middle j' o h') (Apart-numbers 1 n)

  -- what all pairs have in common
  pairs-all : (n : ℕ) (property : Overlap → ℕ) (value : ℕ) → ((j i : ℕ) → property (f j i) ≡ value) → (o : Overlap) → In o (pairs f n)
      → property o ≡ value
  pairs-all n property value same o h =
      let p = pairs-only n o h in
      ap property (sym p.same) ∙ same p.j p.i

-- triples
triples-has : (n k j i : ℕ) → AreOverlapNumbers n (Triple k j i) → In (Triple k j i) (triples n)
triples-has n k j i h =
    let a = h.0 in
    let b = h.1 in
    let c = h.2 in
    let d = h.3 in
    In-flat_map triples_with k (Triple k j i) (numbers_from 1 n) (In-numbers 1 n k (omega arith) (omega arith))
    (pairs-has (Triple k) (k - 1) j i a b (omega arith))

triples-only : (n : ℕ) (o : Overlap) → In o (triples n) → AreOverlapNumbers n o
triples-only n o h =
    let w = In-flat_map_cases triples_with o (numbers_from 1 n) h in
    let p = pairs-only (Triple w.source) (w.source - 1) o w.inside in
    let r = numbers-range 1 n w.source w.member in
    let a = r.0 in
    let b = r.1 in
    let c = p.in_range in
    let d = p.falls in
    let numbers : AreOverlapNumbers n (Triple w.source p.j p.i) = (p.from_one, p.falls, omega arith, omega arith) in
    subst (λ (z : Overlap). AreOverlapNumbers n z) p.same numbers

triples-kind : (n : ℕ) (o : Overlap) → In o (triples n) → kind_of o ≡ 0
triples-kind n o h =
    let w = In-flat_map_cases triples_with o (numbers_from 1 n) h in
    pairs-all (Triple w.source) (w.source - 1) kind_of 0 (λ j i. refl) o w.inside

triples-apart : (n : ℕ) → Apart (triples n)
triples-apart n =
    Apart-flat_map triples_with (numbers_from 1 n) (λ k. pairs-apart (Triple k) (λ j i. refl) (λ j i. refl) (k - 1))
    (λ k k' o h h'. sym (pairs-all (Triple k) (k - 1) latest_of k (λ j i. refl) o h)
    ∙ pairs-all (Triple k') (k' - 1) latest_of k' (λ j i. refl) o h')
    (Apart-numbers 1 n)

-- powers of one generator
owns-only : (n : ℕ) (o : Overlap) → In o (owns n) → AreOverlapNumbers n o
owns-only n o h =
    let m = In-map_cases Own o (numbers_from 1 n) h in
    let r = numbers-range 1 n m.source m.member in
    let a = r.0 in
    let b = r.1 in
    let numbers : AreOverlapNumbers n (Own m.source) = (a, omega arith) in
    subst (λ (z : Overlap). AreOverlapNumbers n z) m.made numbers

owns-kind : (n : ℕ) (o : Overlap) → In o (owns n) → kind_of o ≡ 3
owns-kind n o h = let m = In-map_cases Own o (numbers_from 1 n) h in ap kind_of (sym m.made)

owns-apart : (n : ℕ) → Apart (owns n)
owns-apart n = Apart-map Own (numbers_from 1 n) (λ i i' e. ap earliest_of e) (Apart-numbers 1 n)

lefts-only : (n : ℕ) (o : Overlap) → In o (pairs Left n) → AreOverlapNumbers n o
lefts-only n o h =
    let p = pairs-only Left n o h in
    let numbers : AreOverlapNumbers n (Left p.j p.i) = (p.from_one, p.falls, p.in_range) in
    subst (λ (z : Overlap). AreOverlapNumbers n z) p.same numbers

rights-only : (n : ℕ) (o : Overlap) → In o (pairs Right n) → AreOverlapNumbers n o
rights-only n o h =
    let p = pairs-only Right n o h in
    let numbers : AreOverlapNumbers n (Right p.j p.i) = (p.from_one, p.falls, p.in_range) in
    subst (λ (z : Overlap). AreOverlapNumbers n z) p.same numbers

-- the whole list
all-only : (n : ℕ) (o : Overlap) → In o (all_overlaps n) → AreOverlapNumbers n o
all-only n o h = elim (In-append_cases o (triples n) (pairs Left n ++ (pairs Right n ++ owns n)) h) [
  | inl a ↦ triples-only n o a
  | inr a ↦ elim (In-append_cases o (pairs Left n) (pairs Right n ++ owns n) a) [
    | inl b ↦ lefts-only n o b
    | inr b ↦ elim (In-append_cases o (pairs Right n) (owns n) b) [
      | inl c ↦ rights-only n o c
      | inr c ↦ owns-only n o c
    ]
  ]
]

all-has : (n : ℕ) (o : Overlap) → AreOverlapNumbers n o → In o (all_overlaps n)
all-has n (Triple k j i) h = In-append_left (Triple k j i) (triples n) (pairs Left n ++ (pairs Right n ++ owns n)) (triples-has n k j i h)
all-has n (Left j i) h =
    In-append_right (Left j i) (triples n) (pairs Left n ++ (pairs Right n ++ owns n))
    (In-append_left (Left j i) (pairs Left n) (pairs Right n ++ owns n) (pairs-has Left n j i h.0 h.1 h.2))
all-has n (Right j i) h =
    In-append_right (Right j i) (triples n) (pairs Left n ++ (pairs Right n ++ owns n))
    (In-append_right (Right j i) (pairs Left n) (pairs Right n ++ owns n)
    (In-append_left (Right j i) (pairs Right n) (owns n) (pairs-has Right n j i h.0 h.1 h.2)))
all-has n (Own i) h =
    let a = h.0 in
    let b = h.1 in
    In-append_right (Own i) (triples n) (pairs Left n ++ (pairs Right n ++ owns n))
    (In-append_right (Own i) (pairs Left n) (pairs Right n ++ owns n)
    (In-append_right (Own i) (pairs Right n) (owns n) (In-map Own i (numbers_from 1 n) (In-numbers 1 n i a (omega arith)))))

-- kinds come one after the other
after_lefts-kind : (n : ℕ) (o : Overlap) → In o (pairs Right n ++ owns n) → 2 ≤ kind_of o
after_lefts-kind n o h = elim (In-append_cases o (pairs Right n) (owns n) h) [
  | inl c ↦ let e = pairs-all Right n kind_of 2 (λ j i. refl) o c in omega arith
  | inr c ↦ let e = owns-kind n o c in omega arith
]

after_triples-kind : (n : ℕ) (o : Overlap) → In o (pairs Left n ++ (pairs Right n ++ owns n)) → 1 ≤ kind_of o
after_triples-kind n o h = elim (In-append_cases o (pairs Left n) (pairs Right n ++ owns n) h) [
  | inl c ↦ let e = pairs-all Left n kind_of 1 (λ j i. refl) o c in omega arith
  | inr c ↦ let e = after_lefts-kind n o c in omega arith
]

all-apart : (n : ℕ) → Apart (all_overlaps n)
all-apart n =
    Apart-append (triples n) (pairs Left n ++ (pairs Right n ++ owns n)) (triples-apart n)
    (Apart-append (pairs Left n) (pairs Right n ++ owns n) (pairs-apart Left (λ j i. refl) (λ j i. refl) n)
    (Apart-append (pairs Right n) (owns n) (pairs-apart Right (λ j i. refl) (λ j i. refl) n) (owns-apart n)
    (λ o h i. let e = pairs-all Right n kind_of 2 (λ j i. refl) o h in let d = owns-kind n o i in omega arith))
    (λ o h i. let e = pairs-all Left n kind_of 1 (λ j i. refl) o h in let d = after_lefts-kind n o i in omega arith))
    (λ o h i. let e = triples-kind n o h in let d = after_triples-kind n o i in omega arith)

pub each_overlap_once : EachOverlapOnce
each_overlap_once n = record {
  members = λ o. (λ c. all-only n o (In-from_Contains o (all_overlaps n) c), λ h. Contains-from_In o (all_overlaps n) (all-has n o h));
  once = λ k l d h i. Apart-places (all_overlaps n) k l d (all-apart n) h i;
}
