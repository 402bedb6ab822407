-- An answer cut to class k, and the same answer cut to class k + 1: right sides and images of the first, each followed by its new part,
-- are those of the second.
use Rattle.std.proofs.Common.{◌≡◌, ℕ, zero, suc, ◌+◌, ◌-◌, ◌<◌, ◌≤◌, ℤ, List, [], ◌++◌, get_or, length, take, drop, refl, ap, ap₂, sym, ◌∙◌}
use Rattle.std.proofs.Common.{subst, arith}
use Rattle.std.proofs.lemmas.List.{get_or-map, length-drop, length-take-le}
use Rattle.pq_base.specs.Presentation.{IsNormal, word_from, normal_word, power_side, commutator_side}
use Rattle.pq_base.specs.Table.{AllBelow}
use Rattle.pq_base.specs.Answer.{Answer, Definition, IsAnswer}
use Rattle.pq_base.specs.Answer.Definition.{image, commutator, power}
use Rattle.pq_base.specs.Canonical.{rank_up_to, new_count, new_exponents, new_part, up_to_class}
use Rattle.pq_base.specs.EntryWords.{IsSourceOf}
use Rattle.pq_base.proofs.NormalLists.{normal-entry}
use Rattle.pq_base.proofs.words.SpelledLists.{side_word}
use Rattle.fp_rows.proofs.BelowLaws.{AllBelow-take, AllBelow-drop}
use Rattle.cover_quotient.proofs.canonical_answers.ClassesByWeight.{rank-within, counts-grow}
use Rattle.unique_answers.proofs.unique.ListParts.{take-add, word_from-take_add}
use Rattle.unique_answers.proofs.unique.CutParts.{cut-image_count, cut-image, cut-power_side, cut-commutator_side}

-- where the exponents of the right side of a relation, or of an image, start
abbrev pub starts : Definition → ℕ
starts (image i) = 0
starts (commutator j i) = j
starts (power j) = j

-- these exponents
abbrev pub exponents_of : Answer → Definition → List ℕ
exponents_of A (image zero) = []
exponents_of A (image (suc i)) = get_or A.images i []
exponents_of A (commutator zero i) = []
exponents_of A (commutator (suc j) zero) = []
exponents_of A (commutator (suc j) (suc i)) = commutator_side A.presentation j i
exponents_of A (power zero) = []
exponents_of A (power (suc j)) = power_side A.presentation j

-- of an answer's own relations and images
pub record AreExponents (A : Answer) (s : ℕ) (e : List ℕ) : Type 0 where
  pub count : s + length e ≡ A.presentation.rank
  pub below : AllBelow A.presentation.prime e

pub are-exponents : (A : Answer) → IsAnswer A → (d : Definition) → IsSourceOf A d → AreExponents A (starts d) (exponents_of A d)
are-exponents A is (image zero) h = absurd h
are-exponents A is (image (suc i)) h =
    let e = normal-entry A.presentation.prime A.presentation.rank A.images i is.images h in
    let long = e.count in
    record { count = omega arith; below = e.below }
are-exponents A is (commutator zero i) h = absurd h
are-exponents A is (commutator (suc j) zero) h = absurd h
are-exponents A is (commutator (suc j) (suc i)) h =
    let e = is.presentation.commutator_sides j i h.0 h.1 in record { count = e.count; below = e.below }
are-exponents A is (power zero) h = absurd h
are-exponents A is (power (suc j)) h = let e = is.presentation.power_sides j h in record { count = e.count; below = e.below }

-- the word of these exponents
pub side-exponents : (A : Answer) → (d : Definition) → IsSourceOf A d → side_word A d ≡ word_from (starts d) (exponents_of A d)
side-exponents A (image zero) h = absurd h
side-exponents A (image (suc i)) h = get_or-map normal_word A.images i [] [] h
side-exponents A (commutator zero i) h = absurd h
side-exponents A (commutator (suc j) zero) h = absurd h
side-exponents A (commutator (suc j) (suc i)) h = refl
side-exponents A (power zero) h = absurd h
side-exponents A (power (suc j)) h = refl

-- the new part is a part of them
new_part-exponents : (A : Answer) (k : ℕ) (d : Definition) → IsSourceOf A d
    → new_part A k d ≡ new_exponents A k (starts d) (exponents_of A d)
new_part-exponents A k (image zero) h = absurd h
new_part-exponents A k (image (suc i)) h = refl
new_part-exponents A k (commutator zero i) h = absurd h
new_part-exponents A k (commutator (suc j) zero) h = absurd h
new_part-exponents A k (commutator (suc j) (suc i)) h = refl
new_part-exponents A k (power zero) h = absurd h
new_part-exponents A k (power (suc j)) h = refl

module _ (A : Answer) (is : IsAnswer A) (k : ℕ) where
  -- what is a relation or an image of the answer that is cut is one of the whole
  source-whole : (d : Definition) → IsSourceOf (up_to_class A k) d → IsSourceOf A d
  source-whole (image zero) h = absurd h
  source-whole (image (suc i)) h = let cut = cut-image_count A is k in let whole = is.image_count in omega arith
  source-whole (commutator zero i) h = absurd h
  source-whole (commutator (suc j) zero) h = absurd h
  source-whole (commutator (suc j) (suc i)) h =
      let fits = rank-within A is k in let l : j < rank_up_to A k = h.0 in (omega arith, h.1)
  source-whole (power zero) h = absurd h
  source-whole (power (suc j)) h = let fits = rank-within A is k in let l : j < rank_up_to A k = h in omega arith

  source-starts : (d : Definition) → IsSourceOf (up_to_class A k) d → starts d ≤ rank_up_to A k
  source-starts (image i) h = omega arith
  source-starts (commutator zero i) h = absurd h
  source-starts (commutator (suc j) zero) h = absurd h
  source-starts (commutator (suc j) (suc i)) h = let l : j < rank_up_to A k = h.0 in omega arith
  source-starts (power zero) h = absurd h
  source-starts (power (suc j)) h = let l : j < rank_up_to A k = h in omega arith

  -- exponents are cut
  exponents-cut : (d : Definition) → IsSourceOf (up_to_class A k) d
      → exponents_of (up_to_class A k) d ≡ take (rank_up_to A k - starts d) (exponents_of A d)
  exponents-cut (image zero) h = absurd h
  exponents-cut (image (suc i)) h =
      let all : rank_up_to A k ≡ rank_up_to A k - 0 = omega arith in
      cut-image A is k i (source-whole (image (suc i)) h) ∙ ap (λ (r : ℕ). take r (get_or A.images i [])) all
  exponents-cut (commutator zero i) h = absurd h
  exponents-cut (commutator (suc j) zero) h = absurd h
  exponents-cut (commutator (suc j) (suc i)) h = cut-commutator_side A is k j i h.0
  exponents-cut (power zero) h = absurd h
  exponents-cut (power (suc j)) h = cut-power_side A is k j h

  -- relations and images stay at the next class
  pub source-next : (d : Definition) → IsSourceOf (up_to_class A k) d → IsSourceOf (up_to_class A (suc k)) d
  source-next (image zero) h = absurd h
  source-next (image (suc i)) h = let now = cut-image_count A is k in let next = cut-image_count A is (suc k) in omega arith
  source-next (commutator zero i) h = absurd h
  source-next (commutator (suc j) zero) h = absurd h
  source-next (commutator (suc j) (suc i)) h =
      let grows = counts-grow k A.weights in let l : j < rank_up_to A k = h.0 in (omega arith, h.1)
  source-next (power zero) h = absurd h
  source-next (power (suc j)) h = let grows = counts-grow k A.weights in let l : j < rank_up_to A k = h in omega arith

module _ (A : Answer) (is : IsAnswer A) (k : ℕ) where
  abbrev m : ℕ
  m = rank_up_to A k

  abbrev c : ℕ
  c = new_count A k

  pub ranks-add : rank_up_to A k + new_count A k ≡ rank_up_to A (suc k)
  ranks-add = let grows = counts-grow k A.weights in omega arith

  module _ (d : Definition) (source : IsSourceOf (up_to_class A k) d) where
    abbrev e : List ℕ
    e = exponents_of A d

    abbrev s : ℕ
    s = starts d

    long : AreExponents A (starts d) (exponents_of A d)
    long = are-exponents A is d (source-whole A is k d source)

    part-of_exponents : new_part A k d ≡ take (new_count A k) (drop (rank_up_to A k - starts d) (exponents_of A d))
    part-of_exponents = new_part-exponents A k d (source-whole A is k d source)

    room : rank_up_to A (suc k) - starts d ≡ (rank_up_to A k - starts d) + new_count A k
    room = let grows = ranks-add in let first = source-starts A is k d source in omega arith

    -- the exponents at the next class
    pub exponents-next : exponents_of (up_to_class A (suc k)) d ≡ exponents_of (up_to_class A k) d ++ new_part A k d
    exponents-next =
        exponents-cut A is (suc k) d (source-next A is k d source)
        ∙ ap (λ (r : ℕ). take r e) room
        ∙ take-add (m - s) c e
        ∙ ap₂ (λ (x y : List ℕ). x ++ y) (sym (exponents-cut A is k d source)) (sym part-of_exponents)

    -- and their words
    pub side-next : side_word (up_to_class A (suc k)) d ≡ side_word (up_to_class A k) d ++ word_from (rank_up_to A k) (new_part A k d)
    side-next =
        let first = source-starts A is k d source in
        let fits = rank-within A is k in
        let all = long.count in
        let place : starts d + (rank_up_to A k - starts d) ≡ rank_up_to A k = omega arith in
        side-exponents (up_to_class A (suc k)) d (source-next A is k d source)
        ∙ ap (word_from s) (exponents-cut A is (suc k) d (source-next A is k d source) ∙ ap (λ (r : ℕ). take r e) room)
        ∙ word_from-take_add s (m - s) c e (omega arith)
        ∙ ap₂ (λ (x y : List ℤ). x ++ y)
        (ap (word_from s) (sym (exponents-cut A is k d source)) ∙ sym (side-exponents (up_to_class A k) d source))
        (ap₂ word_from place (sym part-of_exponents))

    -- the new part is a row over the new generators
    pub new_part-normal : IsNormal A.presentation.prime (new_count A k) (new_part A k d)
    new_part-normal =
        let first = source-starts A is k d source in
        let fits = rank-within A is (suc k) in
        let sum = ranks-add in
        let all = long.count in
        let rest : length (drop (m - s) e) ≡ length e - (m - s) = length-drop (m - s) e in
        subst (λ (x : List ℕ). IsNormal A.presentation.prime (new_count A k) x) (sym part-of_exponents)
        (record {
          count = length-take-le c (drop (m - s) e) (omega arith);
          below = AllBelow-take A.presentation.prime c (drop (m - s) e) (AllBelow-drop A.presentation.prime (m - s) e long.below);
        })
