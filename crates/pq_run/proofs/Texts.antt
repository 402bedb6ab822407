-- A text is no presentation, or it reads as exactly one, some of whose largest quotients have a rank above the limit, or none; and
-- where one has, the part and the first such class and its rank are determined.
use Rattle.std.proofs.Common.{◌≡◌, ◌<◌, ◌≤◌, ℕ, List, refl, subst, arith}
use native.Mathlib.Decide.{dec_lt}
use Rattle.pq_base.specs.Limits.{max_rank}
use Rattle.pq_base.specs.LPresentation.{LPresentation, part}
use Rattle.pq_base.specs.LPresentation.Part.{iterated_part}
use Rattle.pq_base.specs.Largest.{HasOrder}
use Rattle.pq_base.proofs.tables.UniqueOrders.{orders_are_unique}
use Rattle.lpres_reader.specs.declared.fault.TextFault.{TextFault}
use Rattle.lpres_reader.specs.Reads.{Reads}
use Rattle.lpres_reader.specs.Stops.{kind_of}
use Rattle.lpres_reader.proofs.faults.ReaderLaws.{each_text_reads_or_fails}
use Rattle.derivation_log.specs.declared.source.Run.{Run}
use Rattle.derivation_log.specs.declared.source.Run.TheVariants.{Iterated, Whole}
use Rattle.tower.specs.Answers.{IsTooLarge}
use Rattle.tower.specs.TwoRuns.{HasSmallPart, IsTooLargeIn}
use Rattle.pq_run.specs.Texts.{IsReadable, HasLargeRank, HasSmallRanks, HasFault}

-- a text with a first fault is no presentation
pub HasFault-unreadable : (bytes : List ℕ) (fault : TextFault) → HasFault fault bytes → ¬ IsReadable bytes
HasFault-unreadable bytes fault has reads = (each_text_reads_or_fails bytes).not_both reads.0 fault.line (kind_of fault.kind) reads.1 has

pub one_presentation : (bytes : List ℕ) (L M : LPresentation) → Reads bytes L → Reads bytes M → L ≡ M
one_presentation bytes L M l m = (each_text_reads_or_fails bytes).one_presentation L M l m

-- where some rank is too large, not all are small
large-small : (L : LPresentation) (p c : ℕ) (run : Run) (k r : ℕ) → IsTooLargeIn L p c run k r
    → ((j s : ℕ) → j ≤ c → max_rank < s → ¬ HasOrder L p j s) → HasSmallPart L p c → ⊥
large-small L p c Iterated k r large small small_part = small_part large.0 k r large.1.last large.1.large large.1.order
large-small L p c Whole k r large small small_part = small k r large.1.last large.1.large large.1.order

pub HasLargeRank-HasSmallRanks : (p c : ℕ) (run : Run) (k r : ℕ) (bytes : List ℕ) → HasLargeRank p c run k r bytes
    → HasSmallRanks p c bytes → ⊥
HasLargeRank-HasSmallRanks p c run k r bytes has small =
    let same : has.presentation ≡ small.presentation = one_presentation bytes has.presentation small.presentation has.reads small.reads in
    large-small small.presentation p c run k r (subst (λ (L : LPresentation). IsTooLargeIn L p c run k r) same has.large)
    small.small small.small_part

-- the first class whose largest quotient has a rank above the limit, and this rank, are determined
pub one_large_order : (L : LPresentation) (p c j k r s : ℕ) → 1 < p → IsTooLarge L p c j r → IsTooLarge L p c k s → (j ≡ k) × (r ≡ s)
one_large_order L p c j k r s big x y = (same, orders_are_unique L p k r s big (subst (λ (i : ℕ). HasOrder L p i r) same x.order) y.order)
  where
    same : j ≡ k
    same = elim (dec_lt j k) [
      | yes before ↦ absurd (y.before j r before x.large x.order)
      | no not_before ↦ elim (dec_lt k j) [
        | yes after ↦ absurd (x.before k s after y.large y.order)
        | no not_after ↦ omega arith
      ]
    ]

-- so is the part: where the iterated part has such a class, the whole isn't computed
one_large_part : (L : LPresentation) (p c : ℕ) (run other : Run) (j k r s : ℕ) → 1 < p → IsTooLargeIn L p c run j r
    → IsTooLargeIn L p c other k s → (run ≡ other) × (j ≡ k) × (r ≡ s)
one_large_part L p c Iterated Iterated j k r s big x y =
    let numbers = one_large_order (part L iterated_part) p c j k r s big x.1 y.1 in (refl, numbers.0, numbers.1)
one_large_part L p c Iterated Whole j k r s big x y = absurd (y.0 x.0 j r x.1.last x.1.large x.1.order)
one_large_part L p c Whole Iterated j k r s big x y = absurd (x.0 y.0 k s y.1.last y.1.large y.1.order)
one_large_part L p c Whole Whole j k r s big x y =
    let numbers = one_large_order L p c j k r s big x.1 y.1 in (refl, numbers.0, numbers.1)

pub one_large_rank : (p c : ℕ) (run other : Run) (j k r s : ℕ) (bytes : List ℕ) → 1 < p → HasLargeRank p c run j r bytes
    → HasLargeRank p c other k s bytes → (run ≡ other) × (j ≡ k) × (r ≡ s)
one_large_rank p c run other j k r s bytes big x y =
    let same : y.presentation ≡ x.presentation = one_presentation bytes y.presentation x.presentation y.reads x.reads in
    one_large_part x.presentation p c run other j k r s big x.large
    (subst (λ (L : LPresentation). IsTooLargeIn L p c other k s) same y.large)
