use Rattle.std.proofs.Common.{◌≡◌, ◌≤◌, ◌<◌, ◌+◌, ℕ, length, ap, sym, ◌∙◌, subst, arith}
use borrow.Author.Tests.{eqb-false}
use Rattle.std.specs.Vec.{vec_len}
use Rattle.pq_base.specs.Limits.{max_rank}
use Rattle.pc_presentation.specs.Pcp.{TailedPresentation}
use Rattle.cover_quotient.specs.Combinations.{AreCombinationsOf, AreKept}
use Rattle.cover_quotient.specs.Kept.{kept_columns}
use Rattle.cover_quotient.specs.NextAnswer.{combined_answer}
use Rattle.cover_quotient.proofs.kept_tails.KeptCount.{length-kept_columns}
use Rattle.cover_quotient.proofs.kept_tails.KeptThemselves.{AreKept-kept_combinations}
use Rattle.class_step.proofs.kept_tails.BasisCombinations.{kept_combinations-of, kept_combinations-same}
use Rattle.class_step.proofs.elimination.eliminate.Goals as goal

pub overflow_cast-rank-2 : goal.overflow_cast-rank-2
overflow_cast-rank-2 c =
    let B = c.args.basis.now in
    let count = length-kept_columns B.prime B.width B.rows c.width-width.ensures.basis.reduced in
    let kept : length c.in_ok-kept.kept.items ≡ length (kept_columns B.width B.rows) = ap (length {A = ℕ}) c.in_ok-kept.ensures in
    let width = c.width-width.ensures.width in
    let low : c.width-width.result < 65536 = c.width-width.type_inv in
    omega arith

pub overflow_add-rank : goal.overflow_add-rank
overflow_add-rank c =
    let B = c.args.basis.now in
    let count = length-kept_columns B.prime B.width B.rows c.width-width.ensures.basis.reduced in
    let kept : length c.in_ok-kept.kept.items ≡ length (kept_columns B.width B.rows) = ap (length {A = ℕ}) c.in_ok-kept.ensures in
    let width = c.width-width.ensures.width in
    let low : c.width-width.result < 65536 = c.width-width.type_inv in
    let old : c.rank-old_rank.result < 65536 = c.rank-old_rank.type_inv in
    omega arith

pub next_answer-requires-clause-combinations : goal.next_answer-requires-clause-combinations
next_answer-requires-clause-combinations c =
    let C = c.args.cover.now in
    let B = c.args.basis.now in
    let rank : c.rank-old_rank.result ≡ C.answer.presentation.rank =
    c.rank-old_rank.ensures.rank ∙ ap (λ (T : TailedPresentation). T.presentation.rank) c.pcp.ensures.presentation in
    let kept : length c.in_ok-kept.kept.items ≡ length (kept_columns B.width B.rows) = ap (length {A = ℕ}) c.in_ok-kept.ensures in
    let few : C.answer.presentation.rank + length (kept_columns B.width B.rows) ≤ max_rank = omega (arith, c.if-rank.false) in
    subst (AreCombinationsOf C) (sym c.in_ok-combinations.ensures)
    (kept_combinations-of B c.width-width.ensures.basis C c.requires.prime c.requires.width few)

pub next_answer-requires-clause-kept : goal.next_answer-requires-clause-kept
next_answer-requires-clause-kept c =
    let B = c.args.basis.now in
    let big = c.width-width.ensures.basis.prime in
    let two : 1 < B.prime = omega arith in
    subst AreKept (sym c.in_ok-combinations.ensures)
    (AreKept-kept_combinations B.prime B.width two B.rows c.width-width.ensures.basis.reduced)

pub returns : goal.returns
returns c =
    let C = c.args.cover.now in
    let B = c.args.basis.now in
    let kept : length c.in_ok-kept.kept.items ≡ length (kept_columns (length C.sources) B.rows) =
    ap (length {A = ℕ}) c.in_ok-kept.ensures ∙ ap (λ (w : ℕ). length (kept_columns w B.rows)) c.requires.width in
    let some = eqb-false (vec_len c.in_ok-kept.kept) 0 (sym c.is_empty.ensures ∙ c.if-is_empty.false) in
    let all : vec_len c.in_ok-kept.kept ≡ length c.in_ok-kept.kept.items = omega arith in (
      c.in_ok-next_answer.ensures
          ∙ ap (combined_answer C)
          (c.in_ok-combinations.ensures ∙ kept_combinations-same B c.width-width.ensures.basis C c.requires.prime c.requires.width),
      omega arith,
    )
