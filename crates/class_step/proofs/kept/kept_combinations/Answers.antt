use Rattle.std.proofs.Common.{◌≤◌, ◌+◌, ◌++◌, ◌∷◌, [], ℕ, List, length, take, ap, sym, ◌∙◌, subst, arith}
use Rattle.pc_presentation.specs.declared.syllable.Syllable.{Syllable}
use Rattle.pc_presentation.specs.Syllable.{spread, AreSyllables}
use Rattle.cover_quotient.specs.Combinations.{TailCombinations}
use Rattle.cover_quotient.specs.Kept.{kept_columns, kept_rows}
use Rattle.class_step.proofs.kept_tails.BasisCombinations.{kept_row-word, kept_row-spread, kept_rows-more, kept_rows-all}
use Rattle.class_step.proofs.kept.kept_combinations.Goals as goal

pub push-requires : goal.push-requires
push-requires c =
    let B = c.args.basis.now in
    let t = c.loop-t.t in
    let width = c.width-t-end.ensures.width in
    let last : t + 1 ≤ B.width = omega (arith, c.loop-t-test.true) in
    subst (λ (K : TailCombinations). AreSyllables K.prime (length K.kept) 0 c.in_ok-word.word.items) (sym c.loop-t.invariant)
    (subst (AreSyllables B.prime (length (kept_columns B.width B.rows)) 0) (sym c.in_ok-word.ensures)
    (kept_row-word B c.prime.ensures.basis (t + 1) (omega arith) last))

pub loop-t-preserved : goal.loop-t-preserved
loop-t-preserved c =
    let B = c.args.basis.now in
    let t = c.loop-t.t in
    let width = c.width-t-end.ensures.width in
    let last : t + 1 ≤ B.width = omega (arith, c.loop-t-test.true) in
    c.in_ok-push.ensures.ok
    ∙ ap (λ (K : TailCombinations). let more : TailCombinations = record {
      prime = K.prime;
      kept = K.kept;
      rows = K.rows ++ spread (length K.kept) 0 c.in_ok-word.word.items ∷ [];
    } in more) c.loop-t.invariant
    ∙ ap (λ (rows : List (List ℕ)). let K : TailCombinations =
    record { prime = B.prime; kept = kept_columns B.width B.rows; rows = rows } in K)
    (ap (λ (w : List Syllable). take t (kept_rows B.prime B.width B.rows) ++ spread (length (kept_columns B.width B.rows)) 0 w ∷ [])
    c.in_ok-word.ensures
    ∙ ap (λ (x : List ℕ). take t (kept_rows B.prime B.width B.rows) ++ x ∷ [])
    (kept_row-spread B c.prime.ensures.basis (t + 1) (omega arith) last)
    ∙ kept_rows-more B c.prime.ensures.basis t last)

pub returns : goal.returns
returns c =
    let B = c.args.basis.now in
    let width = c.width-t-end.ensures.width in
    c.loop-t.invariant
    ∙ ap (λ (rows : List (List ℕ)). let K : TailCombinations =
    record { prime = B.prime; kept = kept_columns B.width B.rows; rows = rows } in K)
    (kept_rows-all B c.prime.ensures.basis c.loop-t.t (omega (arith, c.loop-t-test.false)))
