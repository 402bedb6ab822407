use Rattle.std.proofs.Common.{◌≡◌, ℕ, List, [], length, ap, sym, ◌∙◌, subst}
use Rattle.std.proofs.lemmas.List.{length-replicate}
use Rattle.pq_base.specs.Presentation.{word_from}
use Rattle.pq_base.specs.Joined.{Joined}
use Rattle.pc_presentation.specs.Rowed.{flat}
use Rattle.pc_presentation.specs.Collection.{State}
use Rattle.pc_presentation.specs.Tailed.{rowed_presentation}
use Rattle.pc_presentation.specs.OverlapNumbers.{overlap_of}
use Rattle.fp_rows.specs.Row.{PrimeRow}
use Rattle.p_cover.specs.Covers.{cover_presentation}
use Rattle.fp_rows.specs.Differences.{difference}
use Rattle.pc_presentation.specs.OverlapRows.{left_end, right_end}
use Rattle.pc_presentation.proofs.consistent.OverlapRows.{same_exponents}
use Rattle.consistency.proofs.CoverRows.{end-in_cover, exponents-agree, overlap_row-length, cover_row-trivial, either_way}
use Rattle.consistency.proofs.overlap_rows.row.Goals as goal

pub returns-clause-agrees : goal.returns-clause-agrees
returns-clause-agrees g c =
    let T = cover_presentation c.args.cover.now in
    let push = g.C.Collect.meaning (rowed_presentation T) in
    let o = overlap_of c.args.test in
    same_exponents c.subtract_if_alike.result c.left-left.result.now.state
    (left_end (rowed_presentation T) push o) c.right-right.result.now.state (right_end (rowed_presentation T) push o)
    (end-in_cover left_end g.C.Collect.meaning T c.pcp.result.now o c.left-left.result.now c.two_ways.new.s.left c.left-left.ensures
    c.pcp.ensures.presentation c.two_ways.ensures.left)
    (end-in_cover right_end g.C.Collect.meaning T c.pcp.result.now o c.right-right.result.now c.two_ways.new.s.right c.right-right.ensures
    c.pcp.ensures.presentation c.two_ways.ensures.right)
    c.subtract_if_alike.ensures.alike

pub returns-clause-difference : goal.returns-clause-difference
returns-clause-difference g c = λ t.
    let T = cover_presentation c.args.cover.now in
    let push = g.C.Collect.meaning (rowed_presentation T) in
    let o = overlap_of c.args.test in
    ap (λ (r : PrimeRow). r.entries) (c.subtract_if_alike.ensures.difference t)
    ∙ ap (λ (p : ℕ). difference p c.left-left.result.now.state.row c.right-right.result.now.state.row) c.requires.prime
    ∙ ap (λ (s : State). difference T.presentation.prime s.row c.right-right.result.now.state.row)
    (end-in_cover left_end g.C.Collect.meaning T c.pcp.result.now o c.left-left.result.now c.two_ways.new.s.left c.left-left.ensures
    c.pcp.ensures.presentation c.two_ways.ensures.left)
    ∙ ap (λ (s : State). difference T.presentation.prime (left_end (rowed_presentation T) push o).row s.row)
    (end-in_cover right_end g.C.Collect.meaning T c.pcp.result.now o c.right-right.result.now c.two_ways.new.s.right c.right-right.ensures
    c.pcp.ensures.presentation c.two_ways.ensures.right)

pub returns-clause-width : goal.returns-clause-width
returns-clause-width g c =
    let T = cover_presentation c.args.cover.now in
    either_way c.subtract_if_alike.result (length c.subtract_if_alike.new.row.entries ≡ length c.args.cover.now.sources)
    (λ t. ap (λ (x : List ℕ). length x) (returns-clause-difference g c t)
    ∙ overlap_row-length T c.requires.scratch.left.presentation (g.C.Collect.meaning (rowed_presentation T))
    (g.met.C.Collect.reaches (rowed_presentation T)) c.args.test
    c.requires.overlap)
    (λ f. ap (λ (r : PrimeRow). length r.entries) (c.subtract_if_alike.ensures.zero f)
    ∙ length-replicate (length c.args.row.now.entries) 0 ∙ c.requires.width)

pub returns-clause-trivial : goal.returns-clause-trivial
returns-clause-trivial g c = λ t.
    let T = cover_presentation c.args.cover.now in
    subst (λ (x : List ℕ). Joined (flat (rowed_presentation T)) (word_from T.presentation.rank x) [])
    (sym (returns-clause-difference g c t))
    (cover_row-trivial T c.requires.scratch.left.presentation (g.C.Collect.meaning (rowed_presentation T))
    (g.met.C.Collect.reaches (rowed_presentation T)) c.args.test
    c.requires.overlap ((returns-clause-agrees g c).0 t))

pub returns-clause-consistent : goal.returns-clause-consistent
returns-clause-consistent g c = λ consistent.
    let T = cover_presentation c.args.cover.now in
    (returns-clause-agrees g c).1
    (exponents-agree T c.requires.scratch.left.presentation (g.C.Collect.meaning (rowed_presentation T))
    (g.met.C.Collect.reaches (rowed_presentation T)) c.args.test
    c.requires.overlap consistent)
