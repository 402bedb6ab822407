use Rattle.std.proofs.Common.{ℕ, length, sym, subst, ◌∙◌}
use Rattle.fp_rows.specs.Rows.{IsRow}
use Rattle.derivation_log.specs.CertificateParts.{HasPlainRow}
use Rattle.cert_checker.proofs.found_rows.StepRows.{rows-more}
use Rattle.cert_checker.proofs.rows.rows_of.Goals as goal

pub returns-then-not-row_of-clause-none : goal.returns-then-not-row_of-clause-none
returns-then-not-row_of-clause-none c = λ all.
    let yes = c.row_of.ensures.decided.1 (subst (HasPlainRow c.args.pres.now c.args.cover.now) (sym c.source-item.is)
    (all c.loop-source.source-index c.source-item.result c.loop-source-test.true)) in
    let no = c.if-not-row_of.true in cc

pub loop-source-preserved : goal.loop-source-preserved
loop-source-preserved c = (
  c.row_of.ensures.tools,
  rows-more c.args.pres.now c.args.cover.now c.args.sources.now c.loop-source.rows.items c.push.new.self.items c.loop-source.source-index
      c.source-item.result c.row_of.new.row c.loop-source-test.true c.source-item.is c.loop-source.invariant.1
      (record {
        prime = c.row_of.ensures.prime ∙ c.in_ok-row.ensures.row.prime;
        some = c.in_ok-row.ensures.row.some;
        row = subst (λ (p : ℕ). IsRow p (length c.args.cover.now.sources) c.row_of.new.row.entries)
            (c.row_of.ensures.prime ∙ c.in_ok-row.ensures.row.prime)
            (subst (λ (w : ℕ). IsRow c.row_of.new.row.prime w c.row_of.new.row.entries)
            (c.row_of.ensures.width ∙ c.in_ok-row.ensures.row.row.count)
            (subst (λ (w : ℕ). IsRow c.row_of.new.row.prime w c.row_of.new.row.entries) c.width-row.ensures.width c.width-row.ensures.row));
      })
      (c.row_of.ensures.row c.if-not-row_of.false) c.in_ok-push.ensures.items,
)
