use Rattle.std.proofs.Common.{◌≡◌, ◌≤◌, ◌+◌, ◌∷◌, ◌++◌, [], ℕ, true, List, length, ap, sym, subst, ◌∙◌, arith}
use Rattle.std.proofs.lemmas.List.{length-append}
use Rattle.derivation_log.specs.declared.source.RowSource.{RowSource}
use Rattle.derivation_log.specs.CertificateForms.{is_source_in, are_sources_in}
use Rattle.answer_text.proofs.DraftAdded.{IfSome-at}
use Rattle.cert_text.specs.CertificateText.{source_line}
use Rattle.cert_text.proofs.lines.StepsRead.{mapped-grown, are_sources-next}
use Rattle.cert_text.proofs.step_reading.read_sources.Goals as goal

pub loop-sources-preserved : goal.loop-sources-preserved
loop-sources-preserved c =
    let text : List ℕ = c.loop-sources.rest.now in
    let before : List RowSource = c.loop-sources.sources.items in
    let pushed : c.push.new.self.items ≡ before ++ c.in-Some.source ∷ [] = c.in_ok-push.ensures.items in
    let count : length c.push.new.self.items ≡ length before + 1 = ap (λ (xs : List RowSource). length xs) pushed
    ∙ length-append before (c.in-Some.source ∷ []) in
    let read = IfSome-at c.in_ok-source.field-0 (c.in-Some.source, c.in-Some.more) (λ x. text ≡ source_line x.0 ++ 10 ∷ x.1.now)
    c.in-Some.is c.in_ok-source.ensures.some in
    let named = IfSome-at c.in_ok-source.field-0 (c.in-Some.source, c.in-Some.more)
    (λ x. is_source_in c.args.pres.now c.args.run x.0 ≡ true) c.in-Some.is c.in_ok-source.ensures.named in
    let shorter : length c.in-Some.more.now + 1 ≤ length text =
    IfSome-at c.in_ok-source.field-0 (c.in-Some.source, c.in-Some.more) (λ x. length x.1.now + 1 ≤ length text) c.in-Some.is
    c.in_ok-source.ensures.shorter in record {
      lines = mapped-grown source_line c.args.text.now text c.in-Some.more.now before c.push.new.self.items c.in-Some.source pushed
          c.loop-sources.invariant.lines read;
      named = subst (λ (xs : List RowSource). are_sources_in c.args.pres.now c.args.run xs ≡ true) (sym pushed)
          (are_sources-next c.args.pres.now c.args.run before c.in-Some.source c.loop-sources.invariant.named named);
      shorter = omega (arith, c.loop-sources.invariant.shorter);
    }
