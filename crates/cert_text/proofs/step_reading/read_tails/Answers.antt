use Rattle.std.proofs.Common.{◌≡◌, ◌≤◌, ◌+◌, ◌∷◌, ◌++◌, [], ℕ, true, List, length, ap, sym, subst, ◌∙◌, arith}
use Rattle.std.proofs.lemmas.List.{length-append}
use Rattle.pq_base.specs.Prime.{prime_value}
use Rattle.derivation_log.specs.Certificates.{TailLine}
use Rattle.derivation_log.specs.CertificateForms.{are_tail_lines}
use Rattle.answer_text.proofs.DraftAdded.{IfSome-at}
use Rattle.cert_text.specs.CertificateText.{tail_line}
use Rattle.cert_text.proofs.lines.StepsRead.{mapped-grown}
use Rattle.cert_text.proofs.step_reading.read_tails.Goals as goal

pub loop-tails-preserved : goal.loop-tails-preserved
loop-tails-preserved c =
    let text : List ℕ = c.loop-tails.rest.now in
    let before : List TailLine = c.loop-tails.tails.items in
    let next : TailLine = c.in-Some.tail in
    let pushed : c.push.new.self.items ≡ before ++ next ∷ [] = c.in_ok-push.ensures.items in
    let count : length c.push.new.self.items ≡ length before + 1 = ap (λ (xs : List TailLine). length xs) pushed
    ∙ length-append before (next ∷ []) in
    let read = IfSome-at c.in_ok-tail.field-0 (c.in-Some.tail, c.in-Some.more) (λ x. text ≡ tail_line x.0 ++ 10 ∷ x.1.now) c.in-Some.is
    c.in_ok-tail.ensures.some in
    let are =
    IfSome-at c.in_ok-tail.field-0 (c.in-Some.tail, c.in-Some.more)
    (λ x. are_tail_lines (prime_value c.args.prime) c.args.n (c.deref.result.now ++ x.0 ∷ []) 1 (c.deref.result.now ++ x.0 ∷ []) ≡ true)
    c.in-Some.is c.in_ok-tail.ensures.next in
    let shorter : length c.in-Some.more.now + 1 ≤ length text =
    IfSome-at c.in_ok-tail.field-0 (c.in-Some.tail, c.in-Some.more) (λ x. length x.1.now + 1 ≤ length text) c.in-Some.is
    c.in_ok-tail.ensures.shorter in record {
      lines = mapped-grown tail_line c.args.text.now text c.in-Some.more.now before c.push.new.self.items next pushed
          c.loop-tails.invariant.lines read;
      tails = subst (λ (xs : List TailLine). are_tail_lines (prime_value c.args.prime) c.args.n xs 1 xs ≡ true)
          (ap (λ (xs : List TailLine). xs ++ next ∷ []) c.deref.ensures.value ∙ sym pushed) are;
      shorter = omega (arith, c.loop-tails.invariant.shorter);
    }
