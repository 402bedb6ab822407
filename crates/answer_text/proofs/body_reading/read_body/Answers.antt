use Rattle.std.proofs.Common.{◌≡◌, ◌+◌, ℕ, true, false, List, length, ap, sym, ◌∙◌, arith}
use Rattle.std.specs.Prelude.{codes}
use Rattle.std.specs.Bool.{◌==◌}
use Rattle.pq_base.specs.Prime.{prime_value}
use Rattle.pc_presentation.specs.Parts.{words_of}
use Rattle.answer_text.specs.Drafts.{SoFar, so_far}
use Rattle.answer_text.proofs.BodyAdded.{IsBodyRead-next}
use Rattle.answer_text.proofs.faults.BodyFaults.{no_line-body, bad_line-body, behind_end-body}
use Rattle.answer_text.proofs.body_reading.read_body.Goals as goal

pub returns-else-is_empty-clause-err : goal.returns-else-is_empty-clause-err
returns-else-is_empty-clause-err c =
    let S : SoFar =
    so_far c.loop-line.body.builder c.loop-line.body.last c.loop-line.body.names.items (words_of c.loop-line.body.images.items) in
    let end : c.in-Some.line.now ≡ codes "end" = c.are_same.ensures.0 c.if-are_same.true in
    behind_end-body (prime_value c.args.head.prime) c.args.head.rank c.loop-line.number
    (c.loop-line.number + 1) c.args.body.now.builder.built.weights c.args.text.now c.loop-line.rest.now
    c.in-Some.line.now c.in-Some.more.now S c.loop-line.invariant.read c.in-Some.ensures.some end
    (λ none.
    let yes : c.is_empty.result ≡ true = c.is_empty.ensures ∙ ap (λ (x : List ℕ). length x == 0) none in
    let bad : true ≡ false = sym yes ∙ c.if-is_empty.false in
    cc) (omega arith)

pub returns-then-not-branch-clause-err : goal.returns-then-not-branch-clause-err
returns-then-not-branch-clause-err c =
    let S : SoFar =
    so_far c.loop-line.body.builder c.loop-line.body.last c.loop-line.body.names.items (words_of c.loop-line.body.images.items) in
    bad_line-body (prime_value c.args.head.prime) c.args.head.rank c.loop-line.number c.args.body.now.builder.built.weights c.args.text.now
    c.loop-line.rest.now c.in-Some.line.now c.in-Some.more.now S
    c.loop-line.invariant.read c.in-Some.ensures.some c.in-Some.ensures.first
    (c.in_ok-add_line.ensures.refused (λ yes. let bad : true ≡ false = sym yes ∙ c.if-not-branch.true in cc))
    (λ end. let bad : true ≡ false = sym (c.are_same.ensures.1 end) ∙ c.if-are_same.false in cc)

pub loop-line-preserved : goal.loop-line-preserved
loop-line-preserved c =
    let S : SoFar =
    so_far c.loop-line.body.builder c.loop-line.body.last c.loop-line.body.names.items (words_of c.loop-line.body.images.items) in
    let N : SoFar =
    so_far c.add_line.new.body.builder c.add_line.new.body.last c.add_line.new.body.names.items
    (words_of c.add_line.new.body.images.items) in
    record {
      bytes = omega (arith, c.loop-line.invariant.bytes, c.in-Some.ensures.shorter);
      read = IsBodyRead-next (prime_value c.args.head.prime) c.args.head.rank c.args.body.now.builder.built.weights c.args.text.now
          c.loop-line.rest.now c.in-Some.more.now c.in-Some.line.now
          c.loop-line.number (c.loop-line.number + 1) S N c.loop-line.invariant.read
          (c.in_ok-add_line.ensures.added c.if-not-branch.false) c.in-Some.ensures.some (omega arith);
    }

pub returns-clause-err : goal.returns-clause-err
returns-clause-err c =
    let S : SoFar =
    so_far c.loop-line.body.builder c.loop-line.body.last c.loop-line.body.names.items (words_of c.loop-line.body.images.items) in
    no_line-body (prime_value c.args.head.prime) c.args.head.rank c.loop-line.number c.args.body.now.builder.built.weights c.args.text.now
    c.loop-line.rest.now S c.loop-line.invariant.read
    c.in_default.ensures.none
