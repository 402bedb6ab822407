-- A command that is done, and whose words are `quotient P C`, has answered.
use Rattle.std.proofs.Common.{◌≡◌, ℕ, List, [], Option, Some, None, IfSome, subst}
use Rattle.pq_base.specs.declared.prime.Prime.{Prime}
use Rattle.pq_base.specs.Prime.{prime_value}
use Rattle.pq_base.specs.LPresentation.IsRelator.{fixed_relator, iterated_relator}
use Rattle.pq_io.specs.Writing.{Gains}
use Rattle.answer_text.specs.AnswerText.{answer_text}
use Rattle.answer_text.proofs.OneText.{one_text_one_answer}
use Rattle.pq_run.specs.declared.command.Command.{Command}
use Rattle.pq_run.specs.declared.command.Command.TheVariants.{Quotient}
use Rattle.pq_run.specs.declared.command.Form.TheVariants.{Text}
use Rattle.pq_run.specs.Command.{CommandWords}
use Rattle.pq_run.specs.Input.{input_of, read_of, IsReadToEnd}
use Rattle.pq_run.specs.Output.{WritesAnswer, OutputOf}
use Rattle.pq_run.specs.Streams.{Reading, Writing}
use Rattle.pq_run.specs.Ends.{HasWritten, IsDone}
use Rattle.pq_run.specs.Headline.{HasAnswered, Headline}
use Rattle.pq_run.proofs.Commands.{one_command}
use Rattle.pq_run.proofs.Texts.{one_presentation}

-- an output that was written whole
answered : (p c : ℕ) (bytes output : List ℕ) (rest had has : Option (List ℕ)) → rest ≡ Some [] → WritesAnswer p c answer_text bytes output
    → Gains had has output → HasAnswered p c bytes rest had has
answered p c bytes output rest had has all writes gains = record {
  to_the_end = all;
  presentation = writes.presentation;
  reads = writes.reads;
  no_other_presentation = λ L reads. one_presentation bytes L writes.presentation reads writes.reads;
  answer = writes.answer;
  written = subst (Gains had has) writes.text gains;
  writable = writes.writable;
  no_other_answer = λ B is same. one_text_one_answer B writes.answer is writes.writable same;
  is_answer = writes.largest.answer;
  prime = writes.largest.prime;
  names = writes.largest.names;
  consistent = writes.largest.consistent;
  class = writes.largest.class;
  shown = writes.class;
  exact = writes.exact;
  fixed = λ i below. writes.largest.kills _ (fixed_relator i below);
  iterated = λ s i numbers below. writes.largest.kills _ (iterated_relator s i numbers below);
  generated = writes.largest.generated;
  universal = writes.largest.universal;
}

module _ (words : List (List ℕ)) (r : Reading) (w : Writing) (done : IsDone words r w) (p : Prime) (c : ℕ)
    (spelled : CommandWords words (Quotient p c Text)) where
  same : done.command ≡ Quotient p c Text
  same = one_command words done.command (Quotient p c Text) done.spelled spelled

  read_to_end : IfSome r.left (λ bytes. r.rest ≡ Some [])
  read_to_end = subst (λ (command : Command). IsReadToEnd (input_of command) r.left r.rest) same done.read

  has_written : IfSome r.left (λ bytes. HasWritten words bytes (Gains w.taken w.then))
  has_written =
      subst (λ (command : Command). IfSome (read_of (input_of command) r.left) (λ bytes. HasWritten words bytes (Gains w.taken w.then)))
      same done.written

  has_answered : (bytes : List ℕ) → r.rest ≡ Some [] → HasWritten words bytes (Gains w.taken w.then)
      → HasAnswered (prime_value p) c bytes r.rest w.taken w.then
  has_answered bytes all wrote =
      let asked = wrote.1 in
      let here : asked.0 ≡ Quotient p c Text = one_command words asked.0 (Quotient p c Text) asked.1 spelled in
      answered (prime_value p) c bytes wrote.0 r.rest w.taken w.then all
      (subst (λ (command : Command). OutputOf command bytes wrote.0) here asked.2) wrote.2

  of_told : (left : Option (List ℕ)) → IfSome left (λ bytes. r.rest ≡ Some [])
      → IfSome left (λ bytes. HasWritten words bytes (Gains w.taken w.then))
      → IfSome left (λ bytes. HasAnswered (prime_value p) c bytes r.rest w.taken w.then)
  of_told None all wrote = tt
  of_told (Some bytes) all wrote = has_answered bytes all wrote

  has_answered_told : IfSome r.left (λ bytes. HasAnswered (prime_value p) c bytes r.rest w.taken w.then)
  has_answered_told = of_told r.left read_to_end has_written

pub headline : (words : List (List ℕ)) (r : Reading) (w : Writing) → IsDone words r w → Headline words r w
headline words r w done p c spelled = has_answered_told words r w done p c spelled
