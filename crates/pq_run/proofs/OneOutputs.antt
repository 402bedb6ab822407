-- The words and the bytes determine what is written; so a command that is done has written its only output. Of a certificate they
-- determine the answer.
use Rattle.std.proofs.Common.{◌≡◌, ℕ, List, IfSome, sym, ap, subst, ◌∙◌}
use Rattle.std.proofs.lemmas.Option.{IfSome_then}
use Rattle.pq_base.specs.Prime.{prime_value}
use Rattle.pq_base.specs.LPresentation.{LPresentation}
use Rattle.pq_base.specs.Answer.{Answer}
use Rattle.pq_base.specs.Largest.{IsLargest}
use Rattle.pq_base.specs.Canonical.{IsCanonical}
use Rattle.lpres_reader.specs.Reads.{Reads}
use Rattle.derivation_log.specs.Certificates.{Certificate}
use Rattle.cert_text.proofs.CertificateLaws.{one_text_one_certificate}
use Rattle.pq_io.specs.Writing.{Gains}
use Rattle.answer_text.specs.AnswerText.{answer_text}
use Rattle.answer_text.specs.AnswerData.{answer_json}
use Rattle.samples.specs.Samples.{sample_presentation, sample_prime, sample_class}
use Rattle.samples.specs.Summary.{summary_text}
use Rattle.unique_answers.proofs.UniqueAnswers.{canonical_largest_quotients_are_unique}
use Rattle.pq_run.specs.declared.command.Command.{Command}
use Rattle.pq_run.specs.declared.command.Command.TheVariants.{Quotient, Check, Sample}
use Rattle.pq_run.specs.declared.command.Form.TheVariants as forms
use Rattle.pq_run.specs.Input.{input_of, read_of}
use Rattle.pq_run.specs.Output.{WritesAnswer, WritesCheckedAnswer, WritesSummary, OutputOf, Output, HasOneOutput, OneOutput}
use Rattle.pq_run.specs.Output.{OneOutputOneCertificate, OneCertifiedAnswer, CertifiesWhatIsWritten}
use Rattle.pq_run.specs.Streams.{Reading, Writing}
use Rattle.pq_run.specs.Ends.{HasWritten, IsDone, IsOnlyOutput}
use Rattle.pq_run.proofs.Commands.{one_command}
use Rattle.pq_run.proofs.Texts.{one_presentation}
use Rattle.pq_run.proofs.CheckedTexts.{one_certificate}

-- one presentation has one canonical largest quotient of a class
same_answer : (p c : ℕ) (bytes : List ℕ) (L M : LPresentation) (A B : Answer) → Reads bytes L → Reads bytes M
    → IsLargest L p c A → IsCanonical A → IsLargest M p c B → IsCanonical B → A ≡ B
same_answer p c bytes L M A B l m largest canonical other_largest other_canonical =
    let same : M ≡ L = one_presentation bytes M L m l in
    canonical_largest_quotients_are_unique L p c A B largest canonical
    (subst (λ (N : LPresentation). IsLargest N p c B) same other_largest) other_canonical

-- so one text of it
one_answer : (p c : ℕ) (form : Answer → List ℕ) (bytes output other : List ℕ) → WritesAnswer p c form bytes output
    → WritesAnswer p c form bytes other → output ≡ other
one_answer p c form bytes output other x y =
    let equal : x.answer ≡ y.answer =
    same_answer p c bytes x.presentation y.presentation x.answer y.answer x.reads y.reads x.largest x.canonical y.largest y.canonical in
    x.text ∙ ap form equal ∙ sym y.text

one_summary : (n : ℕ) (output other : List ℕ) → WritesSummary n output → WritesSummary n other → output ≡ other
one_summary n output other x y =
    let equal : x.answer ≡ y.answer =
    canonical_largest_quotients_are_unique (sample_presentation n) (sample_prime n) sample_class x.answer y.answer x.largest x.canonical
    y.largest y.canonical in
    x.text ∙ ap (summary_text n) equal ∙ sym y.text

one_checked_answer : (bytes output other : List ℕ) → WritesCheckedAnswer bytes output → WritesCheckedAnswer bytes other → output ≡ other
one_checked_answer bytes output other x y =
    let same : x.certificate ≡ y.certificate =
    one_certificate bytes x.certificate y.certificate x.writable y.writable x.reads y.reads in
    x.text ∙ ap (λ (c : Certificate). answer_text c.answer) same ∙ sym y.text

one_output_of : (command : Command) (bytes output other : List ℕ) → HasOneOutput command → OutputOf command bytes output
    → OutputOf command bytes other → output ≡ other
one_output_of (Quotient p c forms.Text) bytes output other one x y = one_answer (prime_value p) c answer_text bytes output other x y
one_output_of (Quotient p c forms.Json) bytes output other one x y = one_answer (prime_value p) c answer_json bytes output other x y
one_output_of (Quotient p c forms.Certificate) bytes output other one x y = absurd one
one_output_of Check bytes output other one x y = one_checked_answer bytes output other x y
one_output_of (Sample n) bytes output other one x y = one_summary n output other x y

pub one_output : OneOutput
one_output words bytes output other one x y =
    let same : y.0 ≡ x.0 = one_command words y.0 x.0 y.1 x.1 in
    let here : one.0 ≡ x.0 = one_command words one.0 x.0 one.1 x.1 in
    one_output_of x.0 bytes output other (subst HasOneOutput here one.2) x.2
    (subst (λ (command : Command). OutputOf command bytes other) same y.2)

pub one_output_one_certificate : OneOutputOneCertificate
one_output_one_certificate p c bytes written x y =
    one_text_one_certificate x.certificate y.certificate x.writable y.writable (sym x.text ∙ y.text)

pub one_certified_answer : OneCertifiedAnswer
one_certified_answer p c bytes written other x y =
    same_answer p c bytes x.presentation y.presentation x.certificate.answer y.certificate.answer x.reads y.reads x.certifies.largest
    x.certifies.canonical y.certifies.largest y.certifies.canonical

pub certifies_what_is_written : CertifiesWhatIsWritten
certifies_what_is_written p c bytes written other x y =
    same_answer p c bytes x.presentation y.presentation x.certificate.answer y.answer x.reads y.reads x.certifies.largest
    x.certifies.canonical y.largest y.canonical

pub only_output : (words : List (List ℕ)) (r : Reading) (w : Writing) → IsDone words r w → IsOnlyOutput words r w
only_output words r w done command spelled one =
    let same : done.command ≡ command = one_command words done.command command done.spelled spelled in
    let wrote : IfSome (read_of (input_of command) r.left) (λ bytes. HasWritten words bytes (Gains w.taken w.then)) =
    subst (λ (c : Command). IfSome (read_of (input_of c) r.left) (λ bytes. HasWritten words bytes (Gains w.taken w.then))) same
    done.written in
    IfSome_then (read_of (input_of command) r.left) {P = λ bytes. HasWritten words bytes (Gains w.taken w.then)}
    {Q = λ bytes. (o : List ℕ) → Output words bytes o → Gains w.taken w.then o} wrote
    (λ bytes has o is. subst (Gains w.taken w.then) (one_output words bytes has.0 o (command, spelled, one) has.1 is) has.2)
