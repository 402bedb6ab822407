use Rattle.std.proofs.Common.{◌≡◌, [], ap, ◌∙◌}
use Rattle.pq_base.specs.Prime.{prime_value}
use Rattle.pc_presentation.specs.Pcp.{plain_presentation}
use Rattle.pc_presentation.specs.Builder.{Draft}
use Rattle.pc_presentation.specs.Parts.{words_of}
use Rattle.pq_base.proofs.PrimeLaws.{prime_value-offered, offered-two}
use Rattle.pc_presentation.proofs.presentations.TrivialLaws.{answer_of-trivial, trivial_parts}
use Rattle.pc_presentation.proofs.answer.Answer.trivial.Goals as goal

plain : (c : goal.In_ok-empty_words) → c.finish.result ≡ plain_presentation (prime_value c.args.prime) [] 0
plain c = c.finish.ensures ∙ ap (λ (d : Draft). d.built) c.in_ok-new.ensures

pub invariant_of-result : goal.invariant_of-result
invariant_of-result c = rw (c.new-2.ensures.items, c.in_ok-names_copied.ensures)
    (trivial_parts (prime_value c.args.prime) c.args.names.now c.finish.result (words_of c.in_ok-empty_words.field-0.items) (plain c)
    c.in_ok-empty_words.ensures (offered-two (prime_value c.args.prime) (prime_value-offered c.args.prime))
    c.requires.some c.requires.limit c.requires.distinct)

pub returns : goal.returns
returns c = rw (c.new-2.ensures.items, c.in_ok-names_copied.ensures)
    (answer_of-trivial (prime_value c.args.prime) c.args.names.now c.finish.result (words_of c.in_ok-empty_words.field-0.items) (plain c)
    c.in_ok-empty_words.ensures)
