use Rattle.std.proofs.Common.{◌≡◌, ℕ, length, ap, ◌∙◌, sym, arith}
use Rattle.pq_base.specs.Prime.{prime_value}
use Rattle.pq_base.proofs.PrimeLaws.{prime_value-offered}
use Rattle.pc_presentation.specs.Relation.{relation_count}
use Rattle.pc_presentation.proofs.presentations.PlainLaws.{AreEntries-plain, plain-made}
use Rattle.pc_presentation.proofs.presentations.CommutingNumberLaws.{AreCommutingNumbers-blank_entries}
use Rattle.pc_presentation.proofs.pcp.Pcp.plain.Goals as goal

pub invariant_of-result : goal.invariant_of-result
invariant_of-result c =
    let same = c.in_ok-from_slice.ensures.items in
    let long : length c.in_ok-from_slice.field-0.items ≡ length c.args.weights.now = ap (length {A = ℕ}) same in
    let count : c.relation_count.result ≡ relation_count (length c.in_ok-from_slice.field-0.items) =
    c.relation_count.ensures.count ∙ ap relation_count (sym long) in (
      omega arith,
      AreEntries-plain (prime_value c.args.prime) c.args.tails c.relation_count.result
          (length c.in_ok-from_slice.field-0.items) c.in_ok-new.field-0 count c.in_ok-new.ensures,
      AreCommutingNumbers-blank_entries (prime_value c.args.prime) c.args.tails c.relation_count.result c.args.weights.now
          c.in_ok-from_slice.field-0.items c.in_ok-new.field-0
          c.in_ok-next_numbers.field-0.items (prime_value-offered c.args.prime) c.requires same c.relation_count.ensures.count
          c.in_ok-new.ensures
          c.in_ok-next_numbers.ensures,
    )

pub returns : goal.returns
returns c =
    plain-made (prime_value c.args.prime) c.args.tails c.relation_count.result c.args.weights.now c.in_ok-from_slice.field-0.items
    c.in_ok-new.field-0 c.in_ok-from_slice.ensures.items c.in_ok-new.ensures
