use Rattle.std.proofs.Common.{◌≡◌, ℕ, Option, List, length, ap, sym, ◌∙◌, subst, arith}
use Rattle.std.proofs.Math.ListN.{set}
use Rattle.std.proofs.lemmas.List.{with_items_is}
use Rattle.std.specs.Vec.{with_items}
use Rattle.pq_base.specs.Prime.{prime_value}
use Rattle.pq_base.proofs.PrimeLaws.{prime_value-offered}
use Rattle.pc_presentation.specs.declared.syllable.Syllable.{Syllable}
use Rattle.pc_presentation.specs.declared.relation.Relation.{Relation}
use Rattle.pc_presentation.specs.Syllable.{AreSyllables}
use Rattle.pc_presentation.specs.Relation.{IsRelation, IsTail, side_start, relation_number}
use Rattle.pc_presentation.specs.Store.{Entry, AreEntries}
use Rattle.pc_presentation.specs.Pcp.{IsBareRelation, tailed_presentation}
use Rattle.pc_presentation.specs.CommutingNumbers.{AreCommutingNumbers, numbers_with}
use Rattle.pc_presentation.proofs.presentations.PutLaws.{put_entry, put_entries, put_entries-are, with_relation-tailed}
use Rattle.pc_presentation.proofs.presentations.CommutingNumberLaws.{AreCommutingNumbers-put_entries}
use Rattle.pc_presentation.proofs.pcp.Pcp.put.Goals as goal

-- the new entries
made : (n rank number : ℕ) (entries new : List Entry) (r : Relation) (word : List Syllable) (tail : Option ℕ) → rank ≡ n
    → number ≡ relation_number rank r
    → new ≡ set entries number (record { word = word; tail = tail }) → new ≡ put_entries n entries r word tail
made n rank number entries new r word tail e f q =
    q ∙ ap (λ (k : ℕ). set entries k (put_entry n entries r word tail)) (f ∙ ap (λ (m : ℕ). relation_number m r) e)

pub invariant_of-self-2 : goal.invariant_of-self-2
invariant_of-self-2 c =
    let a = c.self.inside in
    let p = prime_value a.prime in
    let n = length a.weights.items in
    let w = c.args.word.now in
    let r : IsRelation n c.args.r = rw (← c.self.view_is) at c.requires.relation in
    let s : AreSyllables p n (side_start c.args.r) w = rw (← c.self.view_is) at c.requires.word in
    let t : IsTail a.tails c.args.tail = rw (← c.self.view_is) at c.requires.tail in
    let bare : IsBareRelation (tailed_presentation p a.weights.items a.tails a.relations) c.args.r =
    rw (← c.self.view_is) at c.requires.bare in
    let rank : c.len.result ≡ length a.weights.items = omega arith in
    let new =
    made n c.len.result c.number-number.result a.relations c.put.new.self c.args.r w c.args.tail rank c.number-number.ensures.number
    c.in_ok-put.ensures.ok in
    let numbers =
    AreCommutingNumbers-put_entries p a.tails a.weights.items a.relations c.args.r w c.args.tail a.commuting.items
    (prime_value-offered a.prime) c.self.invariant.0
    c.self.invariant.1 r s t bare c.self.invariant.2 in
    let written : c.note_relation.new.numbers ≡ numbers_with c.args.r w c.args.tail a.commuting.items =
    c.note_relation.ensures ∙ ap (numbers_with c.args.r w c.args.tail) c.as_mut_slice.ensures.value in
    let count : length a.commuting.items ≡ n = c.self.invariant.2.count in
    let same_count : length (numbers_with c.args.r w c.args.tail a.commuting.items) ≡ n = numbers.count in
    let long : length c.note_relation.new.numbers ≡ a.commuting.len =
    ap (length {A = ℕ}) written ∙ same_count ∙ sym count ∙ sym a.commuting.ok.0 in (
      c.self.invariant.0,
      subst (AreEntries p n a.tails) (sym new) (put_entries-are n a.relations c.args.r w c.args.tail p a.tails c.self.invariant.1 r s t),
      subst (λ (es : List Entry).
          AreCommutingNumbers (tailed_presentation p a.weights.items a.tails es) (with_items a.commuting c.note_relation.new.numbers).items)
          (sym new)
          (subst (AreCommutingNumbers (tailed_presentation p a.weights.items a.tails (put_entries n a.relations c.args.r w c.args.tail)))
          (sym (with_items_is a.commuting c.note_relation.new.numbers long ∙ written)) numbers),
    )

pub returns-clause-ok : goal.returns-clause-ok
returns-clause-ok c =
    let a = c.self.inside in
    let p = prime_value a.prime in
    let n = length a.weights.items in
    let r : IsRelation n c.args.r = rw (← c.self.view_is) at c.requires.relation in
    let rank : c.len.result ≡ length a.weights.items = omega arith in
    let new =
    made n c.len.result c.number-number.result a.relations c.put.new.self c.args.r c.args.word.now c.args.tail rank
    c.number-number.ensures.number
    c.in_ok-put.ensures.ok in
    rw (← c.self.view_is)
    (ap (tailed_presentation p a.weights.items a.tails) new
    ∙ with_relation-tailed p a.tails a.weights.items a.relations c.args.r c.args.word.now c.args.tail c.self.invariant.1.count r)
