use Rattle.std.proofs.Common.{◌≡◌, ◌<◌, ◌≤◌, suc, ℕ, List, length, get_or, ap, sym, ◌∙◌, subst, refl, arith}
use Rattle.pq_base.specs.Prime.{prime_value}
use Rattle.fp_rows.specs.Rows.{IsRow}
use Rattle.fp_rows.specs.Row.{PrimeRow}
use Rattle.fp_rows.proofs.RowStorage.{prime_value-two}
use Rattle.fp_echelon.specs.Slots.{Slot, IsSlot, AreSlots, reduced_slots, no_slot}
use Rattle.fp_echelon.proofs.SlotLaws.{AreSlots-at, AreSlots-own}
use Rattle.fp_echelon.proofs.InsertedSlots.{length-reduced, AreSlots-reduced}
use Rattle.fp_echelon.proofs.elimination.insert.Goals as goal

reduced_are : (p q width n : ℕ) (slots new : List Slot) (x : List ℕ) → 2 ≤ q → q ≡ p → IsRow p width x → n < length slots
    → AreSlots p width (suc n) slots → new ≡ reduced_slots n x slots → AreSlots p width (suc n) new
reduced_are p q width n slots new x two e row fits are is =
    subst (λ (l : List Slot). AreSlots p width (suc n) l) (sym is)
    (AreSlots-reduced p width n (omega arith) slots fits x row are (suc n) (omega arith) are)

reduced_is : (p q width n : ℕ) (slots new : List Slot) (x : List ℕ) (d : Slot) → 2 ≤ q → q ≡ p → IsRow p width x → n < length slots
    → AreSlots p width (suc n) slots → new ≡ reduced_slots n x slots → IsSlot p width (suc n) (get_or new n d)
reduced_is p q width n slots new x d two e row fits are is =
    let long : length new ≡ length slots = ap (λ (l : List Slot). length l) is ∙ length-reduced p width n (omega arith) slots fits x row in
    AreSlots-at p width (suc n) new n d (omega arith) (reduced_are p q width n slots new x two e row fits are is)

pub inv-k-requires-clause-residue : goal.inv-k-requires-clause-residue
inv-k-requires-clause-residue c =
    let here =
    reduced_is c.args.row.now.prime (prime_value c.prime-prime.result) (length c.args.row.now.entries) c.args.rank c.args.entries.now
    c.reduce_new.new.entries c.args.row.now.entries c.index-entries-rank.result
    (prime_value-two c.prime-prime.result) c.prime-prime.ensures.prime
    c.prime-prime.ensures.row c.requires.rank c.requires.slots c.reduce_new.ensures in
    let prime : c.row-reduced.result.now.prime ≡ prime_value c.prime-prime.result =
    ap (λ (r : PrimeRow). r.prime) c.row-reduced.ensures
    ∙ here.prime
    ∙ sym c.prime-prime.ensures.prime in
    subst (λ (n : ℕ). c.get.result < n) prime c.get.ensures.residue

pub join_new-requires-clause-slots : goal.join_new-requires-clause-slots
join_new-requires-clause-slots c =
    let here =
    reduced_is c.args.row.now.prime (prime_value c.prime-prime.result) (length c.args.row.now.entries) c.args.rank c.args.entries.now
    c.reduce_new.new.entries c.args.row.now.entries no_slot (prime_value-two c.prime-prime.result) c.prime-prime.ensures.prime
    c.prime-prime.ensures.row c.requires.rank c.requires.slots c.reduce_new.ensures in
    AreSlots-own _ _ _ _ (suc c.args.rank) (suc c.args.rank) c.reduce_new.new.entries (sym here.prime) (sym here.row.count) refl
    (reduced_are c.args.row.now.prime (prime_value c.prime-prime.result) (length c.args.row.now.entries) c.args.rank c.args.entries.now
    c.reduce_new.new.entries c.args.row.now.entries (prime_value-two c.prime-prime.result) c.prime-prime.ensures.prime
    c.prime-prime.ensures.row c.requires.rank c.requires.slots c.reduce_new.ensures)

pub join_new-requires-clause-factor : goal.join_new-requires-clause-factor
join_new-requires-clause-factor c =
    let here =
    reduced_is c.args.row.now.prime (prime_value c.prime-prime.result) (length c.args.row.now.entries) c.args.rank c.args.entries.now
    c.reduce_new.new.entries c.args.row.now.entries no_slot (prime_value-two c.prime-prime.result) c.prime-prime.ensures.prime
    c.prime-prime.ensures.row c.requires.rank c.requires.slots c.reduce_new.ensures in
    subst (λ (n : ℕ). c.inv-k.result < n) (c.prime-prime.ensures.prime ∙ sym here.prime) c.inv-k.ensures.residue
