use Rattle.std.proofs.Common.{◌≡◌, ◌+◌, ◌++◌, ◌∷◌, [], ℕ, List, length, replicate, ap, sym, ◌∙◌, append_assoc, arith}
use Rattle.std.proofs.lemmas.List.{replicate_more, length_push}
use Rattle.pq_base.specs.Prime.{prime_value}
use Rattle.fp_echelon.specs.Slots.{Slot, new_slot}
use Rattle.fp_echelon.proofs.elimination.add_entries.Goals as goal

one_more : (init items new : List Slot) (j : ℕ) (s t : Slot) → items ≡ init ++ replicate j s → t ≡ s → new ≡ items ++ t ∷ []
    → new ≡ init ++ replicate (j + 1) s
one_more init items new j s t is e pushed =
    pushed
    ∙ ap (λ (l : List Slot). l ++ t ∷ []) is
    ∙ append_assoc init (replicate j s) (t ∷ [])
    ∙ ap (λ (u : Slot). init ++ (replicate j s ++ u ∷ [])) e
    ∙ ap (λ (l : List Slot). init ++ l) (replicate_more j s)

pub loop-count-preserved : goal.loop-count-preserved
loop-count-preserved c = record {
  more = (
    c.loop-count.invariant.more.0 + 1,
    one_more c.args.entries.now.items c.loop-count.entries.items c.push.new.self.items c.loop-count.invariant.more.0
        (new_slot (prime_value c.args.prime) c.args.width c.args.room) c.in_ok-new.field-0 c.loop-count.invariant.more.1 c.in_ok-new.ensures
        c.in_ok-push.ensures.items,
  );
  long = omega (
    arith,
    ap (λ (l : List Slot). length l) c.in_ok-push.ensures.items,
    length_push c.loop-count.entries.items c.in_ok-new.field-0,
    c.loop-count.invariant.long,
  );
}
