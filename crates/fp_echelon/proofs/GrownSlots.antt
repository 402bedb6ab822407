-- Slots that are given room, and new slots after them, hold the same basis with more to spare.
use Rattle.std.proofs.Common.{◌≡◌, ℕ, zero, suc, ◌+◌, ◌-◌, ◌<◌, ◌≤◌, List, [], ◌∷◌, ◌++◌, length, take, drop, map, replicate, get_or, max}
use Rattle.std.proofs.Common.{refl, ap, ap₂, sym, ◌∙◌, subst, arith, length-append, append_assoc}
use Rattle.std.proofs.lemmas.List.{take-append-le, length-replicate, append-nil, take_all, drop_all}
use Rattle.pq_base.specs.Elementary.{zeros}
use Rattle.fp_echelon.specs.Reduced.{BasisRow}
use Rattle.fp_echelon.specs.Basis.{Echelon, IsBasis}
use Rattle.fp_echelon.specs.Slots.{Slot, IsSlot, AreSlots, HoldsBasis, echelon_of, seen, all_seen, all_added, grown_slot, new_slot}
use Rattle.fp_echelon.specs.Slots.{grown_front, IsGrown, AreGrown}
use Rattle.fp_echelon.proofs.SlotLaws.{IsSlot-grown_slot, IsSlot-new_slot, IsSlot-fewer, AreSlots-append, AreSlots-fewer}

-- the first slots show the same rows of a basis and the same added rows
abbrev pub Alike : ℕ → List Slot → List Slot → Type 0
Alike n [] new = Unit {0}
Alike n (s ∷ old) [] = ⊥
Alike n (s ∷ old) (t ∷ new) = (seen n t ≡ seen n s) × (t.added ≡ s.added) × Alike n old new

seen-grown_slot : (n room : ℕ) (s : Slot) → n ≤ length s.coefficients → seen n (grown_slot room s) ≡ seen n s
seen-grown_slot n room s h =
    ap (λ (l : List ℕ). record { pivot = s.pivot; row = s.row; coefficients = l })
    (take-append-le n s.coefficients (zeros (room - length s.coefficients)) h)

Alike-same : (p width n : ℕ) (old more : List Slot) → AreSlots p width n old → Alike n old (old ++ more)
Alike-same p width n [] more are = tt
Alike-same p width n (s ∷ old) more are = (refl, refl, Alike-same p width n old more are.1)

pub Alike-grown : (p width n room i : ℕ) (old more : List Slot) → AreSlots p width n old → Alike n old (grown_front room i old ++ more)
Alike-grown p width n room i [] more are = tt
Alike-grown p width n room zero (s ∷ old) more are = Alike-same p width n (s ∷ old) more are
Alike-grown p width n room (suc i) (s ∷ old) more are =
    (seen-grown_slot n room s are.0.room, refl, Alike-grown p width n room i old more are.1)

Alike-seen : (n k : ℕ) (old new : List Slot) → k ≤ length old → Alike n old new → all_seen n (take k new) ≡ all_seen n (take k old)
Alike-seen n zero old new h alike = refl
Alike-seen n (suc k) [] new h alike = absurd (omega arith)
Alike-seen n (suc k) (s ∷ old) [] h alike = absurd alike
Alike-seen n (suc k) (s ∷ old) (t ∷ new) h alike =
    ap₂ (λ (b : BasisRow) (bs : List BasisRow). b ∷ bs) alike.0 (Alike-seen n k old new (omega arith) alike.2)

Alike-added : (n k : ℕ) (old new : List Slot) → k ≤ length old → Alike n old new → all_added (take k new) ≡ all_added (take k old)
Alike-added n zero old new h alike = refl
Alike-added n (suc k) [] new h alike = absurd (omega arith)
Alike-added n (suc k) (s ∷ old) [] h alike = absurd alike
Alike-added n (suc k) (s ∷ old) (t ∷ new) h alike =
    ap₂ (λ (r : List ℕ) (rows : List (List ℕ)). r ∷ rows) alike.1 (Alike-added n k old new (omega arith) alike.2)

pub echelon_of-alike : (p width rank spare : ℕ) (old new : List Slot) → rank ≤ length old → Alike rank old new
    → echelon_of p width rank spare new ≡ echelon_of p width rank spare old
echelon_of-alike p width rank spare old new h alike =
    ap₂ (λ (rows : List (List ℕ)) (bs : List BasisRow). record { prime = p; width = width; added = rows; rows = bs; spare = spare })
    (Alike-added rank rank old new h alike) (Alike-seen rank rank old new h alike)

Alike-length : (n : ℕ) (old new : List Slot) → Alike n old new → length old ≤ length new
Alike-length n [] new alike = omega arith
Alike-length n (s ∷ old) [] alike = absurd alike
Alike-length n (s ∷ old) (t ∷ new) alike = let more = Alike-length n old new alike.2 in omega arith

module _ (p width : ℕ) (some : 0 < p) where
  AreSlots-new : (n more : ℕ) → AreSlots p width n (replicate more (new_slot p width n))
  AreSlots-new n zero = tt
  AreSlots-new n (suc more) = (IsSlot-new_slot p width some n, AreSlots-new n more)

  -- every slot keeps its room
  AreSlots-grown_front : (m room i : ℕ) (old : List Slot) → AreSlots p width m old → AreSlots p width m (grown_front room i old)
  AreSlots-grown_front m room zero old are = are
  AreSlots-grown_front m room (suc i) [] are = tt
  AreSlots-grown_front m room (suc i) (s ∷ old) are =
      (IsSlot-grown_slot p width some room m s are.0, AreSlots-grown_front m room i old are.1)

  -- and has the room that it was given
  grown_room : (m room : ℕ) (s : Slot) → IsSlot p width m s → IsSlot p width room (grown_slot room s)
  grown_room m room s slot =
      let kept = IsSlot-grown_slot p width some room m s slot in
      record {
        prime = kept.prime;
        added = kept.added;
        row = kept.row;
        room = omega (
          arith,
          length-append s.coefficients (zeros (room - length s.coefficients)),
          length-replicate {A = ℕ} (room - length s.coefficients) 0,
        );
        below = kept.below;
      }

  AreSlots-room : (m room : ℕ) (old : List Slot) → AreSlots p width m old → AreSlots p width room (map (grown_slot room) old)
  AreSlots-room m room [] are = tt
  AreSlots-room m room (s ∷ old) are = (grown_room m room s are.0, AreSlots-room m room old are.1)

  module _ (rank spare rows : ℕ) (old new : List Slot) (held : HoldsBasis p width rank spare old) where
    enough : rank ≤ length old
    enough = let room = held.room in omega arith

    module _ (larger : spare ≤ rows) (grown : IsGrown p width (rank + rows) old new) where
      grown_alike : Alike rank old new
      grown_alike =
          subst (λ (l : List Slot). Alike rank old l) (sym grown.slots)
          (Alike-grown p width rank (rank + rows) grown.grown old (replicate grown.more (new_slot p width (rank + rows)))
          (AreSlots-fewer p width (rank + spare) rank old (omega arith) held.are_slots))

      pub grown_same : echelon_of p width rank spare new ≡ echelon_of p width rank spare old
      grown_same = echelon_of-alike p width rank spare old new enough grown_alike

      pub grown_held : HoldsBasis p width rank spare new
      grown_held =
          let room = held.room in
          record {
            are_slots = subst (λ (l : List Slot). AreSlots p width (rank + spare) l) (sym grown.slots)
                (AreSlots-append p width (rank + spare) (grown_front (rank + rows) grown.grown old)
                (replicate grown.more (new_slot p width (rank + rows)))
                (AreSlots-grown_front (rank + spare) (rank + rows) grown.grown old held.are_slots)
                (AreSlots-fewer p width (rank + rows) (rank + spare) (replicate grown.more (new_slot p width (rank + rows))) (omega arith)
                (AreSlots-new (rank + rows) grown.more)));
            room = omega (arith, Alike-length rank old new grown_alike);
            basis = subst (λ (B : Echelon). IsBasis B) (sym grown_same) held.basis;
          }

    module _ (whole : AreGrown p width (rank + rows) old new) where
      whole_slots : new ≡ grown_front (rank + rows) (length old) old ++ replicate whole.more (new_slot p width (rank + rows))
      whole_slots =
          whole.slots
          ∙ ap (λ (l : List Slot). l ++ replicate whole.more (new_slot p width (rank + rows)))
          (sym (ap₂ (λ (a b : List Slot). map (grown_slot (rank + rows)) a ++ b) (take_all (length old) old (omega arith))
          (drop_all (length old) old (omega arith))
          ∙ append-nil (map (grown_slot (rank + rows)) old)))

      pub whole_same : echelon_of p width rank rows new ≡ echelon_of p width rank rows old
      whole_same =
          echelon_of-alike p width rank rows old new enough
          (subst (λ (l : List Slot). Alike rank old l) (sym whole_slots)
          (Alike-grown p width rank (rank + rows) (length old) old (replicate whole.more (new_slot p width (rank + rows)))
          (AreSlots-fewer p width (rank + spare) rank old (omega arith) held.are_slots)))

      pub whole_held : HoldsBasis p width rank rows new
      whole_held =
          let basis = held.basis in
          let basis' : IsBasis (echelon_of p width rank rows old) = record {
            prime = basis.prime;
            added = basis.added;
            count = basis.count;
            reduced = basis.reduced;
            sums = basis.sums;
            spanned = basis.spanned;
          } in
          record {
            are_slots = subst (λ (l : List Slot). AreSlots p width (rank + rows) l) (sym whole.slots)
                (AreSlots-append p width (rank + rows) (map (grown_slot (rank + rows)) old)
                (replicate whole.more (new_slot p width (rank + rows)))
                (AreSlots-room (rank + spare) (rank + rows) old held.are_slots) (AreSlots-new (rank + rows) whole.more));
            room = whole.enough;
            basis = subst (λ (B : Echelon). IsBasis B) (sym whole_same) basis';
          }
