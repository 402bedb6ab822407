-- While a sink is offered bytes, what it gained and what is still to be offered are these bytes.
use Rattle.std.proofs.Common.{◌≡◌, ◌<◌, ℕ, List, ◌++◌, length, take, drop, Option, IsNone, refl, sym, ◌∙◌, ap, subst, arith, append_assoc}
use Rattle.std.proofs.Common.{length-append, take-append-drop}
use Rattle.std.proofs.lemmas.List.{take_at}
use Rattle.pq_io.specs.Writing.{Gains, GainsProperPrefix}
use Rattle.pq_io.proofs.WritingLemmas.{Gains-append}

pub record Offered (old now : Option (List ℕ)) (bytes rest : List ℕ) : Type 0 where
  pub sent : List ℕ
  pub split : bytes ≡ sent ++ rest
  pub gained : Gains old now sent

pub offered_more : (a b c : Option (List ℕ)) (bytes rest : List ℕ) (n : ℕ) → Offered a b bytes rest → Gains b c (take n rest)
    → (IsNone b → IsNone c) → Offered a c bytes (drop n rest)
offered_more a b c bytes rest n offered gains silent = record {
  sent = offered.sent ++ take n rest;
  split = offered.split ∙ ap (λ (l : List ℕ). offered.sent ++ l) (sym (take-append-drop n rest))
      ∙ sym (append_assoc offered.sent (take n rest) (drop n rest));
  gained = Gains-append a b c offered.sent (take n rest) offered.gained gains silent;
}

pub offered_part : (a b c : Option (List ℕ)) (bytes rest : List ℕ) → Offered a b bytes rest → 0 < length rest → c ≡ b
    → GainsProperPrefix a c bytes
offered_part a b c bytes rest offered some same =
    let front : take (length offered.sent) bytes ≡ offered.sent =
    ap (λ (l : List ℕ). take (length offered.sent) l) offered.split ∙ take_at offered.sent rest (length offered.sent) refl in
    let gains : Gains a c offered.sent = subst (λ (o : Option (List ℕ)). Gains a o offered.sent) (sym same) offered.gained in (
      length offered.sent,
      omega (arith, ap length offered.split, length-append offered.sent rest),
      subst (λ (l : List ℕ). Gains a c l) (sym front) gains,
    )
