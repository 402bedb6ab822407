-- Reading from the left: R says what a whole can be read as, a list. Up to a rest the whole is read as front, where it
-- is front and what the rest is, whatever that is, and nothing else.
use Rattle.std.proofs.Common.{◌≡◌, List, [], ◌∷◌, ◌++◌, refl, sym, ap, subst, ◌∙◌, append_assoc}

pub record Leads {A B : Type 0} (R : A → List B → Type 0) (whole : A) (front : List B) (rest : A) : Type 0 where
  pub from : (xs : List B) → R rest xs → R whole (front ++ xs)
  pub to : (xs : List B) → R whole xs → (ys : List B) × (xs ≡ front ++ ys) × R rest ys

pub leads_nowhere : {A B : Type 0} (R : A → List B → Type 0) (whole : A) → Leads R whole [] whole
leads_nowhere R whole = record { from = λ xs r. r; to = λ xs r. (xs, refl, r) }

-- and on, by one item
pub leads_on : {A B : Type 0} (R : A → List B → Type 0) (whole rest next : A) (front : List B) (x : B) → Leads R whole front rest
    → Leads R rest (x ∷ []) next → Leads R whole (front ++ x ∷ []) next
leads_on {B = B} R whole rest next front x far one = record {
  from = λ xs r. subst (R whole) (sym (append_assoc front (x ∷ []) xs)) (far.from (x ∷ xs) (one.from xs r));
  to = λ xs r.
      let a = far.to xs r in
      let b = one.to a.0 a.2 in
      (b.0, a.1 ∙ ap (λ (ys : List B). front ++ ys) b.1 ∙ sym (append_assoc front (x ∷ []) b.0), b.2);
}
