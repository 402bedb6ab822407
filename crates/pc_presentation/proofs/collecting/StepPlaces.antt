-- The place of a replacement in a word: at the front of the word or behind its first letter.
use Rattle.std.proofs.Common.{◌≡◌, ℕ, List, [], ◌∷◌, ◌++◌, refl, ap, sym, ◌∙◌, subst, append_assoc, ◌⊎◌, inl, inr}
use Rattle.pc_presentation.specs.Rowed.{RowedPresentation, row_sum}
use Rattle.pc_presentation.specs.Collection.{Configuration, Step}
use Rattle.pc_presentation.specs.Collection.Step.{replace}
use Rattle.pc_presentation.proofs.collecting.RunLaws.{ReplacementFrom}

-- a replacement inside the word u, which becomes v
pub record StepAt (Y : RowedPresentation) (k : ℕ) (u v t : List ℕ) : Type 0 where
  pub front : List ℕ
  pub left : List ℕ
  pub right : List ℕ
  pub back : List ℕ
  pub start : u ≡ front ++ (left ++ back)
  pub end : v ≡ front ++ (right ++ back)
  pub replaced : ReplacementFrom Y k left right t

-- no replacement inside the word u
abbrev pub IsIrreducible : RowedPresentation → ℕ → List ℕ → Type 0
IsIrreducible Y k u = (v t : List ℕ) → StepAt Y k u v t → ⊥

pub step-prefix : (Y : RowedPresentation) (k i : ℕ) (u v t : List ℕ) → StepAt Y k u v t → StepAt Y k (i ∷ u) (i ∷ v) t
step-prefix Y k i u v t s = record {
  front = i ∷ s.front;
  left = s.left;
  right = s.right;
  back = s.back;
  start = ap (λ (w : List ℕ). i ∷ w) s.start;
  end = ap (λ (w : List ℕ). i ∷ w) s.end;
  replaced = s.replaced;
}

pub step-suffix : (Y : RowedPresentation) (k : ℕ) (u v t b : List ℕ) → StepAt Y k u v t → StepAt Y k (u ++ b) (v ++ b) t
step-suffix Y k u v t b s = record {
  front = s.front;
  left = s.left;
  right = s.right;
  back = s.back ++ b;
  start = ap (λ (w : List ℕ). w ++ b) s.start
      ∙ append_assoc s.front (s.left ++ s.back) b ∙ ap (λ (w : List ℕ). s.front ++ w) (append_assoc s.left s.back b);
  end = ap (λ (w : List ℕ). w ++ b) s.end
      ∙ append_assoc s.front (s.right ++ s.back) b ∙ ap (λ (w : List ℕ). s.front ++ w) (append_assoc s.right s.back b);
  replaced = s.replaced;
}

-- a replacement at the front of a word, or behind its first letter
pub record AtFront (Y : RowedPresentation) (k : ℕ) (u v t : List ℕ) : Type 0 where
  pub left : List ℕ
  pub right : List ℕ
  pub back : List ℕ
  pub start : u ≡ left ++ back
  pub end : v ≡ right ++ back
  pub replaced : ReplacementFrom Y k left right t

pub record Behind (Y : RowedPresentation) (k i : ℕ) (u v t : List ℕ) : Type 0 where
  pub rest : List ℕ
  pub end : v ≡ i ∷ rest
  pub step : StepAt Y k u rest t

pub first_letter : (Y : RowedPresentation) (k i : ℕ) (u v t : List ℕ) → StepAt Y k (i ∷ u) v t
    → AtFront Y k (i ∷ u) v t ⊎ Behind Y k i u v t
first_letter Y k i u v t s = with_front s.front s.start s.end
  where
    with_front : (a : List ℕ) → i ∷ u ≡ a ++ (s.left ++ s.back) → v ≡ a ++ (s.right ++ s.back)
        → AtFront Y k (i ∷ u) v t ⊎ Behind Y k i u v t
    with_front [] e f = inl (record { left = s.left; right = s.right; back = s.back; start = e; end = f; replaced = s.replaced })
    with_front (x ∷ a) e f =
        let h : i ≡ x = cc in
        let g : u ≡ a ++ (s.left ++ s.back) = cc in
        inr (record {
          rest = a ++ (s.right ++ s.back);
          end = f ∙ ap (λ (y : ℕ). y ∷ (a ++ (s.right ++ s.back))) (sym h);
          step = record { front = a; left = s.left; right = s.right; back = s.back; start = g; end = refl; replaced = s.replaced };
        })

-- from a step to its place
pub record PlacedStep (Y : RowedPresentation) (k : ℕ) (c d : Configuration) : Type 0 where
  pub added : List ℕ
  pub step : StepAt Y k c.word d.word added
  pub row_is : d.row ≡ row_sum Y.base.prime c.row added

pub placed_step : (Y : RowedPresentation) (k : ℕ) {c d : Configuration} → Step Y.base.prime (ReplacementFrom Y k) c d → PlacedStep Y k c d
placed_step Y k (replace a l r b t x h) = record {
  added = t;
  step = record { front = a; left = l; right = r; back = b; start = refl; end = refl; replaced = h };
  row_is = refl;
}

pub step_of_place : (Y : RowedPresentation) (k : ℕ) (u v x t : List ℕ) → StepAt Y k u v t
    → Step Y.base.prime (ReplacementFrom Y k) (record { word = u; row = x }) (record { word = v; row = row_sum Y.base.prime x t })
step_of_place Y k u v x t s =
    subst (λ (w : List ℕ). Step Y.base.prime (ReplacementFrom Y k) (record { word = w; row = x })
    (record { word = v; row = row_sum Y.base.prime x t })) (sym s.start)
    (subst (λ (w : List ℕ). Step Y.base.prime (ReplacementFrom Y k) (record { word = s.front ++ (s.left ++ s.back); row = x })
    (record { word = w; row = row_sum Y.base.prime x t })) (sym s.end)
    (replace s.front s.left s.right s.back t x s.replaced))
