-- What holds of pushing letters one after the other, whatever a push of one letter is: rows ride along where they do at
-- one letter, and where the sides of each replacement act equally, so do the ends of each run.
use Rattle.std.proofs.Common.{◌≡◌, ℕ, List, [], ◌∷◌, ◌++◌, refl, ap, sym, ◌∙◌}
use Rattle.pc_presentation.specs.Rowed.{RowedPresentation}
use Rattle.pc_presentation.specs.Collection.{Configuration, State, Step, Run, add_row, push_word, push_configuration}
use Rattle.pc_presentation.specs.Collection.Step.{replace}
use Rattle.pc_presentation.specs.Collection.Run.{stop, move}
use Rattle.pc_presentation.proofs.rows.RowLaws.{row_sum-comm, add_row-swap, add_row-add_row}

pub push_word-append : (f : State → ℕ → State) (s : State) (u v : List ℕ) → push_word f s (u ++ v) ≡ push_word f (push_word f s u) v
push_word-append f s [] v = refl
push_word-append f s (i ∷ u) v = push_word-append f (f s i) u v

-- pushes that differ by nothing
pub push_word-same : (f g : State → ℕ → State) → ((s : State) (i : ℕ) → f s i ≡ g s i) → (s : State) (u : List ℕ)
    → push_word f s u ≡ push_word g s u
push_word-same f g e s [] = refl
push_word-same f g e s (i ∷ u) = push_word-same f g e (f s i) u ∙ ap (λ (t : State). push_word g t u) (e s i)

-- what one push keeps
pub push_word-keeps : (f : State → ℕ → State) (V : State → Type 0) → ((s : State) (i : ℕ) → V s → V (f s i)) → (s : State) (u : List ℕ)
    → V s → V (push_word f s u)
push_word-keeps f V k s [] v = v
push_word-keeps f V k s (i ∷ u) v = push_word-keeps f V k (f s i) u (k s i v)

-- rows ride along
abbrev pub Rides : ℕ → (State → ℕ → State) → Type 0
Rides p f = (t : List ℕ) (s : State) (i : ℕ) → f (add_row p t s) i ≡ add_row p t (f s i)

pub push_word-add_row : (p : ℕ) (f : State → ℕ → State) → Rides p f → (t : List ℕ) (s : State) (u : List ℕ)
    → push_word f (add_row p t s) u ≡ add_row p t (push_word f s u)
push_word-add_row p f r t s [] = refl
push_word-add_row p f r t s (i ∷ u) =
    ap (λ (x : State). push_word f x u) (r t s i) ∙ push_word-add_row p f r t (f s i) u

pub push_configuration-add_row : (Y : RowedPresentation) (f : State → ℕ → State) → Rides Y.base.prime f
    → (t : List ℕ) (s : State) (c : Configuration)
    → push_configuration Y f (add_row Y.base.prime t s) c ≡ add_row Y.base.prime t (push_configuration Y f s c)
push_configuration-add_row Y f r t s c =
    ap (add_row Y.base.prime c.row) (push_word-add_row Y.base.prime f r t s c.word)
    ∙ add_row-swap Y.base.prime c.row t (push_word f s c.word)

-- where the sides of replacements act equally
abbrev pub Acts : ℕ → (State → ℕ → State) → (State → Type 0) → (List ℕ → List ℕ → List ℕ → Type 0) → Type 0
Acts p f V R = (s : State) → V s → (l r t : List ℕ) → R l r t → push_word f s l ≡ add_row p t (push_word f s r)

module _ (Y : RowedPresentation) (f : State → ℕ → State) (V : State → Type 0) (R : List ℕ → List ℕ → List ℕ → Type 0)
    (rides : Rides Y.base.prime f) (keeps : (s : State) (i : ℕ) → V s → V (f s i)) (acts : Acts Y.base.prime f V R) where
  pub step-acts : {c d : Configuration} → Step Y.base.prime R c d → (s : State) → V s
      → push_configuration Y f s c ≡ push_configuration Y f s d
  step-acts (replace a l r b t x h) s v =
      let at_left : State = push_word f s a in
      let whole : push_word f s (a ++ (l ++ b)) ≡ add_row Y.base.prime t (push_word f s (a ++ (r ++ b))) =
      push_word-append f s a (l ++ b)
      ∙ push_word-append f (push_word f s a) l b
      ∙ ap (λ (z : State). push_word f z b) (acts (push_word f s a) (push_word-keeps f V keeps s a v) l r t h)
      ∙ push_word-add_row Y.base.prime f rides t (push_word f (push_word f s a) r) b
      ∙ ap (add_row Y.base.prime t) (sym (push_word-append f s a (r ++ b) ∙ push_word-append f (push_word f s a) r b)) in
      ap (add_row Y.base.prime x) whole
      ∙ add_row-add_row Y.base.prime x t (push_word f s (a ++ (r ++ b)))
      ∙ ap (λ (z : List ℕ). add_row Y.base.prime z (push_word f s (a ++ (r ++ b)))) (row_sum-comm Y.base.prime t x)

  pub run-acts : {c d : Configuration} → Run Y.base.prime R c d → (s : State) → V s
      → push_configuration Y f s c ≡ push_configuration Y f s d
  run-acts stop s v = refl
  run-acts (move m n) s v = step-acts m s v ∙ run-acts n s v
