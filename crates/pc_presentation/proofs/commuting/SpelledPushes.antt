-- Letters of exponents pushed one after the other: pushes that are equal at the letters that come have equal ends, and a
-- map of states that goes through the push of each letter goes through the pushes of all.
use Rattle.std.proofs.Common.{◌≡◌, ◌≢◌, ℕ, zero, suc, ◌+◌, ◌≤◌, List, [], ◌∷◌, ◌++◌, map, length, get_or, replicate, refl, ap, sym, ◌∙◌}
use Rattle.std.proofs.Common.{arith, append_assoc}
use Rattle.pc_presentation.specs.Collection.{State, spelled, push_word}
use Rattle.pc_presentation.proofs.collecting.PushLaws.{push_word-append, push_word-keeps}

-- letters counted from one place further
abbrev pub shifted : (State → ℕ → State) → State → ℕ → State
shifted f s j = f s (suc j)

pub push_word-shifted : (f : State → ℕ → State) (s : State) (u : List ℕ) → push_word f s (map suc u) ≡ push_word (shifted f) s u
push_word-shifted f s [] = refl
push_word-shifted f s (i ∷ u) = push_word-shifted f (f s (suc i)) u

pub spelled-append : (a : ℕ) (g h : List ℕ) → spelled a (g ++ h) ≡ spelled a g ++ spelled (a + length g) h
spelled-append a [] h =
    let e : a ≡ a + 0 = omega arith in
    ap (λ (b : ℕ). spelled b h) e
spelled-append a (e ∷ g) h =
    let l : suc a + length g ≡ a + suc (length g) = omega arith in
    ap (λ (u : List ℕ). replicate e a ++ u) (spelled-append (suc a) g h)
    ∙ ap (λ (b : ℕ). replicate e a ++ (spelled (suc a) g ++ spelled b h)) l
    ∙ sym (append_assoc (replicate e a) (spelled (suc a) g) (spelled (a + suc (length g)) h))

pub spelled-zeros_before : (i a : ℕ) (h : List ℕ) → spelled i (replicate a 0 ++ h) ≡ spelled (i + a) h
spelled-zeros_before i zero h =
    let e : i ≡ i + 0 = omega arith in
    ap (λ (b : ℕ). spelled b h) e
spelled-zeros_before i (suc a) h =
    let e : suc i + a ≡ i + suc a = omega arith in
    spelled-zeros_before (suc i) a h ∙ ap (λ (b : ℕ). spelled b h) e

-- pushes f, which keep V
module _ (f : State → ℕ → State) (V : State → Type 0) (keeps : (s : State) (i : ℕ) → V s → V (f s i)) where
  -- pushes g are equal to them
  module _ (g : State → ℕ → State) where
    pub copies-same : (e i : ℕ) (s : State) → ((t : State) → V t → g t i ≡ f t i) → V s
        → push_word g s (replicate e i) ≡ push_word f s (replicate e i)
    copies-same zero i s same v = refl
    copies-same (suc e) i s same v =
        ap (λ (t : State). push_word g t (replicate e i)) (same s v) ∙ copies-same e i (f s i) same (keeps s i v)

    pub spelled-same : (h : List ℕ) (a : ℕ) (s : State)
        → ((t : State) (l j : ℕ) → V t → l ≡ a + j → get_or h j 0 ≢ 0 → g t l ≡ f t l)
        → V s → push_word g s (spelled a h) ≡ push_word f s (spelled a h)
    spelled-same [] a s same v = refl
    spelled-same (zero ∷ h) a s same v = spelled-same h (suc a) s (λ t l j w e n. same t l (suc j) w (omega arith) n) v
    spelled-same (suc e ∷ h) a s same v =
        push_word-append g s (replicate (suc e) a) (spelled (suc a) h)
        ∙ ap (λ (t : State). push_word g t (spelled (suc a) h)) (copies-same (suc e) a s (λ t w. same t a 0 w (omega arith) (λ q. cc)) v)
        ∙ spelled-same h (suc a) (push_word f s (replicate (suc e) a)) (λ t l j w q n. same t l (suc j) w (omega arith) n)
        (push_word-keeps f V keeps s (replicate (suc e) a) v)
        ∙ sym (push_word-append f s (replicate (suc e) a) (spelled (suc a) h))

  -- the map m goes through them
  module _ (m : State → State) where
    pub word-through : ((t : State) (i : ℕ) → V t → m (f t i) ≡ f (m t) i) → (s : State) (u : List ℕ) → V s
        → m (push_word f s u) ≡ push_word f (m s) u
    word-through goes s [] v = refl
    word-through goes s (i ∷ u) v = word-through goes (f s i) u (keeps s i v) ∙ ap (λ (t : State). push_word f t u) (goes s i v)

    copies-through : (e i : ℕ) (s : State) → ((t : State) → V t → m (f t i) ≡ f (m t) i) → V s
        → m (push_word f s (replicate e i)) ≡ push_word f (m s) (replicate e i)
    copies-through zero i s goes v = refl
    copies-through (suc e) i s goes v =
        copies-through e i (f s i) goes (keeps s i v) ∙ ap (λ (t : State). push_word f t (replicate e i)) (goes s v)

    pub spelled-through : (h : List ℕ) (a : ℕ) (s : State) → ((t : State) (j : ℕ) → V t → a ≤ j → m (f t j) ≡ f (m t) j) → V s
        → m (push_word f s (spelled a h)) ≡ push_word f (m s) (spelled a h)
    spelled-through [] a s goes v = refl
    spelled-through (e ∷ h) a s goes v =
        ap m (push_word-append f s (replicate e a) (spelled (suc a) h))
        ∙ spelled-through h (suc a) (push_word f s (replicate e a)) (λ t j w l. goes t j w (omega arith))
        (push_word-keeps f V keeps s (replicate e a) v)
        ∙ ap (λ (t : State). push_word f t (spelled (suc a) h)) (copies-through e a s (λ t w. goes t a w (omega arith)) v)
        ∙ sym (push_word-append f (m s) (replicate e a) (spelled (suc a) h))
