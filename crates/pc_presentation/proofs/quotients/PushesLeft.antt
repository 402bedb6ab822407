-- How far loops of pushes have come, whatever a push is: what is left to push after a step, pushed on the new element, is
-- what was left before it, pushed on the old one.
use Rattle.std.proofs.Common.{◌≡◌, ℕ, suc, ◌+◌, ◌-◌, ◌<◌, ◌≤◌, List, get_or, length, replicate, drop, ap, sym, ◌∙◌, subst, arith}
use Rattle.std.proofs.Math.ListN.{drop_of_length-le}
use Rattle.std.proofs.lemmas.List.{drop_more}
use Rattle.pq_base.specs.Presentation.{IsNormal}
use Rattle.pc_presentation.specs.declared.syllable.Syllable.{Syllable}
use Rattle.pc_presentation.specs.Pcp.{TailedPresentation}
use Rattle.pc_presentation.specs.Collection.{State, spelled, add_row, push_word}
use Rattle.pc_presentation.specs.Tailed.{Element, IsElement, with_state, places_of}
use Rattle.pc_presentation.proofs.collecting.PushLaws.{push_word-append}
use Rattle.pc_presentation.proofs.quotients.ElementConditions.{add_row-element}

-- the element after a word
abbrev pub after : (State → ℕ → State) → Element → List ℕ → Element
after f e w = with_state e (push_word f e.state w)

pub copies-left : (f : State → ℕ → State) (e e' : Element) (n k i : ℕ) → k < n → e' ≡ with_state e (f e.state i)
    → after f e' (replicate (n - (k + 1)) i) ≡ after f e (replicate (n - k) i)
copies-left f e e' n k i h q =
    let more : suc (n - (k + 1)) ≡ n - k = omega arith in
    ap (λ (z : Element). after f z (replicate (n - (k + 1)) i)) q ∙ ap (λ (m : ℕ). after f e (replicate m i)) more

pub spelled-left : (f : State → ℕ → State) (e e' : Element) (j times : ℕ) (xs : List ℕ) → j < length xs → times ≡ get_or xs j 0
    → e' ≡ after f e (replicate times ((j + 1) - 1))
    → after f e' (spelled (j + 1) (drop (j + 1) xs)) ≡ after f e (spelled j (drop j xs))
spelled-left f e e' j times xs h t q =
    let place : (j + 1) - 1 ≡ j = omega arith in
    let next : j + 1 ≡ suc j = omega arith in
    ap (λ (z : Element). after f z (spelled (j + 1) (drop (j + 1) xs))) q
    ∙ ap (λ (i : ℕ). with_state e (push_word f (push_word f e.state (replicate times i)) (spelled (j + 1) (drop (j + 1) xs)))) place
    ∙ ap (λ (m : ℕ). with_state e (push_word f (push_word f e.state (replicate m j)) (spelled (j + 1) (drop (j + 1) xs)))) t
    ∙ ap (λ (k : ℕ). with_state e (push_word f (push_word f e.state (replicate (get_or xs j 0) j)) (spelled k (drop (j + 1) xs)))) next
    ∙ ap (with_state e) (sym (push_word-append f e.state (replicate (get_or xs j 0) j) (spelled (suc j) (drop (j + 1) xs))))
    ∙ ap (λ (w : List ℕ). after f e (spelled j w)) (sym (drop_more xs j 0 h))

pub syllables-left : (f : State → ℕ → State) (e e' : Element) (k : ℕ) (w : List Syllable) (d : Syllable) → k < length w
    → e' ≡ after f e (replicate (get_or w k d).exponent ((get_or w k d).generator - 1))
    → after f e' (places_of (drop (k + 1) w)) ≡ after f e (places_of (drop k w))
syllables-left f e e' k w d h q =
    let s : Syllable = get_or w k d in
    ap (λ (z : Element). after f z (places_of (drop (k + 1) w))) q
    ∙ ap (with_state e) (sym (push_word-append f e.state (replicate s.exponent (s.generator - 1)) (places_of (drop (k + 1) w))))
    ∙ ap (λ (v : List Syllable). after f e (places_of v)) (sym (drop_more w k d h))

pub no_syllables-left : (f : State → ℕ → State) (e : Element) (k : ℕ) (w : List Syllable) → length w ≤ k
    → after f e (places_of (drop k w)) ≡ e
no_syllables-left f e k w h = ap (λ (v : List Syllable). after f e (places_of v)) (drop_of_length-le w h)

-- a row that was added
pub row_added : (T : TailedPresentation) (m e' : Element) (x y : List ℕ) → IsElement T m → IsNormal T.presentation.prime T.tails y → x ≡ y
    → e' ≡ with_state m (add_row m.prime x m.state) → IsElement T e'
row_added T m e' x y h n q r =
    subst (λ (z : Element). IsElement T z)
    (sym (r ∙ ap (λ (k : ℕ). with_state m (add_row k x m.state)) h.prime
    ∙ ap (λ (z : List ℕ). with_state m (add_row T.presentation.prime z m.state)) q))
    (add_row-element T m h y n)
