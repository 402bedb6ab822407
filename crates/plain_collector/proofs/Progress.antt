-- How far loops of pushes have come: what is left to push after a step, pushed on the new element, is what was left before
-- it, pushed on the old one.
use Rattle.std.proofs.Common.{◌≡◌, ℕ, ◌-◌, ◌<◌, ◌≤◌, List, length, take, drop, ap, sym, ◌∙◌, arith}
use Rattle.std.proofs.Math.ListN.{drop_of_length-le}
use Rattle.std.proofs.lemmas.List.{length-take-le}
use Rattle.pc_presentation.specs.declared.relation.Relation.TheVariants.{Commutator}
use Rattle.pc_presentation.specs.Pcp.{TailedPresentation, IsTailedPresentation}
use Rattle.pc_presentation.specs.Rowed.{RowedPresentation}
use Rattle.pc_presentation.specs.Collection.{Configuration, spelled, add_row, push_configuration, plain_push}
use Rattle.pc_presentation.specs.PushSteps.{raised, passed}
use Rattle.pc_presentation.specs.Commuting.{IsFirstCommuting, cleared_between}
use Rattle.pc_presentation.specs.Tailed.{Element, rowed_presentation, IsElement, with_state, side_with_tail}
use Rattle.pc_presentation.proofs.presentations.RelationSides.{commutator_side-numbered}
use Rattle.pc_presentation.proofs.quotients.PushesLeft.{after}
use Rattle.pc_presentation.proofs.commuting.Shortcuts.{commuting_letters_stay-numbered}

-- the letters of an element, and its row
pub side-pushed : (T : TailedPresentation) (e m e' : Element) (c : Configuration) → m ≡ after (plain_push (rowed_presentation T)) e c.word
    → e' ≡ with_state m (add_row T.presentation.prime c.row m.state)
    → e' ≡ with_state e (push_configuration (rowed_presentation T) (plain_push (rowed_presentation T)) e.state c)
side-pushed T e m e' c p q = q ∙ ap (λ (z : Element). with_state z (add_row T.presentation.prime c.row z.state)) p

-- a letter that has passed, and its right side
pub pass-step : (T : TailedPresentation) → IsTailedPresentation T → (e m e' : Element) (j i : ℕ) → 1 ≤ i → i < j → j ≤ T.presentation.rank
    → m ≡ with_state e (plain_push (rowed_presentation T) e.state (j - 1))
    → e' ≡ with_state m (push_configuration (rowed_presentation T) (plain_push (rowed_presentation T)) m.state
    (side_with_tail T (Commutator j i)))
    → e' ≡ with_state e (passed (rowed_presentation T) (i - 1) e.state (j - 1))
pass-step T is e m e' j i one less last p q =
    let Y : RowedPresentation = rowed_presentation T in
    q
    ∙ ap (λ (z : Element). with_state z (push_configuration Y (plain_push Y) z.state (side_with_tail T (Commutator j i)))) p
    ∙ ap (λ (c : Configuration). with_state e (push_configuration Y (plain_push Y) (plain_push Y e.state (j - 1)) c))
    (commutator_side-numbered T is j i one less last)

-- the whole push: the letters before place z pass
pub push-made : (T : TailedPresentation) (e c r e' : Element) (g z j : ℕ) → IsElement T e → 1 ≤ g → g ≤ T.presentation.rank
    → IsFirstCommuting (rowed_presentation T) (g - 1) z
    → c ≡ with_state e (record { exponents = cleared_between (g - 1) z e.state.exponents; row = e.state.row })
    → r ≡ with_state c (raised (rowed_presentation T) c.state (g - 1))
    → after (passed (rowed_presentation T) (g - 1)) e' (spelled j (drop j (take z e.state.exponents)))
    ≡ after (passed (rowed_presentation T) (g - 1)) r (spelled g (drop g (take z e.state.exponents)))
    → z ≤ j
    → e' ≡ with_state e (plain_push (rowed_presentation T) e.state (g - 1))
push-made T e c r e' g z j h one last first p q w past =
    let Y : RowedPresentation = rowed_presentation T in
    let xs : List ℕ = take z e.state.exponents in
    let count : length e.state.exponents ≡ T.presentation.rank = h.state.exponents.count in
    let within : z ≤ T.presentation.rank = first.within in
    let long : length (take z e.state.exponents) ≡ z = length-take-le z e.state.exponents (omega arith) in
    sym (ap (λ (v : List ℕ). after (passed Y (g - 1)) e' (spelled j v)) (drop_of_length-le xs (omega arith)))
    ∙ w
    ∙ ap (λ (y : Element). after (passed Y (g - 1)) y (spelled g (drop g xs)))
    (q ∙ ap (λ (y : Element). with_state y (raised Y y.state (g - 1))) p)
    ∙ ap (with_state e) (commuting_letters_stay-numbered T e h g z one last first)
