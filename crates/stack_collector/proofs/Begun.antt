-- A push that is begun: the letters before the place from which on all commute are set aside and cleared, the generator's
-- exponent is raised, and what its frame owes then gives what the push gives.
use Rattle.std.proofs.Common.{◌≡◌, ℕ, suc, ◌-◌, ◌≤◌, Bool, List, get_or, length, take, drop, ap, sym, ◌∙◌, arith, eq-eqb}
use Rattle.pc_presentation.specs.declared.relation.Relation.TheVariants.{Power}
use Rattle.pc_presentation.specs.Pcp.{TailedPresentation, right_side, side_word, tail_of, row_of}
use Rattle.pc_presentation.specs.Rowed.{RowedPresentation}
use Rattle.pc_presentation.specs.Collection.{Configuration, State, spelled, add_row, push_word, push_configuration, plain_push}
use Rattle.pc_presentation.specs.PushSteps.{with_exponent, raised_by, raised, passed}
use Rattle.pc_presentation.specs.Commuting.{IsFirstCommuting, AreBetween, cleared_between}
use Rattle.pc_presentation.specs.Tailed.{Element, rowed_presentation, IsElement, with_state, side_with_tail, places_of}
use Rattle.pc_presentation.proofs.collecting.PushLaws.{push_word-add_row}
use Rattle.pc_presentation.proofs.collecting.PlainRule.{plain-rides}
use Rattle.pc_presentation.proofs.presentations.RelationSides.{power_side-numbered}
use Rattle.pc_presentation.proofs.quotients.TailedLaws.{places_of-syllables_of}
use Rattle.pc_presentation.proofs.commuting.Shortcuts.{commuting_letters_stay-numbered}
use Rattle.pc_presentation.proofs.commuting.ExponentsBetween.{between-parts}
use Rattle.stack_collector.specs.declared.frame.Frame.{Frame}
use Rattle.stack_collector.specs.Frames.{pushed, finished}

-- where the exponent becomes the prime, the row of the power is added, and its word is to be pushed
pub raised-past : (T : TailedPresentation) (e m e' : Element) (g : ℕ) → IsElement T e → 1 ≤ g → g ≤ T.presentation.rank
    → suc (get_or e.state.exponents (g - 1) 0) ≡ T.presentation.prime
    → m ≡ with_state e (with_exponent e.state (g - 1) 0)
    → e' ≡ with_state m (add_row T.presentation.prime (row_of T.tails (tail_of T (Power g))) m.state)
    → pushed T e' (places_of (side_word T.presentation (Power g))) ≡ with_state e (raised (rowed_presentation T) e.state (g - 1))
raised-past T e m e' g h one last past p q =
    let Y : RowedPresentation = rowed_presentation T in
    let zeroed : State = with_exponent e.state (g - 1) 0 in
    let side : Configuration = side_with_tail T (Power g) in
    ap (pushed T e') (places_of-syllables_of g (right_side T.presentation (Power g)))
    ∙ ap (λ (z : Element). pushed T z side.word) (q ∙ ap (λ (z : Element). with_state z (add_row T.presentation.prime side.row z.state)) p)
    ∙ ap (with_state e) (push_word-add_row T.presentation.prime (plain_push Y) (plain-rides Y Y.base.rank 0) side.row zeroed side.word)
    ∙ ap (λ (c : Configuration). with_state e (push_configuration Y (plain_push Y) zeroed c))
    (power_side-numbered T h.presentation g one last)
    ∙ ap (λ (b : Bool). with_state e (raised_by b Y e.state (g - 1)))
    (sym (eq-eqb (suc (get_or e.state.exponents (g - 1) 0)) T.presentation.prime past))

-- the frame of the push of generator g, before place z
abbrev pub begun_frame : ℕ → ℕ → ℕ → ℕ → List ℕ → Frame
begun_frame g z place syllables later = record {
  generator = g;
  letter = g;
  copies = 0;
  relation = Power g;
  place = place;
  syllables = syllables;
  next = g;
  times = 0;
  later = later;
  end = z;
}

module _ (T : TailedPresentation) (e : Element) (h : IsElement T e) (g z place syllables : ℕ) (later : List ℕ) (one : 1 ≤ g)
    (last : g ≤ T.presentation.rank)
    (first : IsFirstCommuting (rowed_presentation T) (g - 1) z) where
  pub begun-pushes : (c r : Element) → AreBetween g z e.state.exponents later
      → c ≡ with_state e (record { exponents = cleared_between (g - 1) z e.state.exponents; row = e.state.row })
      → pushed T r (places_of (drop place (side_word T.presentation (Power g))))
      ≡ with_state c (raised (rowed_presentation T) c.state (g - 1))
      → finished T (begun_frame g z place syllables later) r ≡ with_state e (plain_push (rowed_presentation T) e.state (g - 1))
  begun-pushes c r between p q =
      let Y : RowedPresentation = rowed_presentation T in
      let count : length e.state.exponents ≡ T.presentation.rank = h.state.exponents.count in
      let limit = h.presentation.rank_limit in
      let within : z ≤ T.presentation.rank = first.within in
      let cleared : State = record { exponents = cleared_between (g - 1) z e.state.exponents; row = e.state.row } in
      let pass : Element → List ℕ → Element = λ y v. with_state y (push_word (passed Y (g - 1)) y.state (spelled g v)) in
      ap (λ (y : Element). pass y (drop g (take z later))) q
      ∙ ap (λ (y : Element). pass (with_state y (raised Y y.state (g - 1))) (drop g (take z later))) p
      ∙ ap (pass (with_state e (raised Y cleared (g - 1)))) (between-parts g z e.state.exponents later (omega arith) (omega arith) between)
      ∙ ap (with_state e) (commuting_letters_stay-numbered T e h g z one last first)
