-- Copies of a generator pushed together on an element that has no letters for it to pass: where they take its exponent past the prime,
-- the power goes first, and the rest is pushed behind it.
use Rattle.std.proofs.Common.{◌≡◌, ℕ, ◌+◌, ◌-◌, ◌<◌, ◌≤◌, get_or, replicate, ap, sym, ◌∙◌, arith}
use Rattle.pc_presentation.specs.declared.relation.Relation.TheVariants.{Power}
use Rattle.pc_presentation.specs.Pcp.{TailedPresentation}
use Rattle.pc_presentation.specs.Rowed.{RowedPresentation, IsRowed}
use Rattle.pc_presentation.specs.Collection.{Configuration, push_word, push_configuration, plain_push}
use Rattle.pc_presentation.specs.PushSteps.{with_exponent}
use Rattle.pc_presentation.specs.Commuting.{IsFirstCommuting}
use Rattle.pc_presentation.specs.Tailed.{Element, rowed_presentation, IsElement, with_state, side_with_tail}
use Rattle.pc_presentation.proofs.presentations.RelationSides.{power_side-numbered}
use Rattle.pc_presentation.proofs.quotients.TailedLaws.{rowed_presentation-is}
use Rattle.pc_presentation.proofs.quotients.PushesLeft.{after}
use Rattle.pc_presentation.proofs.commuting.ShortcutLaws.{powers_wrap_before_commuting_letters}

module _ (T : TailedPresentation) (e : Element) (h : IsElement T e) (g n : ℕ) (one : 1 ≤ g) (last : g ≤ T.presentation.rank)
    (rest : ℕ) (total : get_or e.state.exponents (g - 1) 0 + n ≡ T.presentation.prime + rest) (below : rest < T.presentation.prime) where
  pub copies-behind : (z : ℕ) (m e' : Element) → IsFirstCommuting (rowed_presentation T) (g - 1) z
      → ((k : ℕ) → g ≤ k → k < z → get_or e.state.exponents k 0 ≡ 0)
      → m ≡ with_state e (push_configuration (rowed_presentation T) (plain_push (rowed_presentation T)) (with_exponent e.state (g - 1) 0)
      (side_with_tail T (Power g)))
      → e' ≡ after (plain_push (rowed_presentation T)) m (replicate rest (g - 1))
      → e' ≡ after (plain_push (rowed_presentation T)) e (replicate n (g - 1))
  copies-behind z m e' first zeros p q =
      let Y : RowedPresentation = rowed_presentation T in
      let rowed : IsRowed (rowed_presentation T) = rowed_presentation-is T h.presentation in
      q
      ∙ ap (λ (y : Element). after (plain_push Y) y (replicate rest (g - 1))) p
      ∙ ap (λ (c : Configuration). with_state e
      (push_word (plain_push Y) (push_configuration Y (plain_push Y) (with_exponent e.state (g - 1) 0) c) (replicate rest (g - 1))))
      (power_side-numbered T h.presentation g one last)
      ∙ ap (with_state e) (sym (powers_wrap_before_commuting_letters Y e.state (g - 1) z n rest rowed h.state (omega arith)
      first.after first.within first.commute (λ l a b. zeros l (omega arith) b) total below))
