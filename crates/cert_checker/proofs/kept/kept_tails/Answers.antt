use Rattle.std.proofs.Common.{◌≡◌, ◌+◌, true, false, ◌++◌, ◌∷◌, [], ℕ, List, sym, ap, ◌∙◌}
use Rattle.cover_quotient.specs.Kept.{is_listed}
use Rattle.cert_checker.specs.KeptTails.{tails_of, IsLineOf}
use Rattle.cert_checker.proofs.ListSteps.{none-holds, some-holds}
use Rattle.cert_checker.proofs.KeptTails.{kept-without_line, kept-with_line}
use Rattle.cert_checker.proofs.kept.kept_tails.Goals as goal
use Rattle.cert_checker.proofs.kept.kept_tails.Goals.{then-is_none+in_ok-push, else-is_none}

pub loop-t-preserved : goal.loop-t-preserved
loop-t-preserved c = elim c.if-is_none.branch [
  | then-is_none+in_ok-push w ↦
      ap (λ v. v.items) w.kept-is ∙ w.in_ok-push.ensures.items
      ∙ ap (λ (l : List ℕ). l ++ (c.loop-t.t + 1) ∷ []) c.loop-t.invariant
      ∙ sym (kept-without_line c.loop-t.t c.args.lines.now
      (none-holds (is_listed (c.loop-t.t + 1) (tails_of c.args.lines.now) ≡ false) c.line_of.result c.line_of.ensures.none
      w.if-is_none.ensures))
  | else-is_none w ↦
      ap (λ v. v.items) w.kept-is ∙ c.loop-t.invariant
      ∙ sym (kept-with_line c.loop-t.t c.args.lines.now
      (some-holds (is_listed (c.loop-t.t + 1) (tails_of c.args.lines.now) ≡ true)
      (λ line. IsLineOf c.args.lines.now (c.loop-t.t + 1) line.now) c.line_of.result c.line_of.ensures.some w.if-is_none.ensures
      (λ line is. is.listed)))
]
