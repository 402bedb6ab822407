-- A line of a generator more is read.
use Rattle.std.proofs.Common.{◌≡◌, ◌≤◌, ◌+◌, ℕ, List, [], ◌∷◌, ◌++◌, length, ap, ap₂, sym, subst, ◌∙◌, arith, length-append}
use Rattle.pq_base.specs.Limits.{max_class}
use Rattle.pq_base.specs.Lines.{text_of_lines}
use Rattle.answer_text.specs.declared.source.Source.{Source}
use Rattle.answer_text.specs.AnswerPlaces.{IsSource, source_line}
use Rattle.answer_text.specs.ReadSoFar.{source_lines, AreSources}
use Rattle.answer_text.proofs.lines.SourceLines.{source_lines-push, AreSources-push}
use Rattle.answer_text.proofs.lines.BadLines.{text-push}

pub length-push : {X : Type 0} (xs ys : List X) (x : X) (k : ℕ) → ys ≡ xs ++ x ∷ [] → length xs ≡ k → length ys ≡ k + 1
length-push {X} xs ys x k e h =
    let long : length ys ≡ length (xs ++ x ∷ []) = ap (λ (zs : List X). length zs) e in
    let sum : length (xs ++ x ∷ []) ≡ length xs + length (x ∷ []) = length-append xs (x ∷ []) in
    omega arith

pub legible-push : (n : ℕ) (ws vs : List ℕ) (ss ts : List Source) (w : ℕ) (s : Source) → vs ≡ ws ++ w ∷ [] → ts ≡ ss ++ s ∷ []
    → length ss ≡ length ws
    → AreSources n ws ss → 1 ≤ w → w ≤ max_class → IsSource n s → AreSources n vs ts
legible-push n ws vs ss ts w s e g long a one top is =
    subst (λ (x : List ℕ). AreSources n x ts) (sym e)
    (subst (λ (x : List Source). AreSources n (ws ++ w ∷ []) x) (sym g) (AreSources-push n ws ss w s a one top is long))

pub lines-push : (p j : ℕ) (ws vs : List ℕ) (ss ts : List Source) (w : ℕ) (s : Source) (text rest more line : List ℕ) → vs ≡ ws ++ w ∷ []
    → ts ≡ ss ++ s ∷ [] → length ss ≡ length ws
    → j ≡ length ws + 1 → text ≡ text_of_lines (source_lines p 0 ws ss) ++ rest → rest ≡ line ++ 10 ∷ more → line ≡ source_line p j w s
    → text ≡ text_of_lines (source_lines p 0 vs ts) ++ more
lines-push p j ws vs ss ts w s text rest more line e g long at lines cut same =
    text-push (source_lines p 0 ws ss) (source_line p j w s) text rest more lines (cut ∙ ap (λ (x : List ℕ). x ++ 10 ∷ more) same)
    ∙ ap (λ (x : List (List ℕ)). text_of_lines x ++ more)
    (sym (source_lines-push p 0 j ws ss w s long (omega arith))
    ∙ ap₂ (λ (x : List ℕ) (y : List Source). source_lines p 0 x y) (sym e) (sym g))
