-- Where the lines of a step are put behind those of the steps before it, the lists of steps that have these lines have that step, or
-- another with the same lines, at their end.
use Rattle.std.proofs.Common.{◌≡◌, List, [], ◌∷◌, ◌++◌, ap, sym, ◌∙◌, subst}
use Rattle.std.proofs.lemmas.List.{map-append}
use Rattle.fp_echelon.specs.Basis.{Echelon, IsBasis}
use Rattle.derivation_log.specs.declared.source.RowSource.{RowSource}
use Rattle.derivation_log.specs.HeldSteps.{HeldStep, told_step, held_basis, KeepsOneMore}
use Rattle.derivation_log.specs.Certificates.{StepLines}
use Rattle.derivation_log.proofs.HeldRuns.{last-step}
use Rattle.derivation_log.specs.HeldLines.{held_lines, IsTold, AreTold, AreLinesOf}

-- the basis, whatever room it has
pub held-basis : (B : Echelon) (sources : List RowSource) → IsBasis B → IsBasis (held_basis (told_step sources B))
held-basis B sources is = record {
  prime = is.prime;
  added = is.added;
  count = is.count;
  reduced = is.reduced;
  sums = is.sums;
  spanned = is.spanned;
}

AreTold-push : (steps : List HeldStep) (s : HeldStep) → AreTold steps → IsTold s → AreTold (steps ++ s ∷ [])
AreTold-push [] s all one = (one, tt)
AreTold-push (t ∷ steps) s all one = (all.0, AreTold-push steps s all.1 one)

AreTold-front : (steps : List HeldStep) (s : HeldStep) → AreTold (steps ++ s ∷ []) → AreTold steps
AreTold-front [] s all = tt
AreTold-front (t ∷ steps) s all = (all.0, AreTold-front steps s all.1)

-- the lines of one step more
pub lines-push : (lines : List StepLines) (steps : List HeldStep) (s : HeldStep) → AreLinesOf lines steps → IsTold s
    → AreLinesOf (lines ++ held_lines s ∷ []) (steps ++ s ∷ [])
lines-push lines steps s are told = record {
  are = ap (λ (ls : List StepLines). ls ++ held_lines s ∷ []) are.are ∙ sym (map-append held_lines steps (s ∷ []));
  told = AreTold-push steps s are.told told;
}

pub lines-one_more : (before after : List StepLines) (s : HeldStep) → IsTold s → after ≡ before ++ held_lines s ∷ []
    → KeepsOneMore (AreLinesOf before) (AreLinesOf after) s
lines-one_more before after s told e = record {
  appended = λ steps h. subst (λ (ls : List StepLines). AreLinesOf ls (steps ++ s ∷ [])) (sym e) (lines-push before steps s h told);
  one_more = λ steps h.
      let rest = last-step held_lines before (held_lines s) steps (sym e ∙ h.are) in (
        rest.0,
        rest.1,
        record { are = rest.2; told = AreTold-front rest.0 rest.1 (subst AreTold rest.3 h.told) },
        rest.3,
      );
}
