-- The first bad line behind what was read of relations and images.
use Rattle.std.proofs.Common.{◌≡◌, ◌+◌, ℕ, true, List, [], ◌∷◌, ◌++◌, length, refl, sym, subst, arith}
use Rattle.std.specs.Prelude.{codes}
use Rattle.answer_text.specs.declared.fault.AnswerFault.TheVariants.{Line}
use Rattle.answer_text.specs.Lines.{avoids}
use Rattle.answer_text.specs.AnswerPlaces.{Place, HasForm}
use Rattle.answer_text.specs.AnswerPlaces.Place.{in_body, at_end}
use Rattle.answer_text.specs.AnswerPlaces.HasForm.{last}
use Rattle.answer_text.specs.AnswerFaults.{IsFirstBad}
use Rattle.answer_text.specs.ReadSoFar.{IsBadAt}
use Rattle.answer_text.specs.Drafts.{IsDraft, SoFar}
use Rattle.answer_text.specs.BodyRead.{body_lines, IsBodyRead}
use Rattle.answer_text.proofs.FormLaws.{tells_places}
use Rattle.answer_text.proofs.faults.FaultLaws.{IsFirstBad-here, IsFirstBad-step}
use Rattle.answer_text.proofs.lines.BadLines.{no-line, bad-line, open-body, IsFirstBad-behind}

pub IsBadAt-body : (p n number k at : ℕ) (ws text rest : List ℕ) (S : SoFar) → IsBodyRead p n ws text rest number S
    → IsFirstBad (in_body p n 0 S.place) rest k → at ≡ number + k
    → IsBadAt (in_body p n 0 0) text (n + 5) (Line at)
IsBadAt-body p n number k at ws text rest S b bad here =
    let count : number ≡ n + 5 + length (body_lines p S) = b.numbered in (
      length (body_lines p S) + k,
      omega arith,
      IsFirstBad-behind (in_body p n 0 0) (in_body p n 0 S.place) (body_lines p S) text rest k b.leads b.lines bad,
    )

-- no whole line
pub no_line-body : (p n number : ℕ) (ws text rest : List ℕ) (S : SoFar) → IsBodyRead p n ws text rest number S → avoids 10 rest ≡ true
    → IsBadAt (in_body p n 0 0) text (n + 5) (Line number)
no_line-body p n number ws text rest S b none =
    IsBadAt-body p n number 0 number ws text rest S b (no-line (in_body p n 0 S.place) rest (open-body p n 0 S.place) none) (omega arith)

-- a line that may only be the last one, but isn't
pub bad_line-body : (p n number : ℕ) (ws text rest line more : List ℕ) (S : SoFar) → IsBodyRead p n ws text rest number S
    → rest ≡ line ++ 10 ∷ more → avoids 10 line ≡ true
    → (IsDraft p n S.draft S.place → (Q : Place) → HasForm (in_body p n 0 S.place) line Q → line ≡ codes "end") → ¬ (line ≡ codes "end")
    → IsBadAt (in_body p n 0 0) text (n + 5) (Line number)
bad_line-body p n number ws text rest line more S b cut whole only other =
    IsBadAt-body p n number 0 number ws text rest S b
    (bad-line (in_body p n 0 S.place) rest line more cut whole (λ Q f. other (only b.draft Q f))) (omega arith)

-- something behind the last line
pub behind_end-body : (p n number after : ℕ) (ws text rest line more : List ℕ) (S : SoFar) → IsBodyRead p n ws text rest number S
    → rest ≡ line ++ 10 ∷ more → line ≡ codes "end"
    → ¬ (more ≡ []) → after ≡ number + 1 → IsBadAt (in_body p n 0 0) text (n + 5) (Line after)
behind_end-body p n number after ws text rest line more S b cut is some one =
    let bad : IsFirstBad at_end more 0 =
    IsFirstBad-here at_end more (λ l rest2 Q f e. tells_places.nothing_follows at_end Q l refl f) (λ e none. some none) in
    let form : HasForm (in_body p n 0 S.place) line at_end =
    subst (λ (x : List ℕ). HasForm (in_body p n 0 S.place) x at_end) (sym is) (last p n S.place) in
    IsBadAt-body p n number 1 after ws text rest S b (IsFirstBad-step (in_body p n 0 S.place) at_end line more rest 0 form cut bad) one
