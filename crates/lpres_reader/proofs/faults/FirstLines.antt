-- The verdict on a first line, by the names that are found on it.
use Rattle.std.proofs.Common.{◌≡◌, ℕ, Bool, ℤ, List, [], Option, Some, None, Result, Ok, Err, MatchResult, if◌then◌else◌, sym, ap, subst}
use Rattle.std.proofs.Common.{◌∙◌}
use Rattle.std.proofs.lemmas.Bool.{false_from_ne_true}
use Rattle.pq_base.specs.LPresentation.{LPresentation, AreDistinct, IsLPresentation}
use Rattle.std.specs.Global.{Vec}
use Rattle.lpres_reader.specs.Presentations.{made_of}
use Rattle.lpres_reader.specs.Lines.{IsShallow}
use Rattle.lpres_reader.specs.Makes.{Makes}
use Rattle.lpres_reader.specs.Trials.{Trial, names_trials, reported}
use Rattle.lpres_reader.specs.Faults.{Kind, Deep, Syntax, RepeatedName, Limit, LineFault, fails}
use Rattle.lpres_reader.specs.Verdicts.{are_distinct, first_passed, bare, limit_verdict, names_verdict, line_verdict}
use Rattle.lpres_reader.specs.GeneratorNames.{line_names}
use Rattle.lpres_reader.proofs.faults.Decisions.{is_shallow-Decides, are_distinct-Decides}
use Rattle.lpres_reader.proofs.faults.LineVerdicts.{line_verdict-right}

abbrev IsRight : List ℕ → Result LPresentation Kind → Type 0
IsRight line r = MatchResult r (Makes None line) (LineFault None line)

-- behind brackets that are not too deep
shallow_right : (line : List ℕ) (r : Result LPresentation Kind) → IsShallow line → names_verdict (line_names line) ≡ r → IsRight line r
shallow_right line r shallow e =
    let whole : line_verdict None line ≡ r =
    ap (λ (b : Bool). if b then names_verdict (line_names line) else Err Deep) ((is_shallow-Decides line).1 shallow) ∙ e in
    subst (IsRight line) whole (line_verdict-right None line tt)

pub deep_fault : (line : List ℕ) → ¬ IsShallow line → LineFault None line Deep
deep_fault line deep = fails deep (let e : Deep ≡ Deep = λ i. Deep in e)

pub form_fault : (line : List ℕ) → IsShallow line → line_names line ≡ None → LineFault None line Syntax
form_fault line shallow e = shallow_right line (Err Syntax) shallow (ap names_verdict e)

-- with these names
abbrev of_names : Bool → List (List ℕ) → Result LPresentation Kind
of_names distinct names = if distinct then limit_verdict (first_passed (names_trials 0 names)) (Ok (bare names)) else Err RepeatedName

pub repeated_fault : (line : List ℕ) (names : List (List ℕ)) → IsShallow line → line_names line ≡ Some names → ¬ AreDistinct names
    → LineFault None line RepeatedName
repeated_fault line names shallow e same =
    let not_distinct = false_from_ne_true (are_distinct names) (λ h. same ((are_distinct-Decides names).0 h)) in
    shallow_right line (Err RepeatedName) shallow (ap names_verdict e ∙ ap (λ (b : Bool). of_names b names) not_distinct)

limits_right : (line : List ℕ) (names : List (List ℕ)) (o : Option Trial) → IsShallow line → line_names line ≡ Some names
    → AreDistinct names → first_passed (names_trials 0 names) ≡ o
    → IsRight line (limit_verdict o (Ok (bare names)))
limits_right line names o shallow e distinct first =
    shallow_right line (limit_verdict o (Ok (bare names))) shallow
    (ap names_verdict e ∙ ap (λ (b : Bool). of_names b names) ((are_distinct-Decides names).1 distinct)
    ∙ ap (λ (p : Option Trial). limit_verdict p (Ok (bare names))) first)

pub limit_fault : (line : List ℕ) (names : List (List ℕ)) (t : Trial) → IsShallow line → line_names line ≡ Some names → AreDistinct names
    → first_passed (names_trials 0 names) ≡ Some t
    → LineFault None line (Limit t.limit (reported t.limit t.size))
limit_fault line names t shallow e distinct first = limits_right line names (Some t) shallow e distinct first

pub names_made : (line : List ℕ) (names : List (List ℕ)) → IsShallow line → line_names line ≡ Some names → AreDistinct names
    → first_passed (names_trials 0 names) ≡ None → Makes None line (bare names)
names_made line names shallow e distinct first = limits_right line names None shallow e distinct first

-- a presentation that is held without relators
pub made_bare : (names : List (List ℕ)) (fixed iterated : List (List ℤ)) (endos : List (Vec (List ℤ))) → fixed ≡ [] → iterated ≡ []
    → endos ≡ [] → bare names ≡ made_of names fixed iterated endos
made_bare names fixed iterated endos f g h =
    ap (λ (x : List (List ℤ)). made_of names x [] []) (sym f)
    ∙ ap (λ (x : List (List ℤ)). made_of names fixed x []) (sym g)
    ∙ ap (λ (x : List (Vec (List ℤ))). made_of names fixed iterated x) (sym h)

pub bare_is_presentation : (names : List (List ℕ)) → AreDistinct names → IsLPresentation (bare names)
bare_is_presentation names distinct = record { distinct = distinct; fixed_words = tt; iterated_words = tt; endo_words = tt }
