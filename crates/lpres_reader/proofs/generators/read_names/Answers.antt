use Rattle.std.proofs.Common.{◌≡◌, List, ℕ, Some, None, ap, sym, subst, ◌∙◌}
use Rattle.std.specs.Borrow.{Bor}
use Rattle.std.proofs.lemmas.Result.{err_from_is_err_and}
use Rattle.pq_base.specs.LPresentation.{AreDistinct}
use Rattle.lpres_reader.specs.declared.fault.Kind.{Kind}
use Rattle.lpres_reader.specs.Lines.{IsShallow}
use Rattle.lpres_reader.specs.Faults.{LineFault}
use Rattle.lpres_reader.specs.Makes.{Makes}
use Rattle.lpres_reader.specs.Stops.{kind_of}
use Rattle.lpres_reader.specs.Verdicts.{bare}
use Rattle.lpres_reader.specs.GeneratorNames.{line_names, texts_of}
use Rattle.lpres_reader.proofs.faults.Refusing.{refuses_map}
use Rattle.lpres_reader.proofs.faults.HandedOn.{result_map}
use Rattle.lpres_reader.proofs.names.GeneratorLines.{line_names-are}
use Rattle.lpres_reader.proofs.faults.FirstLines.{form_fault, repeated_fault, limit_fault, names_made}
use Rattle.lpres_reader.proofs.generators.read_names.Goals as goal

pub returns-in_err-texts : goal.returns-in_err-texts
returns-in_err-texts c =
    let p = err_from_is_err_and c.from_residual.result c.from_residual.ensures.1 in
    let line = c.args.line.now in
    let shallow : IsShallow line = c.is_shallow.ensures.shallow c.if-not-is_shallow.false in
    rw (p.1, p.2) (refuses_map _ _ c.in_err-texts.field-0.0
    (λ k h. subst (λ (l : Kind). LineFault None line (kind_of l)) (sym h.0) (form_fault line shallow h.1)) c.in_err-texts.ensures)

pub returns-in_err-check_distinct : goal.returns-in_err-check_distinct
returns-in_err-check_distinct c =
    let p = err_from_is_err_and c.from_residual-in_err-check_distinct.result c.from_residual-in_err-check_distinct.ensures.1 in
    let line = c.args.line.now in
    let names = texts_of c.deref.result.now in
    let shallow : IsShallow line = c.is_shallow.ensures.shallow c.if-not-is_shallow.false in
    let found : line_names line ≡ Some names =
    c.in_ok-texts.ensures ∙ ap (λ (l : List (Bor (List ℕ))). Some (texts_of l)) (sym c.deref.ensures.value) in
    rw (p.1, p.2) (refuses_map _ _ c.in_err-check_distinct.field-0.0
    (λ k h. subst (λ (l : Kind). LineFault None line (kind_of l)) (sym h.0) (repeated_fault line names shallow found h.1))
    c.in_err-check_distinct.ensures)

pub names_of-requires-clause-texts : goal.names_of-requires-clause-texts
names_of-requires-clause-texts c =
    let line = c.args.line.now in
    let names = texts_of c.deref-2.result.now in
    let found : line_names line ≡ Some names =
    c.in_ok-texts.ensures ∙ ap (λ (l : List (Bor (List ℕ))). Some (texts_of l)) (sym c.deref-2.ensures.value) in
    let are = line_names-are line names found in
    are.texts

pub returns : goal.returns
returns c =
    let line = c.args.line.now in
    let names = texts_of c.deref-2.result.now in
    let shallow : IsShallow line = c.is_shallow.ensures.shallow c.if-not-is_shallow.false in
    let found : line_names line ≡ Some names =
    c.in_ok-texts.ensures ∙ ap (λ (l : List (Bor (List ℕ))). Some (texts_of l)) (sym c.deref-2.ensures.value) in
    let distinct : AreDistinct names =
    subst (λ (l : List (Bor (List ℕ))). AreDistinct (texts_of l))
    (c.deref.ensures.value ∙ sym c.deref-2.ensures.value) c.in_ok-check_distinct.ensures in
    result_map _ _ _ _ c.names_of.result
    (λ set h. (
      h.generators,
      subst (λ (ns : List (List ℕ)). Makes None line (bare ns)) (sym h.same) (names_made line names shallow found distinct h.kept),
    ))
    (λ k h. subst (LineFault None line) (sym h.2) (limit_fault line names h.0 shallow found distinct h.1)) c.names_of.ensures
