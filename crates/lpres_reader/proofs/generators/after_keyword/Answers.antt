use Rattle.std.proofs.Common.{◌≡◌, List, ℕ, bytes_eq, refl, ap, sym, ◌∙◌}
use Rattle.std.specs.Prelude.{codes}
use Rattle.std.specs.Cmp.Lexicographic.{bytes_decides}
use Rattle.std.proofs.lemmas.Result.{err_from_is_err_and}
use Rattle.lpres_reader.specs.Tokens.{name}
use Rattle.lpres_reader.specs.Front.{token_first}
use Rattle.lpres_reader.proofs.faults.Refusing.{refuses_map}
use Rattle.lpres_reader.proofs.names.GeneratorLines.{line_names-keyword, line_names-other, line_names-unnamed}
use Rattle.lpres_reader.proofs.generators.after_keyword.Goals as goal

pub returns-in_err-keyword : goal.returns-in_err-keyword
returns-in_err-keyword c =
    let p = err_from_is_err_and c.from_residual.result c.from_residual.ensures.1 in
    rw (
      p.1,
      p.2,
    ) (refuses_map _ _ c.in_err-keyword.field-0.0 (λ k h. (h.0, line_names-unnamed c.args.line.now h.1)) c.in_err-keyword.ensures)

pub returns-then-eq : goal.returns-then-eq
returns-then-eq c =
    let is : c.in_ok-keyword.keyword.now ≡ codes "generators" =
    (bytes_decides c.in_ok-keyword.keyword.now c.as_slice.result.now).0 (sym c.eq.ensures ∙ c.if-eq.true) ∙ c.as_slice.ensures in
    line_names-keyword c.args.line.now c.in_ok-keyword.after.now
    (c.in_ok-keyword.ensures ∙ ap (λ (n : List ℕ). token_first (name n) c.in_ok-keyword.after.now) is)

pub returns-else-eq : goal.returns-else-eq
returns-else-eq c =
    let same = ap (λ (t : List ℕ). bytes_eq c.in_ok-keyword.keyword.now t) (sym c.as_slice.ensures) in (
      refl,
      line_names-other c.args.line.now c.in_ok-keyword.after.now c.in_ok-keyword.keyword.now
          (same ∙ sym c.eq.ensures ∙ c.if-eq.false) c.in_ok-keyword.ensures,
    )
