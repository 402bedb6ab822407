use Rattle.std.proofs.Common.{refl, ◌∙◌, arith}
use Rattle.std.proofs.lemmas.Result.{err_from_is_err_and}
use Rattle.lpres_reader.specs.Tokens.{name, number, symbol}
use Rattle.lpres_reader.proofs.texts.FrontLemmas.{rest_is_shorter}
use Rattle.lpres_reader.proofs.faults.Refusing.{refuses_map}
use Rattle.lpres_reader.proofs.names.GeneratorLines.{names_on-token_first}
use Rattle.lpres_reader.proofs.generators.name_behind.Goals as goal

pub returns-in-Name : goal.returns-in-Name
returns-in-Name c =
    let here = rw c.in-Name.is at (rw c.in-Some.is at c.in_ok-token.ensures) in (
      names_on-token_first c.args.line.now c.in-Some.rest.now (name c.in-Name.text.now) here,
      rest_is_shorter c.args.line.now c.in-Some.rest.now (name c.in-Name.text.now) here,
    )

pub returns-in-Number : goal.returns-in-Number
returns-in-Number c =
    let here = rw c.in-Number.is at (rw c.in-Some.is at c.in_ok-token.ensures) in
    (refl, names_on-token_first c.args.line.now c.in-Some.rest.now (number c.in-Number.field-0.now) here)

pub returns-in_ok-name_behind_symbol-in-Symbol : goal.returns-in_ok-name_behind_symbol-in-Symbol
returns-in_ok-name_behind_symbol-in-Symbol c =
    let here = rw c.in-Symbol.is at (rw c.in-Some.is at c.in_ok-token.ensures) in
    let shorter = rest_is_shorter c.args.line.now c.in-Some.rest.now (symbol c.in-Symbol.symbol) here in
    let next = c.in_ok-name_behind_symbol-in-Symbol.ensures in
    (names_on-token_first c.args.line.now c.in-Some.rest.now (symbol c.in-Symbol.symbol) here ∙ next.0, omega (arith, shorter, next.1))

pub returns-in_err-name_behind_symbol-in-Symbol : goal.returns-in_err-name_behind_symbol-in-Symbol
returns-in_err-name_behind_symbol-in-Symbol c =
    let p = err_from_is_err_and c.from_residual-in_err-name_behind_symbol-in-Symbol.result
    c.from_residual-in_err-name_behind_symbol-in-Symbol.ensures.1 in
    let here = rw c.in-Symbol.is at (rw c.in-Some.is at c.in_ok-token.ensures) in
    rw (p.1, p.2) (refuses_map _ _ c.in_err-name_behind_symbol-in-Symbol.field-0.0
    (λ k h. (h.0, names_on-token_first c.args.line.now c.in-Some.rest.now (symbol c.in-Symbol.symbol) here ∙ h.1))
    c.in_err-name_behind_symbol-in-Symbol.ensures)
