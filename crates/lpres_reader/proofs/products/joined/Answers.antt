use Rattle.std.proofs.Common.{◌≡◌, ◌++◌, List, length, ap, ap₂, sym, ◌∙◌, arith, Ok}
use Rattle.std.specs.Prelude.{ℤ}
use Rattle.std.proofs.lemmas.Result.{err_from_is_err_and}
use Rattle.std.proofs.lemmas.List.{length-append}
use Rattle.lpres_reader.proofs.recipes.ProductLaws.{too_long_given, fits-short}
use Rattle.lpres_reader.proofs.products.joined.Goals as goal

pub returns-in_err-check_letters : goal.returns-in_err-check_letters
returns-in_err-check_letters c =
    let p = err_from_is_err_and c.from_residual.result c.from_residual.ensures.1 in
    rw (
      p.1,
      p.2,
    ) (too_long_given (c.args.before ++ c.args.factor) _ c.in_err-check_letters.field-0.0
    (omega (arith, c.letters.ensures.letters, c.letters-2.ensures.letters, length-append c.args.before c.args.factor))
    c.in_err-check_letters.ensures)

pub returns : goal.returns
returns c =
    fits-short (c.args.before ++ c.args.factor)
    (omega (
      arith,
      c.in_ok-check_letters.ensures,
      c.letters.ensures.letters,
      c.letters-2.ensures.letters,
      length-append c.args.before c.args.factor,
    ))
    ∙ ap Ok (sym (c.in_ok-followed.ensures ∙ ap₂ (λ (u w : List ℤ). u ++ w) c.before-2.view_is c.in_ok-into_recipe.ensures))
