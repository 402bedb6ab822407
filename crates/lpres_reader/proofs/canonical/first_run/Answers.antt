use Rattle.std.proofs.Common.{◌≡◌, ◌≤◌, ℤ, pos, List, ◌∷◌, length, FitsSigned, w32, ap, ap₂, sym, ◌∙◌, arith, rules}
use Rattle.std.specs.List.{prefix_len}
use Rattle.std.specs.Ordering.{int_eq}
use Rattle.std.proofs.lemmas.Int.{to_z-of_z}
use Rattle.lpres_reader.specs.Runs.{run, runs_of}
use Rattle.lpres_reader.proofs.canonical_texts.RunLaws.{runs_of-next}
use Rattle.lpres_reader.proofs.canonical.first_run.Goals as goal

pub returns-clause-run : goal.returns-clause-run
returns-clause-run c =
    let word : List ℤ = c.args.word.now in
    let letter : ℤ = c.in_ok-letter.letter.now in
    let fits : FitsSigned w32 letter = search rules in
    let some : 1 ≤ length word = omega (arith, c.in_ok-letter.ensures.item.3.0) in
    let same = to_z-of_z w32 letter fits in
    let size : c.run_size-size.result ≡ prefix_len (int_eq letter) word =
    c.run_size-size.ensures.size ∙ ap (λ (k : ℤ). prefix_len (int_eq k) word) same in
    let first = runs_of-next word letter (pos 0) c.run_size-size.result some (sym (c.in_ok-letter.ensures.item.3.1 (pos 0))) size in
    first.0 ∙ ap₂ (λ (k : ℤ) (w : List ℤ). run k c.run_size-size.result ∷ runs_of w) (sym same) (sym c.split_at.ensures.back)
