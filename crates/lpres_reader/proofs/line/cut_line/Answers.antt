use Rattle.std.proofs.Common.{◌≡◌, ℕ, List, ◌∷◌, ◌+◌, ◌-◌, length, take, drop, sym, ap, ◌∙◌, arith}
use Rattle.std.proofs.lemmas.List.{take_all, length-drop}
use Rattle.lpres_reader.specs.Lines.{lines_of}
use Rattle.lpres_reader.proofs.texts.LineLemmas.{lines_of-last, lines_of-first}
use Rattle.lpres_reader.proofs.line.cut_line.Goals as goal

pub returns-in-None-clause-lines : goal.returns-in-None-clause-lines
returns-in-None-clause-lines c = lines_of-last c.args.text.now (sym c.in-None.ensures)

pub returns-in-Some-clause-lines : goal.returns-in-Some-clause-lines
returns-in-Some-clause-lines c =
    let text = c.args.text.now in
    let at = c.in-Some.at in
    let first = lines_of-first text at (sym c.in-Some.ensures) in
    let whole : take (length text - (at + 1)) (drop (at + 1) text) ≡ drop (at + 1) text =
    take_all _ (drop (at + 1) text) (omega (arith, length-drop (at + 1) text)) in
    first.0 ∙ ap (λ (rest : List ℕ). take at text ∷ lines_of rest) (sym whole)
