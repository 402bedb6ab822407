use Rattle.std.proofs.Common.{ap, refl, ◌∙◌}
use Rattle.lpres_reader.specs.declared.token.Symbol.{Symbol}
use Rattle.lpres_reader.specs.Tokens.{name, symbol}
use Rattle.lpres_reader.specs.GeneratorNames.{names_from}
use Rattle.lpres_reader.proofs.texts.FrontLemmas.{rest_is_shorter}
use Rattle.lpres_reader.proofs.faults.HandedOn.{result_map}
use Rattle.lpres_reader.proofs.names.GeneratorLines.{names_from-symbol, names_at-name, names_at-unnamed}
use Rattle.lpres_reader.proofs.generators.name_behind_symbol.Goals as goal

pub returns-in-Comma : goal.returns-in-Comma
returns-in-Comma c =
    let rest = c.args.rest.now in
    let comma = ap (λ (s : Symbol). names_from (symbol s) rest) c.in-Comma.is in
    result_map _ _ _ _ c.next_name.result
    (λ found h. (comma ∙ names_at-name rest found.1.now found.0.now h, rest_is_shorter rest found.1.now (name found.0.now) h))
    (λ k h. (h.0, comma ∙ names_at-unnamed rest h.1)) c.next_name.ensures

pub returns-in_default : goal.returns-in_default
returns-in_default c = (refl, names_from-symbol c.args.symbol c.args.rest.now c.in_default.not-Comma)
