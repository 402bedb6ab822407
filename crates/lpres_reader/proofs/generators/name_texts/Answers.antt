use Rattle.std.proofs.Common.{[], ◌∷◌, ◌++◌, ap, ◌∙◌}
use Rattle.lpres_reader.proofs.names.GeneratorLines.{names_at-name}
use Rattle.lpres_reader.proofs.texts.LineTexts.{first_text, next_text}
use Rattle.lpres_reader.proofs.generators.name_texts.Goals as goal

pub loop-texts-init : goal.loop-texts-init
loop-texts-init c =
    let first = names_at-name c.in_ok-after_keyword.field-0.now c.in_ok-first.after.now c.in_ok-first.first.now c.in_ok-first.ensures in
    first_text c.args.line.now c.in_ok-first.after.now c.in_ok-first.first c.push.new.self.items
    (c.in_ok-push.ensures.items ∙ ap (λ l. l ++ c.in_ok-first.first ∷ []) c.new-texts.ensures.items)
    (c.in_ok-after_keyword.ensures ∙ first)

pub loop-texts-preserved : goal.loop-texts-preserved
loop-texts-preserved c =
    let here = rw c.in-Some.is at c.in_ok-text.ensures in
    next_text c.args.line.now c.loop-texts.rest.now c.in-Some.after.now c.in-Some.text c.loop-texts.texts.items
    c.push-in-Some.new.self.items c.in_ok-push-2.ensures.items here.0 c.loop-texts.invariant
