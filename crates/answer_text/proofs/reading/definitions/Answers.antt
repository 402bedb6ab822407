use Rattle.std.proofs.Common.{◌≡◌, ◌<◌, ◌+◌, ◌++◌, [], ◌∷◌, ℕ, suc, List, get_or, length, map, take, ap, sym, subst, ◌∙◌, arith}
use Rattle.std.proofs.Math.Seq.{take-suc}
use Rattle.std.proofs.lemmas.List.{map-append}
use Rattle.pc_presentation.specs.declared.definition.Definition.{Definition}
use Rattle.pc_presentation.specs.Definition.{definition_of}
use Rattle.pq_base.specs.Answer.{Definition as Meaning}
use Rattle.answer_text.specs.declared.source.Source.{Source}
use Rattle.answer_text.specs.Sources.{Resolves, AreResolved}
use Rattle.answer_text.proofs.lines.SourceLines.{AreResolved-push}
use Rattle.answer_text.proofs.reading.definitions.Goals as goal

next : (names : List (List ℕ)) (ss : List Source) (i j : ℕ) (s : Source) (ds es : List Definition) (d : Definition) → i < length ss
    → j ≡ suc i → s ≡ get_or ss i s → es ≡ ds ++ d ∷ []
    → AreResolved names (take i ss) (map definition_of ds) → Resolves names s (definition_of d)
    → AreResolved names (take j ss) (map definition_of es)
next names ss i j s ds es d h after same push a r =
    let sources : take i ss ++ s ∷ [] ≡ take j ss =
    ap (λ (x : Source). take i ss ++ x ∷ []) same ∙ sym (take-suc ss i s h) ∙ ap (λ (k : ℕ). take k ss) (sym after) in
    let definitions : map definition_of ds ++ definition_of d ∷ [] ≡ map definition_of es =
    sym (map-append definition_of ds (d ∷ [])) ∙ ap (λ (x : List Definition). map definition_of x) (sym push) in
    subst (λ (x : List Source). AreResolved names x (map definition_of es)) sources
    (subst (λ (x : List Meaning). AreResolved names (take i ss ++ s ∷ []) x) definitions
    (AreResolved-push names (take i ss) (map definition_of ds) s (definition_of d) a r))

pub loop-source-preserved : goal.loop-source-preserved
loop-source-preserved c =
    next c.args.names.now c.args.sources.now c.loop-source.source-index
    (c.loop-source.source-index + 1) c.source-item.result c.loop-source.definitions.items c.push.new.self.items c.definition.result
    (omega (arith, c.loop-source-test.true)) (omega arith) c.source-item.is c.in_ok-push.ensures.items c.loop-source.invariant
    c.definition.ensures
