use Rattle.std.proofs.Common.{map, sym, subst}
use Rattle.std.specs.List.{All}
use Rattle.std.proofs.lemmas.List.Elements.{All-map}
use Rattle.pc_presentation.specs.Tailed.{rowed_presentation}
use Rattle.p_cover.specs.Covers.{cover_presentation}
use Rattle.derivation_log.specs.declared.source.RowSource.TheVariants.{Test}
use Rattle.tower.specs.NamedParts.{IsNamedSource, DiesIn, recorded_source}
use Rattle.tower.specs.StepKinds.{step_tests}
use Rattle.tower.proofs.TakenRows.{taken-from_none}
use Rattle.tower.proofs.classes.rows_of_class.Goals as goal

pub insert_relators-requires-clause-named : goal.insert_relators-requires-clause-named
insert_relators-requires-clause-named g c =
    subst (All (IsNamedSource c.args.pres.now)) (sym c.in_ok-sources.ensures)
    (All-map (IsNamedSource c.args.pres.now) recorded_source c.args.relators.now c.requires.named)

pub insert_relators-requires-clause-killed : goal.insert_relators-requires-clause-killed
insert_relators-requires-clause-killed g c =
    subst (All (DiesIn c.args.pres.now c.args.cover.now.answer)) (sym c.in_ok-sources.ensures)
    (All-map (DiesIn c.args.pres.now c.args.cover.now.answer) recorded_source c.args.relators.now c.requires.killed)

pub returns-clause-taken : goal.returns-clause-taken
returns-clause-taken g c =
    taken-from_none c.args.cover.now c.args.pres.now (g.C.Collect.meaning (rowed_presentation (cover_presentation c.args.cover.now)))
    c.in_ok-rows.rows c.insert_overlaps.new.self c.insert_relators.new.self (map Test (step_tests g.L.Log.FULL c.args.cover.now.answer))
    c.in_ok-sources.sources.items (map recorded_source c.args.relators.now) c.in_ok-rows.ensures.empty c.in_ok-rows.ensures.none_noted
    (c.in_ok-insert_overlaps.ensures.taken c.args.pres.now) c.insert_relators.ensures.taken c.in_ok-sources.ensures
