use Rattle.std.proofs.Common.{[], map, ap, sym, ◌∙◌, subst}
use Rattle.std.specs.List.{All}
use Rattle.std.proofs.lemmas.List.Elements.{All-map}
use Rattle.pq_base.specs.LPresentation.{part}
use Rattle.pq_base.specs.LPresentation.Part.{iterated_part}
use Rattle.pq_base.specs.Answer.{class_of}
use Rattle.pc_presentation.specs.Tailed.{rowed_presentation}
use Rattle.p_cover.specs.Covers.{cover_presentation}
use Rattle.derivation_log.specs.declared.source.RowSource.TheVariants.{Test}
use Rattle.tower.specs.NamedParts.{IsNamedSource, DiesIn, recorded_source}
use Rattle.tower.specs.StepKinds.{step_tests}
use Rattle.tower.specs.StepRows.{HaveTaken}
use Rattle.tower.proofs.StepKinds.{step_covers-leave_out_trivial}
use Rattle.tower.proofs.TakenRows.{taken-none, taken-from_none}
use Rattle.tower.proofs.TakenSources.{only_tests-span, only_tests-trivial}
use Rattle.tower.proofs.ClassSteps.{cover-meaning, over-span}
use Rattle.tower.proofs.IteratedRows.{taken-in_part}
use Rattle.tower.proofs.SpunSteps.{iterated-named, iterated-die}
use Rattle.tower.proofs.spun_classes.rows_of_class.Goals as goal

pub closing_relators-requires-clause-left_out : goal.closing_relators-requires-clause-left_out
closing_relators-requires-clause-left_out g c =
    step_covers-leave_out_trivial g.L.Log.FULL c.args.cover.now c.requires.kind c.pcp.ensures.cover c.requires.stage.canonical

pub closing_relators-requires-clause-overlaps : goal.closing_relators-requires-clause-overlaps
closing_relators-requires-clause-overlaps g c =
    let C = c.args.cover.now in
    let push = g.C.Collect.meaning (rowed_presentation (cover_presentation C)) in
    let tests = step_tests g.L.Log.FULL C.answer in
    let R = c.insert_overlaps.new.self in
    let taken : HaveTaken c.args.pres.now C push (map Test tests) R =
    c.in_ok-insert_overlaps.ensures.taken c.args.pres.now []
    (taken-none C c.args.pres.now push c.in_ok-rows.rows c.in_ok-rows.ensures.empty c.in_ok-rows.ensures.none_noted) in
    over-span g.L.Log.FULL (part c.args.pres.now iterated_part) C.answer.presentation.prime (class_of C.answer) C c.requires.kind
    c.requires.stage push (cover-meaning g.C.Collect.meaning g.met.C.Collect.reaches C c.pcp.ensures.cover) R c.insert_overlaps.ensures.over
    (only_tests-span c.args.pres.now C push tests R taken)

pub closing_relators-requires-clause-trivial : goal.closing_relators-requires-clause-trivial
closing_relators-requires-clause-trivial g c =
    let C = c.args.cover.now in
    let push = g.C.Collect.meaning (rowed_presentation (cover_presentation C)) in
    let tests = step_tests g.L.Log.FULL C.answer in
    let R = c.insert_overlaps.new.self in
    let taken : HaveTaken c.args.pres.now C push (map Test tests) R =
    c.in_ok-insert_overlaps.ensures.taken c.args.pres.now []
    (taken-none C c.args.pres.now push c.in_ok-rows.rows c.in_ok-rows.ensures.empty c.in_ok-rows.ensures.none_noted) in
    only_tests-trivial c.args.pres.now C push tests R taken c.pcp.ensures.cover
    (cover-meaning g.C.Collect.meaning g.met.C.Collect.reaches C c.pcp.ensures.cover)

pub insert_relators-requires-clause-named : goal.insert_relators-requires-clause-named
insert_relators-requires-clause-named g c =
    let L = c.args.pres.now in
    let relators = c.in_ok-relators.relators.items in
    subst (All (IsNamedSource L)) (sym (c.in_ok-sources.ensures ∙ ap (map recorded_source) c.deref.ensures.value))
    (All-map (IsNamedSource L) recorded_source relators (iterated-named L relators c.in_ok-relators.ensures.iterated))

pub insert_relators-requires-clause-killed : goal.insert_relators-requires-clause-killed
insert_relators-requires-clause-killed g c =
    let L = c.args.pres.now in
    let A = c.args.cover.now.answer in
    let relators = c.in_ok-relators.relators.items in
    subst (All (DiesIn L A)) (sym (c.in_ok-sources.ensures ∙ ap (map recorded_source) c.deref.ensures.value))
    (All-map (DiesIn L A) recorded_source relators
    (iterated-die L A.presentation.prime (class_of A) A c.requires.stage relators c.in_ok-relators.ensures.iterated))

pub returns-clause-taken : goal.returns-clause-taken
returns-clause-taken g c =
    let C = c.args.cover.now in
    taken-from_none C c.args.pres.now (g.C.Collect.meaning (rowed_presentation (cover_presentation C))) c.in_ok-rows.rows
    c.insert_overlaps.new.self c.insert_relators.new.self (map Test (step_tests g.L.Log.FULL C.answer)) c.in_ok-sources.sources.items
    (map recorded_source c.in_ok-relators.relators.items) c.in_ok-rows.ensures.empty c.in_ok-rows.ensures.none_noted
    (c.in_ok-insert_overlaps.ensures.taken c.args.pres.now) c.insert_relators.ensures.taken
    (c.in_ok-sources.ensures ∙ ap (map recorded_source) c.deref.ensures.value)

pub returns-clause-taken_in_part : goal.returns-clause-taken_in_part
returns-clause-taken_in_part g c =
    let C = c.args.cover.now in
    taken-in_part c.args.pres.now C (g.C.Collect.meaning (rowed_presentation (cover_presentation C))) (step_tests g.L.Log.FULL C.answer)
    c.in_ok-relators.relators.items c.insert_relators.new.self c.in_ok-relators.ensures.iterated
    (taken-from_none C c.args.pres.now (g.C.Collect.meaning (rowed_presentation (cover_presentation C))) c.in_ok-rows.rows
    c.insert_overlaps.new.self c.insert_relators.new.self (map Test (step_tests g.L.Log.FULL C.answer)) c.in_ok-sources.sources.items
    (map recorded_source c.in_ok-relators.relators.items) c.in_ok-rows.ensures.empty c.in_ok-rows.ensures.none_noted
    (c.in_ok-insert_overlaps.ensures.taken c.args.pres.now) c.insert_relators.ensures.taken
    (c.in_ok-sources.ensures ∙ ap (map recorded_source) c.deref.ensures.value))
