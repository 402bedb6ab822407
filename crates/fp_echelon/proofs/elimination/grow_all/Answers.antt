use Rattle.std.proofs.Common.{◌≡◌, ◌<◌, ◌+◌, ap, ◌∙◌, arith}
use Rattle.std.proofs.Math.ListN.{set}
use Rattle.std.proofs.lemmas.List.{set-get_or}
use Rattle.std.proofs.lemmas.Result.{err_from_is_err_and}
use Rattle.fp_echelon.specs.Slots.{Slot, grown_slot}
use Rattle.fp_echelon.proofs.SlotLaws.{mapped_more}
use Rattle.fp_echelon.proofs.elimination.grow_all.Goals as goal

pub returns-in_err-make_room-clause-err : goal.returns-in_err-make_room-clause-err
returns-in_err-make_room-clause-err c =
    let p = err_from_is_err_and c.from_residual.result c.from_residual.ensures.1 in
    rw p.1 (
      c.loop-entry.entry-index,
      ap (set c.loop-entry.entries c.loop-entry.entry-index) c.in_err-make_room.ensures.err
          ∙ set-get_or c.loop-entry.entries c.loop-entry.entry-index c.entry-item.result
          ∙ c.loop-entry.invariant,
    )

pub loop-entry-preserved : goal.loop-entry-preserved
loop-entry-preserved c =
    mapped_more (grown_slot c.args.room) c.args.entries.now c.loop-entry.entries c.loop-entry.entry-index c.entry-item.result
    c.make_room.new.self c.loop-entry-test.true (omega arith) c.loop-entry.invariant c.in_ok-make_room.ensures.ok
