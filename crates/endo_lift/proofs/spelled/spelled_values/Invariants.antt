use Rattle.std.proofs.Common.{◌≡◌, length}
use Rattle.pc_presentation.specs.Scratch.{IsScratch}
use Rattle.p_cover.specs.Covers.{cover_presentation}
use Rattle.endo_lift.specs.Values.{AreSpelled}
use Rattle.endo_lift.proofs.spelled.spelled_values.Given as goal

abbrev pub invariant-loop-k : goal.invariant-loop-k
invariant-loop-k g l =
    IsScratch (cover_presentation l.cover) l.s × (length l.elements.items ≡ l.k) × AreSpelled l.cover l.endo l.elements.items
