use Rattle.std.proofs.Common.{◌≡◌, ◌++◌, length, ap, arith}
use Rattle.pc_presentation.specs.declared.syllable.Syllable.{Syllable}
use Rattle.pc_presentation.proofs.presentations.StoreLaws.{entries_of-put}
use Rattle.pc_presentation.proofs.store.Store.put.Goals as goal

pub returns-clause-ok : goal.returns-clause-ok
returns-clause-ok c =
    let longer : c.extend_from_slice.new.self.items ≡ c.self.inside.syllables.items ++ c.args.word.now =
    c.in_ok-extend_from_slice.ensures.items in
    let long = ap (length {A = Syllable}) longer in
    rw (← c.self.view_is, longer)
    (entries_of-put c.self.inside.syllables.items c.args.word.now c.self.inside.places.items c.args.number
    c.len-start.result c.len.result c.args.tail c.self.invariant (omega arith) (omega arith))
