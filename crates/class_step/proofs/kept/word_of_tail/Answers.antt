use Rattle.std.proofs.Common.{◌≡◌, IfOk, List, map, ap, sym, ◌∙◌, subst}
use Rattle.std.specs.Prelude.{All}
use Rattle.std.proofs.lemmas.Bool.{iff_false}
use Rattle.fp_rows.specs.Row.{PrimeRow, at_column, IsColumn}
use Rattle.fp_echelon.specs.Reduction.{negative}
use Rattle.pc_presentation.specs.declared.syllable.Syllable.{Syllable}
use Rattle.pc_presentation.specs.Syllable.{syllables_of}
use Rattle.class_step.proofs.kept_tails.TailParts.{part-pivot, part-no_pivot, part-columns}
use Rattle.class_step.proofs.kept.word_of_tail.Goals as goal

pub negated_entries-requires-clause-columns : goal.negated_entries-requires-clause-columns
negated_entries-requires-clause-columns c =
    subst (λ (r : PrimeRow). All (IsColumn r.entries) c.args.kept.now) (sym c.row.ensures.row)
    (part-columns c.args.basis.now c.width-conditions.ensures.basis c.args.kept.now c.requires.kept c.args.tail c.requires.first
    c.requires.last
    (c.is_pivot.ensures.pivot.0 c.if-is_pivot.true))

pub returns-then-is_pivot : goal.returns-then-is_pivot
returns-then-is_pivot c =
    subst (λ (w : List Syllable). IfOk c.negated_entries.result (λ v. v.items ≡ w))
    (ap (λ (r : PrimeRow). syllables_of 0 (map (λ d. negative r.prime (at_column r.entries d)) c.args.kept.now)) c.row.ensures.row
    ∙ part-pivot c.args.basis.now c.width-conditions.ensures.basis c.args.kept.now c.requires.kept c.args.tail c.requires.first
    c.requires.last
    (c.is_pivot.ensures.pivot.0 c.if-is_pivot.true))
    c.negated_entries.ensures

pub returns-else-is_pivot : goal.returns-else-is_pivot
returns-else-is_pivot c =
    subst (λ (w : List Syllable). IfOk c.unit_word.result (λ v. v.items ≡ w))
    (part-no_pivot c.args.basis.now c.width-conditions.ensures.basis c.args.kept.now c.requires.kept c.args.tail c.requires.first
    c.requires.last
    (iff_false c.is_pivot.ensures.pivot c.if-is_pivot.false))
    c.unit_word.ensures
