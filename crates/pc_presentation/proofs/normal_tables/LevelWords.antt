-- The table of a consistent presentation has exactly the class of the presentation.
use Rattle.std.proofs.Common.{◌<◌, ℕ, [], ◌∙◌, arith}
use Rattle.pq_base.specs.Table.{value}
use Rattle.pq_base.specs.Presentation.{normal_word}
use Rattle.pq_base.specs.Largest.{HasValue}
use Rattle.pq_base.proofs.words.LetterLaws.{HasLetters-normal_word}
use Rattle.pq_base.proofs.CarryLaws.{level-value, table_class-generated}
use Rattle.pq_base.proofs.SeriesLaws.{series-letters}
use Rattle.pc_presentation.specs.NormalTable.{normal_table, generator_numbers}
use Rattle.pc_presentation.specs.CollectionLaws.{TablesHaveTheClass}
use Rattle.pc_presentation.proofs.normal_tables.NormalTableLaws.{normal_words_are_a_table}

pub tables_have_the_class : TablesHaveTheClass
tables_have_the_class P h consistent k =
    let t = normal_words_are_a_table P h h.prime consistent in
    let generated : (x : ℕ) → x < (normal_table P).size → HasValue (normal_table P) (generator_numbers P) P.rank x = λ x l.
    let e = t.elements x l in
    let c = e.1.count in
    record { word = normal_word e.0; letters = HasLetters-normal_word P.rank e.0 (omega arith); is = t.normal_words e.0 e.1 ∙ e.2 } in (
      table_class-generated P (normal_table P) t.group (generator_numbers P) t.generators t.relators generated k,
      λ trivial w s. (t.joined w [] (series-letters P k w s) tt).1
          (trivial (value (normal_table P) (generator_numbers P) w)
          (level-value P (normal_table P) t.group (generator_numbers P) t.generators t.relators k w s)),
    )
