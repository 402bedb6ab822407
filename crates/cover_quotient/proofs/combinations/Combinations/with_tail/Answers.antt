use Rattle.std.proofs.Common.{◌≡◌, ◌++◌, ◌-◌, [], List, length, map, get_or, ap, sym, ◌∙◌, append-nil}
use Rattle.pc_presentation.specs.declared.syllable.Syllable.{Syllable}
use Rattle.cover_quotient.specs.NextParts.{shifted}
use Rattle.cover_quotient.proofs.next_answers.CombinedTails.{syllables_move, tail_part-none, tail_part-some}
use Rattle.cover_quotient.proofs.combinations.Combinations.with_tail.Goals as goal
use Rattle.cover_quotient.proofs.combinations.Combinations.with_tail.Goals.{in-Some+in_ok-push_shifted, in_default}

pub push_shifted-requires : goal.push_shifted-requires
push_shifted-requires c =
    let K = c.args.self.now in
    syllables_move K.prime (length K.kept) 0 c.args.rank c.word.result.now c.requires.limit c.word.ensures.normal

pub returns : goal.returns
returns c =
    let K = c.args.self.now in
    let are = c.kept-combinations.ensures.combinations in
    elim c.match-tail.branch [
      | in-Some+in_ok-push_shifted w ↦
          ap (λ v. v.items) w.whole-is ∙ w.in_ok-push_shifted.ensures
          ∙ ap (λ (u : List Syllable). u ++ map (shifted c.args.rank) w.word.result.now) c.in_ok-whole.ensures.items
          ∙ ap (λ (u : List Syllable). c.args.word.now ++ u)
          (ap (map (shifted c.args.rank)) w.word.ensures.word
          ∙ tail_part-some K are c.args.rank c.args.tail w.in-Some.tail c.requires.tail w.in-Some.is)
      | in_default w ↦
          ap (λ v. v.items) w.whole-is ∙ c.in_ok-whole.ensures.items
          ∙ sym (ap (λ (u : List Syllable). c.args.word.now ++ u) (tail_part-none K are c.args.rank c.args.tail w.in_default.is)
          ∙ append-nil c.args.word.now)
    ]
