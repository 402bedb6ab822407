-- What was read of the lines behind the generators: each has its form in its place, and they are those of a presentation,
-- of names and of words.
use Rattle.std.specs.Prelude.{◌≡◌, ◌<◌, ◌≤◌, ◌+◌, ℕ, List, [], ◌++◌, length, codes}
use Rattle.pq_base.specs.Limits.{max_class}
use Rattle.pq_base.specs.Lines.{text_of_lines}
use Rattle.pc_presentation.specs.Parts.{AreImages}
use Rattle.answer_text.specs.declared.source.Source.{Source}
use Rattle.answer_text.specs.AnswerText.{head_lines}
use Rattle.answer_text.specs.OneText.{AreNames}
use Rattle.answer_text.specs.LineByLine as line_by_line
use Rattle.answer_text.specs.AnswerPlaces.{Place, HasForm, behind_relations}
use Rattle.answer_text.specs.AnswerPlaces.Place.{in_body}
use Rattle.answer_text.specs.ReadSoFar.{word_lines, source_lines, AreSources}
use Rattle.answer_text.specs.Drafts.{IsDraft, SoFar, all_lines}

-- the lines lead from the first place to the second
abbrev pub Leads : Place → List (List ℕ) → Place → Type 0
Leads = line_by_line.Leads Place HasForm

-- the lines of relations and images
abbrev pub body_lines : ℕ → SoFar → List (List ℕ)
body_lines p S = all_lines p S.draft.built.presentation ++ word_lines S.names S.words

-- the text is the lines of what was read, and the rest, which begins with the line of this number
pub record IsBodyRead (p n : ℕ) (ws text rest : List ℕ) (number : ℕ) (S : SoFar) : Type 0 where
  pub draft : IsDraft p n S.draft S.place
  pub weights : S.draft.built.weights ≡ ws
  pub no_tails : S.draft.built.tails ≡ 0
  pub inside : S.place ≤ behind_relations
  pub names : AreNames S.names
  pub count : length S.words ≡ length S.names
  pub words : AreImages p n S.words
  pub relations_first : S.place < behind_relations → S.names ≡ []
  pub lines : text ≡ text_of_lines (body_lines p S) ++ rest
  pub numbered : number ≡ n + 5 + length (body_lines p S)
  pub leads : Leads (in_body p n 0 0) (body_lines p S) (in_body p n 0 S.place)

-- all lines of the bytes were read, each has its form in its place, and the last is the end
pub record IsRead (bytes : List ℕ) (end : ℕ) (ss : List Source) (S : SoFar) : Type 0 where
  pub prime : ℕ
  pub class : ℕ
  pub rank : ℕ
  pub weights : List ℕ
  pub body : List ℕ
  pub low_class : class ≤ max_class
  pub weight_count : length weights ≡ rank
  pub source_count : length ss ≡ rank
  pub legible : AreSources rank weights ss
  pub lines : bytes ≡ text_of_lines (head_lines prime class rank) ++ (text_of_lines (source_lines prime 0 weights ss) ++ body)
  pub read : IsBodyRead prime rank weights body (codes "end\n") end S
