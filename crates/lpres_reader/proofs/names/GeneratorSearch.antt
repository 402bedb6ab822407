-- Whether a line of a text begins with `generators`, by its lines from the first.
use Rattle.std.proofs.Common.{◌≡◌, ℕ, Bool, true, false, ◌||◌, List, [], ◌∷◌, Option, Some, None, option_map, refl, sym, ap, ◌∙◌}
use Rattle.std.specs.Borrow.{Bor}
use Rattle.std.specs.List.{list_any}
use Rattle.std.proofs.lemmas.Bool.{true≢false}
use Rattle.lpres_reader.specs.Lines.{lines_of, content_of}
use Rattle.lpres_reader.specs.Front.{front_of}
use Rattle.lpres_reader.specs.Faults.{HasGenerators}
use Rattle.lpres_reader.specs.Verdicts.{is_generators}
use Rattle.lpres_reader.proofs.texts.TextLines.{unskipped, generators_kept, has_line-Decides}
use Rattle.lpres_reader.proofs.faults.ReaderLaws.{has_generators, has_line, unskipped_some}
use Rattle.lpres_reader.proofs.texts.TextRuns.{lines_left}

abbrev any_begins : List (List ℕ) → Bool
any_begins lines = list_any (λ line. is_generators (front_of line)) lines

-- none of the lines so far begins so
pub record NoneSoFar (text : List ℕ) (left : Option (List ℕ)) : Type 0 where
  pub same : any_begins (lines_of text) ≡ any_begins (lines_left left)

first_of_lines : (text here line : List ℕ) (after : Option (List ℕ)) (b : Bool) → NoneSoFar text (Some here)
    → lines_of here ≡ line ∷ lines_left after → is_generators (front_of line) ≡ b
    → any_begins (lines_of text) ≡ (b || any_begins (lines_left after))
first_of_lines text here line after b s cut e = s.same ∙ ap any_begins cut ∙ ap (λ (t : Bool). t || any_begins (lines_left after)) e

pub begins_here : (text here line : List ℕ) (after : Option (List ℕ)) → NoneSoFar text (Some here) → lines_of here ≡ line ∷ lines_left after
    → is_generators (front_of line) ≡ true → HasGenerators text
begins_here text here line after s cut e =
    has_generators text ((has_line-Decides (lines_of text)).0 (first_of_lines text here line after true s cut e))

pub begins_later : (text here line : List ℕ) (after : Option (List ℕ)) → NoneSoFar text (Some here)
    → lines_of here ≡ line ∷ lines_left after → is_generators (front_of line) ≡ false → NoneSoFar text after
begins_later text here line after s cut e = record { same = first_of_lines text here line after false s cut e }

pub begins_nowhere : (text : List ℕ) (left : Option (Bor (List ℕ))) → ((t : Bor (List ℕ)) → left ≡ Some t → ⊥)
    → NoneSoFar text (option_map (λ t. t.now) left) → ¬ HasGenerators text
begins_nowhere text None none s h = true≢false (sym ((has_line-Decides (lines_of text)).1 (has_line text h)) ∙ s.same)
begins_nowhere text (Some t) none s h = none t refl

-- a text of which each line is skipped has no such line
pub nothing_begins : (text : List ℕ) → content_of text ≡ [] → ¬ HasGenerators text
nothing_begins text e h = unskipped_some h.before h.line h.after (generators_kept h.line h.begins) (ap unskipped (sym h.lines) ∙ e)
