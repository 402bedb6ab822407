-- The names of a line so far are texts that lie in the line, in order.
use Rattle.std.proofs.Common.{◌≡◌, ℕ, List, [], ◌∷◌, ◌++◌, Option, Some, None, option_map, refl, sym, ap, ◌∙◌}
use Rattle.std.specs.Borrow.{Bor}
use Rattle.lpres_reader.specs.GeneratorNames.{line_names, names_on, named_first, texts_of}

texts_of-push : (texts : List (Bor (List ℕ))) (t : Bor (List ℕ)) (names : List (List ℕ))
    → texts_of (texts ++ t ∷ []) ++ names ≡ texts_of texts ++ t.now ∷ names
texts_of-push [] t names = refl
texts_of-push (s ∷ texts) t names = ap (λ (l : List (List ℕ)). s.now ∷ l) (texts_of-push texts t names)

mapped_push : (texts : List (Bor (List ℕ))) (t : Bor (List ℕ)) (o : Option (List (List ℕ)))
    → option_map (λ names. texts_of texts ++ names) (named_first t.now o) ≡ option_map (λ names. texts_of (texts ++ t ∷ []) ++ names) o
mapped_push texts t None = refl
mapped_push texts t (Some names) = ap (λ (l : List (List ℕ)). Some l) (sym (texts_of-push texts t names))

pub next_text : (line rest after : List ℕ) (t : Bor (List ℕ)) (texts more : List (Bor (List ℕ))) → more ≡ texts ++ t ∷ []
    → names_on rest ≡ named_first t.now (names_on after) → line_names line ≡ option_map (λ names. texts_of texts ++ names) (names_on rest)
    → line_names line ≡ option_map (λ names. texts_of more ++ names) (names_on after)
next_text line rest after t texts more e here so_far =
    so_far ∙ ap (option_map (λ names. texts_of texts ++ names)) here ∙ mapped_push texts t (names_on after)
    ∙ ap (λ (l : List (Bor (List ℕ))). option_map (λ names. texts_of l ++ names) (names_on after)) (sym e)

pub first_text : (line after : List ℕ) (t : Bor (List ℕ)) (more : List (Bor (List ℕ))) → more ≡ t ∷ []
    → line_names line ≡ named_first t.now (names_on after) → line_names line ≡ option_map (λ names. texts_of more ++ names) (names_on after)
first_text line after t more e first =
    first ∙ mapped_start t (names_on after)
    ∙ ap (λ (l : List (Bor (List ℕ))). option_map (λ names. texts_of l ++ names) (names_on after)) (sym e)
  where
    mapped_start : (t : Bor (List ℕ)) (o : Option (List (List ℕ)))
        → named_first t.now o ≡ option_map (λ names. texts_of (t ∷ []) ++ names) o
    mapped_start t None = refl
    mapped_start t (Some names) = refl
