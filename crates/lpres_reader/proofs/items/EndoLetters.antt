-- The letters of images, by the lists that hold them.
use Rattle.std.proofs.Common.{◌≡◌, ◌+◌, ℕ, List, [], ◌∷◌, map, refl, ap, sym, ◌∙◌}
use Rattle.std.specs.Prelude.{ℤ, sum_by}
use Rattle.std.specs.Global.{Vec}
use Rattle.std.proofs.lemmas.List.Sums.{sum_by-cons}
use Rattle.lpres_reader.specs.Limits.{letters_in}
use Rattle.lpres_reader.specs.Presentations.{endo_letters}

pub endo_letters_map : (endos : List (Vec (List ℤ))) → sum_by letters_in (map (λ f. f.items) endos) ≡ endo_letters endos
endo_letters_map [] = refl
endo_letters_map (f ∷ endos) =
    sum_by-cons letters_in f.items (map (λ (g : Vec (List ℤ)). g.items) endos)
    ∙ ap (λ (n : ℕ). letters_in f.items + n) (endo_letters_map endos)
    ∙ sym (sum_by-cons (λ (g : Vec (List ℤ)). letters_in g.items) f endos)
