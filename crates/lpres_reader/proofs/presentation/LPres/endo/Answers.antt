use Rattle.std.proofs.Common.{◌≡◌, [], ◌∷◌, List, ℤ, map, length, ap, subst, sym, ◌∙◌}
use Rattle.pq_base.specs.LPresentation.{LPresentation, IsLPresentation, AreEndoNumbers, AreWords, endo_at}
use Rattle.pq_base.proofs.words.AlongLaws.{AreWords-endo_at}
use Rattle.lpres_reader.proofs.items.EndoPlaces.{length-endo_at, endo_at-place}
use Rattle.lpres_reader.proofs.presentation.LPres.endo.Goals as goal

images : (c : goal.After-as_slice) → c.as_slice.result.now ≡ endo_at c.args.self.now.endos c.args.number
images c =
    let endos = c.self.inside.endos.items in
    let view : map (λ f. f.items) endos ≡ c.args.self.now.endos = ap (λ (p : LPresentation). p.endos) c.self.view_is in
    let number : AreEndoNumbers (length (map (λ f. f.items) endos)) (c.args.number ∷ []) =
    subst (λ (fs : List (List (List ℤ))). AreEndoNumbers (length fs) (c.args.number ∷ [])) (sym view) c.requires in
    let place = rw c.from.ensures at c.index.ensures in
    c.as_slice.ensures.value ∙ endo_at-place endos c.index.result.now c.args.number number place
    ∙ ap (λ (fs : List (List (List ℤ))). endo_at fs c.args.number) view

pub returns-clause-images : goal.returns-clause-images
returns-clause-images c = images c

pub returns-clause-words : goal.returns-clause-words
returns-clause-words c =
    let pres = subst IsLPresentation c.self.view_is c.self.invariant.1 in
    subst (AreWords (length c.args.self.now.names)) (sym (images c))
    (AreWords-endo_at (length c.args.self.now.names) c.args.self.now.endos c.args.number pres.endo_words)

pub returns-clause-count : goal.returns-clause-count
returns-clause-count c =
    let pres = subst IsLPresentation c.self.view_is c.self.invariant.1 in
    ap length (images c) ∙ length-endo_at (length c.args.self.now.names) c.args.self.now.endos c.args.number pres.endo_words c.requires
