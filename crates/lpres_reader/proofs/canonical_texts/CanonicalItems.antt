-- The items of a presentation in canonical order are its relators and endomorphisms.
use Rattle.std.proofs.Common.{◌≡◌, ◌<◌, ◌+◌, ℕ, zero, suc, List, [], ◌∷◌, ◌++◌, get_or, length, map, true, false, eqb, refl, ap, ◌∙◌, arith}
use Rattle.std.proofs.Common.{append-nil}
use Rattle.std.specs.Prelude.{ℤ}
use Rattle.std.proofs.lemmas.Bool.{cond-true, cond-false}
use Rattle.std.proofs.lemmas.Bool.Decides.{nat_tests}
use Rattle.pq_base.specs.LPresentation.{LPresentation}
use Rattle.lpres_reader.specs.Items.{Item, fixed, iterated, endo, fixed_of, iterated_of, endos_of, Mapping, words_from, GivesEach}

-- an item for each relator
abbrev pub relator_items : (List (List ℤ) → Item) → List (List ℤ) → List Item
relator_items item ws = map (λ w. item (w ∷ [])) ws

abbrev pub canonical_items : LPresentation → List Item
canonical_items L = relator_items fixed L.fixed ++ (relator_items iterated L.iterated ++ map endo L.endos)

fixed_of-fixed : (ws : List (List ℤ)) (items : List Item) → fixed_of (relator_items fixed ws ++ items) ≡ ws ++ fixed_of items
fixed_of-fixed [] items = refl
fixed_of-fixed (w ∷ ws) items = ap (λ (vs : List (List ℤ)). w ∷ vs) (fixed_of-fixed ws items)

fixed_of-iterated : (ws : List (List ℤ)) (items : List Item) → fixed_of (relator_items iterated ws ++ items) ≡ fixed_of items
fixed_of-iterated [] items = refl
fixed_of-iterated (w ∷ ws) items = fixed_of-iterated ws items

fixed_of-endos : (fs : List (List (List ℤ))) → fixed_of (map endo fs) ≡ []
fixed_of-endos [] = refl
fixed_of-endos (f ∷ fs) = fixed_of-endos fs

iterated_of-fixed : (ws : List (List ℤ)) (items : List Item) → iterated_of (relator_items fixed ws ++ items) ≡ iterated_of items
iterated_of-fixed [] items = refl
iterated_of-fixed (w ∷ ws) items = iterated_of-fixed ws items

iterated_of-iterated : (ws : List (List ℤ)) (items : List Item) → iterated_of (relator_items iterated ws ++ items) ≡ ws ++ iterated_of items
iterated_of-iterated [] items = refl
iterated_of-iterated (w ∷ ws) items = ap (λ (vs : List (List ℤ)). w ∷ vs) (iterated_of-iterated ws items)

iterated_of-endos : (fs : List (List (List ℤ))) → iterated_of (map endo fs) ≡ []
iterated_of-endos [] = refl
iterated_of-endos (f ∷ fs) = iterated_of-endos fs

endos_of-fixed : (ws : List (List ℤ)) (items : List Item) → endos_of (relator_items fixed ws ++ items) ≡ endos_of items
endos_of-fixed [] items = refl
endos_of-fixed (w ∷ ws) items = endos_of-fixed ws items

endos_of-iterated : (ws : List (List ℤ)) (items : List Item) → endos_of (relator_items iterated ws ++ items) ≡ endos_of items
endos_of-iterated [] items = refl
endos_of-iterated (w ∷ ws) items = endos_of-iterated ws items

endos_of-endos : (fs : List (List (List ℤ))) → endos_of (map endo fs) ≡ fs
endos_of-endos [] = refl
endos_of-endos (f ∷ fs) = ap (λ (gs : List (List (List ℤ))). f ∷ gs) (endos_of-endos fs)

pub fixed_of-canonical : (L : LPresentation) → fixed_of (canonical_items L) ≡ L.fixed
fixed_of-canonical L =
    fixed_of-fixed L.fixed (relator_items iterated L.iterated ++ map endo L.endos)
    ∙ ap (λ (vs : List (List ℤ)). L.fixed ++ vs) (fixed_of-iterated L.iterated (map endo L.endos) ∙ fixed_of-endos L.endos)
    ∙ append-nil L.fixed

pub iterated_of-canonical : (L : LPresentation) → iterated_of (canonical_items L) ≡ L.iterated
iterated_of-canonical L =
    iterated_of-fixed L.fixed (relator_items iterated L.iterated ++ map endo L.endos)
    ∙ iterated_of-iterated L.iterated (map endo L.endos)
    ∙ ap (λ (vs : List (List ℤ)). L.iterated ++ vs) (iterated_of-endos L.endos)
    ∙ append-nil L.iterated

pub endos_of-canonical : (L : LPresentation) → endos_of (canonical_items L) ≡ L.endos
endos_of-canonical L =
    endos_of-fixed L.fixed (relator_items iterated L.iterated ++ map endo L.endos)
    ∙ endos_of-iterated L.iterated (map endo L.endos)
    ∙ endos_of-endos L.endos

-- from the generators at the places from i on, in order
abbrev pub mappings_from : ℕ → List (List ℤ) → List Mapping
mappings_from i [] = []
mappings_from i (w ∷ ws) = record { from = i; to = w } ∷ mappings_from (suc i) ws

words_from-before : (k i : ℕ) (ws : List (List ℤ)) → k < i → words_from k (mappings_from i ws) ≡ []
words_from-before k i [] h = refl
words_from-before k i (w ∷ ws) h =
    let other : eqb i k ≡ false = grind (arith, nat_tests) in
    cond-false (eqb i k) (w ∷ words_from k (mappings_from (suc i) ws)) (words_from k (mappings_from (suc i) ws)) other
    ∙ words_from-before k (suc i) ws (omega arith)

words_from-place : (k i j : ℕ) (ws : List (List ℤ)) → k ≡ i + j → j < length ws → words_from k (mappings_from i ws) ≡ get_or ws j [] ∷ []
words_from-place k i j [] e h = absurd (omega arith)
words_from-place k i zero (w ∷ ws) e h =
    let same : eqb i k ≡ true = grind (arith, nat_tests) in
    cond-true (eqb i k) (w ∷ words_from k (mappings_from (suc i) ws)) (words_from k (mappings_from (suc i) ws)) same
    ∙ ap (λ (vs : List (List ℤ)). w ∷ vs) (words_from-before k (suc i) ws (omega arith))
words_from-place k i (suc j) (w ∷ ws) e h =
    let other : eqb i k ≡ false = grind (arith, nat_tests) in
    cond-false (eqb i k) (w ∷ words_from k (mappings_from (suc i) ws)) (words_from k (mappings_from (suc i) ws)) other
    ∙ words_from-place k (suc i) j ws (omega arith) (omega arith)

pub mappings-give : (n : ℕ) (f : List (List ℤ)) → length f ≡ n → GivesEach n (mappings_from 0 f) f
mappings-give n f long = record { image_count = long; exactly_one = λ k h. words_from-place k 0 k f (omega arith) (omega arith) }
