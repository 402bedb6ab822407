-- Putting a word at the end of the store and its place in place of another changes one entry alone.
use Rattle.std.proofs.Common.{◌≡◌, ℕ, zero, suc, ◌-◌, ◌≤◌, Option, List, [], ◌∷◌, ◌++◌, length, take, drop, replicate, refl, ap, sym, ◌∙◌}
use Rattle.std.proofs.Common.{arith, length-append}
use Rattle.std.proofs.Math.ListN.{set}
use Rattle.std.proofs.lemmas.List.{map-set, take-append-le, drop-append-le, drop_at, take_all, length-drop}
use Rattle.pc_presentation.specs.declared.syllable.Syllable.{Syllable}
use Rattle.pc_presentation.specs.declared.store.Place.{Place}
use Rattle.pc_presentation.specs.Store.{Entry, blank, entry_of, entries_of, no_place, AreWithin}

entry_of-append : (syllables w : List Syllable) (place : Place) → place.start ≤ place.end → place.end ≤ length syllables
    → entry_of (syllables ++ w) place ≡ entry_of syllables place
entry_of-append syllables w place h l =
    let long : place.end - place.start ≤ length (drop place.start syllables) = omega (arith, length-drop place.start syllables) in
    ap (λ (v : List Syllable). let e : Entry = record { word = v; tail = place.tail } in e)
    (ap (take (place.end - place.start)) (drop-append-le place.start syllables w (omega arith))
    ∙ take-append-le (place.end - place.start) (drop place.start syllables) w long)

entries_of-append : (syllables w : List Syllable) (places : List Place) → AreWithin (length syllables) places
    → entries_of (syllables ++ w) places ≡ entries_of syllables places
entries_of-append syllables w [] h = refl
entries_of-append syllables w (p ∷ ps) h =
    let first = h 0 (omega arith) in
    ap (λ (e : Entry). e ∷ entries_of (syllables ++ w) ps) (entry_of-append syllables w p first.0 first.1)
    ∙ ap (λ (es : List Entry). entry_of syllables p ∷ es)
    (entries_of-append syllables w ps (λ k l. h (suc k) (omega arith)))

entry_of-end : (syllables w : List Syllable) (start end : ℕ) (tail : Option ℕ) → start ≡ length syllables → end ≡ length (syllables ++ w)
    → entry_of (syllables ++ w) (record { start = start; end = end; tail = tail }) ≡ record { word = w; tail = tail }
entry_of-end syllables w start end tail h l =
    let all : length w ≤ end - start = omega (arith, length-append syllables w) in
    ap (λ (v : List Syllable). let e : Entry = record { word = v; tail = tail } in e)
    (ap (take (end - start)) (drop_at syllables w start (sym h)) ∙ take_all (end - start) w all)

pub entries_of-put : (syllables w : List Syllable) (places : List Place) (k start end : ℕ) (tail : Option ℕ)
    → AreWithin (length syllables) places → start ≡ length syllables → end ≡ length (syllables ++ w)
    → entries_of (syllables ++ w) (set places k (record { start = start; end = end; tail = tail }))
    ≡ set (entries_of syllables places) k (record { word = w; tail = tail })
entries_of-put syllables w places k start end tail h s l =
    map-set (entry_of (syllables ++ w)) places k (record { start = start; end = end; tail = tail })
    ∙ ap (λ (es : List Entry). set es k (entry_of (syllables ++ w) (record { start = start; end = end; tail = tail })))
    (entries_of-append syllables w places h)
    ∙ ap (λ (e : Entry). set (entries_of syllables places) k e) (entry_of-end syllables w start end tail s l)

pub entries_of-replicate : (n : ℕ) → entries_of [] (replicate n no_place) ≡ replicate n blank
entries_of-replicate zero = refl
entries_of-replicate (suc n) = ap (λ (es : List Entry). blank ∷ es) (entries_of-replicate n)
