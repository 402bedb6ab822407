-- Texts that were seen, none of them twice: so far they differ, and where one comes again not all differ.
use Rattle.std.proofs.Common.{◌≡◌, ◌<◌, ℕ, suc, ◌+◌, Bool, true, false, ◌||◌, List, [], ◌∷◌, ◌++◌, length, take, drop, get_or, refl, sym}
use Rattle.std.proofs.Common.{ap, subst, ◌∙◌, inl, inr, take-append-drop, drop-cons, arith}
use Rattle.std.specs.Borrow.{Bor}
use Rattle.std.specs.List.{AllByRecursion, list_any, IsDistinct}
use Rattle.std.proofs.lemmas.Bool.{cases_Bool}
use Rattle.std.proofs.lemmas.List.{map-append}
use Rattle.std.proofs.lemmas.Map.Keys.{IsDistinct-head, IsDistinct-tail, IsDistinct-cons}
use Rattle.pq_base.specs.LPresentation.{AreDistinct}
use Rattle.lpres_reader.specs.GeneratorNames.{texts_of}
use Rattle.lpres_reader.proofs.names.KeptNames.{same_name, name_among, repeated_name, AreDistinct-from_unique}

-- two texts have the same bytes, wherever they lie
abbrev pub same_text : Bor (List ℕ) → Bor (List ℕ) → Bool
same_text a b = same_name a.now b.now

apart_texts : (t : Bor (List ℕ)) (texts : List (Bor (List ℕ))) → AllByRecursion (λ s. same_text t s ≡ false) texts
    → AllByRecursion (λ n. same_name t.now n ≡ false) (texts_of texts)
apart_texts t [] h = tt
apart_texts t (s ∷ texts) h = (h.0, apart_texts t texts h.1)

distinct_texts : (texts : List (Bor (List ℕ))) → IsDistinct same_text texts → IsDistinct same_name (texts_of texts)
unfolding IsDistinct
distinct_texts [] h = tt
distinct_texts (t ∷ texts) h =
    IsDistinct-cons same_name t.now (texts_of texts) (apart_texts t texts (IsDistinct-head same_text t texts h))
    (distinct_texts texts (IsDistinct-tail same_text t texts h))

pub seen_distinct : (texts : List (Bor (List ℕ))) → IsDistinct same_text texts → AreDistinct (texts_of texts)
seen_distinct texts h = AreDistinct-from_unique (texts_of texts) (distinct_texts texts h)

any_text : (t : Bor (List ℕ)) (texts : List (Bor (List ℕ))) → list_any (same_text t) texts ≡ list_any (same_name t.now) (texts_of texts)
any_text t [] = refl
any_text t (s ∷ texts) = ap (λ (b : Bool). same_text t s || b) (any_text t texts)

-- texts around the one at a place
pub texts_around : (texts : List (Bor (List ℕ))) (i : ℕ) (d : Bor (List ℕ)) → i < length texts
    → texts_of texts ≡ texts_of (take i texts) ++ (get_or texts i d).now ∷ texts_of (drop (i + 1) texts)
texts_around texts i d short =
    let one : suc i ≡ i + 1 = omega arith in
    ap texts_of (sym (take-append-drop i texts)
    ∙ ap (λ (l : List (Bor (List ℕ))). take i texts ++ l) (drop-cons texts i d short ∙ ap (λ (k : ℕ). get_or texts i d ∷ drop k texts) one))
    ∙ map-append (λ (t : Bor (List ℕ)). t.now) (take i texts) (get_or texts i d ∷ drop (i + 1) texts)

pub seen_again : (texts seen : List (Bor (List ℕ))) (i : ℕ) (d : Bor (List ℕ)) → seen ≡ take i texts → i < length texts
    → list_any (same_text (get_or texts i d)) seen ≡ true → AreDistinct (texts_of texts) → ⊥
seen_again texts seen i d same short there distinct =
    let t = get_or texts i d in
    let names = texts_of (take i texts) in
    let known : list_any (same_name t.now) names ≡ true =
    sym (any_text t (take i texts)) ∙ ap (list_any (same_text t)) (sym same) ∙ there in
    repeated_name names t.now (texts_of (drop (i + 1) texts)) (name_among names t.now known)
    (subst AreDistinct (texts_around texts i d short) distinct)

-- of names that differ none is among those before it
pub name_is_new : (names : List (List ℕ)) (n : List ℕ) (others : List (List ℕ)) → AreDistinct (names ++ n ∷ others)
    → list_any (same_name n) names ≡ false
name_is_new names n others distinct = elim (cases_Bool (list_any (same_name n) names)) [
  | inl there ↦ absurd (repeated_name names n others (name_among names n there) distinct)
  | inr new ↦ new
]
