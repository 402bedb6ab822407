-- Names one after the other, as long as they keep their limits.
use Rattle.std.proofs.Common.{◌≡◌, ◌<◌, ◌≤◌, ℕ, zero, suc, ◌+◌, Bool, false, nat_le, le-leb, if◌then◌else◌, List, [], ◌∷◌, ◌++◌, length}
use Rattle.std.proofs.Common.{take, drop, get_or, All, Some, refl, sym, ap, ap₂, subst, ◌∙◌, inl, inr, drop-cons, arith}
use Rattle.std.specs.Borrow.{Bor}
use Rattle.std.specs.List.{list_any}
use Rattle.std.proofs.lemmas.Bool.{cond-true, cond-false, lt-leb}
use Rattle.std.proofs.lemmas.Bool.Decides.{leb_tells}
use Rattle.std.proofs.lemmas.List.{map-append, length-map, length-take, take_more, take_all, drop_all}
use Rattle.std.proofs.lemmas.List.Elements.{All-nil, All-push, All-head, All-tail}
use Rattle.indexmap.specs.IndexSet.{insert_key}
use Rattle.pq_base.specs.Name.{IsName, IsNameText}
use Rattle.pq_base.specs.LPresentation.{AreDistinct}
use Rattle.lpres_reader.specs.Trials.{tried, Name, Generators, names_trials}
use Rattle.lpres_reader.specs.Verdicts.{first_passed}
use Rattle.lpres_reader.specs.GeneratorNames.{texts_of, AreWithin}
use Rattle.lpres_reader.proofs.names.KeptNames.{same_name}
use Rattle.lpres_reader.proofs.texts.SeenTexts.{texts_around, name_is_new}

-- the names of the texts before place i keep all limits
pub record NamesSoFar (texts : List (Bor (List ℕ))) (i : ℕ) (keys : List (List ℕ)) : Type 0 where
  pub same : keys ≡ texts_of (take i texts)
  pub each : All IsName keys
  pub few : i ≤ 32
  pub later : first_passed (names_trials 0 (texts_of texts)) ≡ first_passed (names_trials i (texts_of (drop i texts)))

pub names_first : (texts : List (Bor (List ℕ))) (keys : List (List ℕ)) → keys ≡ [] → NamesSoFar texts 0 keys
names_first texts keys e = record { same = e; each = subst (All IsName) (sym e) (All-nil IsName); few = omega arith; later = refl }

-- the trials of the name at a place
rest_is : (texts : List (Bor (List ℕ))) (i : ℕ) (d : Bor (List ℕ)) → i < length texts
    → texts_of (drop i texts) ≡ (get_or texts i d).now ∷ texts_of (drop (i + 1) texts)
rest_is texts i d short =
    let one : suc i ≡ i + 1 = omega arith in
    ap texts_of (drop-cons texts i d short ∙ ap (λ (k : ℕ). get_or texts i d ∷ drop k texts) one)

here : (texts : List (Bor (List ℕ))) (i : ℕ) (d : Bor (List ℕ)) (keys : List (List ℕ)) → NamesSoFar texts i keys → i < length texts
    → first_passed (names_trials 0 (texts_of texts))
    ≡ first_passed (names_trials i ((get_or texts i d).now ∷ texts_of (drop (i + 1) texts)))
here texts i d keys s short = s.later ∙ ap (λ (ns : List (List ℕ)). first_passed (names_trials i ns)) (rest_is texts i d short)

passed_name : (count : ℕ) (n : List ℕ) (ns : List (List ℕ)) → 32 < length n
    → first_passed (names_trials count (n ∷ ns)) ≡ Some (tried Name (length n))
passed_name count n ns long = cond-false (nat_le (length n) 32) _ _ (lt-leb (length n) 32 long)

passed_count : (count : ℕ) (n : List ℕ) (ns : List (List ℕ)) → length n ≤ 32 → 32 < suc count
    → first_passed (names_trials count (n ∷ ns)) ≡ Some (tried Generators (suc count))
passed_count count n ns short many =
    cond-true (nat_le (length n) 32) _ _ (le-leb (length n) 32 short) ∙ cond-false (nat_le (suc count) 32) _ _ (lt-leb (suc count) 32 many)

passed_neither : (count : ℕ) (n : List ℕ) (ns : List (List ℕ)) → length n ≤ 32 → suc count ≤ 32
    → first_passed (names_trials count (n ∷ ns)) ≡ first_passed (names_trials (suc count) ns)
passed_neither count n ns short few =
    cond-true (nat_le (length n) 32) _ _ (le-leb (length n) 32 short) ∙ cond-true (nat_le (suc count) 32) _ _ (le-leb (suc count) 32 few)

text_at : (texts : List (Bor (List ℕ))) (i : ℕ) (d : Bor (List ℕ)) → i < length texts → All IsNameText (texts_of texts)
    → IsNameText (get_or texts i d).now
text_at [] i d short all = absurd (omega arith)
text_at (t ∷ texts) zero d short all = All-head IsNameText t.now (texts_of texts) all
text_at (t ∷ texts) (suc i) d short all = text_at texts i d (omega arith) (All-tail IsNameText t.now (texts_of texts) all)

too_long : (n : List ℕ) → IsNameText n → ¬ IsName n → 32 < length n
too_long n text none = elim (leb_tells (length n) 32) [
  | inl few ↦ absurd (none (record { text = text; count = few.1 }))
  | inr many ↦ many.1
]

-- a name that is none, though it has the form of one, is too long
pub name_too_long : (texts : List (Bor (List ℕ))) (i : ℕ) (d : Bor (List ℕ)) (keys : List (List ℕ)) → NamesSoFar texts i keys
    → i < length texts → All IsNameText (texts_of texts)
    → ¬ IsName (get_or texts i d).now → first_passed (names_trials 0 (texts_of texts)) ≡ Some (tried Name (length (get_or texts i d).now))
name_too_long texts i d keys s short all none =
    let n = (get_or texts i d).now in
    here texts i d keys s short ∙ passed_name i n (texts_of (drop (i + 1) texts)) (too_long n (text_at texts i d short all) none)

count_is : (texts : List (Bor (List ℕ))) (i : ℕ) (keys : List (List ℕ)) → NamesSoFar texts i keys → i < length texts → length keys ≡ i
count_is texts i keys s short =
    ap length s.same ∙ length-map (take i texts) (λ (t : Bor (List ℕ)). t.now) ∙ omega (arith, length-take i texts)

pub names_too_many : (texts : List (Bor (List ℕ))) (i : ℕ) (d : Bor (List ℕ)) (keys : List (List ℕ)) → NamesSoFar texts i keys
    → i < length texts
    → IsName (get_or texts i d).now → 32 ≤ length keys
    → first_passed (names_trials 0 (texts_of texts)) ≡ Some (tried Generators (length keys + 1))
names_too_many texts i d keys s short name full =
    let n = (get_or texts i d).now in
    let count = count_is texts i keys s short in
    let next : suc i ≡ length keys + 1 = omega arith in
    here texts i d keys s short
    ∙ passed_count i n (texts_of (drop (i + 1) texts)) name.count (omega arith) ∙ ap (λ (k : ℕ). Some (tried Generators k)) next

pub names_next : (texts : List (Bor (List ℕ))) (i : ℕ) (d : Bor (List ℕ)) (keys more : List (List ℕ)) (n : List ℕ) → NamesSoFar texts i keys
    → i < length texts → AreDistinct (texts_of texts)
    → n ≡ (get_or texts i d).now → IsName n → length keys < 32 → more ≡ insert_key same_name keys n → NamesSoFar texts (i + 1) more
names_next texts i d keys more n s short distinct is name room e =
    let before = texts_of (take i texts) in
    let after = texts_of (drop (i + 1) texts) in
    let count = count_is texts i keys s short in
    let around : texts_of texts ≡ before ++ n ∷ after = texts_around texts i d short ∙ ap (λ (m : List ℕ). before ++ m ∷ after) (sym is) in
    let new : list_any (same_name n) keys ≡ false =
    ap (list_any (same_name n)) s.same ∙ name_is_new before n after (subst AreDistinct around distinct) in
    let added : more ≡ keys ++ n ∷ [] = e ∙ ap (λ (b : Bool). if b then keys else keys ++ n ∷ []) new in
    let one : suc i ≡ i + 1 = omega arith in
    record {
      same =
          added ∙ ap₂ (λ (l : List (List ℕ)) (m : List ℕ). l ++ m ∷ []) s.same is
          ∙ sym (map-append (λ (t : Bor (List ℕ)). t.now) (take i texts) (get_or texts i d ∷ []))
          ∙ ap texts_of (sym (take_more texts i d short));
      each = subst (All IsName) (sym added) (All-push IsName keys n s.each name);
      few = omega arith;
      later =
          here texts i d keys s short ∙ ap (λ (m : List ℕ). first_passed (names_trials i (m ∷ after))) (sym is)
          ∙ passed_neither i n after name.count (omega arith) ∙ ap (λ (k : ℕ). first_passed (names_trials k after)) one;
    }

pub names_end : (texts : List (Bor (List ℕ))) (i : ℕ) (keys : List (List ℕ)) → NamesSoFar texts i keys → length texts ≤ i
    → AreDistinct (texts_of texts) → AreWithin (texts_of texts) keys
names_end texts i keys s long distinct =
    let same : keys ≡ texts_of texts = s.same ∙ ap texts_of (take_all i texts long) in
    let none : drop i texts ≡ [] = drop_all i texts long in
    let few : length keys ≤ 32 =
    omega (arith, ap length s.same ∙ length-map (take i texts) (λ (t : Bor (List ℕ)). t.now), length-take i texts, s.few) in
    record {
      same = same;
      generators = record { each = s.each; most = few; distinct = subst AreDistinct (sym same) distinct };
      kept = s.later ∙ ap (λ (l : List (Bor (List ℕ))). first_passed (names_trials i (texts_of l))) none;
    }
