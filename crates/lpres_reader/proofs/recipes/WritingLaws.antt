-- Taking the steps of a recipe one by one writes its word, and each letter fits 32 bits.
use Rattle.std.proofs.Common.{◌≡◌, ◌<◌, ℕ, suc, ◌+◌, ◌-◌, Bool, true, false, ℤ, List, ◌++◌, length, take, drop, get_or, Result, Ok, Err, ap}
use Rattle.std.proofs.Common.{sym, subst, ◌∙◌, drop-cons, arith}
use Rattle.std.specs.Prelude.{OnOk}
use Rattle.std.proofs.lemmas.List.{take-append-drop}
use Rattle.pq_base.specs.SignedWord.{HasLetters}
use Rattle.pq_base.proofs.words.LetterLaws.{HasLetters-append, HasLetters-append_left, HasLetters-append_right, HasLetters-inv}
use Rattle.pq_base.proofs.words.LetterLaws.{HasLetters-copies}
use Rattle.lpres_reader.specs.declared.recipe.Step.{Step}
use Rattle.lpres_reader.specs.Recipes.{signed, power_of, last, without_last, step_on, written}

pub HasLetters-take : (n i : ℕ) (w : List ℤ) → HasLetters n w → HasLetters n (take i w)
HasLetters-take n i w h = HasLetters-append_left n (take i w) (drop i w) (subst (HasLetters n) (sym (take-append-drop i w)) h)

pub HasLetters-drop : (n i : ℕ) (w : List ℤ) → HasLetters n w → HasLetters n (drop i w)
HasLetters-drop n i w h = HasLetters-append_right n (take i w) (drop i w) (subst (HasLetters n) (sym (take-append-drop i w)) h)

HasLetters-signed : (n : ℕ) (b : Bool) (u : List ℤ) → HasLetters n u → HasLetters n (signed b u)
HasLetters-signed n true u h = HasLetters-inv n u h
HasLetters-signed n false u h = h

pub HasLetters-last : (n k : ℕ) (w : List ℤ) → HasLetters n w → HasLetters n (last k w)
HasLetters-last n k w h = HasLetters-drop n (length w - k) w h

pub HasLetters-without_last : (n k : ℕ) (w : List ℤ) → HasLetters n w → HasLetters n (without_last k w)
HasLetters-without_last n k w h = HasLetters-take n (length w - k) w h

pub HasLetters-power_of : (n : ℕ) (b : Bool) (u : List ℤ) (t : ℕ) → HasLetters n u → HasLetters n (power_of b u t)
HasLetters-power_of n b u t h = HasLetters-copies n (signed b u) t (HasLetters-signed n b u h)

-- one step after the steps so far
pub written-next : (out : List ℤ) (ss : List Step) (i : ℕ) (d : Step) → i < length ss
    → written out (drop i ss) ≡ written (step_on out (get_or ss i d)) (drop (i + 1) ss)
written-next out ss i d lt =
    ap (written out) (drop-cons ss i d lt) ∙ ap (λ (k : ℕ). written (step_on out (get_or ss i d)) (drop k ss)) one
  where
    one : suc i ≡ i + 1
    one = omega arith

-- letters that come behind others
pub letters_behind : {X E : Type 0} (r : Result X E) (n : ℕ) (old new front w : List ℤ) → old ≡ front → HasLetters n front → HasLetters n w
    → OnOk r (new ≡ old ++ w) → OnOk r (HasLetters n new)
letters_behind (Ok x) n old new front w e f g is =
    subst (HasLetters n) (sym (is ∙ ap (λ (u : List ℤ). u ++ w) e)) (HasLetters-append n front w f g)
letters_behind (Err x) n old new front w e f g is = tt
