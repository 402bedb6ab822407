-- A word along the suffixes of a list of endomorphisms, from the shortest on.
use Rattle.std.proofs.Common.{◌≡◌, ◌<◌, ◌≤◌, ◌+◌, ◌-◌, ℕ, zero, suc, ℤ, List, [], ◌∷◌, ◌++◌, drop, length, append_assoc, Ok, Err, refl, ap}
use Rattle.std.proofs.Common.{sym, subst, ◌∙◌, arith}
use Rattle.std.proofs.lemmas.List.{append-nil}
use Rattle.std.proofs.Math.Seq.{drop-append_seam, drop-append-add}
use Rattle.pq_base.specs.SignedWord.{sub}
use Rattle.pq_base.specs.LPresentation.{along, endo_at}
use Rattle.free_words.specs.declared.refusal.WordRefusal.{WordRefusal}
use Rattle.free_words.specs.declared.refusal.WordRefusal.TheVariants.{TooLong, NoMemory}
use Rattle.free_words.specs.Gives.{Gives}
use Rattle.lpres_reader.specs.Words.{letter_limit}
use Rattle.lpres_reader.specs.Along.{letters_along, IsFirstTooLong, GivesAlong}

-- what is left of s is to come, and along no suffix of what is done there are too many letters
pub record AlongSoFar (endos : List (List (List ℤ))) (s : List ℕ) (w : List ℤ) (left : List ℕ) (image : List ℤ) : Type 0 where
  pub done : List ℕ
  pub split : s ≡ left ++ done
  pub is : image ≡ along endos done w
  pub short : (k : ℕ) → letters_along endos done w k ≤ letter_limit

module _ (endos : List (List (List ℤ))) (s : List ℕ) (w : List ℤ) where
  along_nothing : (k : ℕ) → length w ≤ letter_limit → letters_along endos [] w k ≤ letter_limit
  along_nothing zero h = h
  along_nothing (suc k) h = h

  pub along_none : length w ≤ letter_limit → AlongSoFar endos s w s w
  along_none h = record { done = []; split = simp append-nil; is = refl; short = λ k. along_nothing k h }

  module _ (left before : List ℕ) (e : ℕ) (image : List ℤ) (h : AlongSoFar endos s w left image) (last : left ≡ before ++ e ∷ []) where
    split_more : s ≡ before ++ (e ∷ h.done)
    split_more = h.split ∙ ap (λ (l : List ℕ). l ++ h.done) last ∙ append_assoc before (e ∷ []) h.done

    image_more : sub image (endo_at endos e) ≡ along endos (e ∷ h.done) w
    image_more = ap (λ (v : List ℤ). sub v (endo_at endos e)) h.is

    pub along_more : length (sub image (endo_at endos e)) ≤ letter_limit → AlongSoFar endos s w before (sub image (endo_at endos e))
    along_more small = record { done = e ∷ h.done; split = split_more; is = image_more; short = short }
      where
        short : (k : ℕ) → letters_along endos (e ∷ h.done) w k ≤ letter_limit
        short zero = subst (λ (v : List ℤ). length v ≤ letter_limit) image_more small
        short (suc k) = h.short k

    pub along_stops : (n : ℕ) → n ≡ length (sub image (endo_at endos e)) → letter_limit < n → IsFirstTooLong endos s w n
    along_stops n is above = record { place = length before; letters = letters; above = above; shorter = shorter }
      where
        letters : n ≡ letters_along endos s w (length before)
        letters =
            let here : drop (length before) s ≡ e ∷ h.done = ap (drop (length before)) split_more ∙ drop-append_seam before (e ∷ h.done) in
            is ∙ ap length image_more ∙ ap (λ (t : List ℕ). length (along endos t w)) (sym here)

        shorter : (k : ℕ) → length before < k → letters_along endos s w k ≤ letter_limit
        shorter k l =
            let i = k - length before - 1 in
            let place : k ≡ length before + suc i = omega arith in
            let here : drop k s ≡ drop i h.done =
            ap (λ (j : ℕ). drop j s) place ∙ ap (drop (length before + suc i)) split_more ∙ drop-append-add before (e ∷ h.done) (suc i) in
            subst (λ (t : List ℕ). length (along endos t w) ≤ letter_limit) (sym here) (h.short i)

    pub along_refused : (r : WordRefusal) → Gives (Err r) (sub image (endo_at endos e)) → GivesAlong endos s w (Err r)
    along_refused (TooLong n) g = along_stops n g.0 (subst (λ (m : ℕ). letter_limit < m) (sym g.0) g.1)
    along_refused NoMemory g = tt

  pub along_ends : (image : List ℤ) → AlongSoFar endos s w [] image → GivesAlong endos s w (Ok image)
  along_ends image h = (
    h.is ∙ ap (λ (t : List ℕ). along endos t w) (sym h.split),
    λ k. subst (λ (t : List ℕ). letters_along endos t w k ≤ letter_limit) (sym h.split) (h.short k),
  )
