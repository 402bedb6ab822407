-- Words and images over so many generators, and their letters, one more at the end; and what spoils the whole list.
use Rattle.std.proofs.Common.{◌≡◌, ◌<◌, ◌≤◌, ◌+◌, ℕ, zero, suc, ℤ, List, [], ◌∷◌, ◌++◌, get_or, take, length, All, ap, subst, sym, ◌∙◌}
use Rattle.std.proofs.Common.{arith}
use Rattle.std.specs.Prelude.{sum_by}
use Rattle.std.proofs.lemmas.List.{take_more}
use Rattle.std.proofs.lemmas.List.Elements.{All-push, All-nil}
use Rattle.std.proofs.lemmas.List.Sums.{sum_by_more, sum_by_more_le}
use Rattle.pq_base.specs.SignedWord.{HasLetters}
use Rattle.pq_base.specs.LPresentation.{AreWords, AreEndos}
use Rattle.pq_base.proofs.words.LetterLaws.{HasLetters-get_or}
use Rattle.lpres_reader.specs.Words.{letter_limit}
use Rattle.lpres_reader.specs.Limits.{AreShort, letters_in}
use Rattle.lpres_reader.specs.Parts.{AreKeptWords, AreKeptEndos, HasWordLetters, HasEndoLetters}

AreWords-push : (n : ℕ) (ws : List (List ℤ)) (w : List ℤ) → AreWords n ws → HasLetters n w → AreWords n (ws ++ w ∷ [])
AreWords-push n [] w h k = (k, tt)
AreWords-push n (v ∷ ws) w h k = (h.0, AreWords-push n ws w h.1 k)

pub AreEndos-push : (n : ℕ) (fs : List (List (List ℤ))) (f : List (List ℤ)) → AreEndos n fs → length f ≡ n → AreWords n f
    → AreEndos n (fs ++ f ∷ [])
AreEndos-push n [] f h e k = (e, k, tt)
AreEndos-push n (g ∷ fs) f h e k = (h.0, h.1, AreEndos-push n fs f h.2 e k)

pub AreEndos-get_or : (n : ℕ) (fs : List (List (List ℤ))) (i : ℕ) → AreEndos n fs → i < length fs
    → (length (get_or fs i []) ≡ n) × AreWords n (get_or fs i [])
AreEndos-get_or n [] i h l = absurd (omega arith)
AreEndos-get_or n (f ∷ fs) zero h l = (h.0, h.1)
AreEndos-get_or n (f ∷ fs) (suc i) h l = AreEndos-get_or n fs i h.2 (omega arith)

module _ (n before : ℕ) where
  pub no_words : before ≤ 4194304 → HasWordLetters n before [] before
  no_words h =
      record { kept = record { words = tt; total = omega arith }; short = All-nil (λ w. length w ≤ letter_limit); sum = omega arith }

  pub no_endos : before ≤ 4194304 → HasEndoLetters n before [] before
  no_endos h = record { kept = record { endos = tt; total = omega arith }; short = All-nil AreShort; sum = omega arith }

  -- w is the word at place i
  module _ (ws : List (List ℤ)) (w : List ℤ) (i : ℕ) (l : i < length ws) (here : get_or ws i [] ≡ w) where
    pub one_word_more : (total : ℕ) → HasWordLetters n before (take i ws) total → HasLetters n w → length w ≤ letter_limit
        → total + length w ≤ 4194304
        → HasWordLetters n before (take (i + 1) ws) (total + length w)
    one_word_more total h over short small =
        let so_far = h.kept.words in
        let each = h.short in
        let sum = h.sum in
        let more : letters_in (take (i + 1) ws) ≡ letters_in (take i ws) + length w =
        sum_by_more length ws i [] l ∙ ap (λ (v : List ℤ). letters_in (take i ws) + length v) here in
        let taken : take (i + 1) ws ≡ take i ws ++ w ∷ [] = take_more ws i [] l ∙ ap (λ (v : List ℤ). take i ws ++ v ∷ []) here in
        record {
          kept = record { words = subst (AreWords n) (sym taken) (AreWords-push n (take i ws) w so_far over); total = omega arith };
          short = subst AreShort (sym taken) (All-push (λ v. length v ≤ letter_limit) (take i ws) w each short);
          sum = omega arith;
        }

    pub too_many_letters : (total : ℕ) → HasWordLetters n before (take i ws) total → 4194304 < total + length w → ¬ AreKeptWords n before ws
    too_many_letters total h large kept =
        let sum = h.sum in
        let small = kept.total in
        let part : letters_in (take i ws) + length w ≤ letters_in ws =
        subst (λ (v : List ℤ). letters_in (take i ws) + length v ≤ letters_in ws) here (sum_by_more_le length ws i [] l) in
        omega arith

    pub word_not_over : (¬ HasLetters n w) → ¬ AreKeptWords n before ws
    word_not_over outside kept = outside (subst (HasLetters n) here (HasLetters-get_or n ws i kept.words))

  -- f is the list of images at place i
  module _ (fs : List (List (List ℤ))) (f : List (List ℤ)) (i : ℕ) (l : i < length fs) (here : get_or fs i [] ≡ f) where
    pub one_endo_more : (total more : ℕ) → HasEndoLetters n before (take i fs) total → length f ≡ n → HasWordLetters n total f more
        → HasEndoLetters n before (take (i + 1) fs) more
    one_endo_more total more h count words =
        let so_far = h.kept.endos in
        let each = h.short in
        let sum = h.sum in
        let sum_here = words.sum in
        let small = words.kept.total in
        let both : sum_by letters_in (take (i + 1) fs) ≡ sum_by letters_in (take i fs) + letters_in f =
        sum_by_more letters_in fs i [] l ∙ ap (λ (g : List (List ℤ)). sum_by letters_in (take i fs) + letters_in g) here in
        let taken : take (i + 1) fs ≡ take i fs ++ f ∷ [] = take_more fs i [] l ∙ ap (λ (g : List (List ℤ)). take i fs ++ g ∷ []) here in
        record {
          kept = record {
            endos = subst (AreEndos n) (sym taken) (AreEndos-push n (take i fs) f so_far count words.kept.words);
            total = omega arith;
          };
          short = subst (All AreShort) (sym taken) (All-push AreShort (take i fs) f each words.short);
          sum = omega arith;
        }

    pub images_not_kept : (total : ℕ) → HasEndoLetters n before (take i fs) total → (¬ AreKeptWords n total f) → ¬ AreKeptEndos n before fs
    images_not_kept total h outside kept =
        let sum = h.sum in
        let small = kept.total in
        let part : sum_by letters_in (take i fs) + letters_in f ≤ sum_by letters_in fs =
        subst (λ (g : List (List ℤ)). sum_by letters_in (take i fs) + letters_in g ≤ sum_by letters_in fs) here
        (sum_by_more_le letters_in fs i [] l) in
        outside (record { words = subst (AreWords n) here (AreEndos-get_or n fs i kept.endos l).1; total = omega arith })

    pub images_missing : (¬ (length f ≡ n)) → ¬ AreKeptEndos n before fs
    images_missing wrong kept = wrong (ap length (sym here) ∙ (AreEndos-get_or n fs i kept.endos l).0)
