-- The levels of the series of a presentation are closed under products, inverses and conjugates, are kept by joined words,
-- and fall.
use Rattle.std.proofs.Common.{◌≡◌, ℕ, zero, suc, ◌+◌, ◌-◌, ◌≤◌, ℤ, List, [], ◌++◌, refl, ap, sym, subst, arith}
use Rattle.pq_base.specs.SignedWord.{inv, copies, comm, conj, HasLetters}
use Rattle.pq_base.specs.Presentation.{Presentation}
use Rattle.pq_base.specs.Joined.{Joined}
use Rattle.pq_base.specs.Series.{NextWord, InSeries, HasClass}
use Rattle.pq_base.specs.Series.NextWord.{no_word, then_commutator, then_power}
use Rattle.pq_base.specs.Laws.{LevelsAreNormal, ClassesGrow}
use Rattle.pq_base.proofs.words.LetterLaws.{HasLetters-append, HasLetters-inv}
use Rattle.pq_base.proofs.groups.Groups.{power_in}
use Rattle.pq_base.proofs.groups.GroupLevels.{IsClosed, NextIn, InLevelIn, level-normal, level-same, level-commutator, level-power}
use Rattle.pq_base.proofs.groups.GroupLevels.{level-fall, level-fall_by}
use Rattle.pq_base.proofs.groups.GroupLevels.NextIn.{no_factor, commutator_times, power_times}
use Rattle.pq_base.proofs.words.WordGroup.{word_group}

pub power_in-word_group : (P : Presentation) (u : List ℤ) (n : ℕ) → power_in (word_group P) u n ≡ copies u n
power_in-word_group P u zero = refl
power_in-word_group P u (suc n) = ap (λ (v : List ℤ). u ++ v) (power_in-word_group P u n)

pub HasLetters-closed : (P : Presentation) → IsClosed (word_group P) (HasLetters P.rank)
HasLetters-closed P = record {
  one = tt;
  times = λ u v h i. HasLetters-append P.rank u v h i;
  inverse = λ u h. HasLetters-inv P.rank u h;
}

-- the series of the definitions is the series of the group of words
next_in_word_group : (P : Presentation) (S R : List ℤ → Type 0) → ((u : List ℤ) → S u → R u)
    → {w : List ℤ} → NextWord P S w → NextIn (word_group P) P.prime (HasLetters P.rank) R w
next_in_word_group P S R f no_word = no_factor
next_in_word_group P S R f (then_commutator u v w s h n) = commutator_times u v w (f u s) h (next_in_word_group P S R f n)
next_in_word_group P S R f (then_power u w s n) =
    subst (λ (x : List ℤ). NextIn (word_group P) P.prime (HasLetters P.rank) R (x ++ w)) (power_in-word_group P u P.prime)
    (power_times u w (f u s) (next_in_word_group P S R f n))

next_from_word_group : (P : Presentation) (S R : List ℤ → Type 0) → ((u : List ℤ) → R u → S u)
    → {w : List ℤ} → NextIn (word_group P) P.prime (HasLetters P.rank) R w → NextWord P S w
next_from_word_group P S R f no_factor = no_word
next_from_word_group P S R f (commutator_times u v w s h n) = then_commutator u v w (f u s) h (next_from_word_group P S R f n)
next_from_word_group P S R f (power_times u w s n) =
    subst (λ (x : List ℤ). NextWord P S (x ++ w)) (sym (power_in-word_group P u P.prime))
    (then_power u w (f u s) (next_from_word_group P S R f n))

pub level-from_series : (P : Presentation) (k : ℕ) (w : List ℤ) → InSeries P k w → InLevelIn (word_group P) P.prime (HasLetters P.rank) k w
level-from_series P zero w h = h
level-from_series P (suc k) w h = (
  h.letters,
  record {
    product = h.product;
    next = next_in_word_group P (InSeries P k) (InLevelIn (word_group P) P.prime (HasLetters P.rank) k) (level-from_series P k) h.next;
    same = h.joined;
  },
)

pub series-from_level : (P : Presentation) (k : ℕ) (w : List ℤ) → InLevelIn (word_group P) P.prime (HasLetters P.rank) k w → InSeries P k w
series-from_level P zero w h = h
series-from_level P (suc k) w h = record {
  letters = h.0;
  product = h.1.product;
  next = next_from_word_group P (InSeries P k) (InLevelIn (word_group P) P.prime (HasLetters P.rank) k) (series-from_level P k) h.1.next;
  joined = h.1.same;
}

-- what a level holds
pub series-letters : (P : Presentation) (k : ℕ) (w : List ℤ) → InSeries P k w → HasLetters P.rank w
series-letters P zero w h = h
series-letters P (suc k) w h = h.letters

module _ (P : Presentation) where
  pub series-nil : (k : ℕ) → InSeries P k []
  series-nil k = series-from_level P k [] (level-normal (word_group P) P.prime (HasLetters P.rank) (HasLetters-closed P) k).one

  pub series-append : (k : ℕ) (u v : List ℤ) → InSeries P k u → InSeries P k v → InSeries P k (u ++ v)
  series-append k u v h i =
      series-from_level P k (u ++ v)
      ((level-normal (word_group P) P.prime (HasLetters P.rank) (HasLetters-closed P) k).times u v
      (level-from_series P k u h) (level-from_series P k v i))

  pub series-inv : (k : ℕ) (u : List ℤ) → InSeries P k u → InSeries P k (inv u)
  series-inv k u h =
      series-from_level P k (inv u)
      ((level-normal (word_group P) P.prime (HasLetters P.rank) (HasLetters-closed P) k).inverse u (level-from_series P k u h))

  pub series-conj : (k : ℕ) (u v : List ℤ) → InSeries P k u → HasLetters P.rank v → InSeries P k (conj u v)
  series-conj k u v h i =
      series-from_level P k (conj u v)
      ((level-normal (word_group P) P.prime (HasLetters P.rank) (HasLetters-closed P) k).conjugate u v (level-from_series P k u h) i)

  pub series-copies : (k : ℕ) (u : List ℤ) (n : ℕ) → InSeries P k u → InSeries P k (copies u n)
  series-copies k u zero h = series-nil k
  series-copies k u (suc n) h = series-append k u (copies u n) h (series-copies k u n h)

  -- factors of the next level
  pub series-comm : (k : ℕ) (u v : List ℤ) → InSeries P k u → HasLetters P.rank v → InSeries P (suc k) (comm u v)
  series-comm k u v h i =
      series-from_level P (suc k) (comm u v)
      (level-commutator (word_group P) P.prime (HasLetters P.rank) (HasLetters-closed P) k u v (level-from_series P k u h) i)

  pub series-power : (k : ℕ) (u : List ℤ) → InSeries P k u → InSeries P (suc k) (copies u P.prime)
  series-power k u h =
      subst (λ (w : List ℤ). InSeries P (suc k) w) (power_in-word_group P u P.prime)
      (series-from_level P (suc k) (power_in (word_group P) u P.prime)
      (level-power (word_group P) P.prime (HasLetters P.rank) (HasLetters-closed P) k u (level-from_series P k u h)))

  -- a level after the first holds every word over the generators that is joined to one of its words
  pub series-joined : (k : ℕ) (u v : List ℤ) → Joined P u v → HasLetters P.rank v → InSeries P (suc k) u → InSeries P (suc k) v
  series-joined k u v c h i =
      series-from_level P (suc k) v
      (level-same (word_group P) P.prime (HasLetters P.rank) (HasLetters-closed P) k u v c h (level-from_series P (suc k) u i))

  -- levels fall, and a greater class is allowed
  pub series-fall_one : (k : ℕ) (w : List ℤ) → InSeries P (suc k) w → InSeries P k w
  series-fall_one k w h =
      series-from_level P k w
      (level-fall (word_group P) P.prime (HasLetters P.rank) (HasLetters-closed P) k w (level-from_series P (suc k) w h))

  pub series-fall : (k d : ℕ) (w : List ℤ) → InSeries P (k + d) w → InSeries P k w
  series-fall k d w h =
      series-from_level P k w
      (level-fall_by (word_group P) P.prime (HasLetters P.rank) (HasLetters-closed P) k d w (level-from_series P (k + d) w h))

  pub class-weaken : (c d : ℕ) → c ≤ d → HasClass P c → HasClass P d
  class-weaken c d l h w i =
      h w (series-fall c (d - c) w (subst (λ (n : ℕ). InSeries P n w) (omega arith) i))

pub levels_are_normal : LevelsAreNormal
levels_are_normal P k = record {
  empty = series-nil P k;
  products = series-append P k;
  inverses = series-inv P k;
  conjugates = series-conj P k;
  commutators = series-comm P k;
  powers = series-power P k;
  falls = series-fall_one P k;
  joined = series-joined P k;
}

pub classes_grow : ClassesGrow
classes_grow P c d l h = class-weaken P c d l h
