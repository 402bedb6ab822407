-- Words that commute up to joined, and central words: a word that commutes with every generator commutes with every word,
-- and central words go out of commutators, conjugates and powers.
use Rattle.std.proofs.Common.{ℕ, zero, suc, ◌<◌, ℤ, pos, negsuc, List, [], ◌∷◌, ◌++◌, subst}
use Rattle.pq_base.specs.SignedWord.{inv, copies, comm, conj, HasLetters}
use Rattle.pq_base.specs.Presentation.{Presentation, letter}
use Rattle.pq_base.specs.Joined.{Joined}
use Rattle.pq_base.proofs.words.JoinedLaws.{joined-sym}
use Rattle.pq_base.proofs.groups.Groups.{power_in}
use Rattle.pq_base.proofs.groups.GroupCommute.{Commute, IsCentralIn, commute-sym, commute-one, commute-times, commute-inverse}
use Rattle.pq_base.proofs.groups.GroupCommute.{commute-power, power_in-times, central-one, central-same, central-times, central-inverse}
use Rattle.pq_base.proofs.groups.GroupCommute.{central-power, commutator_in-central_left, commutator_in-central_right, conjugate_in-central}
use Rattle.pq_base.proofs.words.WordGroup.{word_group}
use Rattle.pq_base.proofs.SeriesLaws.{power_in-word_group, HasLetters-closed}

-- words that commute
pub commute-copies_joined : (P : Presentation) (u v : List ℤ) (n : ℕ) → Joined P (u ++ v) (v ++ u)
    → Joined P (copies u n ++ v) (v ++ copies u n)
commute-copies_joined P u v n c =
    subst (λ (x : List ℤ). Joined P (x ++ v) (v ++ x)) (power_in-word_group P u n)
    (commute-power (word_group P) u v n (record { swap = c })).swap

pub copies-append_joined : (P : Presentation) (u v : List ℤ) (n : ℕ) → Joined P (u ++ v) (v ++ u)
    → Joined P (copies (u ++ v) n) (copies u n ++ copies v n)
copies-append_joined P u v n c =
    rw (power_in-word_group P (u ++ v) n, power_in-word_group P u n, power_in-word_group P v n) at
    (power_in-times (word_group P) u v n (record { swap = c }))

-- a word that commutes with every word over the generators
pub record IsCentral (P : Presentation) (z : List ℤ) : Type 0 where
  pub commutes : (w : List ℤ) → HasLetters P.rank w → Joined P (z ++ w) (w ++ z)

pub central_in_words : (P : Presentation) (z : List ℤ) → IsCentral P z → IsCentralIn (word_group P) (HasLetters P.rank) z
central_in_words P z c = record { commutes = λ w h. record { swap = c.commutes w h } }

pub central_from_words : (P : Presentation) (z : List ℤ) → IsCentralIn (word_group P) (HasLetters P.rank) z → IsCentral P z
central_from_words P z c = record { commutes = λ w h. (c.commutes w h).swap }

-- a word that commutes with every generator is central
pub central_from_letters : (P : Presentation) (z : List ℤ) → ((k : ℕ) → k < P.rank → Joined P (z ++ letter k) (letter k ++ z))
    → IsCentral P z
central_from_letters P z c = record { commutes = λ w h. (commute-sym (word_group P) (at_word w h)).swap }
  where
    at_letter : (k : ℕ) → k < P.rank → Commute (word_group P) (letter k) z
    at_letter k l = commute-sym (word_group P) (record { swap = c k l })

    at_word : (w : List ℤ) → HasLetters P.rank w → Commute (word_group P) w z
    at_word [] h = commute-one (word_group P) z
    at_word (pos zero ∷ w) h = absurd h.0
    at_word (pos (suc k) ∷ w) h = commute-times (word_group P) (letter k) w z (at_letter k h.0) (at_word w h.1)
    at_word (negsuc k ∷ w) h =
        commute-times (word_group P) (inv (letter k)) w z (commute-inverse (word_group P) (letter k) z (at_letter k h.0)) (at_word w h.1)

module _ (P : Presentation) where
  pub central-nil : IsCentral P []
  central-nil = central_from_words P [] (central-one (word_group P) (HasLetters P.rank))

  pub central-joined : {z y : List ℤ} → Joined P z y → IsCentral P z → IsCentral P y
  central-joined {z} {y} e c = central_from_words P y (central-same (word_group P) (HasLetters P.rank) e (central_in_words P z c))

  pub central-append : (z y : List ℤ) → IsCentral P z → IsCentral P y → IsCentral P (z ++ y)
  central-append z y c d =
      central_from_words P (z ++ y) (central-times (word_group P) (HasLetters P.rank) z y (central_in_words P z c) (central_in_words P y d))

  pub central-inv : (z : List ℤ) → IsCentral P z → IsCentral P (inv z)
  central-inv z c = central_from_words P (inv z) (central-inverse (word_group P) (HasLetters P.rank) z (central_in_words P z c))

  pub central-copies : (z : List ℤ) (n : ℕ) → IsCentral P z → IsCentral P (copies z n)
  central-copies z n c =
      subst (λ (x : List ℤ). IsCentral P x) (power_in-word_group P z n)
      (central_from_words P (power_in (word_group P) z n) (central-power (word_group P) (HasLetters P.rank) z n (central_in_words P z c)))

  -- central words go out
  pub comm-central_left : (u v z : List ℤ) → HasLetters P.rank u → HasLetters P.rank v → IsCentral P z
      → Joined P (comm (u ++ z) v) (comm u v)
  comm-central_left u v z h i c =
      commutator_in-central_left (word_group P) (HasLetters P.rank) (HasLetters-closed P) u v z h i (central_in_words P z c)

  pub comm-central_right : (u v z : List ℤ) → HasLetters P.rank u → HasLetters P.rank v → IsCentral P z
      → Joined P (comm u (v ++ z)) (comm u v)
  comm-central_right u v z h i c =
      commutator_in-central_right (word_group P) (HasLetters P.rank) (HasLetters-closed P) u v z h i (central_in_words P z c)

  pub conj-central : (u v z : List ℤ) → HasLetters P.rank u → HasLetters P.rank v → IsCentral P z → Joined P (conj u (v ++ z)) (conj u v)
  conj-central u v z h i c =
      conjugate_in-central (word_group P) (HasLetters P.rank) (HasLetters-closed P) u v z h i (central_in_words P z c)

  pub copies-central : (u z : List ℤ) (n : ℕ) → HasLetters P.rank u → IsCentral P z
      → Joined P (copies (u ++ z) n) (copies u n ++ copies z n)
  copies-central u z n h c = copies-append_joined P u z n (joined-sym (c.commutes u h))
