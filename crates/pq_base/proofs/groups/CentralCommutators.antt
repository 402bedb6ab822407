-- Commutators that lie in a central set of words: they are products in each argument, a commutator with a commutator is
-- trivial, and the power of a product is the product of the powers and a power of the commutator.
use Rattle.std.proofs.Common.{◌≡◌, ℕ, zero, suc, ◌+◌, ◌<◌, ℤ, pos, negsuc, List, [], ◌∷◌, ◌++◌, ap, sym, subst, append_assoc}
use Rattle.std.proofs.lemmas.List.{append-nil}
use Rattle.pq_base.specs.SignedWord.{inv, copies, comm, HasLetters}
use Rattle.pq_base.specs.Presentation.{Presentation, letter}
use Rattle.pq_base.specs.Joined.{Joined}
use Rattle.pq_base.proofs.words.WordLaws.{append-copies, copies-add, inv-comm}
use Rattle.pq_base.proofs.words.LetterLaws.{HasLetters-inv, HasLetters-append, HasLetters-comm, HasLetters-copies, HasLetters-letter}
use Rattle.pq_base.proofs.words.JoinedLaws.{joined-refl, joined-from_equal, joined-sym, joined-trans, joined-append, joined-append_left}
use Rattle.pq_base.proofs.words.JoinedLaws.{joined-append_right, joined-comm, joined-solve_left, comm-joined_nil, append-inv-joined}
use Rattle.pq_base.proofs.words.JoinedLaws.{append-append-inv-joined, append-swap-joined}
use Rattle.pq_base.proofs.groups.GroupCommute.{Commute, conjugate_in-commute}
use Rattle.pq_base.proofs.groups.GroupIdentities.{commutator_in-times_left, commutator_in-times_right}
use Rattle.pq_base.proofs.words.WordGroup.{word_group}
use Rattle.pq_base.proofs.words.CentralWords.{IsCentral}

-- a set of central words that joined words keep, closed under products and inverses
pub record IsCentralSet (P : Presentation) (S : List ℤ → Type 0) : Type 0 where
  pub kept : {x y : List ℤ} → Joined P x y → S x → S y
  pub one : S []
  pub times : (x y : List ℤ) → S x → S y → S (x ++ y)
  pub inverse : (x : List ℤ) → S x → S (inv x)
  pub central : (x : List ℤ) → S x → IsCentral P x

-- the power of a product is that of its factors and so many copies of their commutator
pub record PowerOfProduct (P : Presentation) (x y : List ℤ) (k : ℕ) : Type 0 where
  pub count : ℕ
  pub joined : Joined P (copies (x ++ y) k) (copies x k ++ (copies y k ++ copies (comm y x) count))

module _ (P : Presentation) where
  -- a product in one argument
  comm-append_right : (x y z : List ℤ) → Joined P (comm x y ++ z) (z ++ comm x y) → Joined P (comm x (y ++ z)) (comm x z ++ comm x y)
  comm-append_right x y z c =
      let commute : Commute (word_group P) (comm x y) z = record { swap = c } in
      joined-trans (commutator_in-times_right (word_group P) x y z)
      (joined-append_left (comm x z) (conjugate_in-commute (word_group P) (comm x y) z commute))

  comm-append_left : (x y z : List ℤ) → Joined P (comm x z ++ y) (y ++ comm x z) → Joined P (comm (x ++ y) z) (comm x z ++ comm y z)
  comm-append_left x y z c =
      let commute : Commute (word_group P) (comm x z) y = record { swap = c } in
      joined-trans (commutator_in-times_left (word_group P) x y z)
      (joined-append_right (comm y z) (conjugate_in-commute (word_group P) (comm x z) y commute))

  comm-nil_right : (x : List ℤ) → Joined P (comm x []) []
  comm-nil_right x = comm-joined_nil x [] (joined-from_equal P (append-nil x))

  comm-inv_right : (x y : List ℤ) → Joined P (comm x y ++ inv y) (inv y ++ comm x y) → Joined P (comm x (inv y)) (inv (comm x y))
  comm-inv_right x y c =
      let whole : Joined P (comm x (inv y) ++ comm x y) [] =
      joined-trans (joined-sym (comm-append_right x y (inv y) c))
      (joined-trans (joined-comm (joined-refl P x) (append-inv-joined P y)) (comm-nil_right x)) in
      joined-solve_left (comm x (inv y)) (comm x y) whole

  -- one factor more in a power of a product, where d goes past b
  next_power : (x y a b c d : List ℤ) → Joined P (y ++ a) (a ++ (y ++ d)) → Joined P (d ++ b) (b ++ d)
      → Joined P ((x ++ y) ++ (a ++ (b ++ c))) ((x ++ a) ++ ((y ++ b) ++ (d ++ c)))
  next_power x y a b c d swap past =
      let start : (x ++ y) ++ (a ++ (b ++ c)) ≡ x ++ ((y ++ a) ++ (b ++ c)) = simp append_assoc in
      let middle : x ++ ((a ++ (y ++ d)) ++ (b ++ c)) ≡ (x ++ a) ++ (y ++ ((d ++ b) ++ c)) = simp append_assoc in
      let end : (x ++ a) ++ (y ++ ((b ++ d) ++ c)) ≡ (x ++ a) ++ ((y ++ b) ++ (d ++ c)) = simp append_assoc in
      let first : Joined P (x ++ ((y ++ a) ++ (b ++ c))) (x ++ ((a ++ (y ++ d)) ++ (b ++ c))) =
      joined-append_left x (joined-append_right (b ++ c) swap) in
      let second : Joined P ((x ++ a) ++ (y ++ ((d ++ b) ++ c))) ((x ++ a) ++ (y ++ ((b ++ d) ++ c))) =
      joined-append_left (x ++ a) (joined-append_left y (joined-append_right c past)) in
      joined-trans (joined-from_equal P start)
      (joined-trans first (joined-trans (joined-from_equal P middle) (joined-trans second (joined-from_equal P end))))

module _ (P : Presentation) (S : List ℤ → Type 0) (set : IsCentralSet P S) where
  -- the right argument
  pub comm_right-times : (x y z : List ℤ) → HasLetters P.rank z → S (comm x y) → S (comm x z) → S (comm x (y ++ z))
  comm_right-times x y z h s t =
      set.kept (joined-sym (comm-append_right P x y z ((set.central (comm x y) s).commutes z h))) (set.times (comm x z) (comm x y) t s)

  pub comm_right-inverse : (x y : List ℤ) → HasLetters P.rank y → S (comm x y) → S (comm x (inv y))
  comm_right-inverse x y h s =
      set.kept (joined-sym (comm-inv_right P x y ((set.central (comm x y) s).commutes (inv y) (HasLetters-inv P.rank y h))))
      (set.inverse (comm x y) s)

  pub comm_right-word : (x : List ℤ) → ((i : ℕ) → i < P.rank → S (comm x (letter i))) → (v : List ℤ) → HasLetters P.rank v → S (comm x v)
  comm_right-word x each [] h = set.kept (joined-sym (comm-nil_right P x)) set.one
  comm_right-word x each (pos zero ∷ v) h = absurd h.0
  comm_right-word x each (pos (suc i) ∷ v) h = comm_right-times x (letter i) v h.1 (each i h.0) (comm_right-word x each v h.1)
  comm_right-word x each (negsuc i ∷ v) h =
      comm_right-times x (inv (letter i)) v h.1 (comm_right-inverse x (letter i) (HasLetters-letter P.rank i h.0) (each i h.0))
      (comm_right-word x each v h.1)

  pub comm_right-central : (x z : List ℤ) → HasLetters P.rank x → IsCentral P z → S (comm x z)
  comm_right-central x z h c = set.kept (joined-sym (comm-joined_nil x z (joined-sym (c.commutes x h)))) set.one

  -- the arguments turned round, and the left argument
  pub comm-turned : (x y : List ℤ) → S (comm x y) → S (comm y x)
  comm-turned x y s = subst S (inv-comm x y) (set.inverse (comm x y) s)

  pub comm_left-times : (x y z : List ℤ) → HasLetters P.rank y → S (comm x z) → S (comm y z) → S (comm (x ++ y) z)
  comm_left-times x y z h s t =
      set.kept (joined-sym (comm-append_left P x y z ((set.central (comm x z) s).commutes y h))) (set.times (comm x z) (comm y z) s t)

  -- a commutator with a commutator
  pub comm-nested : (x y z : List ℤ) → HasLetters P.rank x → HasLetters P.rank y → HasLetters P.rank z → S (comm x y) → S (comm x z)
      → Joined P (comm x (comm y z)) []
  comm-nested x y z j h i s t =
      let d : List ℤ = comm x y in
      let e : List ℤ = comm x z in
      let inv_y = HasLetters-inv P.rank y h in
      let inv_z = HasLetters-inv P.rank z i in
      let yz = HasLetters-append P.rank y z h i in
      let s' = comm_right-inverse x y h s in
      let t' = comm_right-inverse x z i t in
      let first : Joined P (comm x (y ++ z)) (comm x z ++ comm x y) = comm-append_right P x y z ((set.central d s).commutes z i) in
      let at_z : Joined P (comm x (inv z)) (inv (comm x z)) = comm-inv_right P x z ((set.central e t).commutes (inv z) inv_z) in
      let at_y : Joined P (comm x (inv y)) (inv (comm x y)) = comm-inv_right P x y ((set.central d s).commutes (inv y) inv_y) in
      let second : Joined P (comm x (inv z ++ (y ++ z))) ((comm x z ++ comm x y) ++ inv (comm x z)) =
      joined-trans (comm-append_right P x (inv z) (y ++ z) ((set.central (comm x (inv z)) t').commutes (y ++ z) yz))
      (joined-append first at_z) in
      let third : Joined P (comm x (comm y z)) (((comm x z ++ comm x y) ++ inv (comm x z)) ++ inv (comm x y)) =
      joined-trans
      (comm-append_right P x (inv y) (inv z ++ (y ++ z))
      ((set.central (comm x (inv y)) s').commutes (inv z ++ (y ++ z)) (HasLetters-append P.rank (inv z) (y ++ z) inv_z yz)))
      (joined-append second at_y) in
      let swapped : Joined P (comm x z ++ comm x y) (comm x y ++ comm x z) =
      joined-sym ((set.central d s).commutes e (HasLetters-comm P.rank x z j i)) in
      let cancelled : Joined P (((comm x z ++ comm x y) ++ inv (comm x z)) ++ inv (comm x y)) (comm x y ++ inv (comm x y)) =
      joined-append_right (inv d) (joined-trans (joined-append_right (inv e) swapped) (append-append-inv-joined P d e)) in
      joined-trans third (joined-trans cancelled (append-inv-joined P d))

  -- a commutator with a power
  pub comm-copies : (x y : List ℤ) (n : ℕ) → HasLetters P.rank y → S (comm x y) → Joined P (comm x (copies y n)) (copies (comm x y) n)
  comm-copies x y zero h s = comm-nil_right P x
  comm-copies x y (suc n) h s =
      joined-trans (comm-append_right P x y (copies y n)
      ((set.central (comm x y) s).commutes (copies y n) (HasLetters-copies P.rank y n h)))
      (joined-trans (joined-append_right (comm x y) (comm-copies x y n h s))
      (joined-from_equal P (sym (append-copies (comm x y) n))))

  pub copies-kept : (x : List ℤ) (n : ℕ) → S x → S (copies x n)
  copies-kept x zero s = set.one
  copies-kept x (suc n) s = set.times x (copies x n) s (copies-kept x n s)

  -- the power of a product
  pub copies-product : (x y : List ℤ) (k : ℕ) → HasLetters P.rank x → HasLetters P.rank y → S (comm y x) → PowerOfProduct P x y k
  copies-product x y zero h i s = record { count = 0; joined = joined-refl P [] }
  copies-product x y (suc k) h i s =
      let z : List ℤ = comm y x in
      let r = copies-product x y k h i s in
      let swap : Joined P (y ++ copies x k) (copies x k ++ (y ++ copies (comm y x) k)) =
      joined-trans (append-swap-joined P y (copies x k))
      (joined-append_left (copies x k) (joined-append_left y (comm-copies y x k h s))) in
      let past : Joined P (copies (comm y x) k ++ copies y k) (copies y k ++ copies (comm y x) k) =
      (set.central (copies z k) (copies-kept z k s)).commutes (copies y k) (HasLetters-copies P.rank y k i) in
      record {
        count = k + r.count;
        joined =
            joined-trans (joined-append_left (x ++ y) r.joined)
            (joined-trans (next_power P x y (copies x k) (copies y k) (copies z r.count) (copies z k) swap past)
            (joined-from_equal P
            (ap (λ (w : List ℤ). (x ++ copies x k) ++ ((y ++ copies y k) ++ w)) (sym (copies-add (comm y x) k r.count)))));
      }

  -- so where the powers of x and y and their commutator lie in the set, the power of the product does
  pub copies-product_kept : (x y : List ℤ) (k : ℕ) → HasLetters P.rank x → HasLetters P.rank y → S (comm y x) → S (copies x k)
      → S (copies y k)
      → S (copies (x ++ y) k)
  copies-product_kept x y k h i s a b =
      let r = copies-product x y k h i s in
      set.kept (joined-sym r.joined)
      (set.times (copies x k) (copies y k ++ copies (comm y x) r.count) a
      (set.times (copies y k) (copies (comm y x) r.count) b (copies-kept (comm y x) r.count s)))
