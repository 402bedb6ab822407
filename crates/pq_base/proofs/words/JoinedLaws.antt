-- Joined words are a group: an equivalence that concatenation, inverses and powers keep, in which u ++ inv u is joined
-- to the empty word, and in which the relators of the presentation hold as equations.
use Rattle.std.proofs.Common.{◌≡◌, ℕ, zero, suc, ◌<◌, ℤ, pos, negsuc, neg_ℤ, List, [], ◌∷◌, ◌++◌, subst, sym, append_assoc}
use Rattle.std.proofs.lemmas.List.{append-nil}
use Rattle.pq_base.specs.SignedWord.{inv, copies, pow, comm, conj}
use Rattle.pq_base.specs.Presentation.{Presentation, IsRelatorOf, letter, power_word, commutator_word}
use Rattle.pq_base.specs.Presentation.IsRelatorOf.{power_relator, commutator_relator}
use Rattle.pq_base.specs.Joined.{IsTrivial, Joined}
use Rattle.pq_base.specs.Joined.IsTrivial.{pair, relator}
use Rattle.pq_base.specs.Joined.Chain.{done}
use Rattle.pq_base.specs.Laws.{JoinedWordsAreACongruence}
use Rattle.pq_base.proofs.words.WordLaws.{inv-inv}
use Rattle.pq_base.proofs.words.ChainLaws.{IsWordEquivalence, chain-sym, chain-trans, chain-append_left, chain-append_right, chain-append}
use Rattle.pq_base.proofs.words.ChainLaws.{chain-trivial, chain-induction}

-- an equivalence
pub joined-refl : (P : Presentation) (u : List ℤ) → Joined P u u
joined-refl P u = done

pub joined-from_equal : (P : Presentation) {u v : List ℤ} → u ≡ v → Joined P u v
joined-from_equal P {u} e = subst (λ (w : List ℤ). Joined P u w) e done

pub joined-sym : {P : Presentation} {u v : List ℤ} → Joined P u v → Joined P v u
joined-sym c = chain-sym c

pub joined-trans : {P : Presentation} {u v w : List ℤ} → Joined P u v → Joined P v w → Joined P u w
joined-trans c d = chain-trans c d

-- a relation that is an equivalence and holds at every insertion contains the joined words
pub joined-induction : {P : Presentation} (R : List ℤ → List ℤ → Type 0) → IsWordEquivalence R
    → ((a x b : List ℤ) → IsTrivial P x → R (a ++ b) (a ++ (x ++ b))) → {u v : List ℤ} → Joined P u v → R u v
joined-induction R r i c = chain-induction R r i c

-- concatenation keeps them
pub joined-append_left : {P : Presentation} (c : List ℤ) {u v : List ℤ} → Joined P u v → Joined P (c ++ u) (c ++ v)
joined-append_left c d = chain-append_left c d

pub joined-append_right : {P : Presentation} (c : List ℤ) {u v : List ℤ} → Joined P u v → Joined P (u ++ c) (v ++ c)
joined-append_right c d = chain-append_right c d

pub joined-append : {P : Presentation} {u v x y : List ℤ} → Joined P u v → Joined P x y → Joined P (u ++ x) (v ++ y)
joined-append c d = chain-append c d

-- a word that is joined to the empty word goes out of a context
pub joined-drop : {P : Presentation} (a : List ℤ) {x : List ℤ} (b : List ℤ) → Joined P x [] → Joined P (a ++ (x ++ b)) (a ++ b)
joined-drop a b c = joined-append_left a (joined-append_right b c)

-- trivial words
pub pair-joined : (P : Presentation) (k : ℤ) → Joined P (k ∷ neg_ℤ k ∷ []) []
pair-joined P k = chain-trivial (k ∷ neg_ℤ k ∷ []) (pair k)

pub relator-joined : (P : Presentation) {r : List ℤ} → IsRelatorOf P r → Joined P r []
relator-joined P {r} h = chain-trivial r (relator r h)

-- inverses
pub append-inv-joined : (P : Presentation) (u : List ℤ) → Joined P (u ++ inv u) []
append-inv-joined P [] = done
append-inv-joined P (k ∷ u) =
    let inner : Joined P ((k ∷ []) ++ ((u ++ inv u) ++ (neg_ℤ k ∷ []))) ((k ∷ []) ++ (neg_ℤ k ∷ [])) =
    joined-drop (k ∷ []) (neg_ℤ k ∷ []) (append-inv-joined P u) in
    joined-trans (simp append_assoc at inner) (pair-joined P k)

pub inv-append-joined : (P : Presentation) (u : List ℤ) → Joined P (inv u ++ u) []
inv-append-joined P u = subst (λ (v : List ℤ). Joined P (inv u ++ v) []) (inv-inv u) (append-inv-joined P (inv u))

-- u ++ (inv u ++ w) and inv u ++ (u ++ w) are joined to w
pub append-inv-append-joined : (P : Presentation) (u w : List ℤ) → Joined P (u ++ (inv u ++ w)) w
append-inv-append-joined P u w = simp append_assoc at (joined-append_right w (append-inv-joined P u))

pub inv-append-append-joined : (P : Presentation) (u w : List ℤ) → Joined P (inv u ++ (u ++ w)) w
inv-append-append-joined P u w = simp append_assoc at (joined-append_right w (inv-append-joined P u))

pub append-append-inv-joined : (P : Presentation) (w u : List ℤ) → Joined P ((w ++ u) ++ inv u) w
append-append-inv-joined P w u =
    let end : Joined P (w ++ (u ++ inv u)) (w ++ []) = joined-append_left w (append-inv-joined P u) in
    simp append_assoc (simp append-nil at end)

-- cancelling
pub joined-cancel_left : {P : Presentation} (w u v : List ℤ) → Joined P (w ++ u) (w ++ v) → Joined P u v
joined-cancel_left {P} w u v c =
    joined-trans (joined-sym (inv-append-append-joined P w u))
    (joined-trans (joined-append_left (inv w) c) (inv-append-append-joined P w v))

pub joined-cancel_right : {P : Presentation} (w u v : List ℤ) → Joined P (u ++ w) (v ++ w) → Joined P u v
joined-cancel_right {P} w u v c =
    joined-trans (joined-sym (append-append-inv-joined P u w))
    (joined-trans (joined-append_right (inv w) c) (append-append-inv-joined P v w))

-- solving
pub joined-from_quotient : {P : Presentation} (u v : List ℤ) → Joined P (u ++ inv v) [] → Joined P u v
joined-from_quotient {P} u v c =
    joined-cancel_right (inv v) u v (joined-trans c (joined-sym (append-inv-joined P v)))

pub joined-quotient : {P : Presentation} {u v : List ℤ} → Joined P u v → Joined P (u ++ inv v) []
joined-quotient {P} {v = v} c = joined-trans (joined-append_right (inv v) c) (append-inv-joined P v)

pub joined-solve_right : {P : Presentation} (u v : List ℤ) {w : List ℤ} → Joined P (u ++ v) w → Joined P v (inv u ++ w)
joined-solve_right {P} u v c = joined-trans (joined-sym (inv-append-append-joined P u v)) (joined-append_left (inv u) c)

pub joined-solve_left : {P : Presentation} (u v : List ℤ) {w : List ℤ} → Joined P (u ++ v) w → Joined P u (w ++ inv v)
joined-solve_left {P} u v c = joined-trans (joined-sym (append-append-inv-joined P u v)) (joined-append_right (inv v) c)

pub joined-inv : {P : Presentation} {u v : List ℤ} → Joined P u v → Joined P (inv u) (inv v)
joined-inv {P} {u} {v} c =
    joined-cancel_left u (inv u) (inv v) (joined-trans (append-inv-joined P u) (joined-sym (joined-quotient c)))

-- powers, commutators and conjugates
pub joined-copies : {P : Presentation} {u v : List ℤ} (n : ℕ) → Joined P u v → Joined P (copies u n) (copies v n)
joined-copies zero c = done
joined-copies (suc n) c = joined-append c (joined-copies n c)

pub joined-pow : {P : Presentation} {u v : List ℤ} (n : ℤ) → Joined P u v → Joined P (pow u n) (pow v n)
joined-pow (pos n) c = joined-copies n c
joined-pow (negsuc n) c = joined-copies (suc n) (joined-inv c)

pub joined-conj : {P : Presentation} {u v x y : List ℤ} → Joined P u v → Joined P x y → Joined P (conj u x) (conj v y)
joined-conj c d = joined-append (joined-inv d) (joined-append c d)

pub joined-comm : {P : Presentation} {u v x y : List ℤ} → Joined P u v → Joined P x y → Joined P (comm u x) (comm v y)
joined-comm c d = joined-append (joined-inv c) (joined-conj c d)

-- a product the other way round, and the commutator
pub append-swap-joined : (P : Presentation) (u v : List ℤ) → Joined P (u ++ v) (v ++ (u ++ comm u v))
append-swap-joined P u v =
    joined-sym (joined-trans (joined-append_left v (append-inv-append-joined P u (inv v ++ (u ++ v))))
    (append-inv-append-joined P v (u ++ v)))

pub comm-joined : {P : Presentation} (u v : List ℤ) {w : List ℤ} → Joined P (u ++ v) (v ++ (u ++ w)) → Joined P (comm u v) w
comm-joined {P} u v {w} c =
    joined-cancel_left u (comm u v) w
    (joined-cancel_left v (u ++ comm u v) (u ++ w) (joined-trans (joined-sym (append-swap-joined P u v)) c))

pub comm-joined_nil : {P : Presentation} (u v : List ℤ) → Joined P (u ++ v) (v ++ u) → Joined P (comm u v) []
comm-joined_nil {P} u v c = comm-joined u v (subst (λ (x : List ℤ). Joined P (u ++ v) (v ++ x)) (sym (append-nil u)) c)

pub append-swap-from_comm : {P : Presentation} (u v : List ℤ) {w : List ℤ} → Joined P (comm u v) w → Joined P (u ++ v) (v ++ (u ++ w))
append-swap-from_comm {P} u v c = joined-trans (append-swap-joined P u v) (joined-append_left v (joined-append_left u c))

pub commute-from_comm : {P : Presentation} (u v : List ℤ) → Joined P (comm u v) [] → Joined P (u ++ v) (v ++ u)
commute-from_comm {P} u v c = subst (λ (x : List ℤ). Joined P (u ++ v) (v ++ x)) (append-nil u) (append-swap-from_comm u v c)

-- the relators as equations
pub power-joined : (P : Presentation) (i : ℕ) → i < P.rank → Joined P (copies (letter i) P.prime) (power_word P i)
power-joined P i l = joined-from_quotient (copies (letter i) P.prime) (power_word P i) (relator-joined P (power_relator i l))

pub commutator-joined : (P : Presentation) (j i : ℕ) → j < P.rank → i < j → Joined P (comm (letter j) (letter i)) (commutator_word P j i)
commutator-joined P j i l m =
    joined-from_quotient (comm (letter j) (letter i)) (commutator_word P j i) (relator-joined P (commutator_relator j i l m))

pub letter-swap-joined : (P : Presentation) (j i : ℕ) → j < P.rank → i < j
    → Joined P (letter j ++ letter i) (letter i ++ (letter j ++ commutator_word P j i))
letter-swap-joined P j i l m = append-swap-from_comm (letter j) (letter i) (commutator-joined P j i l m)

pub joined_words_are_a_congruence : JoinedWordsAreACongruence
joined_words_are_a_congruence P = record {
  reflexive = joined-refl P;
  symmetric = λ u v c. joined-sym c;
  transitive = λ u v w c d. joined-trans c d;
  products = λ u v x y c d. joined-append c d;
  inverses = λ u v c. joined-inv c;
  relators = λ r h. relator-joined P h;
  pairs = pair-joined P;
}
