-- Chains over any predicate of trivial words are an equivalence that concatenation keeps, and the least one: a relation
-- that is an equivalence and holds at every insertion contains them. Only this file opens a chain.
use Rattle.std.proofs.Common.{ℤ, List, [], ◌++◌, append_assoc}
use Rattle.std.proofs.lemmas.List.{append-nil}
use Rattle.pq_base.specs.Joined.{Move, Chain}
use Rattle.pq_base.specs.Joined.Move.{insert, delete}
use Rattle.pq_base.specs.Joined.Chain.{done, step}

-- an equivalence of words
pub record IsWordEquivalence (R : List ℤ → List ℤ → Type 0) : Type 0 where
  pub reflexive : (u : List ℤ) → R u u
  pub symmetric : (u v : List ℤ) → R u v → R v u
  pub transitive : (u v w : List ℤ) → R u v → R v w → R u w

module _ {E : List ℤ → Type 0} where
  pub move-sym : {u v : List ℤ} → Move E u v → Move E v u
  move-sym (insert a x b e) = delete a x b e
  move-sym (delete a x b e) = insert a x b e

  pub chain-trans : {u v w : List ℤ} → Chain E u v → Chain E v w → Chain E u w
  chain-trans done c = c
  chain-trans (step m d) c = step m (chain-trans d c)

  pub chain-sym : {u v : List ℤ} → Chain E u v → Chain E v u
  chain-sym done = done
  chain-sym (step m c) = chain-trans (chain-sym c) (step (move-sym m) done)

  pub move-append_left : (c : List ℤ) {u v : List ℤ} → Move E u v → Move E (c ++ u) (c ++ v)
  move-append_left c (insert a x b e) =
      let m : Move E ((c ++ a) ++ b) ((c ++ a) ++ (x ++ b)) = insert (c ++ a) x b e in
      simp append_assoc at m
  move-append_left c (delete a x b e) =
      let m : Move E ((c ++ a) ++ (x ++ b)) ((c ++ a) ++ b) = delete (c ++ a) x b e in
      simp append_assoc at m

  pub move-append_right : (c : List ℤ) {u v : List ℤ} → Move E u v → Move E (u ++ c) (v ++ c)
  move-append_right c (insert a x b e) = simp append_assoc (insert a x (b ++ c) e)
  move-append_right c (delete a x b e) = simp append_assoc (delete a x (b ++ c) e)

  pub chain-append_left : (c : List ℤ) {u v : List ℤ} → Chain E u v → Chain E (c ++ u) (c ++ v)
  chain-append_left c done = done
  chain-append_left c (step m d) = step (move-append_left c m) (chain-append_left c d)

  pub chain-append_right : (c : List ℤ) {u v : List ℤ} → Chain E u v → Chain E (u ++ c) (v ++ c)
  chain-append_right c done = done
  chain-append_right c (step m d) = step (move-append_right c m) (chain-append_right c d)

  pub chain-append : {u v x y : List ℤ} → Chain E u v → Chain E x y → Chain E (u ++ x) (v ++ y)
  chain-append {v = v} {x = x} c d = chain-trans (chain-append_right x c) (chain-append_left v d)

  -- a trivial word by itself, and in a context
  pub chain-trivial : (x : List ℤ) → E x → Chain E x []
  chain-trivial x e =
      let m : Move E ([] ++ (x ++ [])) ([] ++ []) = delete [] x [] e in
      step (simp append-nil at m) done

  -- a relation that is an equivalence and holds at every insertion contains the chains
  pub chain-induction : (R : List ℤ → List ℤ → Type 0) → IsWordEquivalence R
      → ((a x b : List ℤ) → E x → R (a ++ b) (a ++ (x ++ b))) → {u v : List ℤ} → Chain E u v → R u v
  chain-induction R r i {u} done = r.reflexive u
  chain-induction R r i {u} {v} (step {v = x} m c) = r.transitive u x v (at_move m) (chain-induction R r i c)
    where
      at_move : {y z : List ℤ} → Move E y z → R y z
      at_move (insert a x b e) = i a x b e
      at_move (delete a x b e) = r.symmetric (a ++ b) (a ++ (x ++ b)) (i a x b e)

-- chains over one predicate are chains over another where its trivial words are trivial up to those
pub chain-map : {E F : List ℤ → Type 0} → ((x : List ℤ) → E x → Chain F x []) → {u v : List ℤ} → Chain E u v → Chain F u v
chain-map {E} {F} f c = chain-induction (λ (u v : List ℤ). Chain F u v) equivalence at_insertion c
  where
    equivalence : IsWordEquivalence (λ (u v : List ℤ). Chain F u v)
    equivalence = record {
      reflexive = λ u. done;
      symmetric = λ u v d. chain-sym d;
      transitive = λ u v w d d'. chain-trans d d';
    }

    at_insertion : (a x b : List ℤ) → E x → Chain F (a ++ b) (a ++ (x ++ b))
    at_insertion a x b e = chain-append_left a (chain-append_right b (chain-sym (f x e)))
