-- In a group, sides of equal value make relators of value one.
use Rattle.std.proofs.Common.{ℤ, List, ◌++◌}
use Rattle.pq_base.specs.SignedWord.{inv, comm}
use Rattle.pq_base.proofs.groups.Groups.{Group, value_in, times-same_left, times_in-cancel_left, value_in-append, value_in-inv}
use Rattle.pq_base.proofs.groups.Groups.{value_in-comm, commutator_in}
use Rattle.pq_base.proofs.groups.GroupIdentities.{times_in-swap}

module _ (G : Group) (f : List G.carrier) where
  pub relator-one : (u w : List ℤ) → G.same (value_in G f u) (value_in G f w) → G.same (value_in G f (u ++ inv w)) G.one
  relator-one u w e =
      G.transitive (value_in-append G f u (inv w))
      (G.transitive (G.times-same e (value_in-inv G f w)) (G.inverse_right (value_in G f w)))

  pub commutator-value : (u v w : List ℤ) → G.same (value_in G f (u ++ v)) (value_in G f (v ++ (u ++ w)))
      → G.same (value_in G f (comm u v)) (value_in G f w)
  commutator-value u v w e =
      let a : G.carrier = value_in G f u in
      let b : G.carrier = value_in G f v in
      let c : G.carrier = value_in G f w in
      let right : G.same (value_in G f (v ++ (u ++ w))) (G.times b (G.times a c)) =
      G.transitive (value_in-append G f v (u ++ w)) (times-same_left G b (value_in-append G f u w)) in
      let sides : G.same (G.times b (G.times a (commutator_in G a b))) (G.times b (G.times a c)) =
      G.transitive (G.symmetric (times_in-swap G a b)) (G.transitive (G.symmetric (value_in-append G f u v)) (G.transitive e right)) in
      G.transitive (value_in-comm G f u v)
      (times_in-cancel_left G a (commutator_in G a b) c (times_in-cancel_left G b (G.times a (commutator_in G a b)) (G.times a c) sides))
