use Rattle.std.proofs.Common.{◌≡◌, ◌≤◌, ◌+◌, ◌++◌, List, length, take, drop, refl, arith}
use Rattle.std.proofs.lemmas.List.{take_at}
use Rattle.pq_base.specs.Prime.{prime_value}
use Rattle.fp_echelon.specs.Slots.{Slot}
use Rattle.fp_echelon.proofs.BasisInsertion.{given_slots, given_pivots, after_left, same_after_left, basis_after_left, in_span_where_left}
use Rattle.fp_echelon.proofs.BasisInsertion.{after_joined, basis_after_joined, independent_where_joined, added_after_joined}
use Rattle.fp_echelon.proofs.BasisInsertion.{pivots_after_joined, rank_after_joined}
use Rattle.fp_echelon.proofs.basis.Basis.insert_reduced.Goals as goal

pub insert-requires-clause-slots : goal.insert-requires-clause-slots
insert-requires-clause-slots c =
    given_slots (prime_value c.self.inside.prime) c.self.inside.width c.self.inside.rank c.self.inside.spare c.self.inside.entries.items
    c.deref_mut.result.now c.self.inside.entries.items c.self.inside.entries.items c.args.self.now c.args.row.now c.self.view_is
    c.self.invariant.0
    c.deref_mut.ensures.value refl c.requires.prime c.requires.width c.requires.spare

pub insert-requires-clause-pivots : goal.insert-requires-clause-pivots
insert-requires-clause-pivots c =
    given_pivots (prime_value c.self.inside.prime) c.self.inside.width c.self.inside.rank c.self.inside.spare c.self.inside.entries.items
    c.deref_mut.result.now c.self.inside.entries.items c.self.inside.entries.items c.args.self.now c.args.row.now c.self.view_is
    c.self.invariant.0
    c.deref_mut.ensures.value refl c.requires.prime c.requires.width c.requires.spare

pub invariant_of-self : goal.invariant_of-self
invariant_of-self c =
    let stored : List Slot =
    take c.self.inside.entries.len (c.insert.new.entries ++ drop (length c.insert.new.entries) c.self.inside.entries.items) in
    let kept : stored ≡ c.insert.new.entries =
    take_at c.insert.new.entries (drop (length c.insert.new.entries) c.self.inside.entries.items) c.self.inside.entries.len
    (omega arith) in (
      after_left (prime_value c.self.inside.prime) c.self.inside.width c.self.inside.rank c.self.inside.spare c.self.inside.entries.items
          c.deref_mut.result.now c.insert.new.entries stored c.args.self.now c.args.row.now c.self.view_is c.self.invariant.0
          c.deref_mut.ensures.value kept c.requires.prime c.requires.width c.requires.spare c.insert.ensures.row
          c.in-None.ensures.none,
      c.self.invariant.1,
      c.self.invariant.2,
    )

pub invariant_of-self-in-Some : goal.invariant_of-self-in-Some
invariant_of-self-in-Some c =
    let stored : List Slot =
    take c.self.inside.entries.len (c.insert.new.entries ++ drop (length c.insert.new.entries) c.self.inside.entries.items) in
    let kept : stored ≡ c.insert.new.entries =
    take_at c.insert.new.entries (drop (length c.insert.new.entries) c.self.inside.entries.items) c.self.inside.entries.len
    (omega arith) in (
      after_joined (prime_value c.self.inside.prime) c.self.inside.width c.self.inside.rank c.self.inside.spare c.self.inside.entries.items
          c.deref_mut.result.now c.insert.new.entries stored c.args.self.now c.args.row.now c.self.view_is c.self.invariant.0
          c.deref_mut.ensures.value kept c.requires.prime c.requires.width c.requires.spare c.insert.ensures.row
          c.in-Some.column c.in-Some.ensures.some,
      c.self.invariant.1,
      c.self.invariant.2,
    )

pub returns-in-None-clause-basis : goal.returns-in-None-clause-basis
returns-in-None-clause-basis c =
    let stored : List Slot =
    take c.self.inside.entries.len (c.insert.new.entries ++ drop (length c.insert.new.entries) c.self.inside.entries.items) in
    let kept : stored ≡ c.insert.new.entries =
    take_at c.insert.new.entries (drop (length c.insert.new.entries) c.self.inside.entries.items) c.self.inside.entries.len (omega arith) in
    basis_after_left (prime_value c.self.inside.prime) c.self.inside.width c.self.inside.rank c.self.inside.spare
    c.self.inside.entries.items
    c.deref_mut.result.now c.insert.new.entries stored c.args.self.now c.args.row.now c.self.view_is c.self.invariant.0
    c.deref_mut.ensures.value kept c.requires.prime c.requires.width c.requires.spare c.insert.ensures.row
    c.in-None.ensures.none

pub returns-in-None-clause-dependent : goal.returns-in-None-clause-dependent
returns-in-None-clause-dependent c =
    let stored : List Slot =
    take c.self.inside.entries.len (c.insert.new.entries ++ drop (length c.insert.new.entries) c.self.inside.entries.items) in
    let kept : stored ≡ c.insert.new.entries =
    take_at c.insert.new.entries (drop (length c.insert.new.entries) c.self.inside.entries.items) c.self.inside.entries.len (omega arith) in
    in_span_where_left (prime_value c.self.inside.prime) c.self.inside.width c.self.inside.rank c.self.inside.spare
    c.self.inside.entries.items
    c.deref_mut.result.now c.insert.new.entries stored c.args.self.now c.args.row.now c.self.view_is c.self.invariant.0
    c.deref_mut.ensures.value kept c.requires.prime c.requires.width c.requires.spare c.insert.ensures.row
    c.in-None.ensures.none

pub returns-in-None-clause-unchanged : goal.returns-in-None-clause-unchanged
returns-in-None-clause-unchanged c =
    let stored : List Slot =
    take c.self.inside.entries.len (c.insert.new.entries ++ drop (length c.insert.new.entries) c.self.inside.entries.items) in
    let kept : stored ≡ c.insert.new.entries =
    take_at c.insert.new.entries (drop (length c.insert.new.entries) c.self.inside.entries.items) c.self.inside.entries.len (omega arith) in
    same_after_left (prime_value c.self.inside.prime) c.self.inside.width c.self.inside.rank c.self.inside.spare c.self.inside.entries.items
    c.deref_mut.result.now c.insert.new.entries stored c.args.self.now c.args.row.now c.self.view_is c.self.invariant.0
    c.deref_mut.ensures.value kept c.requires.prime c.requires.width c.requires.spare c.insert.ensures.row
    c.in-None.ensures.none

pub returns-in-Some-clause-basis : goal.returns-in-Some-clause-basis
returns-in-Some-clause-basis c =
    let stored : List Slot =
    take c.self.inside.entries.len (c.insert.new.entries ++ drop (length c.insert.new.entries) c.self.inside.entries.items) in
    let kept : stored ≡ c.insert.new.entries =
    take_at c.insert.new.entries (drop (length c.insert.new.entries) c.self.inside.entries.items) c.self.inside.entries.len (omega arith) in
    basis_after_joined (prime_value c.self.inside.prime) c.self.inside.width c.self.inside.rank c.self.inside.spare
    c.self.inside.entries.items
    c.deref_mut.result.now c.insert.new.entries stored c.args.self.now c.args.row.now c.self.view_is c.self.invariant.0
    c.deref_mut.ensures.value kept c.requires.prime c.requires.width c.requires.spare c.insert.ensures.row
    c.in-Some.column c.in-Some.ensures.some

pub returns-in-Some-clause-independent : goal.returns-in-Some-clause-independent
returns-in-Some-clause-independent c =
    let stored : List Slot =
    take c.self.inside.entries.len (c.insert.new.entries ++ drop (length c.insert.new.entries) c.self.inside.entries.items) in
    let kept : stored ≡ c.insert.new.entries =
    take_at c.insert.new.entries (drop (length c.insert.new.entries) c.self.inside.entries.items) c.self.inside.entries.len (omega arith) in
    independent_where_joined (prime_value c.self.inside.prime) c.self.inside.width c.self.inside.rank c.self.inside.spare
    c.self.inside.entries.items
    c.deref_mut.result.now c.insert.new.entries stored c.args.self.now c.args.row.now c.self.view_is c.self.invariant.0
    c.deref_mut.ensures.value kept c.requires.prime c.requires.width c.requires.spare c.insert.ensures.row
    c.in-Some.column c.in-Some.ensures.some

pub returns-in-Some-clause-added : goal.returns-in-Some-clause-added
returns-in-Some-clause-added c =
    let stored : List Slot =
    take c.self.inside.entries.len (c.insert.new.entries ++ drop (length c.insert.new.entries) c.self.inside.entries.items) in
    let kept : stored ≡ c.insert.new.entries =
    take_at c.insert.new.entries (drop (length c.insert.new.entries) c.self.inside.entries.items) c.self.inside.entries.len (omega arith) in
    added_after_joined (prime_value c.self.inside.prime) c.self.inside.width c.self.inside.rank c.self.inside.spare
    c.self.inside.entries.items
    c.deref_mut.result.now c.insert.new.entries stored c.args.self.now c.args.row.now c.self.view_is c.self.invariant.0
    c.deref_mut.ensures.value kept c.requires.prime c.requires.width c.requires.spare c.insert.ensures.row
    c.in-Some.column c.in-Some.ensures.some

pub returns-in-Some-clause-pivot : goal.returns-in-Some-clause-pivot
returns-in-Some-clause-pivot c =
    let stored : List Slot =
    take c.self.inside.entries.len (c.insert.new.entries ++ drop (length c.insert.new.entries) c.self.inside.entries.items) in
    let kept : stored ≡ c.insert.new.entries =
    take_at c.insert.new.entries (drop (length c.insert.new.entries) c.self.inside.entries.items) c.self.inside.entries.len (omega arith) in
    pivots_after_joined (prime_value c.self.inside.prime) c.self.inside.width c.self.inside.rank c.self.inside.spare
    c.self.inside.entries.items
    c.deref_mut.result.now c.insert.new.entries stored c.args.self.now c.args.row.now c.self.view_is c.self.invariant.0
    c.deref_mut.ensures.value kept c.requires.prime c.requires.width c.requires.spare c.insert.ensures.row
    c.in-Some.column c.in-Some.ensures.some

pub overflow_add-self : goal.overflow_add-self
overflow_add-self c =
    let stored : List Slot =
    take c.self.inside.entries.len (c.insert.new.entries ++ drop (length c.insert.new.entries) c.self.inside.entries.items) in
    let kept : stored ≡ c.insert.new.entries =
    take_at c.insert.new.entries (drop (length c.insert.new.entries) c.self.inside.entries.items) c.self.inside.entries.len (omega arith) in
    let low : c.self.inside.rank + 1 ≤ c.self.inside.width =
    rank_after_joined (prime_value c.self.inside.prime) c.self.inside.width c.self.inside.rank c.self.inside.spare
    c.self.inside.entries.items
    c.deref_mut.result.now c.insert.new.entries stored c.args.self.now c.args.row.now c.self.view_is c.self.invariant.0
    c.deref_mut.ensures.value kept c.requires.prime c.requires.width c.requires.spare c.insert.ensures.row
    c.in-Some.column c.in-Some.ensures.some in
    omega arith
