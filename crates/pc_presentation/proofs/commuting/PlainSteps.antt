-- A push of the plain rule on a whole state: the later exponents are cleared, the generator's own is raised, and the later
-- letters are pushed again, each followed by the right side of its commutator.
use Rattle.std.proofs.Common.{◌≡◌, ℕ, suc, ◌+◌, ◌-◌, ◌<◌, Bool, true, false, eqb, List, [], ◌∷◌, ◌++◌, get_or, length, replicate, take}
use Rattle.std.proofs.Common.{drop, ap, sym, ◌∙◌, arith, append_assoc}
use Rattle.std.proofs.Math.Seq.{take-suc}
use Rattle.std.proofs.lemmas.List.{set_at, get_or_at, length-append, length-take-le, length-drop, take-append-drop}
use Rattle.fp_rows.proofs.BelowLaws.{AllBelow-drop, get_or-below_within}
use Rattle.pq_base.specs.Presentation.{power_side, commutator_side}
use Rattle.pc_presentation.specs.Rowed.{RowedPresentation, power_row, commutator_row}
use Rattle.pc_presentation.specs.Collection.{State, IsState, spelled, before, push_word, push_configuration, push_power, push_past, raise}
use Rattle.pc_presentation.specs.Collection.{plain_push}
use Rattle.pc_presentation.specs.Tailed.{cleared_after}
use Rattle.pc_presentation.specs.PushSteps.{with_exponent, raised_by, raised, passed}
use Rattle.pc_presentation.proofs.collecting.PlainRule.{plain, plain-first}
use Rattle.pc_presentation.proofs.commuting.Leads.{lead, plain-lead, copies-lead, spelled-lead, configuration-lead}

lead-before : (l : List ℕ) (v : ℕ) (s : State) → lead l (before v s) ≡ lead (l ++ v ∷ []) s
lead-before l v s = ap (λ (e : List ℕ). record { exponents = e; row = s.row }) (sym (append_assoc l (v ∷ []) s.exponents))

-- a state with the exponents l before the place i, and m after it
module _ (Y : RowedPresentation) (l : List ℕ) (i m : ℕ) (place : length l ≡ i) (whole : Y.base.rank ≡ i + suc m) where
  -- the exponent at the place
  pub with_exponent-lead : (e v : ℕ) (s : State) → with_exponent (lead l (before e s)) i v ≡ lead l (before v s)
  with_exponent-lead e v s = ap (λ (x : List ℕ). record { exponents = x; row = s.row }) (set_at l e s.exponents v i place)

  pub exponent-lead : (e : ℕ) (s : State) → get_or (lead l (before e s)).exponents i 0 ≡ e
  exponent-lead e s = get_or_at l e s.exponents 0 i place

  -- pushes from the place on
  push-lead : (s : State) (j' j : ℕ) → j' ≡ i + j → plain_push Y (lead l s) j' ≡ lead l (plain Y (suc m) i s j)
  push-lead s j' j h = plain-lead Y l Y.base.rank (suc m) 0 i s j' j (omega arith) (omega arith) (omega arith)

  pub copies-here : (c e : ℕ) (s : State)
      → push_word (plain_push Y) (lead l (before e s)) (replicate c i) ≡ lead l (push_word (plain Y (suc m) i) (before e s) (replicate c 0))
  copies-here c e s = copies-lead (plain_push Y) (plain Y (suc m) i) l i push-lead c i 0 (before e s) (omega arith)

  -- pushes after it
  push-after : (v : ℕ) (s : State) (j' j : ℕ) → j' ≡ suc i + j
      → plain_push Y (lead (l ++ v ∷ []) s) j' ≡ lead (l ++ v ∷ []) (plain Y m (suc i) s j)
  push-after v s j' j h =
      let long = length-append l (v ∷ []) in
      plain-lead Y (l ++ v ∷ []) Y.base.rank m 0 (suc i) s j' j (omega arith) (omega arith) (omega arith)

  pub power-after : (v : ℕ) (s : State)
      → push_configuration Y (plain_push Y) (lead l (before v s))
      (record { word = spelled (suc i) (power_side Y.base i); row = power_row Y i })
      ≡ lead l (before v (push_power Y (plain Y m (suc i)) i s))
  power-after v s =
      ap (λ (t : State). push_configuration Y (plain_push Y) t
      (record { word = spelled (suc i) (power_side Y.base i); row = power_row Y i })) (lead-before l v s)
      ∙ configuration-lead (plain_push Y) (plain Y m (suc i)) (l ++ v ∷ []) (suc i) (push-after v) Y (power_side Y.base i) (power_row Y i)
      (suc i) 0 s (omega arith)
      ∙ sym (lead-before l v (push_power Y (plain Y m (suc i)) i s))

  passed-after : (v : ℕ) (s : State) (j' j : ℕ) → j' ≡ suc i + j
      → passed Y i (lead (l ++ v ∷ []) s) j' ≡ lead (l ++ v ∷ []) (push_past Y (plain Y m (suc i)) i s j)
  passed-after v s j' j h =
      let same : j' ≡ suc (i + j) = omega arith in
      ap (λ (t : State). push_configuration Y (plain_push Y) t
      (record { word = spelled (suc j') (commutator_side Y.base j' i); row = commutator_row Y j' i }))
      (push-after v s j' j h)
      ∙ configuration-lead (plain_push Y) (plain Y m (suc i)) (l ++ v ∷ []) (suc i) (push-after v) Y
      (commutator_side Y.base j' i) (commutator_row Y j' i) (suc j') (suc j) (plain Y m (suc i) s j) (omega arith)
      ∙ ap (λ (c : ℕ). lead (l ++ v ∷ []) (push_configuration Y (plain Y m (suc i)) (plain Y m (suc i) s j)
      (record { word = spelled (suc j) (commutator_side Y.base c i); row = commutator_row Y c i }))) same

  letters-after : (v : ℕ) (s : State) (h : List ℕ)
      → push_word (passed Y i) (lead (l ++ v ∷ []) s) (spelled (suc i) h)
      ≡ lead l (before v (push_word (push_past Y (plain Y m (suc i)) i) s (spelled 0 h)))
  letters-after v s h =
      spelled-lead (passed Y i) (push_past Y (plain Y m (suc i)) i) (l ++ v ∷ []) (suc i) (passed-after v) h (suc i) 0 s (omega arith)
      ∙ sym (lead-before l v (push_word (push_past Y (plain Y m (suc i)) i) s (spelled 0 h)))

  -- the exponent raised, and the letters h passed
  raise_by-lead : (b : Bool) (e : ℕ) (start : State) (h : List ℕ)
      → push_word (passed Y i) (raised_by b Y (lead l (before e start)) i) (spelled (suc i) h)
      ≡ lead l (raise b Y (plain Y m (suc i)) i e start h)
  raise_by-lead true e start h =
      ap (λ (t : State). push_word (passed Y i) t (spelled (suc i) h))
      (ap (λ (t : State). push_configuration Y (plain_push Y) t
      (record { word = spelled (suc i) (power_side Y.base i); row = power_row Y i }))
      (with_exponent-lead e 0 start)
      ∙ power-after 0 start
      ∙ lead-before l 0 (push_power Y (plain Y m (suc i)) i start))
      ∙ letters-after 0 (push_power Y (plain Y m (suc i)) i start) h
  raise_by-lead false e start h =
      ap (λ (t : State). push_word (passed Y i) t (spelled (suc i) h))
      (ap (λ (v : ℕ). with_exponent (lead l (before e start)) i (suc v)) (exponent-lead e start)
      ∙ with_exponent-lead e (suc e) start
      ∙ lead-before l (suc e) start)
      ∙ letters-after (suc e) start h

  pub raised-lead : (e : ℕ) (start : State) (h : List ℕ)
      → push_word (passed Y i) (raised Y (lead l (before e start)) i) (spelled (suc i) h)
      ≡ lead l (raise (eqb (suc e) Y.base.prime) Y (plain Y m (suc i)) i e start h)
  raised-lead e start h =
      ap (λ (v : ℕ). push_word (passed Y i) (raised_by (eqb (suc v) Y.base.prime) Y (lead l (before e start)) i) (spelled (suc i) h))
      (exponent-lead e start)
      ∙ raise_by-lead (eqb (suc e) Y.base.prime) e start h

  pub plain_push-lead : (e : ℕ) (s : State)
      → plain_push Y (lead l (before e s)) i
      ≡ lead l (raise (eqb (suc e) Y.base.prime) Y (plain Y m (suc i)) i e (record { exponents = replicate m 0; row = s.row }) s.exponents)
  plain_push-lead e s = push-lead (before e s) i 0 (omega arith) ∙ ap (lead l) (plain-first Y m i e s)

-- the part of a state after place i
abbrev pub part_after : ℕ → State → State
part_after i s = record { exponents = drop (suc i) s.exponents; row = s.row }

-- a list up to place i, and what is behind it
pub taken-lead : (e : List ℕ) (i : ℕ) (h x : List ℕ) → i < length e
    → record { exponents = take (suc i) e ++ h; row = x } ≡ lead (take i e) (before (get_or e i 0) (record { exponents = h; row = x }))
taken-lead e i h x l =
    ap (λ (y : List ℕ). record { exponents = y; row = x })
    (ap (λ (y : List ℕ). y ++ h) (take-suc e i 0 l) ∙ append_assoc (take i e) (get_or e i 0 ∷ []) h)

-- a whole state around place i
pub record PlaceOf (Y : RowedPresentation) (s : State) (i : ℕ) : Type 0 where
  pub same : s ≡ lead (take i s.exponents) (before (get_or s.exponents i 0) (part_after i s))
  pub place : length (take i s.exponents) ≡ i
  pub whole : Y.base.rank ≡ i + suc (Y.base.rank - suc i)

pub place_of : (Y : RowedPresentation) (s : State) (i : ℕ) → length s.exponents ≡ Y.base.rank → i < Y.base.rank → PlaceOf Y s i
place_of Y s i c l = record {
  same = ap (λ (y : List ℕ). record { exponents = y; row = s.row }) (sym (take-append-drop (suc i) s.exponents))
      ∙ taken-lead s.exponents i (drop (suc i) s.exponents) s.row (omega arith);
  place = length-take-le i s.exponents (omega arith);
  whole = omega arith;
}

pub exponent-below : (Y : RowedPresentation) (s : State) (i : ℕ) → IsState Y Y.base.rank s → i < Y.base.rank
    → get_or s.exponents i 0 < Y.base.prime
exponent-below Y s i h l =
    let c = h.exponents.count in
    get_or-below_within Y.base.prime s.exponents i 0 (omega arith) h.exponents.below

pub part_after-state : (Y : RowedPresentation) (s : State) (i : ℕ) → IsState Y Y.base.rank s
    → IsState Y (Y.base.rank - suc i) (part_after i s)
part_after-state Y s i h = record {
  exponents = record {
    count = length-drop (suc i) s.exponents ∙ ap (λ (n : ℕ). n - suc i) h.exponents.count;
    below = AllBelow-drop Y.base.prime (suc i) s.exponents h.exponents.below;
  };
  row = h.row;
}

-- the state s with the exponents from place k on cleared
abbrev pub cleared_state : State → ℕ → State
cleared_state s k = record { exponents = cleared_after k s.exponents; row = s.row }

pub plain_push-steps : (Y : RowedPresentation) (s : State) (i : ℕ) → length s.exponents ≡ Y.base.rank → i < Y.base.rank
    → plain_push Y s i ≡ push_word (passed Y i) (raised Y (cleared_state s (suc i)) i) (spelled (suc i) (drop (suc i) s.exponents))
plain_push-steps Y s i c l =
    let p = place_of Y s i c l in
    let n : Y.base.rank - suc i ≡ length s.exponents - suc i = omega arith in
    let start : State = record { exponents = replicate (Y.base.rank - suc i) 0; row = s.row } in
    ap (λ (t : State). plain_push Y t i) p.same
    ∙ plain_push-lead Y (take i s.exponents) i (Y.base.rank - suc i) p.place p.whole (get_or s.exponents i 0) (part_after i s)
    ∙ sym (raised-lead Y (take i s.exponents) i (Y.base.rank - suc i) p.place p.whole (get_or s.exponents i 0) start
    (drop (suc i) s.exponents))
    ∙ ap (λ (t : State). push_word (passed Y i) (raised Y t i) (spelled (suc i) (drop (suc i) s.exponents)))
    (sym (taken-lead s.exponents i (replicate (Y.base.rank - suc i) 0) s.row (omega arith))
    ∙ ap (λ (a : ℕ). record { exponents = take (suc i) s.exponents ++ replicate a 0; row = s.row }) n)
