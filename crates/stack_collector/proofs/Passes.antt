-- Letters that a frame passes: where a letter has an empty word with the frame's generator, its copies are pushed together behind
-- as many tails; else one copy is pushed behind one tail, and before the word.
use Rattle.std.proofs.Common.{◌≡◌, ◌⊎◌, inl, inr, ℕ, zero, suc, ◌+◌, ◌-◌, ◌≤◌, List, [], ◌∷◌, ◌++◌, length, replicate, take, drop, refl, ap}
use Rattle.std.proofs.Common.{sym, ◌∙◌, arith}
use Rattle.std.proofs.Math.ListN.{drop_of_length-le}
use Rattle.std.proofs.lemmas.List.{append-nil, append_assoc, replicate-append-replicate}
use Rattle.pq_base.specs.Presentation.{commutator_side}
use Rattle.pc_presentation.specs.declared.relation.Relation.TheVariants.{Commutator}
use Rattle.pc_presentation.specs.Relation.{IsRelation}
use Rattle.pc_presentation.specs.Pcp.{TailedPresentation, IsTailedPresentation, right_side, side_word, tail_of, row_of}
use Rattle.pc_presentation.specs.Rowed.{RowedPresentation, commutator_row}
use Rattle.pc_presentation.specs.Collection.{Configuration, State, spelled, add_row, push_word, push_configuration, plain_push}
use Rattle.pc_presentation.specs.PushSteps.{passed}
use Rattle.pc_presentation.specs.Tailed.{Element, rowed_presentation, IsElement, with_state, side_with_tail, places_of}
use Rattle.pc_presentation.proofs.presentations.RelationSides.{commutator_side-numbered}
use Rattle.pc_presentation.proofs.quotients.TailedLaws.{places_of-syllables_of}
use Rattle.pc_presentation.proofs.collecting.PushLaws.{push_word-append, push_word-add_row}
use Rattle.pc_presentation.proofs.collecting.PlainRule.{plain-rides}
use Rattle.stack_collector.specs.declared.frame.Frame.{Frame}
use Rattle.pc_presentation.specs.AddedRows.{add_row_times}
use Rattle.stack_collector.specs.Frames.{pushed, letters_owed, letters_to_pass, IsFrame}
use Rattle.stack_collector.specs.FrameSteps.{IsWithin}
use Rattle.pc_presentation.proofs.commuting.EmptySides.{no_syllables}
use Rattle.stack_collector.proofs.FrameLaws.{passing, length-side_word}

module _ (Y : RowedPresentation) (j i : ℕ) (c : Configuration)
    (side : record { word = spelled (suc j) (commutator_side Y.base j i); row = commutator_row Y j i } ≡ c) where
  passed-is : (s : State) → passed Y i s j ≡ push_word (plain_push Y) (add_row Y.base.prime c.row s) (j ∷ c.word)
  passed-is s =
      ap (push_configuration Y (plain_push Y) (plain_push Y s j)) side
      ∙ sym (push_word-add_row Y.base.prime (plain_push Y) (plain-rides Y Y.base.rank 0) c.row s (j ∷ c.word))

  rows-ride : (n : ℕ) (s : State)
      → plain_push Y (add_row_times Y.base.prime c.row n s) j ≡ add_row_times Y.base.prime c.row n (plain_push Y s j)
  rows-ride zero s = refl
  rows-ride (suc n) s =
      rows-ride n (add_row Y.base.prime c.row s) ∙ ap (add_row_times Y.base.prime c.row n) (plain-rides Y Y.base.rank 0 c.row s j)

  passed-one : (s : State)
      → push_word (passed Y i) s (replicate 1 j) ≡ push_word (plain_push Y) (add_row_times Y.base.prime c.row 1 s) (replicate 1 j ++ c.word)
  passed-one s = passed-is s

  passed-copies : c.word ≡ [] → (n : ℕ) (s : State)
      → push_word (passed Y i) s (replicate n j) ≡ push_word (plain_push Y) (add_row_times Y.base.prime c.row n s) (replicate n j)
  passed-copies empty zero s = refl
  passed-copies empty (suc n) s =
      ap (λ (t : State). push_word (passed Y i) t (replicate n j))
      (passed-is s ∙ ap (λ (w : List ℕ). push_word (plain_push Y) (add_row Y.base.prime c.row s) (j ∷ w)) empty)
      ∙ passed-copies empty n (plain_push Y (add_row Y.base.prime c.row s) j)
      ∙ ap (λ (t : State). push_word (plain_push Y) t (replicate n j)) (sym (rows-ride n (add_row Y.base.prime c.row s)))

  passed-together : (n : ℕ) → (n ≡ 1) ⊎ (c.word ≡ []) → (s : State)
      → push_word (passed Y i) s (replicate n j) ≡ push_word (plain_push Y) (add_row_times Y.base.prime c.row n s) (replicate n j ++ c.word)
  passed-together n (inl one) s =
      ap (λ (k : ℕ). push_word (passed Y i) s (replicate k j)) one
      ∙ passed-one s
      ∙ ap (λ (k : ℕ). push_word (plain_push Y) (add_row_times Y.base.prime c.row k s) (replicate k j ++ c.word)) (sym one)
  passed-together n (inr empty) s =
      passed-copies empty n s
      ∙ ap (push_word (plain_push Y) (add_row_times Y.base.prime c.row n s))
      (sym (append-nil (replicate n j)) ∙ ap (λ (w : List ℕ). replicate n j ++ w) (sym empty))

-- the relation of the next letter and the frame's generator
pub relation-passed : (T : TailedPresentation) (f : Frame) → IsFrame T f → 1 ≤ f.times
    → IsRelation T.presentation.rank (Commutator f.next f.generator)
relation-passed T f h some =
    let order = h.times some in
    let before_end = h.before_end in
    let within = h.within in
    (h.from_one (omega arith), order, omega arith)

-- the frame that has begun to pass n copies
abbrev pub with_passed : Frame → ℕ → ℕ → Frame
with_passed f n syllables = record f {
  letter = f.next;
  copies = n;
  relation = Commutator f.next f.generator;
  place = 0;
  syllables = syllables;
  times = f.times - n;
}

module _ (T : TailedPresentation) (f : Frame) (h : IsFrame T f) (e e' : Element) (element : IsElement T e') (n syllables : ℕ)
    (some : 1 ≤ n) (few : n ≤ f.times) (ended : f.copies ≡ 0) (word_ended : f.syllables ≤ f.place)
    (whole : syllables ≡ length (side_word T.presentation (Commutator f.next f.generator))) (one_or_empty : (n ≡ 1) ⊎ (syllables ≡ 0))
    (added : e' ≡ with_state e
    (add_row_times T.presentation.prime (row_of T.tails (tail_of T (Commutator f.next f.generator))) n e.state)) where
  side-one_or_empty : (n ≡ 1) ⊎ ((side_with_tail T (Commutator f.next f.generator)).word ≡ [])
  side-one_or_empty = elim one_or_empty [
    | inl one ↦ inl one
    | inr empty ↦
        inr (sym (places_of-syllables_of f.next (right_side T.presentation (Commutator f.next f.generator)))
        ∙ ap places_of (no_syllables (side_word T.presentation (Commutator f.next f.generator)) (sym whole ∙ empty)))
  ]

  letters-split : letters_to_pass f ≡ replicate n (f.next - 1) ++ letters_to_pass (with_passed f n syllables)
  letters-split =
      let all : n + (f.times - n) ≡ f.times = omega arith in
      let rest : List ℕ = spelled f.next (drop f.next (take f.end f.later)) in
      ap (λ (k : ℕ). replicate k (f.next - 1) ++ rest) (sym all)
      ∙ ap (λ (u : List ℕ). u ++ rest) (sym (replicate-append-replicate n (f.times - n) (f.next - 1)))
      ∙ append_assoc (replicate n (f.next - 1)) (replicate (f.times - n) (f.next - 1)) rest

  pub passes-begun : IsTailedPresentation T → IsWithin T f e (with_passed f n syllables) e'
  passes-begun is =
      let Y : RowedPresentation = rowed_presentation T in
      let order = h.times (omega arith) in
      let before_end = h.before_end in
      let within = h.within in
      let from_one = h.from_one (omega arith) in
      let few_times = h.few_times in
      let syllables_before = h.whole in
      let side : Configuration = side_with_tail T (Commutator f.next f.generator) in
      let numbered = commutator_side-numbered T is f.next f.generator from_one order (omega arith) in
      let short = length-side_word T is (Commutator f.next f.generator) (from_one, order, omega arith) in
      let nothing : letters_owed T f ≡ [] =
      ap (λ (k : ℕ). replicate k (f.letter - 1) ++ places_of (drop f.place (side_word T.presentation f.relation))) ended
      ∙ ap places_of (drop_of_length-le (side_word T.presentation f.relation) (omega arith)) in
      let begun : passing T f.generator (replicate n (f.next - 1)) e ≡ pushed T e' (letters_owed T (with_passed f n syllables)) =
      ap (with_state e) (passed-together Y (f.next - 1) (f.generator - 1) side (sym numbered) n side-one_or_empty e.state)
      ∙ ap (λ (z : Element). pushed T z (replicate n (f.next - 1) ++ side.word)) (sym added)
      ∙ ap (λ (w : List ℕ). pushed T e' (replicate n (f.next - 1) ++ w))
      (sym (places_of-syllables_of f.next (right_side T.presentation (Commutator f.next f.generator)))) in
      record {
        element = element;
        frame = record {
          in_range = h.in_range;
          from_one = h.from_one;
          order = h.order;
          before_end = h.before_end;
          within = h.within;
          times = λ _. order;
          letter = λ _. (order, omega arith);
          relation = (from_one, order, omega arith);
          side = omega arith;
          place = omega arith;
          whole = whole;
          saved = h.saved;
          few_copies = omega arith;
          few_times = omega arith;
        };
        generator = refl;
        same =
            ap (passing T f.generator (letters_to_pass (with_passed f n syllables))) (sym begun)
            ∙ ap (with_state e)
            (sym (push_word-append (passed Y (f.generator - 1)) e.state (replicate n (f.next - 1))
            (letters_to_pass (with_passed f n syllables))))
            ∙ ap (λ (v : List ℕ). passing T f.generator v e) (sym letters-split)
            ∙ ap (λ (u : List ℕ). passing T f.generator (letters_to_pass f) (pushed T e u)) (sym nothing);
        less = omega arith;
      }
