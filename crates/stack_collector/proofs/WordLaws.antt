-- Letters of the word of a frame added at once, one after the other: the frame then owes the rest of the word.
use Rattle.std.proofs.Common.{◌≡◌, ℕ, ◌+◌, ◌-◌, ◌<◌, ◌≤◌, List, ◌++◌, get_or, length, replicate, drop, refl, ap, sym, ◌∙◌, subst, arith}
use Rattle.pc_presentation.specs.declared.syllable.Syllable.{Syllable}
use Rattle.pc_presentation.specs.Relation.{side_start}
use Rattle.pc_presentation.specs.Pcp.{TailedPresentation, IsTailedPresentation, right_side, side_word}
use Rattle.pc_presentation.specs.Tailed.{Element, IsElement, places_of}
use Rattle.stack_collector.specs.declared.frame.Frame.{Frame}
use Rattle.stack_collector.specs.declared.steps.Progress.TheVariants.{Push}
use Rattle.stack_collector.specs.Frames.{pushed, letters_to_pass}
use Rattle.stack_collector.specs.FrameSteps.{GoesOn, IsPush}
use Rattle.stack_collector.proofs.FrameLaws.{passing, exponent-some, within-alone, with_syllable, with_place, with_copies, syllable-taken}
use Rattle.stack_collector.proofs.FrameLaws.{letters-pushed, letter-to_push}
use Rattle.stack_collector.proofs.StepsInTurn.{LeadsTo, leads-within, leads-step}

-- the letter of no copies counts for nothing
letter-forgotten : (T : TailedPresentation) (f : Frame) (e e2 : Element) (m : ℕ) (s : Syllable) → f.copies ≡ 0
    → LeadsTo T f e (with_copies (with_syllable (with_place f m) s) 0) e2 → LeadsTo T f e (with_place f (m + 1)) e2
letter-forgotten T f e e2 m s none w =
    let h = w.frame in
    let less = w.less in
    record {
      element = w.element;
      frame = record {
        in_range = h.in_range;
        from_one = h.from_one;
        order = h.order;
        before_end = h.before_end;
        within = h.within;
        times = h.times;
        letter = λ l. absurd (omega arith);
        relation = h.relation;
        side = h.side;
        place = h.place;
        whole = h.whole;
        saved = h.saved;
        few_copies = omega arith;
        few_times = h.few_times;
      };
      generator = refl;
      same =
          ap (λ (n : ℕ). passing T f.generator (letters_to_pass f)
          (pushed T e2 (replicate n (f.letter - 1) ++ places_of (drop (m + 1) (side_word T.presentation f.relation))))) none
          ∙ w.same;
      less = omega arith;
    }

-- the word of the frame, and its letter s at place m
module _ (T : TailedPresentation) (is : IsTailedPresentation T) (f : Frame) (e e1 : Element) (m : ℕ) (word : List Syllable) (s d : Syllable)
    (none : f.copies ≡ 0) (w : LeadsTo T f e (with_place f m) e1) (same : word ≡ side_word T.presentation f.relation)
    (inside : m < length word)
    (here : s ≡ get_or word m d) where
  more : m < length (side_word T.presentation f.relation)
  more = subst (λ (v : List Syllable). m < length v) same inside

  found : s ≡ get_or (side_word T.presentation f.relation) m d
  found = here ∙ ap (λ (v : List Syllable). get_or v m d) same

  taken : GoesOn T (with_place f m) (with_syllable (with_place f m) s)
  taken = syllable-taken T is (with_place f m) w.frame s d none more found

  some : 1 ≤ s.exponent
  some =
      subst (λ (x : Syllable). 1 ≤ x.exponent) (sym found)
      (exponent-some (side_start f.relation) (right_side T.presentation f.relation) m d more)

  pub letter-in_range : (f.generator < s.generator) × (s.generator ≤ T.presentation.rank)
  letter-in_range = let h = taken.frame in h.letter some

  begun : LeadsTo T f e (with_syllable (with_place f m) s) e1
  begun =
      leads-within T f (with_place f m) e e1 (with_syllable (with_place f m) s) e1 w
      (within-alone T (with_place f m) (with_syllable (with_place f m) s) e1 w.element taken)

  module _ (e2 : Element) (element : IsElement T e2) (left : ℕ) (fewer : left ≤ s.exponent)
      (made : pushed T e2 (replicate left (s.generator - 1)) ≡ pushed T e1 (replicate s.exponent (s.generator - 1))) where
    pub letters-added : left ≡ 0 → LeadsTo T f e (with_place f (m + 1)) e2
    letters-added gone =
        letter-forgotten T f e e2 m s none
        (leads-within T f (with_syllable (with_place f m) s) e e1 (with_copies (with_syllable (with_place f m) s) 0) e2 begun
        (letters-pushed T is (with_syllable (with_place f m) s) taken.frame e1 e2 element left some fewer made gone))

    pub letter-left : 1 ≤ left → IsPush T f e s.generator (with_copies (with_syllable (with_place f m) s) (left - 1)) e2
    letter-left rest =
        leads-step T f (with_syllable (with_place f m) s) e e1 (Push s.generator)
        (with_copies (with_syllable (with_place f m) s) (left - 1)) e2 begun
        (letter-to_push T is (with_syllable (with_place f m) s) taken.frame e1 e2 element left some fewer made rest)
