-- What a frame owes stays the same while it takes a syllable of its word, or an exponent that was set aside, and a letter that it
-- pushes is done. Its effort falls each time, and is below a billion.
use Rattle.std.proofs.Common.{◌≡◌, ℕ, zero, suc, ◌+◌, ◌-◌, ◌<◌, ◌≤◌, List, [], ◌∷◌, ◌++◌, get_or, length, replicate, take, drop, refl, ap}
use Rattle.std.proofs.Common.{sym, ◌∙◌, arith}
use Rattle.std.proofs.lemmas.List.{drop_more, length-take-le, get_or-take, replicate-append-replicate}
use Rattle.pq_base.specs.Table.{AllBelow}
use Rattle.pc_presentation.specs.declared.syllable.Syllable.{Syllable}
use Rattle.pc_presentation.specs.declared.relation.Relation.{Relation}
use Rattle.pc_presentation.specs.declared.relation.Relation.TheVariants.{Power, Commutator}
use Rattle.pc_presentation.specs.Syllable.{syllables_of}
use Rattle.pc_presentation.specs.Relation.{IsRelation, side_start}
use Rattle.pc_presentation.specs.Pcp.{TailedPresentation, IsTailedPresentation, right_side, side_word}
use Rattle.pc_presentation.specs.Collection.{State, spelled, push_word, plain_push}
use Rattle.pc_presentation.specs.PushSteps.{passed}
use Rattle.pc_presentation.specs.Tailed.{Element, rowed_presentation, IsElement, with_state, places_of}
use Rattle.pc_presentation.proofs.collecting.PushLaws.{push_word-append}
use Rattle.pc_presentation.proofs.presentations.SyllableLaws.{length-syllables_of}
use Rattle.pc_presentation.proofs.presentations.RelationSides.{side-generators}
use Rattle.pc_presentation.proofs.presentations.SideLaws.{right_side-count, side-later}
use Rattle.stack_collector.specs.declared.frame.Frame.{Frame}
use Rattle.stack_collector.specs.Frames.{pushed, letters_owed, letters_to_pass, IsFrame, effort}
use Rattle.stack_collector.specs.FrameSteps.{GoesOn, IsWithin, IsPush}

-- an element with letters passed on it by the generator with number g
abbrev pub passing : TailedPresentation → ℕ → List ℕ → Element → Element
passing T g v e = with_state e (push_word (passed (rowed_presentation T) (g - 1)) e.state v)

pub length-side_word : (T : TailedPresentation) → IsTailedPresentation T → (r : Relation) → IsRelation T.presentation.rank r
    → length (side_word T.presentation r) ≤ 100
length-side_word T is r h =
    let short = length-syllables_of (side_start r) (right_side T.presentation r) in
    let count = right_side-count T.presentation is.presentation r h in
    let limit = is.rank_limit in
    omega arith

-- exponents of a right side are positive, and below the prime
pub exponent-some : (k : ℕ) (e : List ℕ) (m : ℕ) (d : Syllable) → m < length (syllables_of k e)
    → 1 ≤ (get_or (syllables_of k e) m d).exponent
exponent-some k [] m d l = absurd (omega arith)
exponent-some k (zero ∷ es) m d l = exponent-some (suc k) es m d l
exponent-some k (suc x ∷ es) zero d l = omega arith
exponent-some k (suc x ∷ es) (suc m) d l = exponent-some (suc k) es m d (omega arith)

exponent-below : (p k : ℕ) (e : List ℕ) (m : ℕ) (d : Syllable) → AllBelow p e → m < length (syllables_of k e)
    → (get_or (syllables_of k e) m d).exponent < p
exponent-below p k [] m d h l = absurd (omega arith)
exponent-below p k (zero ∷ es) m d h l = exponent-below p (suc k) es m d h.1 l
exponent-below p k (suc x ∷ es) zero d h l = h.0
exponent-below p k (suc x ∷ es) (suc m) d h l = exponent-below p (suc k) es m d h.1 (omega arith)

side-below : (T : TailedPresentation) → IsTailedPresentation T → (r : Relation) → IsRelation T.presentation.rank r
    → AllBelow T.presentation.prime (right_side T.presentation r)
side-below T is (Power i) h = (is.presentation.power_sides (i - 1) (omega arith)).below
side-below T is (Commutator j i) h = (is.presentation.commutator_sides (j - 1) (i - 1) (omega arith) (omega arith)).below

-- letters pushed behind others
pushed-behind : (T : TailedPresentation) (e e' : Element) (u u' w : List ℕ) → pushed T e' u' ≡ pushed T e u
    → pushed T e' (u' ++ w) ≡ pushed T e (u ++ w)
pushed-behind T e e' u u' w q =
    let P : State → ℕ → State = plain_push (rowed_presentation T) in
    ap (with_state e') (push_word-append (plain_push (rowed_presentation T)) e'.state u' w)
    ∙ ap (λ (z : Element). pushed T z w) q
    ∙ sym (ap (with_state e) (push_word-append (plain_push (rowed_presentation T)) e.state u w))

-- and the rest of the copies behind some of them
pub copies-behind : (T : TailedPresentation) (e e' : Element) (n m i : ℕ) → m ≤ n → e' ≡ pushed T e (replicate m i)
    → pushed T e' (replicate (n - m) i) ≡ pushed T e (replicate n i)
copies-behind T e e' n m i few q =
    let all : m + (n - m) ≡ n = omega arith in
    ap (λ (z : Element). pushed T z (replicate (n - m) i)) q
    ∙ ap (with_state e) (sym (push_word-append (plain_push (rowed_presentation T)) e.state (replicate m i) (replicate (n - m) i)))
    ∙ ap (pushed T e) (replicate-append-replicate m (n - m) i)
    ∙ ap (λ (k : ℕ). pushed T e (replicate k i)) all

-- exponents that are 0 spell nothing
spelled-past_zeros : (n k : ℕ) (xs : List ℕ) → k + n ≤ length xs → ((j : ℕ) → k ≤ j → j < k + n → get_or xs j 0 ≡ 0)
    → spelled k (drop k xs) ≡ spelled (k + n) (drop (k + n) xs)
spelled-past_zeros zero k xs l zeros = let same : k ≡ k + 0 = omega arith in ap (λ (m : ℕ). spelled m (drop m xs)) same
spelled-past_zeros (suc n) k xs l zeros =
    let next : k + 1 ≡ suc k = omega arith in
    let last : suc k + n ≡ k + suc n = omega arith in
    ap (spelled k) (drop_more xs k 0 (omega arith))
    ∙ ap (λ (x : ℕ). replicate x k ++ spelled (suc k) (drop (k + 1) xs)) (zeros k (omega arith) (omega arith))
    ∙ ap (λ (m : ℕ). spelled (suc k) (drop m xs)) next
    ∙ spelled-past_zeros n (suc k) xs (omega arith) (λ j a b. zeros j (omega arith) (omega arith))
    ∙ ap (λ (m : ℕ). spelled m (drop m xs)) last

-- a frame that goes on alone, while the element stays
pub within-alone : (T : TailedPresentation) (f g : Frame) (e : Element) → IsElement T e → GoesOn T f g → IsWithin T f e g e
within-alone T f g e element h = record { element = element; frame = h.frame; generator = h.generator; same = h.same e; less = h.less }

abbrev pub with_syllable : Frame → Syllable → Frame
with_syllable f s = record f { letter = s.generator; copies = s.exponent; place = f.place + 1 }

abbrev pub with_place : Frame → ℕ → Frame
with_place f m = record f { place = m }

abbrev pub with_exponent_taken : Frame → ℕ → ℕ → Frame
with_exponent_taken f m x = record f { times = x; next = m + 1 }

abbrev pub with_copies : Frame → ℕ → Frame
with_copies f n = record f { copies = n }

module _ (T : TailedPresentation) (is : IsTailedPresentation T) where
  pub effort-bounded : (f : Frame) → IsFrame T f → effort T f < 1000000000
  effort-bounded f h =
      let short = length-side_word T is f.relation h.relation in
      let copies = h.few_copies in
      let times = h.few_times in
      omega arith

  module _ (f : Frame) (h : IsFrame T f) where
    pub syllable-taken : (s d : Syllable) → f.copies ≡ 0 → f.place < length (side_word T.presentation f.relation)
        → s ≡ get_or (side_word T.presentation f.relation) f.place d
        → GoesOn T f (with_syllable f s)
    syllable-taken s d none more q =
        let w : List Syllable = side_word T.presentation f.relation in
        let generators = side-generators T is f.relation h.relation w refl f.place d more in
        let later = side-later T.presentation f.relation w refl f.place d more in
        let side = h.side in
        let offered = is.prime in
        let below = exponent-below T.presentation.prime (side_start f.relation) (right_side T.presentation f.relation) f.place d
        (side-below T is f.relation h.relation) more in
        let same_exponent : s.exponent ≡ (get_or (side_word T.presentation f.relation) f.place d).exponent =
        ap (λ (x : Syllable). x.exponent) q in
        let same_generator : s.generator ≡ (get_or (side_word T.presentation f.relation) f.place d).generator =
        ap (λ (x : Syllable). x.generator) q in
        let letters : letters_owed T (with_syllable f s) ≡ letters_owed T f =
        ap (λ (x : Syllable). replicate x.exponent (x.generator - 1) ++ places_of (drop (f.place + 1) w)) q
        ∙ ap places_of (sym (drop_more w f.place d more))
        ∙ ap (λ (n : ℕ). replicate n (f.letter - 1) ++ places_of (drop f.place w)) (sym none) in
        record {
          frame = record {
            in_range = h.in_range;
            from_one = h.from_one;
            order = h.order;
            before_end = h.before_end;
            within = h.within;
            times = h.times;
            letter = λ _. (omega arith, omega arith);
            relation = h.relation;
            side = h.side;
            place = omega arith;
            whole = h.whole;
            saved = h.saved;
            few_copies = omega arith;
            few_times = h.few_times;
          };
          generator = refl;
          same = λ e. ap (λ (u : List ℕ). passing T f.generator (letters_to_pass f) (pushed T e u)) letters;
          less = omega arith;
        }

    -- those before place m are 0
    pub exponent-taken : (m x : ℕ) → f.times ≡ 0 → f.next ≤ m → m < f.end → ((k : ℕ) → f.next ≤ k → k < m → get_or f.later k 0 ≡ 0)
        → x ≡ get_or f.later m 0 → x ≤ 255 → GoesOn T f (with_exponent_taken f m x)
    exponent-taken m x none from more zeros q few =
        let xs : List ℕ = take f.end f.later in
        let limit = is.rank_limit in
        let saved = h.saved in
        let within = h.within in
        let order = h.order in
        let long : length (take f.end f.later) ≡ f.end = length-take-le f.end f.later (omega arith) in
        let entry : x ≡ get_or (take f.end f.later) m 0 = q ∙ sym (get_or-take f.end f.later m 0 more) in
        let place : (m + 1) - 1 ≡ m = omega arith in
        let next : m + 1 ≡ suc m = omega arith in
        let there : f.next + (m - f.next) ≡ m = omega arith in
        let letters : letters_to_pass (with_exponent_taken f m x) ≡ letters_to_pass f =
        ap (λ (i : ℕ). replicate x i ++ spelled (m + 1) (drop (m + 1) xs)) place
        ∙ ap (λ (n : ℕ). replicate n m ++ spelled (m + 1) (drop (m + 1) xs)) entry
        ∙ ap (λ (k : ℕ). replicate (get_or xs m 0) m ++ spelled k (drop (m + 1) xs)) next
        ∙ ap (spelled m) (sym (drop_more xs m 0 (omega arith)))
        ∙ ap (λ (k : ℕ). spelled k (drop k xs)) (sym there)
        ∙ sym (spelled-past_zeros (m - f.next) f.next xs (omega arith)
        (λ k a b. get_or-take f.end f.later k 0 (omega arith) ∙ zeros k a (omega arith)))
        ∙ ap (λ (n : ℕ). replicate n (f.next - 1) ++ spelled f.next (drop f.next xs)) (sym none) in
        record {
          frame = record {
            in_range = h.in_range;
            from_one = h.from_one;
            order = omega arith;
            before_end = omega arith;
            within = h.within;
            times = λ _. omega arith;
            letter = h.letter;
            relation = h.relation;
            side = h.side;
            place = h.place;
            whole = h.whole;
            saved = h.saved;
            few_copies = h.few_copies;
            few_times = few;
          };
          generator = refl;
          same = λ e. ap (λ (v : List ℕ). passing T f.generator v (pushed T e (letters_owed T f))) letters;
          less = omega arith;
        }

    copies-kept : (n : ℕ) → n ≤ f.copies → IsFrame T (with_copies f n)
    copies-kept n few =
        let most = h.few_copies in
        record {
          in_range = h.in_range;
          from_one = h.from_one;
          order = h.order;
          before_end = h.before_end;
          within = h.within;
          times = h.times;
          letter = λ l. h.letter (omega arith);
          relation = h.relation;
          side = h.side;
          place = h.place;
          whole = h.whole;
          saved = h.saved;
          few_copies = omega arith;
          few_times = h.few_times;
        }

    -- copies of the letter pushed
    module _ (e e' : Element) (element : IsElement T e') (left : ℕ) (some : 1 ≤ f.copies) (fewer : left ≤ f.copies)
        (made : pushed T e' (replicate left (f.letter - 1)) ≡ pushed T e (replicate f.copies (f.letter - 1))) where
      rest-behind : pushed T e' (replicate left (f.letter - 1) ++ places_of (drop f.place (side_word T.presentation f.relation)))
          ≡ pushed T e (letters_owed T f)
      rest-behind =
          pushed-behind T e e' (replicate f.copies (f.letter - 1)) (replicate left (f.letter - 1))
          (places_of (drop f.place (side_word T.presentation f.relation))) made

      pub letters-pushed : left ≡ 0 → IsWithin T f e (with_copies f 0) e'
      letters-pushed none = record {
        element = element;
        frame = copies-kept 0 (omega arith);
        generator = refl;
        same =
            ap (λ (n : ℕ). passing T f.generator (letters_to_pass f)
            (pushed T e' (replicate n (f.letter - 1) ++ places_of (drop f.place (side_word T.presentation f.relation))))) (sym none)
            ∙ ap (passing T f.generator (letters_to_pass f)) rest-behind;
        less = omega arith;
      }

      pub letter-to_push : 1 ≤ left → IsPush T f e f.letter (with_copies f (left - 1)) e'
      letter-to_push more =
          let one_more : suc (left - 1) ≡ left = omega arith in
          let letter = h.letter some in
          record {
            element = element;
            frame = copies-kept (left - 1) (omega arith);
            generator = refl;
            later = letter.0;
            in_range = letter.1;
            same =
                ap (λ (n : ℕ). passing T f.generator (letters_to_pass f)
                (pushed T e' (replicate n (f.letter - 1) ++ places_of (drop f.place (side_word T.presentation f.relation))))) one_more
                ∙ ap (passing T f.generator (letters_to_pass f)) rest-behind;
            less = omega arith;
          }
