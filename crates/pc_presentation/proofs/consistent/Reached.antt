-- A directed run joins the words of its ends, so in every presentation each signed word is joined to a normal word: the
-- inverse of a generator is joined to the word of a state, and the product of states to the words one after the other.
use Rattle.std.proofs.Common.{◌≡◌, ℕ, zero, suc, ◌<◌, ℤ, pos, negsuc, List, [], ◌∷◌, ◌++◌, ap, sym, ◌∙◌, subst, arith, append_assoc}
use Rattle.std.proofs.lemmas.List.{append-nil}
use Rattle.pq_base.specs.SignedWord.{copies, HasLetters}
use Rattle.pq_base.specs.Table.{AllBelow}
use Rattle.pq_base.specs.Presentation.{Presentation, IsPresentation, letter, power_side, commutator_side}
use Rattle.pq_base.specs.Joined.{Joined, Reaches}
use Rattle.pq_base.proofs.words.JoinedLaws.{joined-refl, joined-sym, joined-trans, joined-from_equal, joined-append, joined-append_left}
use Rattle.pq_base.proofs.words.JoinedLaws.{joined-append_right, joined-solve_right, power-joined, letter-swap-joined}
use Rattle.pc_presentation.specs.Rowed.{RowedPresentation, IsRowed, without_rows}
use Rattle.pc_presentation.specs.Collection.{Configuration, State, IsState, Step, Replacement, DirectedRun, identity, spelled, letters}
use Rattle.pc_presentation.specs.Collection.{push_word, plain_push}
use Rattle.pc_presentation.specs.Collection.Step.{replace}
use Rattle.pc_presentation.specs.Collection.Run.{stop, move}
use Rattle.pc_presentation.specs.Collection.Replacement.{swap, power}
use Rattle.pc_presentation.specs.Arithmetic.{IsMeaning}
use Rattle.pc_presentation.proofs.rows.RowLaws.{identity-state}
use Rattle.pc_presentation.proofs.collecting.PlainRule.{plain, plain-state, spelled-zeros}
use Rattle.pc_presentation.proofs.collecting.PlainRuns.{plain_push-run, AllBelow-spelled}
use Rattle.pc_presentation.proofs.collecting.StateProducts.{star, star-state}
use Rattle.pc_presentation.proofs.consistent.StateGroup.{right_inverse}
use Rattle.pc_presentation.proofs.consistent.LetterWords.{letters-append, letters-replicate, letters-spelled}
use Rattle.pc_presentation.proofs.rows.FlatLaws.{without_rows-rowed}

replacement-joined : (Y : RowedPresentation) {l r t : List ℕ} → Replacement Y l r t → Joined Y.base (letters l) (letters r)
replacement-joined Y (swap j i h m) =
    subst (λ (w : List ℤ). Joined Y.base (letters (j ∷ i ∷ [])) (letter i ++ (letter j ++ w)))
    (sym (letters-spelled (suc j) (commutator_side Y.base j i)))
    (letter-swap-joined Y.base j i h m)
replacement-joined Y (power i h) =
    subst (λ (w : List ℤ). Joined Y.base w (letters (spelled (suc i) (power_side Y.base i)))) (sym (letters-replicate Y.base.prime i))
    (subst (λ (w : List ℤ). Joined Y.base (copies (letter i) Y.base.prime) w) (sym (letters-spelled (suc i) (power_side Y.base i)))
    (power-joined Y.base i h))

letters-three : (a l b : List ℕ) → letters (a ++ (l ++ b)) ≡ letters a ++ (letters l ++ letters b)
letters-three a l b = letters-append a (l ++ b) ∙ ap (λ (w : List ℤ). letters a ++ w) (letters-append l b)

step-joined : (Y : RowedPresentation) {c d : Configuration} → Step Y.base.prime (Replacement Y) c d
    → Joined Y.base (letters c.word) (letters d.word)
step-joined Y (replace a l r b t x h) =
    let m : Joined Y.base (letters a ++ (letters l ++ letters b)) (letters a ++ (letters r ++ letters b)) =
    joined-append_left (letters a) (joined-append_right (letters b) (replacement-joined Y h)) in
    subst (λ (w : List ℤ). Joined Y.base w (letters (a ++ (r ++ b)))) (sym (letters-three a l b))
    (subst (λ (w : List ℤ). Joined Y.base (letters a ++ (letters l ++ letters b)) w) (sym (letters-three a r b)) m)

-- without the rows, a run joins the words of its ends
pub run-joined : (Y : RowedPresentation) {c d : Configuration} → DirectedRun Y c d → Joined Y.base (letters c.word) (letters d.word)
run-joined Y {c} stop = joined-refl Y.base (letters c.word)
run-joined Y (move s m) = joined-trans (step-joined Y s) (run-joined Y m)

-- the signed word of a state without its row
abbrev pub state_word : State → List ℤ
state_word s = letters (spelled 0 s.exponents)

-- a state that a signed word is joined to
pub record Settles (Y : RowedPresentation) (w : List ℤ) : Type 0 where
  pub state : State
  pub valid : IsState Y Y.base.rank state
  pub joined : Joined Y.base w (state_word state)

-- pushes of any collector are joined in the base to the words one after the other
module _ (Y : RowedPresentation) (push : State → ℕ → State) (meaning : IsMeaning Y push) where
  push-joined_base : (s : State) (i : ℕ) → IsState Y Y.base.rank s → i < Y.base.rank
      → Joined Y.base (state_word s ++ letter i) (state_word (push s i))
  push-joined_base s i h l =
      subst (λ (w : List ℤ). Joined Y.base w (state_word (push s i))) (letters-append (spelled 0 s.exponents) (i ∷ []))
      (run-joined Y (meaning.pushed s i h l).run)

  pub push_word-joined_base : (u : List ℕ) (s : State) → IsState Y Y.base.rank s → AllBelow Y.base.rank u
      → Joined Y.base (state_word s ++ letters u) (state_word (push_word push s u))
  push_word-joined_base [] s h b = joined-from_equal Y.base (append-nil (state_word s))
  push_word-joined_base (i ∷ u) s h b =
      joined-trans (joined-from_equal Y.base (sym (append_assoc (state_word s) (letter i) (letters u))))
      (joined-trans (joined-append_right (letters u) (push-joined_base s i h b.0))
      (push_word-joined_base u (push s i) (meaning.pushed s i h b.0).state b.1))

module _ (Y : RowedPresentation) (rowed : IsRowed Y) (positive : 0 < Y.base.prime) where
  pub plain_meaning : IsMeaning Y (plain_push Y)
  plain_meaning = record {
    pushed = λ s i h l. record { run = plain_push-run Y rowed positive s i h l; state = plain-state Y rowed positive Y.base.rank 0 s i h };
  }

  pub push_word-joined : (s : State) (u : List ℕ) → IsState Y Y.base.rank s → AllBelow Y.base.rank u
      → Joined Y.base (state_word s ++ letters u) (state_word (push_word (plain Y Y.base.rank 0) s u))
  push_word-joined s u h b = push_word-joined_base Y (plain_push Y) plain_meaning u s h b

  pub star-joined : (s t : State) → IsState Y Y.base.rank s → IsState Y Y.base.rank t
      → Joined Y.base (state_word s ++ state_word t) (state_word (star Y Y.base.rank 0 s t))
  star-joined s t h v = let c = v.exponents.count in
      push_word-joined s (spelled 0 t.exponents) h (AllBelow-spelled Y.base.rank 0 t.exponents (omega arith))

  identity-word : state_word (identity Y Y.base.rank) ≡ []
  identity-word = ap letters (spelled-zeros 0 Y.base.rank)

  settles_letter : (i : ℕ) → i < Y.base.rank → Settles Y (letter i)
  settles_letter i l =
      let one : State = identity Y Y.base.rank in
      let ones = identity-state Y Y.base.rank positive in
      record {
        state = plain Y Y.base.rank 0 one i;
        valid = plain-state Y rowed positive Y.base.rank 0 one i ones;
        joined =
            subst (λ (w : List ℤ). Joined Y.base (w ++ letter i) (state_word (plain Y Y.base.rank 0 (identity Y Y.base.rank) i)))
            identity-word (push_word-joined one (i ∷ []) ones (l, tt));
      }

  settles_inverse : (i : ℕ) → i < Y.base.rank → Settles Y (negsuc i ∷ [])
  settles_inverse i l =
      let g = settles_letter i l in
      let r = right_inverse Y rowed positive Y.base.rank 0 g.state g.valid in
      let whole : Joined Y.base (state_word g.state ++ state_word r.state) (state_word (identity Y Y.base.rank)) =
      subst (λ (s : State). Joined Y.base (state_word g.state ++ state_word r.state) (state_word s)) r.is
      (star-joined g.state r.state g.valid r.valid) in
      let solved : Joined Y.base (state_word r.state) (negsuc i ∷ []) =
      joined-solve_right (letter i) (state_word r.state)
      (joined-trans (joined-append_right (state_word r.state) g.joined)
      (subst (λ (w : List ℤ). Joined Y.base (state_word g.state ++ state_word r.state) w) identity-word whole)) in
      record { state = r.state; valid = r.valid; joined = joined-sym solved }

  settles_product : (u v : List ℤ) → Settles Y u → Settles Y v → Settles Y (u ++ v)
  settles_product u v a b = record {
    state = star Y Y.base.rank 0 a.state b.state;
    valid = star-state Y rowed positive Y.base.rank 0 a.state b.state a.valid b.valid;
    joined = joined-trans (joined-append a.joined b.joined) (star-joined a.state b.state a.valid b.valid);
  }

  -- each signed word is joined to the word of a state
  pub settles : (w : List ℤ) → HasLetters Y.base.rank w → Settles Y w
  settles [] h = record {
    state = identity Y Y.base.rank;
    valid = identity-state Y Y.base.rank positive;
    joined = joined-from_equal Y.base (sym identity-word);
  }
  settles (pos zero ∷ w) h = absurd h.0
  settles (pos (suc i) ∷ w) h = settles_product (letter i) w (settles_letter i h.0) (settles w h.1)
  settles (negsuc i ∷ w) h = settles_product (negsuc i ∷ []) w (settles_inverse i h.0) (settles w h.1)

-- so each signed word over the generators of a presentation is joined to a normal word
pub words-reach : (P : Presentation) → IsPresentation P → 0 < P.prime → (w : List ℤ) → HasLetters P.rank w → (e : List ℕ) × Reaches P w e
words-reach P h positive w l =
    let s = settles (without_rows P) (without_rows-rowed P h) positive w l in (
      s.state.exponents,
      record {
        normal = s.valid.exponents;
        joined = subst (λ (u : List ℤ). Joined P w u) (letters-spelled 0 s.state.exponents) s.joined;
      },
    )
