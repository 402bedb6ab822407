-- The arithmetic of each collector at a presentation with tails.
use Rattle.std.proofs.Common.{◌≡◌, ℕ, ◌<◌, ℤ, List, [], ◌++◌, length, map, replicate, ap, sym, ◌∙◌, subst, arith}
use Rattle.std.proofs.lemmas.List.{length-map}
use Rattle.pq_base.specs.SignedWord.{copies, sub, HasLetters}
use Rattle.pq_base.specs.Joined.{Joined}
use Rattle.pq_base.proofs.words.JoinedLaws.{joined-trans, joined-from_equal}
use Rattle.pc_presentation.specs.Pcp.{TailedPresentation, IsTailedPresentation}
use Rattle.pc_presentation.specs.Rowed.{RowedPresentation, IsRowed, flat}
use Rattle.pc_presentation.specs.Collection.{State, IsState, identity}
use Rattle.pc_presentation.specs.Arithmetic.{IsMeaning, product_by, word_of, evaluate_from, HasArithmetic}
use Rattle.pc_presentation.specs.Tailed.{Element, rowed_presentation, IsElement, with_state}
use Rattle.pc_presentation.specs.ImageElements.{states_of, AreImageElements}
use Rattle.pc_presentation.proofs.rows.RowLaws.{identity-state}
use Rattle.pc_presentation.proofs.quotients.TailedLaws.{rowed_presentation-is}
use Rattle.pc_presentation.proofs.quotients.ElementConditions.{with_state-element}
use Rattle.pc_presentation.proofs.quotients.CollectorArithmetic.{collectors_have_arithmetic, identity-word}

module _ (T : TailedPresentation) (is : IsTailedPresentation T) where
  pub big_prime : 1 < T.presentation.prime
  big_prime = is.presentation.prime

  -- an element that was cleared
  pub cleared-identity : (e e' : Element) → IsElement T e
      → e' ≡ with_state e (record { exponents = replicate (length e.state.exponents) 0; row = replicate (length e.state.row) 0 })
      → e' ≡ with_state e (identity (rowed_presentation T) T.presentation.rank)
  cleared-identity e e' h q =
      q
      ∙ ap (λ (n : ℕ). with_state e (record { exponents = replicate n 0; row = replicate (length e.state.row) 0 })) h.state.exponents.count
      ∙ ap (λ (n : ℕ). with_state e (record { exponents = replicate T.presentation.rank 0; row = replicate n 0 })) h.state.row.count

  pub cleared-is_element : (e e' : Element) → IsElement T e
      → e' ≡ with_state e (record { exponents = replicate (length e.state.exponents) 0; row = replicate (length e.state.row) 0 })
      → IsElement T e'
  cleared-is_element e e' h q =
      let big = big_prime in
      subst (λ (z : Element). IsElement T z) (sym (cleared-identity e e' h q))
      (with_state-element T e h (identity (rowed_presentation T) T.presentation.rank)
      (identity-state (rowed_presentation T) T.presentation.rank (omega arith)))

  module _ (push : State → ℕ → State) (reaches : IsRowed (rowed_presentation T) → IsMeaning (rowed_presentation T) push) where
    pub meaning_at : IsMeaning (rowed_presentation T) push
    meaning_at = reaches (rowed_presentation-is T is)

    pub arithmetic_at : HasArithmetic (rowed_presentation T) push
    arithmetic_at = collectors_have_arithmetic (rowed_presentation T) (rowed_presentation-is T is) push meaning_at

    pub product_at-joined : (u v e : State) → IsState (rowed_presentation T) T.presentation.rank u
        → IsState (rowed_presentation T) T.presentation.rank v
        → e ≡ product_by (rowed_presentation T) push u v
        → Joined (flat (rowed_presentation T)) (word_of (rowed_presentation T) e)
        (word_of (rowed_presentation T) u ++ word_of (rowed_presentation T) v)
    product_at-joined u v e h i q =
        joined-trans (joined-from_equal (flat (rowed_presentation T)) (ap (word_of (rowed_presentation T)) q))
        (arithmetic_at.products u v h i)

    pub identity_at-word : word_of (rowed_presentation T) (identity (rowed_presentation T) T.presentation.rank) ≡ []
    identity_at-word = identity-word (rowed_presentation T) (rowed_presentation-is T is) big_prime push meaning_at

    -- the value of a word, from a cleared element on
    pub value_at-joined : (f g : List Element) (w : List ℤ) (e c e' : Element) → IsElement T e
        → c ≡ with_state e (record { exponents = replicate (length e.state.exponents) 0; row = replicate (length e.state.row) 0 })
        → e' ≡ with_state c (evaluate_from (rowed_presentation T) push (states_of f) (states_of g) c.state w)
        → AreImageElements T push f g → HasLetters (length f) w
        → Joined (flat (rowed_presentation T)) (word_of (rowed_presentation T) e'.state)
        (sub w (map (word_of (rowed_presentation T)) (states_of f)))
    value_at-joined f g w e c e' h q r images letters =
        let big = big_prime in
        let Y : RowedPresentation = rowed_presentation T in
        let count : length f ≡ length (states_of f) = sym (length-map f (λ (x : Element). x.state)) in
        let value : e'.state
        ≡ evaluate_from (rowed_presentation T) push (states_of f) (states_of g) (identity (rowed_presentation T) T.presentation.rank) w =
        ap (λ (x : Element). x.state) r
        ∙ ap (λ (x : Element). evaluate_from (rowed_presentation T) push (states_of f) (states_of g) x.state w)
        (cleared-identity e c h q) in
        joined-trans (joined-from_equal (flat Y) (ap (word_of (rowed_presentation T)) value))
        (joined-trans
        (arithmetic_at.values (states_of f) (states_of g) (identity Y T.presentation.rank) w images.states
        (identity-state (rowed_presentation T) T.presentation.rank (omega arith)) (subst (λ (n : ℕ). HasLetters n w) count letters))
        (joined-from_equal (flat Y)
        (ap (λ (v : List ℤ). v ++ sub w (map (word_of (rowed_presentation T)) (states_of f))) identity_at-word)))

    -- a power, behind a cleared element
    pub power_at-joined : (x : List ℤ) (n : ℕ) (e c b u : Element) → IsElement T e
        → c ≡ with_state e (record { exponents = replicate (length e.state.exponents) 0; row = replicate (length e.state.row) 0 })
        → b ≡ u
        → Joined (flat (rowed_presentation T)) x
        (word_of (rowed_presentation T) c.state ++ copies (word_of (rowed_presentation T) b.state) n)
        → Joined (flat (rowed_presentation T)) x (copies (word_of (rowed_presentation T) u.state) n)
    power_at-joined x n e c b u h q r j =
        joined-trans j (joined-from_equal (flat (rowed_presentation T))
        (ap (λ (z : Element). word_of (rowed_presentation T) z.state ++ copies (word_of (rowed_presentation T) b.state) n)
        (cleared-identity e c h q)
        ∙ ap (λ (v : List ℤ). v ++ copies (word_of (rowed_presentation T) b.state) n) identity_at-word
        ∙ ap (λ (z : Element). copies (word_of (rowed_presentation T) z.state) n) r))
