-- In a consistent presentation the exponents of normal words with their products are a group: both sides of each law
-- are joined to one word.
use Rattle.std.proofs.Common.{◌≡◌, ℕ, ◌<◌, ℤ, List, [], ◌++◌, replicate, refl, ap, sym, ◌∙◌, subst, arith, append_assoc}
use Rattle.std.proofs.lemmas.List.{append-nil}
use Rattle.pq_base.specs.SignedWord.{inv}
use Rattle.pq_base.specs.Presentation.{Presentation, IsPresentation, IsNormal, normal_word}
use Rattle.pq_base.specs.Joined.{Joined, IsConsistent}
use Rattle.pq_base.proofs.words.WordLaws.{word_from-zeros}
use Rattle.pq_base.proofs.words.JoinedLaws.{joined-sym, joined-trans, joined-from_equal, joined-append_left, joined-append_right}
use Rattle.pq_base.proofs.words.JoinedLaws.{joined-solve_right, inv-append-joined}
use Rattle.pc_presentation.specs.Rowed.{without_rows}
use Rattle.pc_presentation.specs.Collection.{State, IsState, spelled, letters, plain_push}
use Rattle.pc_presentation.specs.NormalTable.{product_of}
use Rattle.pc_presentation.proofs.rows.RowLaws.{zeros-normal}
use Rattle.pc_presentation.proofs.collecting.PushLaws.{push_word-keeps}
use Rattle.pc_presentation.proofs.collecting.PlainRule.{plain-state}
use Rattle.pc_presentation.proofs.collecting.PlainRuns.{AllBelow-spelled}
use Rattle.pc_presentation.proofs.consistent.StateGroup.{right_inverse}
use Rattle.pc_presentation.proofs.consistent.Reached.{push_word-joined}
use Rattle.pc_presentation.proofs.consistent.LetterWords.{letters-spelled}
use Rattle.pc_presentation.proofs.rows.FlatLaws.{without_rows-rowed}

-- exponents as a state
abbrev pub bare : List ℕ → State
bare e = record { exponents = e; row = [] }

module _ (P : Presentation) (h : IsPresentation P) (positive : 0 < P.prime) where
  bare-state : (e : List ℕ) → IsNormal P.prime P.rank e → IsState (without_rows P) P.rank (bare e)
  bare-state e n = record { exponents = n; row = record { count = refl; below = tt } }

  pub product_of-normal : (e f : List ℕ) → IsNormal P.prime P.rank e → IsNormal P.prime P.rank (product_of P e f)
  product_of-normal e f n =
      (push_word-keeps (plain_push (without_rows P)) (IsState (without_rows P) P.rank)
      (plain-state (without_rows P) (without_rows-rowed P h) positive P.rank 0) (bare e) (spelled 0 f) (bare-state e n)).exponents

  -- the product is joined to the words one after the other
  pub product_of-joined : (e f : List ℕ) → IsNormal P.prime P.rank e → IsNormal P.prime P.rank f
      → Joined P (normal_word e ++ normal_word f) (normal_word (product_of P e f))
  product_of-joined e f n m =
      let c = m.count in
      let j = push_word-joined (without_rows P) (without_rows-rowed P h) positive (bare e) (spelled 0 f) (bare-state e n)
      (AllBelow-spelled P.rank 0 f (omega arith)) in
      subst (λ (w : List ℤ). Joined P (w ++ normal_word f) (normal_word (product_of P e f))) (letters-spelled 0 e)
      (subst (λ (w : List ℤ). Joined P (letters (spelled 0 e) ++ w) (normal_word (product_of P e f))) (letters-spelled 0 f)
      (subst (λ (w : List ℤ). Joined P (letters (spelled 0 e) ++ letters (spelled 0 f)) w) (letters-spelled 0 (product_of P e f)) j))

  -- exponents whose product behind e is the identity
  pub record InverseExponents (e : List ℕ) : Type 0 where
    pub exponents : List ℕ
    pub normal : IsNormal P.prime P.rank exponents
    pub is : product_of P e exponents ≡ replicate P.rank 0

  pub inverse_exponents : (e : List ℕ) → IsNormal P.prime P.rank e → InverseExponents e
  inverse_exponents e n =
      let r = right_inverse (without_rows P) (without_rows-rowed P h) positive P.rank 0 (bare e) (bare-state e n) in
      record { exponents = r.state.exponents; normal = r.valid.exponents; is = ap (λ (s : State). s.exponents) r.is }

  pub zeros-word : normal_word (replicate P.rank 0) ≡ []
  zeros-word = word_from-zeros 0 P.rank

  module _ (consistent : IsConsistent P) where
    -- exponents whose normal words are joined to one word
    same : (e f : List ℕ) (w : List ℤ) → IsNormal P.prime P.rank e → IsNormal P.prime P.rank f → Joined P w (normal_word e)
        → Joined P w (normal_word f) → e ≡ f
    same e f w n m c d = consistent.unique e f n m (joined-trans (joined-sym c) d)

    pub product_of-assoc : (d e f : List ℕ) → IsNormal P.prime P.rank d → IsNormal P.prime P.rank e → IsNormal P.prime P.rank f
        → product_of P (product_of P d e) f ≡ product_of P d (product_of P e f)
    product_of-assoc d e f a b c =
        let de = product_of-normal d e a in
        let ef = product_of-normal e f b in
        same (product_of P (product_of P d e) f) (product_of P d (product_of P e f)) ((normal_word d ++ normal_word e) ++ normal_word f)
        (product_of-normal (product_of P d e) f de) (product_of-normal d (product_of P e f) a)
        (joined-trans (joined-append_right (normal_word f) (product_of-joined d e a b)) (product_of-joined (product_of P d e) f de c))
        (joined-trans (joined-from_equal P (append_assoc (normal_word d) (normal_word e) (normal_word f)))
        (joined-trans (joined-append_left (normal_word d) (product_of-joined e f b c)) (product_of-joined d (product_of P e f) a ef)))

    pub product_of-zeros_left : (e : List ℕ) → IsNormal P.prime P.rank e → product_of P (replicate P.rank 0) e ≡ e
    product_of-zeros_left e n =
        let z = zeros-normal P.prime P.rank positive in
        same (product_of P (replicate P.rank 0) e) e (normal_word (replicate P.rank 0) ++ normal_word e)
        (product_of-normal (replicate P.rank 0) e z) n
        (product_of-joined (replicate P.rank 0) e z n)
        (joined-from_equal P (ap (λ (w : List ℤ). w ++ normal_word e) zeros-word))

    pub product_of-zeros_right : (e : List ℕ) → IsNormal P.prime P.rank e → product_of P e (replicate P.rank 0) ≡ e
    product_of-zeros_right e n =
        let z = zeros-normal P.prime P.rank positive in
        same (product_of P e (replicate P.rank 0)) e (normal_word e ++ normal_word (replicate P.rank 0))
        (product_of-normal e (replicate P.rank 0) n) n
        (product_of-joined e (replicate P.rank 0) n z)
        (joined-from_equal P (ap (λ (w : List ℤ). normal_word e ++ w) zeros-word ∙ append-nil (normal_word e)))

    -- words of exponents whose product is the identity are joined to each other's inverses
    pub inverse-joined : (e f : List ℕ) → IsNormal P.prime P.rank e → IsNormal P.prime P.rank f → product_of P e f ≡ replicate P.rank 0
        → Joined P (normal_word f) (inv (normal_word e))
    inverse-joined e f n m q =
        let c : Joined P (normal_word e ++ normal_word f) [] =
        subst (λ (w : List ℤ). Joined P (normal_word e ++ normal_word f) w) (ap normal_word q ∙ zeros-word) (product_of-joined e f n m) in
        joined-trans (joined-solve_right (normal_word e) (normal_word f) c) (joined-from_equal P (append-nil (inv (normal_word e))))

    pub product_of-inverse_left : (e f : List ℕ) → IsNormal P.prime P.rank e → IsNormal P.prime P.rank f
        → product_of P e f ≡ replicate P.rank 0
        → product_of P f e ≡ replicate P.rank 0
    product_of-inverse_left e f n m q =
        same (product_of P f e) (replicate P.rank 0) (normal_word f ++ normal_word e) (product_of-normal f e m)
        (zeros-normal P.prime P.rank positive)
        (product_of-joined f e m n)
        (joined-trans (joined-append_right (normal_word e) (inverse-joined e f n m q))
        (joined-trans (inv-append-joined P (normal_word e)) (joined-from_equal P (sym zeros-word))))
