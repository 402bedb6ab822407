-- Powers by repeated squaring, up to joined: an odd exponent takes the base once, and then the base is squared and the
-- exponent halved.
use Rattle.std.proofs.Common.{◌≡◌, ℕ, ◌+◌, ◌*◌, ◌/◌, ◌%◌, ℤ, List, ◌++◌, ap, sym, ◌∙◌, append_assoc, arith}
use Rattle.std.proofs.lemmas.List.{append-nil}
use Rattle.pq_base.specs.SignedWord.{copies}
use Rattle.pq_base.specs.Presentation.{Presentation}
use Rattle.pq_base.specs.Joined.{Joined}
use Rattle.pq_base.proofs.words.WordLaws.{copies-add, copies-mul}
use Rattle.pq_base.proofs.words.JoinedLaws.{joined-trans, joined-from_equal, joined-append, joined-copies}

module _ (P : Presentation) (u b : List ℤ) where
  pub odd-joined : (x : List ℤ) (r : ℕ) → r ≡ 1 → Joined P x (u ++ b) → Joined P x (u ++ copies b r)
  odd-joined x r e c =
      joined-trans c (joined-from_equal P (ap (λ (v : List ℤ). u ++ v) (sym (append-nil b)) ∙ ap (λ (m : ℕ). u ++ copies b m) (sym e)))

  pub even-joined : (r : ℕ) → r ≡ 0 → Joined P u (u ++ copies b r)
  even-joined r e = joined-from_equal P (sym (append-nil u) ∙ ap (λ (m : ℕ). u ++ copies b m) (sym e))

  pub square-joined : (x y z : List ℤ) (n : ℕ) → Joined P x (u ++ copies b (n % 2)) → Joined P y (b ++ b) → Joined P (u ++ copies b n) z
      → Joined P (x ++ copies y (n / 2)) z
  square-joined x y z n c d e =
      let h : ℕ = n / 2 in
      let r : ℕ = n % 2 in
      let all : n % 2 + 2 * (n / 2) ≡ n = omega arith in
      let twice : copies (b ++ b) (n / 2) ≡ copies b (2 * (n / 2)) =
      ap (λ (v : List ℤ). copies (b ++ v) (n / 2)) (sym (append-nil b)) ∙ sym (copies-mul b 2 (n / 2)) in
      let whole : (u ++ copies b (n % 2)) ++ copies (b ++ b) (n / 2) ≡ u ++ copies b n =
      ap (λ (v : List ℤ). (u ++ copies b (n % 2)) ++ v) twice
      ∙ append_assoc u (copies b (n % 2)) (copies b (2 * (n / 2)))
      ∙ ap (λ (v : List ℤ). u ++ v) (sym (copies-add b (n % 2) (2 * (n / 2))) ∙ ap (copies b) all) in
      joined-trans (joined-append c (joined-copies (n / 2) d)) (joined-trans (joined-from_equal P whole) e)
