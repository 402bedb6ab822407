-- Integer powers add up to joined, for exponents of either sign.
use Rattle.std.proofs.Common.{zero, suc, ℤ, pos, negsuc, ◌+ℤ◌, List, [], ◌++◌, ap, sym, ◌∙◌, subst, append_assoc}
use Rattle.std.proofs.lemmas.List.{append-nil}
use Rattle.std.proofs.Math.IntN.{suc_ℤ, pred_ℤ, suc-pred, +ℤ-suc_ℤ, +ℤ-pred_ℤ, +ℤ_idr}
use Rattle.pq_base.specs.SignedWord.{inv, copies, pow}
use Rattle.pq_base.specs.Presentation.{Presentation}
use Rattle.pq_base.specs.Joined.{Joined}
use Rattle.pq_base.proofs.words.WordLaws.{append-copies}
use Rattle.pq_base.proofs.words.JoinedLaws.{joined-sym, joined-trans, joined-from_equal, joined-append_left, joined-append_right}
use Rattle.pq_base.proofs.words.JoinedLaws.{joined-solve_left, inv-append-joined}

module _ (P : Presentation) (u : List ℤ) where
  -- one factor more
  pub pow-suc_joined : (k : ℤ) → Joined P (pow u (suc_ℤ k)) (pow u k ++ u)
  pow-suc_joined (pos n) = joined-from_equal P (append-copies u n)
  pow-suc_joined (negsuc zero) =
      let c : Joined P [] (inv u ++ u) = joined-sym (inv-append-joined P u) in
      subst (λ (v : List ℤ). Joined P [] (v ++ u)) (sym (append-nil (inv u))) c
  pow-suc_joined (negsuc (suc n)) =
      let v = copies (inv u) (suc n) in
      let c : Joined P (v ++ (inv u ++ u)) (v ++ []) = joined-append_left v (inv-append-joined P u) in
      let d : Joined P v (v ++ (inv u ++ u)) = joined-sym (subst (λ (x : List ℤ). Joined P (v ++ (inv u ++ u)) x) (append-nil v) c) in
      joined-trans d (joined-from_equal P
      (sym (append_assoc v (inv u) u) ∙ ap (λ (x : List ℤ). x ++ u) (sym (append-copies (inv u) (suc n)))))

  -- one factor less
  pub pow-pred_joined : (k : ℤ) → Joined P (pow u (pred_ℤ k)) (pow u k ++ inv u)
  pow-pred_joined k =
      joined-solve_left (pow u (pred_ℤ k)) u
      (joined-sym (subst (λ (m : ℤ). Joined P (pow u m) (pow u (pred_ℤ k) ++ u)) (suc-pred k) (pow-suc_joined (pred_ℤ k))))

  pub pow-add_joined : (m n : ℤ) → Joined P (pow u (m +ℤ n)) (pow u m ++ pow u n)
  pow-add_joined m (pos zero) = joined-from_equal P (ap (pow u) (+ℤ_idr m) ∙ sym (append-nil (pow u m)))
  pow-add_joined m (pos (suc n)) =
      joined-trans (joined-from_equal P (ap (pow u) (+ℤ-suc_ℤ m (pos n))))
      (joined-trans (pow-suc_joined (m +ℤ pos n))
      (joined-trans (joined-append_right u (pow-add_joined m (pos n)))
      (joined-from_equal P (append_assoc (pow u m) (copies u n) u ∙ ap (λ (x : List ℤ). pow u m ++ x) (sym (append-copies u n))))))
  pow-add_joined m (negsuc zero) =
      joined-trans (joined-from_equal P (ap (pow u) (+ℤ-pred_ℤ m (pos zero) ∙ ap pred_ℤ (+ℤ_idr m))))
      (joined-trans (pow-pred_joined m) (joined-from_equal P (ap (λ (x : List ℤ). pow u m ++ x) (sym (append-nil (inv u))))))
  pow-add_joined m (negsuc (suc n)) =
      joined-trans (joined-from_equal P (ap (pow u) (+ℤ-pred_ℤ m (negsuc n))))
      (joined-trans (pow-pred_joined (m +ℤ negsuc n))
      (joined-trans (joined-append_right (inv u) (pow-add_joined m (negsuc n)))
      (joined-from_equal P (append_assoc (pow u m) (copies (inv u) (suc n)) (inv u)
      ∙ ap (λ (x : List ℤ). pow u m ++ x) (sym (append-copies (inv u) (suc n)))))))
