-- A consistent answer carries a word to the identity by the plain rule exactly where it kills the word.
use Rattle.std.proofs.Common.{◌↔◌, ℕ, ℤ, List, [], length, sym, subst, Bool, IsTrue}
use Rattle.pq_base.specs.SignedWord.{sub, HasLetters}
use Rattle.pq_base.specs.Joined.{Joined, IsConsistent}
use Rattle.pq_base.specs.Answer.{Answer, IsAnswer, image_words}
use Rattle.derivation_log.specs.PlainValues.{IsCarriedToIdentity}
use Rattle.derivation_log.proofs.PlainValues.{carried-joined}
use Rattle.derivation_log.proofs.PlainGroups.{dead-carried}

pub killed-carried : (A : Answer) → IsAnswer A → IsConsistent A.presentation → (w : List ℤ) → HasLetters (length A.names) w → (b : Bool)
    → (IsTrue b ↔ Joined A.presentation (sub w (image_words A)) []) → (IsTrue b ↔ IsCarriedToIdentity A w)
killed-carried A is consistent w l b killed = (
  λ h. dead-carried A is consistent w l (killed.0 h),
  λ h. killed.1 (carried-joined A is.presentation w (subst (λ (n : ℕ). HasLetters n w) (sym is.image_count) l) h),
)
