-- The images of a consistent answer carry the words that it kills to the identity.
use Rattle.std.proofs.Common.{◌≡◌, ℕ, ℤ, List, [], length, get_or, ap, sym, ◌∙◌, subst}
use Rattle.std.proofs.lemmas.List.{length-map}
use Rattle.std.proofs.lemmas.List.Elements.{All-from_get_or}
use Rattle.pq_base.specs.SignedWord.{sub, HasLetters}
use Rattle.pq_base.specs.LPresentation.{LPresentation, IsLPresentation}
use Rattle.pq_base.specs.LPresentation.IsRelator.{fixed_relator, iterated_relator}
use Rattle.pq_base.specs.Joined.{Joined, IsConsistent}
use Rattle.pq_base.specs.Answer.{Answer, IsAnswer, image_words}
use Rattle.pq_base.specs.Largest.{Kills}
use Rattle.pq_base.proofs.words.JoinedLaws.{joined-sym, joined-trans, joined-from_equal}
use Rattle.pq_base.proofs.words.LetterLaws.{HasLetters-get_or}
use Rattle.derivation_log.specs.PlainValues.{bare_state, images_of, identity_of, IsCarriedToIdentity}
use Rattle.derivation_log.specs.CertificateParts.{AreCarriedToIdentity}
use Rattle.derivation_log.proofs.PlainGroups.{dead-carried}

module _ (A : Answer) (is : IsAnswer A) (consistent : IsConsistent A.presentation) where
  module _ (L : LPresentation) (words : IsLPresentation L) (names : A.names ≡ L.names) (kills : Kills L A) where
    letters : (w : List ℤ) → HasLetters (length L.names) w → HasLetters (length A.names) w
    letters w l = subst (λ (ns : List (List ℕ)). HasLetters (length ns) w) (sym names) l

    -- Iterated
    pub iterated-carried : AreCarriedToIdentity A L.iterated
    iterated-carried =
        All-from_get_or (IsCarriedToIdentity A) L.iterated []
        (λ i l.
        dead-carried A is consistent (get_or L.iterated i [])
        (letters (get_or L.iterated i []) (HasLetters-get_or (length L.names) L.iterated i words.iterated_words))
        (kills (get_or L.iterated i []) (iterated_relator [] i tt l)))

    -- Fixed
    pub fixed-carried : AreCarriedToIdentity A L.fixed
    fixed-carried =
        All-from_get_or (IsCarriedToIdentity A) L.fixed []
        (λ i l.
        dead-carried A is consistent (get_or L.fixed i [])
        (letters (get_or L.fixed i []) (HasLetters-get_or (length L.names) L.fixed i words.fixed_words))
        (kills (get_or L.fixed i []) (fixed_relator i l)))
