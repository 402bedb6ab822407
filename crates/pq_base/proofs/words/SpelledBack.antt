-- Where each generator is joined to its word under the images, a word in spelled generators is joined under the images to the word.
use Rattle.std.proofs.Common.{ℕ, ◌<◌, ℤ, List, [], get_or, map, sym}
use Rattle.std.proofs.Math.ListN.{get_or-map}
use Rattle.pq_base.specs.SignedWord.{sub, HasLetters}
use Rattle.pq_base.specs.Presentation.{Presentation, letter}
use Rattle.pq_base.specs.Joined.{Joined}
use Rattle.pq_base.proofs.words.WordLaws.{sub-sub}
use Rattle.pq_base.proofs.words.JoinedLaws.{joined-from_equal, joined-sym, joined-trans}
use Rattle.pq_base.proofs.words.RangeLaws.{generators, get_or-generators, sub-generators}
use Rattle.pq_base.proofs.words.WordGroup.{joined-sub_same}

pub spelled_words-back : (Q : Presentation) (n : ℕ) (words images : List (List ℤ))
    → ((k : ℕ) → k < n → Joined Q (letter k) (sub (get_or words k []) images))
    → (w : List ℤ) → HasLetters n w → Joined Q (sub (sub w words) images) w
spelled_words-back Q n words images each w h =
    let at_generators : (i : ℕ) → i < n → Joined Q (get_or (map (λ (u : List ℤ). sub u images) words) i []) (get_or (generators n) i []) =
    λ i l.
    joined-trans (joined-from_equal Q (get_or-map (λ (u : List ℤ). sub u images) words i []))
    (joined-trans (joined-sym (each i l)) (joined-from_equal Q (sym (get_or-generators n i l)))) in
    joined-trans (joined-from_equal Q (sub-sub w words images))
    (joined-trans (joined-sub_same Q n (map (λ (u : List ℤ). sub u images) words) (generators n) at_generators w h)
    (joined-from_equal Q (sub-generators n w h)))
