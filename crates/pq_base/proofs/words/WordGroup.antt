-- Words with the relation of being joined are a group, in which the value of a word is its substitution. So a
-- substitution that carries relators to trivial words carries joined words to joined words.
use Rattle.std.proofs.Common.{◌≡◌, ℕ, ◌<◌, ℤ, pos, negsuc, zero, suc, List, [], ◌∷◌, ◌++◌, get_or, refl, append_assoc}
use Rattle.std.proofs.lemmas.List.{append-nil}
use Rattle.pq_base.specs.SignedWord.{inv, image_of, sub, HasLetters}
use Rattle.pq_base.specs.Presentation.{Presentation, IsRelatorOf}
use Rattle.pq_base.specs.Joined.{IsTrivial, Joined}
use Rattle.pq_base.specs.Joined.IsTrivial.{pair, relator}
use Rattle.pq_base.specs.Laws.{SubstitutionsCarryJoinedWords}
use Rattle.pq_base.proofs.words.ChainLaws.{chain-map}
use Rattle.pq_base.proofs.words.JoinedLaws.{joined-refl, joined-sym, joined-trans, joined-append, joined-inv, joined-from_equal}
use Rattle.pq_base.proofs.words.JoinedLaws.{append-inv-joined, inv-append-joined, pair-joined}
use Rattle.pq_base.proofs.groups.Groups.{Group, element_in, value_in, value_in-joined, value_in-same}

abbrev pub word_group : Presentation → Group
word_group P = record {
  carrier = List ℤ;
  same = Joined P;
  times = λ u v. u ++ v;
  one = [];
  inverse = inv;
  reflexive = joined-refl P;
  symmetric = λ c. joined-sym c;
  transitive = λ c d. joined-trans c d;
  times-same = λ c d. joined-append c d;
  inverse-same = λ c. joined-inv c;
  associative = λ u v w. joined-from_equal P (append_assoc u v w);
  one_left = λ u. joined-refl P u;
  one_right = λ u. joined-from_equal P (append-nil u);
  inverse_left = inv-append-joined P;
  inverse_right = append-inv-joined P;
}

-- the value in this group is the substitution
pub element_in-word_group : (P : Presentation) (f : List (List ℤ)) (k : ℤ) → element_in (word_group P) f k ≡ image_of f k
element_in-word_group P f (pos zero) = refl
element_in-word_group P f (pos (suc n)) = refl
element_in-word_group P f (negsuc n) = refl

pub value_in-word_group : (P : Presentation) (f : List (List ℤ)) (w : List ℤ) → value_in (word_group P) f w ≡ sub w f
value_in-word_group P f [] = refl
value_in-word_group P f (k ∷ w) = rw (element_in-word_group P f k, value_in-word_group P f w)

-- a substitution that carries the relators of P to trivial words of Q carries joined words to joined words
pub joined-sub : (P Q : Presentation) (f : List (List ℤ)) → ((r : List ℤ) → IsRelatorOf P r → Joined Q (sub r f) [])
    → {u v : List ℤ} → Joined P u v → Joined Q (sub u f) (sub v f)
joined-sub P Q f kills {u} {v} c =
    let at_relators : (r : List ℤ) → IsRelatorOf P r → Joined Q (value_in (word_group Q) f r) [] =
    λ r h. rw (value_in-word_group Q f r) (kills r h) in
    let d : Joined Q (value_in (word_group Q) f u) (value_in (word_group Q) f v) = value_in-joined (word_group Q) P f at_relators c in
    rw (value_in-word_group Q f u, value_in-word_group Q f v) at d

-- lists of images whose first n words are joined
pub joined-sub_same : (P : Presentation) (n : ℕ) (f g : List (List ℤ)) → ((i : ℕ) → i < n → Joined P (get_or f i []) (get_or g i []))
    → (w : List ℤ) → HasLetters n w → Joined P (sub w f) (sub w g)
joined-sub_same P n f g e w h =
    let d : Joined P (value_in (word_group P) f w) (value_in (word_group P) g w) = value_in-same (word_group P) n f g e w h in
    rw (value_in-word_group P f w, value_in-word_group P g w) at d

-- a presentation in which the relators of another are trivial joins more words
pub joined-weaken : (P Q : Presentation) → ((r : List ℤ) → IsRelatorOf P r → Joined Q r []) → {u v : List ℤ} → Joined P u v → Joined Q u v
joined-weaken P Q kills c = chain-map trivial c
  where
    trivial : (x : List ℤ) → IsTrivial P x → Joined Q x []
    trivial x (pair k) = pair-joined Q k
    trivial x (relator r h) = kills r h

pub substitutions_carry_joined_words : SubstitutionsCarryJoinedWords
substitutions_carry_joined_words P Q f kills u v c = joined-sub P Q f kills c
