-- Words over the generators of a presentation, up to joined, where letters that are no generators stand for nothing: a group, in
-- which the value of a word is its substitution, and in which a central word commutes with every word.
use Rattle.std.proofs.Common.{◌≡◌, ℕ, zero, suc, ℤ, pos, negsuc, List, [], ◌∷◌, ◌++◌, refl, ap, ap₂, sym, ◌∙◌, append_assoc}
use Rattle.std.proofs.lemmas.List.{append-nil}
use Rattle.pq_base.specs.SignedWord.{inv, copies, image_of, sub, HasLetters}
use Rattle.pq_base.specs.Presentation.{Presentation}
use Rattle.pq_base.specs.Joined.{Joined}
use Rattle.pq_base.proofs.words.WordLaws.{sub-append, sub-inv}
use Rattle.pq_base.proofs.words.JoinedLaws.{joined-refl, joined-sym, joined-trans, joined-append, joined-inv, joined-from_equal}
use Rattle.pq_base.proofs.words.JoinedLaws.{append-inv-joined, inv-append-joined}
use Rattle.pq_base.proofs.words.RangeLaws.{generators, sub-generators, HasLetters-sub_generators}
use Rattle.pq_base.proofs.words.CentralWords.{IsCentral}
use Rattle.pq_base.proofs.groups.Groups.{Group, element_in, value_in, power_in}
use Rattle.pq_base.proofs.groups.GroupCommute.{Commute}

-- a word without the letters that are no generators
abbrev pub within : Presentation → List ℤ → List ℤ
within Q w = sub w (generators Q.rank)

module _ (Q : Presentation) where
  pub within-append : (u v : List ℤ) → within Q (u ++ v) ≡ within Q u ++ within Q v
  within-append u v = sub-append u v (generators Q.rank)

  pub within-inv : (u : List ℤ) → within Q (inv u) ≡ inv (within Q u)
  within-inv u = sub-inv u (generators Q.rank)

  -- products
  pub within-times : (u v : List ℤ) {x y : List ℤ} → Joined Q (within Q u) x → Joined Q (within Q v) y
      → Joined Q (within Q (u ++ v)) (x ++ y)
  within-times u v c d = joined-trans (joined-from_equal Q (within-append u v)) (joined-append c d)

  abbrev pub ranged_group : Group
  ranged_group = record {
    carrier = List ℤ;
    same = λ u v. Joined Q (within Q u) (within Q v);
    times = λ u v. u ++ v;
    one = [];
    inverse = inv;
    reflexive = λ u. joined-refl Q (within Q u);
    symmetric = λ c. joined-sym c;
    transitive = λ c d. joined-trans c d;
    times-same = λ {x} {y} {u} {v} c d.
        joined-trans (within-times x u c d) (joined-from_equal Q (sym (within-append y v)));
    inverse-same = λ {x} {y} c.
        joined-trans (joined-from_equal Q (within-inv x)) (joined-trans (joined-inv c) (joined-from_equal Q (sym (within-inv y))));
    associative = λ u v w. joined-from_equal Q (ap (within Q) (append_assoc u v w));
    one_left = λ u. joined-refl Q (within Q u);
    one_right = λ u. joined-from_equal Q (ap (within Q) (append-nil u));
    inverse_left = λ u.
        joined-trans (joined-from_equal Q (within-append (inv u) u ∙ ap (λ (w : List ℤ). w ++ within Q u) (within-inv u)))
        (inv-append-joined Q (within Q u));
    inverse_right = λ u.
        joined-trans (joined-from_equal Q (within-append u (inv u) ∙ ap (λ (w : List ℤ). within Q u ++ w) (within-inv u)))
        (append-inv-joined Q (within Q u));
  }

  -- the value in this group is the substitution
  element_in-ranged : (f : List (List ℤ)) (k : ℤ) → element_in ranged_group f k ≡ image_of f k
  element_in-ranged f (pos zero) = refl
  element_in-ranged f (pos (suc n)) = refl
  element_in-ranged f (negsuc n) = refl

  pub value_in-ranged : (f : List (List ℤ)) (w : List ℤ) → value_in ranged_group f w ≡ sub w f
  value_in-ranged f [] = refl
  value_in-ranged f (k ∷ w) = ap₂ (λ (u v : List ℤ). u ++ v) (element_in-ranged f k) (value_in-ranged f w)

  pub power_in-ranged : (u : List ℤ) (n : ℕ) → power_in ranged_group u n ≡ copies u n
  power_in-ranged u zero = refl
  power_in-ranged u (suc n) = ap (λ (v : List ℤ). u ++ v) (power_in-ranged u n)

  -- for words over the generators it is the relation of being joined
  pub joined-from_ranged : (u v : List ℤ) → HasLetters Q.rank u → HasLetters Q.rank v → Joined Q (within Q u) (within Q v) → Joined Q u v
  joined-from_ranged u v h i c =
      joined-trans (joined-from_equal Q (sym (sub-generators Q.rank u h)))
      (joined-trans c (joined-from_equal Q (sub-generators Q.rank v i)))

  pub ranged-from_joined : (u v : List ℤ) → HasLetters Q.rank u → HasLetters Q.rank v → Joined Q u v → Joined Q (within Q u) (within Q v)
  ranged-from_joined u v h i c =
      joined-trans (joined-from_equal Q (sub-generators Q.rank u h))
      (joined-trans c (joined-from_equal Q (sym (sub-generators Q.rank v i))))

  -- a central word over the generators
  pub ranged-central : (z x : List ℤ) → HasLetters Q.rank z → IsCentral Q z → Commute ranged_group z x
  ranged-central z x h c =
      let stays : within Q z ≡ z = sub-generators Q.rank z h in
      let left : within Q (z ++ x) ≡ z ++ within Q x = within-append z x ∙ ap (λ (w : List ℤ). w ++ within Q x) stays in
      let right : within Q (x ++ z) ≡ within Q x ++ z = within-append x z ∙ ap (λ (w : List ℤ). within Q x ++ w) stays in
      record {
        swap =
            joined-trans (joined-from_equal Q left)
            (joined-trans (c.commutes (within Q x) (HasLetters-sub_generators Q.rank x)) (joined-from_equal Q (sym right)));
      }
