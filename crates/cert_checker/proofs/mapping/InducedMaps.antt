-- An endomorphism induces a map of a consistent answer into itself by the plain rule exactly where the values of its words make one.
use Rattle.std.proofs.Common.{◌≡◌, ◌↔◌, ◌<◌, ◌+◌, ℕ, suc, ℤ, Bool, IsTrue, List, [], ◌∷◌, get_or, length, map, take, refl, ap, sym, ◌∙◌}
use Rattle.std.proofs.Common.{subst, arith}
use Rattle.std.specs.List.{All}
use Rattle.std.proofs.lemmas.List.{length-map, get_or-map, ext_get_or}
use Rattle.std.proofs.lemmas.List.Elements.{All-more}
use Rattle.pq_base.specs.SignedWord.{HasLetters}
use Rattle.pq_base.specs.LPresentation.{AreWords, endo_at}
use Rattle.pq_base.specs.Joined.{IsConsistent}
use Rattle.pq_base.specs.Answer.{Answer, IsAnswer}
use Rattle.pq_base.proofs.words.JoinedLaws.{joined-sym, joined-trans}
use Rattle.pq_base.proofs.words.LetterLaws.{HasLetters-get_or}
use Rattle.pc_presentation.specs.Rowed.{RowedPresentation, without_rows}
use Rattle.pc_presentation.specs.Collection.{State, IsState, identity, plain_push}
use Rattle.pc_presentation.specs.Arithmetic.{evaluate_from, AreImages}
use Rattle.pc_presentation.specs.Pcp.{TailedPresentation}
use Rattle.pc_presentation.specs.Tailed.{Element, rowed_presentation}
use Rattle.pc_presentation.specs.ImageElements.{states_of}
use Rattle.pc_presentation.proofs.quotients.WordValues.{value-state}
use Rattle.epimorphism.specs.Rooms.{value_elements}
use Rattle.derivation_log.specs.PlainValues.{bare_state, identity_of, IsValue, images_of, AreValues, MakeMap, InducesPlainly}
use Rattle.derivation_log.proofs.PlainValues.{value-joined}
use Rattle.derivation_log.proofs.PlainGroups.{rowed-here, meaning-here, one-state, same-elements}

-- the values of words
abbrev pub values_in : RowedPresentation → List State → List State → List (List ℤ) → List State
values_in Y f g words = map (λ (u : List ℤ). evaluate_from Y (plain_push Y) f g (identity Y Y.base.rank) u) words

pub states-values : (T : TailedPresentation) (f g : List Element) (words : List (List ℤ))
    → states_of (value_elements T (plain_push (rowed_presentation T)) f g words)
    ≡ values_in (rowed_presentation T) (states_of f) (states_of g) words
states-values T f g [] = refl
states-values T f g (u ∷ words) =
    ap (λ (ss : List State). evaluate_from (rowed_presentation T) (plain_push (rowed_presentation T)) (states_of f) (states_of g)
    (identity (rowed_presentation T) T.presentation.rank) u ∷ ss) (states-values T f g words)

module _ (A : Answer) (is : IsAnswer A) (consistent : IsConsistent A.presentation) where
  -- a word has one value
  is_value-state : (f : List State) (w : List ℤ) (v : State) → HasLetters (length f) w → IsValue A f w v
      → IsState (without_rows A.presentation) A.presentation.rank v
  is_value-state f w v l h =
      let big : 1 < A.presentation.prime = (let b = is.presentation.prime in omega (arith, b)) in
      subst (IsState (without_rows A.presentation) A.presentation.rank) h.value
      (value-state (without_rows A.presentation) (rowed-here A is) big (plain_push (without_rows A.presentation)) (meaning-here A is)
      f h.inverses (identity_of A) w h.images (one-state A is) l)

  pub values-same : (f : List State) (w : List ℤ) (u v : State) → HasLetters (length f) w → IsValue A f w u → IsValue A f w v → u ≡ v
  values-same f w u v l h m =
      same-elements A is consistent u v (is_value-state f w u l h) (is_value-state f w v l m)
      (joined-trans (value-joined A is.presentation f w u l h) (joined-sym (value-joined A is.presentation f w v l m)))

  module _ (endo : List (List ℤ)) (over : AreWords (length A.names) endo) (g : List State)
      (images : AreImages (without_rows A.presentation) (plain_push (without_rows A.presentation)) (images_of A) g) where
    abbrev values : List State
    values = values_in (without_rows A.presentation) (images_of A) g endo

    are-values : AreValues A endo values
    are-values = record {
      count = length-map endo (λ (u : List ℤ). evaluate_from (without_rows A.presentation) (plain_push (without_rows A.presentation))
          (images_of A) g (identity_of A) u);
      values = λ i l. record {
        inverses = g;
        images = images;
        value = sym (get_or-map (λ (u : List ℤ). evaluate_from (without_rows A.presentation) (plain_push (without_rows A.presentation))
            (images_of A) g (identity_of A) u) endo i [] (identity_of A) l);
      };
    }

    letters : (i : ℕ) → HasLetters (length (images_of A)) (get_or endo i [])
    letters i =
        subst (λ (n : ℕ). HasLetters n (get_or endo i [])) (sym (length-map A.images bare_state ∙ is.image_count))
        (HasLetters-get_or (length A.names) endo i over)

    same : (h : List State) → AreValues A endo h → h ≡ values
    same h are =
        let c = are.count in
        let d = are-values.count in
        ext_get_or (identity_of A) h values (c ∙ sym d)
        (λ i l. values-same (images_of A) (get_or endo i []) (get_or h i (identity_of A)) (get_or values i (identity_of A)) (letters i)
        (are.values i (omega (arith, l, c))) (are-values.values i (omega (arith, l, c))))

    pub induced-decided : (b : Bool) → (IsTrue b ↔ MakeMap A A (values_in (without_rows A.presentation) (images_of A) g endo))
        → (IsTrue b ↔ InducesPlainly A endo)
    induced-decided b decided = (
      λ t. record { values = values; under = are-values; made = decided.0 t },
      λ h. decided.1 (subst (MakeMap A A) (same h.values h.under) h.made),
    )

  -- where the values were found in a presentation without tails
  pub induced-from : (Y : RowedPresentation) → Y ≡ without_rows A.presentation → (endo : List (List ℤ)) → AreWords (length A.names) endo
      → (f g v : List State) → f ≡ images_of A → AreImages Y (plain_push Y) f g → v ≡ values_in Y f g endo → (b : Bool)
      → (IsTrue b ↔ MakeMap A A v) → (IsTrue b ↔ InducesPlainly A endo)
  induced-from Y bare endo over f g v given images found b decided =
      let at_answer = subst (λ (Z : RowedPresentation). AreImages Z (plain_push Z) f g × (v ≡ values_in Z f g endo)) bare
      (images, found) in
      let at_images = subst (λ (h : List State). AreImages (without_rows A.presentation) (plain_push (without_rows A.presentation)) h g
      × (v ≡ values_in (without_rows A.presentation) h g endo)) given at_answer in
      induced-decided endo over g at_images.0 b (subst (λ (h : List State). IsTrue b ↔ MakeMap A A h) at_images.1 decided)

-- one endomorphism more of a list
pub mapped-count : {X Y : Type 0} (f : X → Y) (xs : List X) (ys : List Y) → map f xs ≡ ys → length xs ≡ length ys
mapped-count {X} {Y} f xs ys e = sym (length-map xs f) ∙ ap (λ (zs : List Y). length zs) e

pub induced-more : (A : Answer) (endos : List (List (List ℤ))) (e : ℕ) (endo : List (List ℤ)) → e < length endos
    → All (InducesPlainly A) (take e endos) → endo ≡ endo_at endos (e + 1) → InducesPlainly A endo
    → All (InducesPlainly A) (take (e + 1) endos)
induced-more A endos e endo l before is induced =
    let next : e + 1 ≡ suc e = omega arith in
    All-more (InducesPlainly A) endos e [] l before (subst (InducesPlainly A) (is ∙ ap (endo_at endos) next) induced)
