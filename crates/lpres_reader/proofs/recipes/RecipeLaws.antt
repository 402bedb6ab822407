-- Steps are taken one after the other, and a step whose numbers are the lengths of the last words changes these alone.
use Rattle.std.proofs.Common.{◌≡◌, ◌≤◌, ◌<◌, ℕ, suc, ◌+◌, ◌-◌, ◌*◌, Bool, true, false, ℤ, pos, List, [], ◌∷◌, ◌++◌, length, take, drop}
use Rattle.std.proofs.Common.{refl, ap, sym, ◌∙◌, append_assoc, arith}
use Rattle.std.proofs.lemmas.List.{append-nil, length-append}
use Rattle.std.proofs.Math.Seq.{take-append_seam, drop-append_seam}
use Rattle.pq_base.specs.SignedWord.{comm, conj}
use Rattle.free_words.proofs.Lengths.{length-inv, length-copies, length-conj, length-comm}
use Rattle.lpres_reader.specs.declared.recipe.Step.{Step}
use Rattle.lpres_reader.specs.declared.recipe.Step.TheVariants.{Generator, Raise, Conjugate, Commute}
use Rattle.lpres_reader.specs.Recipes.{signed, power_of, last, without_last, step_on, written, IsRecipe}

pub written-append : (out : List ℤ) (ss ts : List Step) → written out (ss ++ ts) ≡ written (written out ss) ts
written-append out [] ts = refl
written-append out (s ∷ ss) ts = written-append (step_on out s) ss ts

pub last-append : (out w : List ℤ) → last (length w) (out ++ w) ≡ w
last-append out w =
    let e : length (out ++ w) - length w ≡ length out = omega (arith, length-append out w) in
    ap (λ (n : ℕ). drop n (out ++ w)) e ∙ drop-append_seam out w

pub without_last-append : (out w : List ℤ) → without_last (length w) (out ++ w) ≡ out
without_last-append out w =
    let e : length (out ++ w) - length w ≡ length out = omega (arith, length-append out w) in
    ap (λ (n : ℕ). take n (out ++ w)) e ∙ take-append_seam out w

pub length-signed : (b : Bool) (u : List ℤ) → length (signed b u) ≡ length u
length-signed true u = length-inv u
length-signed false u = refl

pub length-power_of : (b : Bool) (u : List ℤ) (n : ℕ) → length (power_of b u n) ≡ n * length u
length-power_of b u n = length-copies (signed b u) n ∙ ap (λ (m : ℕ). n * m) (length-signed b u)

-- a step that changes the last words, whatever is before them
step-raise : (out w : List ℤ) (b : Bool) (t : ℕ) → step_on (out ++ w) (Raise (length w) b t) ≡ out ++ power_of b w t
step-raise out w b t =
    ap (λ (x : List ℤ). x ++ power_of b (last (length w) (out ++ w)) t) (without_last-append out w)
    ∙ ap (λ (x : List ℤ). out ++ power_of b x t) (last-append out w)

step-two : (f : List ℤ → List ℤ → List ℤ) (out u v : List ℤ)
    → without_last (length u + length v) (out ++ (u ++ v))
    ++ f (take (length u) (last (length u + length v) (out ++ (u ++ v)))) (drop (length u) (last (length u + length v) (out ++ (u ++ v))))
    ≡ out ++ f u v
step-two f out u v =
    let n : length u + length v ≡ length (u ++ v) = sym (length-append u v) in
    let w = without_last-append out (u ++ v) in
    let l = last-append out (u ++ v) in
    ap (λ (m : ℕ). without_last m (out ++ (u ++ v))
    ++ f (take (length u) (last m (out ++ (u ++ v)))) (drop (length u) (last m (out ++ (u ++ v))))) n
    ∙ ap (λ (x : List ℤ). x ++ f (take (length u) (last (length (u ++ v)) (out ++ (u ++ v))))
    (drop (length u) (last (length (u ++ v)) (out ++ (u ++ v))))) w
    ∙ ap (λ (x : List ℤ). out ++ f (take (length u) x) (drop (length u) x)) l
    ∙ ap (λ (x : List ℤ). out ++ f x (drop (length u) (u ++ v))) (take-append_seam u v)
    ∙ ap (λ (x : List ℤ). out ++ f u x) (drop-append_seam u v)

step-conjugate : (out u v : List ℤ) → step_on (out ++ (v ++ u)) (Conjugate (length v) (length u)) ≡ out ++ conj u v
step-conjugate out u v = step-two (λ (a b : List ℤ). conj b a) out v u

step-commute : (out u v : List ℤ) → step_on (out ++ (u ++ v)) (Commute (length u) (length v)) ≡ out ++ comm u v
step-commute out u v = step-two comm out u v

pub comm-empty : (u v : List ℤ) → length u ≡ 0 → length v ≡ 0 → u ≡ comm u v
comm-empty [] [] e f = refl
comm-empty [] (k ∷ v) e f = absurd (omega arith)
comm-empty (k ∷ u) v e f = absurd (omega arith)

-- recipes
pub recipe-empty : IsRecipe [] 0
recipe-empty = record { behind = λ out. sym (append-nil out); count = refl; limit = omega arith }

pub recipe-generator : (k : ℕ) → IsRecipe (Generator k ∷ []) 1
recipe-generator k = record { behind = λ out. refl; count = refl; limit = omega arith }

-- two recipes, one after the other
module _ (ss ts : List Step) (m n : ℕ) (r : IsRecipe ss m) (s : IsRecipe ts n) where
  pub written-both : (out : List ℤ) → written out (ss ++ ts) ≡ out ++ (written [] ss ++ written [] ts)
  written-both out =
      written-append out ss ts ∙ s.behind (written out ss) ∙ ap (λ (x : List ℤ). x ++ written [] ts) (r.behind out)
      ∙ append_assoc out (written [] ss) (written [] ts)

  pub recipe-followed : m + n ≤ 65536 → IsRecipe (ss ++ ts) (m + n)
  recipe-followed small =
      let e = written-both [] in
      record {
        behind = λ out. written-both out ∙ ap (λ (x : List ℤ). out ++ x) (sym e);
        count = omega (arith, r.count, s.count, ap length e, length-append (written [] ss) (written [] ts));
        limit = small;
      }

  -- with a step behind them that makes this of their words
  with_step : (step : Step) (w : List ℤ) (k : ℕ) → ((out : List ℤ) → step_on (out ++ (written [] ss ++ written [] ts)) step ≡ out ++ w)
      → k ≡ length w → k ≤ 65536
      → (written [] (ss ++ ts ++ step ∷ []) ≡ w) × IsRecipe (ss ++ ts ++ step ∷ []) k
  with_step step w k makes is small =
      let all : (out : List ℤ) → written out (ss ++ ts ++ step ∷ []) ≡ out ++ w = λ out.
      written-append out (ss ++ ts) (step ∷ []) ∙ ap (λ (x : List ℤ). step_on x step) (written-both out) ∙ makes out in (
        all [],
        record {
          behind = λ out. all out ∙ ap (λ (x : List ℤ). out ++ x) (sym (all []));
          count = is ∙ ap length (sym (all []));
          limit = small;
        },
      )

  pub recipe-conjugate : n + 2 * m ≤ 65536
      → (written [] (ss ++ ts ++ Conjugate m n ∷ []) ≡ conj (written [] ts) (written [] ss))
      × IsRecipe (ss ++ ts ++ Conjugate m n ∷ []) (n + 2 * m)
  recipe-conjugate small =
      with_step (Conjugate m n) (conj (written [] ts) (written [] ss)) (n + 2 * m)
      (λ out. ap (λ (i : ℕ). step_on (out ++ (written [] ss ++ written [] ts)) (Conjugate i n)) r.count
      ∙ ap (λ (i : ℕ). step_on (out ++ (written [] ss ++ written [] ts)) (Conjugate (length (written [] ss)) i)) s.count
      ∙ step-conjugate out (written [] ts) (written [] ss))
      (omega (arith, r.count, s.count, length-conj (written [] ts) (written [] ss))) small

  pub recipe-commute : 2 * (m + n) ≤ 65536
      → (written [] (ss ++ ts ++ Commute m n ∷ []) ≡ comm (written [] ss) (written [] ts))
      × IsRecipe (ss ++ ts ++ Commute m n ∷ []) (2 * (m + n))
  recipe-commute small =
      with_step (Commute m n) (comm (written [] ss) (written [] ts)) (2 * (m + n))
      (λ out. ap (λ (i : ℕ). step_on (out ++ (written [] ss ++ written [] ts)) (Commute i n)) r.count
      ∙ ap (λ (i : ℕ). step_on (out ++ (written [] ss ++ written [] ts)) (Commute (length (written [] ss)) i)) s.count
      ∙ step-commute out (written [] ss) (written [] ts))
      (omega (arith, r.count, s.count, length-comm (written [] ss) (written [] ts))) small

-- with one generator more
pub recipe-push : (ss : List Step) (m k : ℕ) → IsRecipe ss m → m < 65536
    → (written [] (ss ++ Generator k ∷ []) ≡ written [] ss ++ pos (suc k) ∷ []) × IsRecipe (ss ++ Generator k ∷ []) (m + 1)
recipe-push ss m k r small =
    let g = recipe-generator k in
    (written-both ss (Generator k ∷ []) m 1 r g [], recipe-followed ss (Generator k ∷ []) m 1 r g (omega arith))

pub recipe-raise : (ss : List Step) (m : ℕ) (b : Bool) (t : ℕ) → IsRecipe ss m → m * t ≤ 65536
    → (written [] (ss ++ Raise m b t ∷ []) ≡ power_of b (written [] ss) t) × IsRecipe (ss ++ Raise m b t ∷ []) (m * t)
recipe-raise ss m b t r small =
    let w = power_of b (written [] ss) t in
    let all : (out : List ℤ) → written out (ss ++ Raise m b t ∷ []) ≡ out ++ w = λ out.
    written-append out ss (Raise m b t ∷ []) ∙ ap (λ (x : List ℤ). step_on x (Raise m b t)) (r.behind out)
    ∙ ap (λ (i : ℕ). step_on (out ++ written [] ss) (Raise i b t)) r.count ∙ step-raise out (written [] ss) b t in (
      all [],
      record {
        behind = λ out. all out ∙ ap (λ (x : List ℤ). out ++ x) (sym (all []));
        count = sym (ap length (all []) ∙ length-power_of b (written [] ss) t ∙ (omega (arith, ap (λ (i : ℕ). t * i) (sym r.count))));
        limit = small;
      },
    )
