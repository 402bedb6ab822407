-- Stacks of frames while the collector works: with each step they lead to the same end, and the work that is left falls, also
-- where a frame is put on the stack or taken from it.
use Rattle.std.proofs.Common.{◌≡◌, ℕ, zero, suc, ◌+◌, ◌-◌, ◌*◌, ◌<◌, ◌≤◌, List, [], ◌∷◌, ◌++◌, length, take, get_or, inl, inr, refl, ap}
use Rattle.std.proofs.Common.{sym, ◌∙◌, subst, arith}
use Rattle.std.proofs.Math.Nat.{suc-mul, eq-or-lt_of_le}
use Rattle.std.proofs.Math.ListN.{set}
use Rattle.std.proofs.lemmas.Nat.{mul-le}
use Rattle.std.proofs.lemmas.List.{length-append}
use Rattle.pc_presentation.specs.Pcp.{TailedPresentation}
use Rattle.pc_presentation.specs.Collection.{plain_push}
use Rattle.pc_presentation.specs.Tailed.{Element, rowed_presentation, IsElement, with_state}
use Rattle.stack_collector.specs.declared.frame.Frame.{Frame}
use Rattle.stack_collector.specs.Frames.{finished, IsFrame, effort}
use Rattle.stack_collector.specs.FrameSteps.{IsWithin, IsPush, IsDone}
use Rattle.stack_collector.specs.Stacks.{Frames, IsReady, AreRising, all_finished, IsRunning, scale, work_of, work, Continues}
use Rattle.stack_collector.proofs.FrameLaws.{effort-bounded}

sum-zero : (n : ℕ) → n + 0 ≡ 0 + n
sum-zero n = omega arith

sum-assoc : (a b c : ℕ) → a + (b + c) ≡ a + b + c
sum-assoc a b c = omega arith

module _ (T : TailedPresentation) where
  rising-snoc : (a g : ℕ) (fs : List Frame) (f : Frame) → AreRising T a fs f.generator → IsFrame T f → f.generator < g
      → AreRising T a (fs ++ f ∷ []) g
  rising-snoc a g [] f low h less = (h, low, less)
  rising-snoc a g (b ∷ fs) f r h less = (r.0, r.1, rising-snoc (suc b.generator) g fs f r.2 h less)

  last-rising : (a g : ℕ) (fs : List Frame) (f : Frame) → AreRising T a (fs ++ f ∷ []) g → AreRising T a fs f.generator × IsFrame T f
  last-rising a g [] f r = (r.1, r.0)
  last-rising a g (b ∷ fs) f r =
      let rest = last-rising (suc b.generator) g fs f r.2 in
      ((r.0, r.1, rest.0), rest.1)

  rising-weaken : (a g k : ℕ) (fs : List Frame) → g ≤ k → AreRising T a fs g → AreRising T a fs k
  rising-weaken a g k [] le r = omega arith
  rising-weaken a g k (b ∷ fs) le r = (r.0, r.1, rising-weaken (suc b.generator) g k fs le r.2)

  rising-count : (a g : ℕ) (fs : List Frame) → AreRising T a fs g → a + length fs ≤ g
  rising-count a g [] r = omega arith
  rising-count a g (b ∷ fs) r =
      let low = r.1 in
      let rest = rising-count (suc b.generator) g fs r.2 in
      omega arith

  finished-snoc : (fs : List Frame) (f : Frame) (e : Element) → all_finished T (fs ++ f ∷ []) e ≡ all_finished T fs (finished T f e)
  finished-snoc [] f e = refl
  finished-snoc (b ∷ fs) f e = ap (finished T b) (finished-snoc fs f e)

  work-snoc : (fs : List Frame) (f : Frame) → work T (fs ++ f ∷ []) ≡ work T fs + work_of T f
  work-snoc [] f = sum-zero (work_of T f)
  work-snoc (b ∷ fs) f = ap (λ (k : ℕ). work_of T b + k) (work-snoc fs f) ∙ sum-assoc (work_of T b) (work T fs) (work_of T f)

-- a frame counts more than all that later generators can owe
scale-positive : (n : ℕ) → 1 ≤ scale n
scale-positive zero = omega arith
scale-positive (suc n) = let rest = scale-positive n in omega arith

scale-more : (a b : ℕ) → a < b → 1000000000 * scale a ≤ scale b
scale-more a zero h = absurd (omega arith)
scale-more a (suc b) h = elim (eq-or-lt_of_le {n = a} {m = b} (omega arith)) [
  | inl same ↦ subst (λ (k : ℕ). 1000000000 * scale a ≤ 1000000000 * scale k) same (omega arith)
  | inr less ↦
      let rest = scale-more a b less in
      omega arith
]

at-most : (a b c : ℕ) → a ≤ b → b ≤ c → a ≤ c
at-most a b c h i = omega arith

sum-falls : (a b c p q : ℕ) → a + p ≤ c → b + q ≤ p → 1 ≤ q → a + b < c
sum-falls a b c p q h i j = omega arith

one-falls : (a c p : ℕ) → a + p ≤ c → 1 ≤ p → a < c
one-falls a c p h i = omega arith

-- what begins at a later generator is less than what is taken from an earlier one
next-falls : (r r' s m k : ℕ) → r' < r → s < 1000000000 → m < k → k ≤ 100 → r' * scale (101 - m) + s * scale (101 - k) < r * scale (101 - m)
next-falls r r' s m k less bounded later last =
    let taken : suc r' * scale (101 - m) ≤ r * scale (101 - m) = mul-le (suc r') (scale (101 - m)) r (scale (101 - m)) less (omega arith) in
    let new : suc s * scale (101 - k) ≤ 1000000000 * scale (101 - k) =
    mul-le (suc s) (scale (101 - k)) 1000000000 (scale (101 - k)) bounded (omega arith) in
    sum-falls (r' * scale (101 - m)) (s * scale (101 - k)) (r * scale (101 - m)) (scale (101 - m)) (scale (101 - k))
    (subst (λ (x : ℕ). x ≤ r * scale (101 - m)) (suc-mul r' (scale (101 - m))) taken)
    (at-most (s * scale (101 - k) + scale (101 - k)) (1000000000 * scale (101 - k)) (scale (101 - m))
    (subst (λ (x : ℕ). x ≤ 1000000000 * scale (101 - k)) (suc-mul s (scale (101 - k))) new) (scale-more (101 - k) (101 - m) (omega arith)))
    (scale-positive (101 - k))

own-falls : (r r' m : ℕ) → r' < r → r' * scale (101 - m) < r * scale (101 - m)
own-falls r r' m less =
    one-falls (r' * scale (101 - m)) (r * scale (101 - m)) (scale (101 - m))
    (subst (λ (x : ℕ). x ≤ r * scale (101 - m)) (suc-mul r' (scale (101 - m)))
    (mul-le (suc r') (scale (101 - m)) r (scale (101 - m)) less (omega arith)))
    (scale-positive (101 - m))

add-falls : (a b c : ℕ) → b < c → a + b < a + c
add-falls a b c h = omega arith

add-two-falls : (a b c d : ℕ) → b + c < d → a + b + c < a + d
add-two-falls a b c d h = omega arith

less-than-sum : (a b : ℕ) → 1 ≤ b → a < a + b
less-than-sum a b h = omega arith

-- a list of frames split at the last
split-last : (n : ℕ) (fs : List Frame) (d : Frame) → suc n ≡ length fs → fs ≡ take n fs ++ get_or fs n d ∷ []
split-last zero [] d h = cc
split-last zero (f ∷ []) d h = refl
split-last zero (f ∷ g ∷ fs) d h = absurd (omega arith)
split-last (suc n) [] d h = cc
split-last (suc n) (f ∷ fs) d h = ap (λ (r : List Frame). f ∷ r) (split-last n fs d (omega arith))

pub set-last : (n : ℕ) (fs : List Frame) (f : Frame) → suc n ≡ length fs → set fs n f ≡ take n fs ++ f ∷ []
set-last zero [] f h = cc
set-last zero (b ∷ []) f h = refl
set-last zero (b ∷ g ∷ fs) f h = absurd (omega arith)
set-last (suc n) [] f h = cc
set-last (suc n) (b ∷ fs) f h = ap (λ (r : List Frame). b ∷ r) (set-last n fs f (omega arith))

pub take-set : (n : ℕ) (fs : List Frame) (f : Frame) → take n (set fs n f) ≡ take n fs
take-set zero fs f = refl
take-set (suc n) [] f = refl
take-set (suc n) (b ∷ fs) f = ap (λ (r : List Frame). b ∷ r) (take-set n fs f)

pub frames-split : (w v : Frames) (n : ℕ) (f : Frame) → v ≡ w → suc n ≡ length v.frames → f ≡ get_or v.frames n f
    → w.frames ≡ take n v.frames ++ f ∷ []
frames-split w v n f same count here =
    ap (λ (x : Frames). x.frames) (sym same) ∙ split-last n v.frames f count ∙ ap (λ (x : Frame). take n v.frames ++ x ∷ []) (sym here)

pub room-kept : (w v : Frames) → v ≡ w → w.room ≤ v.room
room-kept w v same = let room : w.room ≡ v.room = ap (λ (x : Frames). x.room) (sym same) in omega arith

-- the last frame f works, those below are the list fs
module _ (T : TailedPresentation) (w : Frames) (e : Element) (run : IsRunning T w e) (fs : List Frame) (f : Frame)
    (whole : w.frames ≡ fs ++ f ∷ []) where
  below : AreRising T 0 fs f.generator × IsFrame T f
  below = last-rising T 0 (suc T.presentation.rank) fs f
      (subst (λ (l : List Frame). AreRising T 0 l (suc T.presentation.rank)) whole run.rising)

  pub last-frame : IsFrame T f
  last-frame = below.1

  finished_before : all_finished T w.frames e ≡ all_finished T fs (finished T f e)
  finished_before = ap (λ (l : List Frame). all_finished T l e) whole ∙ finished-snoc T fs f e

  work_before : work T w.frames ≡ work T fs + work_of T f
  work_before = ap (work T) whole ∙ work-snoc T fs f

  -- the frame goes on
  pub continues-within : (f' : Frame) (e' : Element) (w' : Frames) → IsWithin T f e f' e' → w'.frames ≡ fs ++ f' ∷ [] → w.room ≤ w'.room
      → Continues T w e w' e'
  continues-within f' e' w' h put wide =
      let room = run.room in
      let in_range = h.frame.in_range in
      record {
        running = record {
          element = h.element;
          rising =
              subst (λ (l : List Frame). AreRising T 0 l (suc T.presentation.rank)) (sym put)
              (rising-snoc T 0 (suc T.presentation.rank) fs f' (subst (AreRising T 0 fs) (sym h.generator) below.0) h.frame (omega arith));
          room = omega arith;
        };
        same =
            ap (λ (l : List Frame). all_finished T l e') put
            ∙ finished-snoc T fs f' e'
            ∙ ap (all_finished T fs) h.same
            ∙ sym finished_before;
        less =
            subst (λ (x : ℕ). work T w'.frames < x) (sym work_before)
            (subst (λ (x : ℕ). x < work T fs + work_of T f) (sym (ap (work T) put ∙ work-snoc T fs f'))
            (subst (λ (g : ℕ). work T fs + effort T f' * scale (101 - g) < work T fs + work_of T f) (sym h.generator)
            (add-falls (work T fs) (effort T f' * scale (101 - f.generator)) (work_of T f)
            (own-falls (effort T f) (effort T f') f.generator h.less))));
      }

  -- there is room for the frame
  pub room-left : (k : ℕ) (f' : Frame) (e' : Element) (w' : Frames) → IsPush T f e k f' e' → w'.frames ≡ fs ++ f' ∷ [] → w.room ≤ w'.room
      → length w'.frames < w'.room
  room-left k f' e' w' h put wide =
      let count = rising-count T 0 f.generator fs below.0 in
      let one_more : length w'.frames ≡ length fs + 1 = ap (λ (l : List Frame). length l) put ∙ length-append fs (f' ∷ []) in
      let later = h.later in
      let last = h.in_range in
      let room = run.room in
      omega arith

  -- the frame waits, and that of the push works
  pub continues-push : (k : ℕ) (f' : Frame) (e' : Element) (w' : Frames) (new : Frame) (e2 : Element) (w2 : Frames) → IsPush T f e k f' e'
      → w'.frames ≡ fs ++ f' ∷ [] → w.room ≤ w'.room → w2.frames ≡ w'.frames ++ new ∷ [] → w'.room ≤ w2.room
      → IsElement T e2 → IsFrame T new → new.generator ≡ k
      → finished T new e2 ≡ with_state e' (plain_push (rowed_presentation T) e'.state (k - 1)) → Continues T w e w2 e2
  continues-push k f' e' w' new e2 w2 h put wide put2 wide2 element frame generator made =
      let limit = element.presentation.rank_limit in
      let last = h.in_range in
      let room = run.room in
      let later = h.later in
      let same_generator = h.generator in
      let all : w2.frames ≡ (fs ++ f' ∷ []) ++ new ∷ [] = put2 ∙ ap (λ (l : List Frame). l ++ new ∷ []) put in
      record {
        running = record {
          element = element;
          rising =
              subst (λ (l : List Frame). AreRising T 0 l (suc T.presentation.rank)) (sym all)
              (rising-snoc T 0 (suc T.presentation.rank) (fs ++ f' ∷ []) new
              (rising-snoc T 0 new.generator fs f' (subst (AreRising T 0 fs) (sym h.generator) below.0) h.frame (omega arith)) frame
              (omega arith));
          room = omega arith;
        };
        same =
            ap (λ (l : List Frame). all_finished T l e2) all
            ∙ finished-snoc T (fs ++ f' ∷ []) new e2
            ∙ finished-snoc T fs f' (finished T new e2)
            ∙ ap (λ (x : Element). all_finished T fs (finished T f' x)) made
            ∙ ap (all_finished T fs) h.same
            ∙ sym finished_before;
        less =
            subst (λ (x : ℕ). work T w2.frames < x) (sym work_before)
            (subst (λ (x : ℕ). x < work T fs + work_of T f)
            (sym (ap (work T) all ∙ work-snoc T (fs ++ f' ∷ []) new ∙ ap (λ (x : ℕ). x + work_of T new) (work-snoc T fs f')))
            (add-two-falls (work T fs) (work_of T f') (work_of T new) (work_of T f)
            (subst (λ (g : ℕ). effort T f' * scale (101 - g) + work_of T new < work_of T f) (sym h.generator)
            (next-falls (effort T f) (effort T f') (effort T new) f.generator new.generator h.less
            (effort-bounded T element.presentation new frame)
            (omega arith) (omega arith)))));
      }

  -- the frame owes nothing, and the one before it works
  pub continues-last : (e' : Element) (w' : Frames) → IsDone T f e e' → w'.frames ≡ fs → w.room ≤ w'.room → Continues T w e w' e'
  continues-last e' w' h taken wide =
      let room = run.room in
      let in_range = last-frame.in_range in
      let some : 1 ≤ work_of T f =
      mul-le 1 1 (effort T f) (scale (101 - f.generator)) (omega arith) (scale-positive (101 - f.generator)) in
      record {
        running = record {
          element = h.element;
          rising =
              subst (λ (l : List Frame). AreRising T 0 l (suc T.presentation.rank)) (sym taken)
              (rising-weaken T 0 f.generator (suc T.presentation.rank) fs (omega arith) below.0);
          room = omega arith;
        };
        same = ap (λ (l : List Frame). all_finished T l e') taken ∙ ap (all_finished T fs) h.done ∙ sym finished_before;
        less =
            subst (λ (x : ℕ). work T w'.frames < x) (sym work_before)
            (subst (λ (x : ℕ). x < work T fs + work_of T f) (sym (ap (work T) taken)) (less-than-sum (work T fs) (work_of T f) some));
      }

-- one frame alone
module _ (T : TailedPresentation) (w w' : Frames) (f : Frame) (e : Element) (ready : IsReady w T.presentation.rank)
    (put : w'.frames ≡ w.frames ++ f ∷ []) where
  alone : w'.frames ≡ f ∷ []
  alone = put ∙ ap (λ (fs : List Frame). fs ++ f ∷ []) ready.none

  pub running-alone : IsElement T e → IsFrame T f → w.room ≤ w'.room → IsRunning T w' e
  running-alone element frame wide =
      let room = ready.room in
      let in_range = frame.in_range in
      record {
        element = element;
        rising = subst (λ (fs : List Frame). AreRising T 0 fs (suc T.presentation.rank)) (sym alone) (frame, omega arith, omega arith);
        room = omega arith;
      }

  pub finished-alone : all_finished T w'.frames e ≡ finished T f e
  finished-alone = ap (λ (fs : List Frame). all_finished T fs e) alone
