-- Taking the letters of a word one after the other, each against the last one that is kept, reduces the word.
use Rattle.std.proofs.Common.{◌≡◌, ◌≢◌, ℕ, ◌+◌, ◌<◌, ◌≤◌, ℤ, pos, neg_ℤ, List, [], ◌∷◌, ◌++◌, get_or, drop, length, inl, inr, ap, sym, ◌∙◌}
use Rattle.std.proofs.Common.{subst, append_assoc, arith}
use Rattle.std.proofs.lemmas.List.{length-append, drop_more}
use Rattle.std.proofs.Math.IntN.{neg_ℤ-neg_ℤ}
use Rattle.pq_base.specs.SignedWord.{IsLetter, HasLetters}
use Rattle.pq_base.proofs.words.LetterLaws.{HasLetters-append, HasLetters-append_left}
use Rattle.free_words.specs.Letters.{AreLetters}
use Rattle.pq_base.proofs.words.LetterLaws.{IsLetter-get_or}
use Rattle.free_words.specs.Reduced.{IsReduced, ReducesTo, TakesLetter}
use Rattle.free_words.specs.Reduced.ReducesTo.{delete}

pub IsReduced-append_left : (u v : List ℤ) → IsReduced (u ++ v) → IsReduced u
IsReduced-append_left [] v h = tt
IsReduced-append_left (k ∷ []) v h = tt
IsReduced-append_left (k ∷ l ∷ u) v h = (h.0, IsReduced-append_left (l ∷ u) v h.1)

-- a letter may be put after one that it does not cancel
pub IsReduced-push : (u : List ℤ) (k : ℤ) → IsReduced u → ((a : List ℤ) → u ≢ a ++ neg_ℤ k ∷ []) → IsReduced (u ++ k ∷ [])
IsReduced-push [] k h other = tt
IsReduced-push (l ∷ []) k h other =
    ((λ e. other [] (ap (λ (m : ℤ). m ∷ []) (sym (neg_ℤ-neg_ℤ l) ∙ ap neg_ℤ (sym e)))), tt)
IsReduced-push (l ∷ m ∷ u) k h other =
    (h.0, IsReduced-push (m ∷ u) k h.1 (λ a e. other (l ∷ a) (ap (λ (v : List ℤ). l ∷ v) e)))

pub IsReduced-takes : (u : List ℤ) (k : ℤ) (v : List ℤ) → IsReduced u → TakesLetter u k v → IsReduced v
IsReduced-takes u k v h (inl e) = IsReduced-append_left v (neg_ℤ k ∷ []) (subst IsReduced e h)
IsReduced-takes u k v h (inr t) = subst IsReduced (sym t.0) (IsReduced-push u k h t.1)

-- what is kept and what is left are still reached
pub ReducesTo-takes : (w u : List ℤ) (k : ℤ) (v rest : List ℤ) → ReducesTo w (u ++ k ∷ rest) → TakesLetter u k v → ReducesTo w (v ++ rest)
ReducesTo-takes w u k v rest h (inl e) =
    let split : u ++ k ∷ rest ≡ v ++ (neg_ℤ k ∷ neg_ℤ (neg_ℤ k) ∷ rest) =
    ap (λ (x : List ℤ). x ++ k ∷ rest) e ∙ append_assoc v (neg_ℤ k ∷ []) (k ∷ rest)
    ∙ ap (λ (m : ℤ). v ++ (neg_ℤ k ∷ m ∷ rest)) (sym (neg_ℤ-neg_ℤ k)) in
    delete v rest (neg_ℤ k) (subst (ReducesTo w) split h)
ReducesTo-takes w u k v rest h (inr t) =
    let joined : u ++ k ∷ rest ≡ v ++ rest = sym (ap (λ (x : List ℤ). x ++ rest) t.0 ∙ append_assoc u (k ∷ []) rest) in
    subst (ReducesTo w) joined h

pub length-takes : (u : List ℤ) (k : ℤ) (v : List ℤ) → TakesLetter u k v → length v ≤ length u + 1
length-takes u k v (inl e) = let n = ap length e ∙ length-append v (neg_ℤ k ∷ []) in omega arith
length-takes u k v (inr t) = let n = ap length t.0 ∙ length-append u (k ∷ []) in omega arith

pub HasLetters-takes : (n : ℕ) (u : List ℤ) (k : ℤ) (v : List ℤ) → HasLetters n u → IsLetter n k → TakesLetter u k v → HasLetters n v
HasLetters-takes n u k v h l (inl e) = HasLetters-append_left n v (neg_ℤ k ∷ []) (subst (HasLetters n) e h)
HasLetters-takes n u k v h l (inr t) = subst (HasLetters n) (sym t.0) (HasLetters-append n u (k ∷ []) h (l, tt))

-- what holds of the letters that are kept, and those that are left, when the letters before place i are taken
pub record IsReducing (w u : List ℤ) (i : ℕ) : Type 0 where
  pub reduced : IsReduced u
  pub reached : ReducesTo w (u ++ drop i w)
  pub letters : AreLetters u
  pub count : length u ≤ i

pub IsReducing-takes : (w u : List ℤ) (i : ℕ) (v : List ℤ) → AreLetters w → i < length w → IsReducing w u i
    → TakesLetter u (get_or w i (pos 0)) v → IsReducing w v (i + 1)
IsReducing-takes w u i v letters below before taken =
    let n = length-takes u (get_or w i (pos 0)) v taken in
    let left : ReducesTo w (u ++ get_or w i (pos 0) ∷ drop (i + 1) w) =
    subst (λ (x : List ℤ). ReducesTo w (u ++ x)) (drop_more w i (pos 0) below) before.reached in
    record {
      reduced = IsReduced-takes u (get_or w i (pos 0)) v before.reduced taken;
      reached = ReducesTo-takes w u (get_or w i (pos 0)) v (drop (i + 1) w) left taken;
      letters =
          HasLetters-takes 2147483647 u (get_or w i (pos 0)) v before.letters (IsLetter-get_or 2147483647 w i (pos 0) letters below) taken;
      count = let m = before.count in omega arith;
    }
