-- The depth of brackets is followed byte by byte: a line is shallow exactly where the rest is, from the brackets so far on.
use Rattle.std.proofs.Common.{◌≡◌, ◌≤◌, ◌<◌, ◌+◌, ℕ, suc, Bool, true, false, List, [], ◌∷◌, length, get_or, drop, refl, sym, subst, ◌∙◌}
use Rattle.std.proofs.Common.{arith}
use Rattle.std.proofs.lemmas.List.{drop_all}
use Rattle.std.proofs.Math.Seq.{drop-cons}
use Rattle.lpres_reader.specs.Lines.{is_opening, is_closing, IsShallow}
use Rattle.lpres_reader.specs.Verdicts.{one_if}
use Rattle.lpres_reader.proofs.faults.Decisions.{ShallowFrom, shallow_nil, shallow_cons, shallow_tail}

-- before the byte at i, behind so many opening and closing brackets
pub record DepthAt (line : List ℕ) (i opened closed : ℕ) : Type 0 where
  pub few_opened : opened ≤ i
  pub few_closed : closed ≤ i
  pub small : opened ≤ closed + 64
  pub to : IsShallow line → ShallowFrom opened (closed + 64) (drop i line)
  pub from : ShallowFrom opened (closed + 64) (drop i line) → IsShallow line

pub depth_first : (line : List ℕ) → DepthAt line 0 0 0
depth_first line = record {
  few_opened = omega arith;
  few_closed = omega arith;
  small = omega arith;
  to = λ h n. let here = h n in omega arith;
  from = λ h n. let here = h n in omega arith;
}

-- over the byte at i
record Over (line : List ℕ) (i opened closed o c : ℕ) : Type 0 where
  to : ShallowFrom opened (closed + 64) (drop i line) → ShallowFrom o (c + 64) (drop (i + 1) line)
  from : opened ≤ closed + 64 → ShallowFrom o (c + 64) (drop (i + 1) line) → ShallowFrom opened (closed + 64) (drop i line)

over : (line : List ℕ) (i opened closed o c x y : ℕ) → i < length line → x ≡ one_if (is_opening (get_or line i 0))
    → y ≡ one_if (is_closing (get_or line i 0)) → o ≡ opened + x → c ≡ closed + y
    → Over line i opened closed o c
over line i opened closed o c x y lt ex ey eo ec =
    let b = get_or line i 0 in
    let rest = drop (i + 1) line in
    let one : suc i ≡ i + 1 = omega arith in
    let here : drop i line ≡ b ∷ rest = drop-cons line i 0 lt ∙ subst (λ (k : ℕ). b ∷ drop (suc i) line ≡ b ∷ drop k line) one refl in
    let so : one_if (is_opening b) + opened ≡ o = omega arith in
    let sc : one_if (is_closing b) + (closed + 64) ≡ c + 64 = omega arith in
    record {
      to = λ h. subst (λ (k : ℕ). ShallowFrom k (c + 64) rest) so
          (subst (λ (k : ℕ). ShallowFrom (one_if (is_opening b) + opened) k rest) sc
          (shallow_tail b rest opened (closed + 64) (subst (ShallowFrom opened (closed + 64)) here h)));
      from = λ small h. subst (ShallowFrom opened (closed + 64)) (sym here)
          (shallow_cons b rest opened (closed + 64) small
          (subst (λ (k : ℕ). ShallowFrom k (one_if (is_closing b) + (closed + 64)) rest) (sym so)
          (subst (λ (k : ℕ). ShallowFrom o k rest) (sym sc) h)));
    }

one_small : (b : Bool) → one_if b ≤ 1
one_small true = omega arith
one_small false = omega arith

pub depth_next : (line : List ℕ) (i opened closed x y : ℕ) → DepthAt line i opened closed → i < length line
    → x ≡ one_if (is_opening (get_or line i 0)) → y ≡ one_if (is_closing (get_or line i 0))
    → opened + x ≤ (closed + y) + 64 → DepthAt line (i + 1) (opened + x) (closed + y)
depth_next line i opened closed x y d lt ex ey small =
    let step = over line i opened closed (opened + x) (closed + y) x y lt ex ey refl refl in
    let bx = one_small (is_opening (get_or line i 0)) in
    let by_one = one_small (is_closing (get_or line i 0)) in
    let o = d.few_opened in
    let c = d.few_closed in
    record {
      few_opened = omega arith;
      few_closed = omega arith;
      small = small;
      to = λ h. step.to (d.to h);
      from = λ h. d.from (step.from d.small h);
    }

pub depth_over : (line : List ℕ) (i opened closed x y : ℕ) → DepthAt line i opened closed → i < length line
    → x ≡ one_if (is_opening (get_or line i 0)) → y ≡ one_if (is_closing (get_or line i 0))
    → (closed + y) + 64 < opened + x → ¬ IsShallow line
depth_over line i opened closed x y d lt ex ey large h =
    let step = over line i opened closed (opened + x) (closed + y) x y lt ex ey refl refl in
    let here = step.to (d.to h) 0 in
    omega arith

pub depth_end : (line : List ℕ) (i opened closed : ℕ) → DepthAt line i opened closed → length line ≤ i → IsShallow line
depth_end line i opened closed d end =
    let none : drop i line ≡ [] = drop_all i line end in
    d.from (subst (ShallowFrom opened (closed + 64)) (sym none) (λ n. shallow_nil opened (closed + 64) n d.small))
