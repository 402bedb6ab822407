-- From line to line: the lines of a text are a presentation, or the first line that cannot go on has a fault, and never
-- both.
use Rattle.std.proofs.Common.{◌≡◌, ℕ, suc, ◌+◌, Bool, Result, Ok, Err, MatchResult, true, false, List, [], ◌∷◌, ◌++◌, length, Option, Some}
use Rattle.std.proofs.Common.{refl, sym, ap, subst, ◌∙◌, ◌⊎◌, inl, inr, arith}
use Rattle.std.proofs.lemmas.Bool.{true≢false}
use Rattle.pq_base.specs.LPresentation.{LPresentation}
use Rattle.lpres_reader.specs.Lines.{is_skipped}
use Rattle.lpres_reader.specs.Faults.{Kind, LineFault}
use Rattle.lpres_reader.specs.Makes.{Makes}
use Rattle.lpres_reader.proofs.faults.LineFaults.{IsSound, makes_sound, makes_unique, fault_unique, not_both}
use Rattle.lpres_reader.proofs.faults.LineVerdicts.{line_verdict-right}
use Rattle.lpres_reader.specs.Verdicts.{line_verdict, next_verdict, kept_verdict, lines_verdict}

-- lines lead from what is before them to what is behind them
pub data Chain : Option LPresentation → List (List ℕ) → Option LPresentation → Type 0 where
  done : {m : Option LPresentation} → Chain m [] m
  skips : {m n : Option LPresentation} {lines : List (List ℕ)} (line : List ℕ) → is_skipped line ≡ true → Chain m lines n
      → Chain m (line ∷ lines) n
  reads : {m n : Option LPresentation} {lines : List (List ℕ)} (line : List ℕ) (L : LPresentation) → is_skipped line ≡ false
      → Makes m line L → Chain (Some L) lines n → Chain m (line ∷ lines) n

-- a line with a fault among lines
pub record FaultIn (m : Option LPresentation) (lines : List (List ℕ)) : Type 0 where
  pub before : List (List ℕ)
  pub line : List ℕ
  pub after : List (List ℕ)
  pub earlier : Option LPresentation
  pub kind : Kind
  pub place : lines ≡ before ++ line ∷ after
  pub chain : Chain m before earlier
  pub kept : is_skipped line ≡ false
  pub fault : LineFault earlier line kind

-- behind a line that is skipped or read, the faulty line is one later
abbrev fault_later : (line : List ℕ) (lines : List (List ℕ)) (m o : Option LPresentation) (f : FaultIn o lines)
    → Chain m (line ∷ f.before) f.earlier → FaultIn m (line ∷ lines)
fault_later line lines m o f c = record {
  before = line ∷ f.before;
  line = f.line;
  after = f.after;
  earlier = f.earlier;
  kind = f.kind;
  place = ap (λ (l : List (List ℕ)). line ∷ l) f.place;
  chain = c;
  kept = f.kept;
  fault = f.fault;
}

-- the verdict on lines from line n on is what they lead to, or the line and kind of a fault
abbrev pub AreRight : ℕ → Option LPresentation → List (List ℕ) → Result (Option LPresentation) (ℕ × Kind) → Type 0
AreRight n m lines r = MatchResult r (Chain m lines) (λ e. (f : FaultIn m lines) × (e.0 ≡ n + length f.before) × (e.1 ≡ f.kind))

right_later : (n : ℕ) (line : List ℕ) (lines : List (List ℕ)) (m o : Option LPresentation) (r : Result (Option LPresentation) (ℕ × Kind))
    → ((l : List (List ℕ)) (k : Option LPresentation) → Chain o l k → Chain m (line ∷ l) k) → AreRight (suc n) o lines r
    → AreRight n m (line ∷ lines) r
right_later n line lines m o (Ok k) on h = on lines k h
right_later n line lines m o (Err e) on h = (fault_later line lines m o h.0 (on h.0.before h.0.earlier h.0.chain), h.1 ∙ omega arith, h.2)

right_next : (n : ℕ) (line : List ℕ) (lines : List (List ℕ)) (m : Option LPresentation) (r : Result LPresentation Kind) → IsSound m
    → is_skipped line ≡ false → MatchResult r (Makes m line) (LineFault m line)
    → ((k : Option LPresentation) → IsSound k → AreRight (suc n) k lines (lines_verdict (suc n) k lines))
    → AreRight n m (line ∷ lines) (next_verdict n r (λ k. lines_verdict (suc n) k lines))
right_next n line lines m (Ok L) s keep h more =
    right_later n line lines m (Some L) (lines_verdict (suc n) (Some L) lines) (λ l k c. reads line L keep h c)
    (more (Some L) (makes_sound m line L s h))
right_next n line lines m (Err kind) s keep h more = (
  record { before = []; line = line; after = lines; earlier = m; kind = kind; place = refl; chain = done; kept = keep; fault = h },
  omega arith,
  refl,
)

right_kept : (n : ℕ) (line : List ℕ) (lines : List (List ℕ)) (m : Option LPresentation) (b : Bool) → IsSound m → is_skipped line ≡ b
    → ((k : Option LPresentation) → IsSound k → AreRight (suc n) k lines (lines_verdict (suc n) k lines))
    → AreRight n m (line ∷ lines) (kept_verdict b n m line (λ k. lines_verdict (suc n) k lines))
right_kept n line lines m true s e more = right_later n line lines m m (lines_verdict (suc n) m lines) (λ l k c. skips line e c) (more m s)
right_kept n line lines m false s e more = right_next n line lines m (line_verdict m line) s e (line_verdict-right m line s) more

pub lines_verdict-right : (lines : List (List ℕ)) (n : ℕ) (m : Option LPresentation) → IsSound m
    → AreRight n m lines (lines_verdict n m lines)
lines_verdict-right [] n m s = done
lines_verdict-right (line ∷ lines) n m s = right_kept n line lines m (is_skipped line) s refl (λ k t. lines_verdict-right lines (suc n) k t)

pub chain_sound : {m n : Option LPresentation} {lines : List (List ℕ)} → Chain m lines n → IsSound m → IsSound n
chain_sound done s = s
chain_sound (skips line skip c) s = chain_sound c s
chain_sound (reads {m = m} line L keep made c) s = chain_sound c (makes_sound m line L s made)

-- the first step of a chain
ended : {m n : Option LPresentation} → Chain m [] n → m ≡ n
ended done = refl

abbrev FirstStep : Option LPresentation → List ℕ → List (List ℕ) → Option LPresentation → Type 0
FirstStep m line lines n =
    ((is_skipped line ≡ true) × Chain m lines n)
    ⊎ ((L : LPresentation) × (is_skipped line ≡ false) × Makes m line L × Chain (Some L) lines n)

first_step : {m n : Option LPresentation} {line : List ℕ} {lines : List (List ℕ)} → Chain m (line ∷ lines) n → FirstStep m line lines n
first_step (skips line skip c) = inl (skip, c)
first_step (reads line L keep made c) = inr (L, keep, made, c)

-- lines lead to at most one presentation
pub chain_unique : (lines : List (List ℕ)) (m n k : Option LPresentation) → IsSound m → Chain m lines n → Chain m lines k → n ≡ k
chain_unique [] m n k s c d = sym (ended c) ∙ ended d
chain_unique (line ∷ lines) m n k s c d = by (λ o t. chain_unique lines o n k t) (first_step c) (first_step d)
  where
    by : ((o : Option LPresentation) → IsSound o → Chain o lines n → Chain o lines k → n ≡ k) → FirstStep m line lines n
        → FirstStep m line lines k → n ≡ k
    by rest (inl a) (inl b) = rest m s a.1 b.1
    by rest (inl a) (inr b) = absurd (true≢false (sym a.0 ∙ b.1))
    by rest (inr a) (inl b) = absurd (true≢false (sym b.0 ∙ a.1))
    by rest (inr a) (inr b) =
        let same : a.0 ≡ b.0 = makes_unique m line a.0 b.0 s a.2 b.2 in
        rest (Some b.0) (makes_sound m line b.0 s b.2) (subst (λ (L : LPresentation). Chain (Some L) lines n) same a.3) b.3

-- lines with a fault among them lead nowhere
pub chain_not_fault : (before : List (List ℕ)) (line : List ℕ) (after : List (List ℕ)) (m n e : Option LPresentation) (k : Kind) → IsSound m
    → Chain m (before ++ line ∷ after) n → Chain m before e → is_skipped line ≡ false → LineFault e line k → ⊥
chain_not_fault [] line after m n e k s c d keep f = by (first_step c)
  where
    here : LineFault m line k
    here = subst (λ (o : Option LPresentation). LineFault o line k) (sym (ended d)) f

    by : FirstStep m line after n → ⊥
    by (inl a) = true≢false (sym a.0 ∙ keep)
    by (inr a) = not_both m line a.0 k s a.2 here
chain_not_fault (b ∷ before) line after m n e k s c d keep f =
    by (λ o t x y. chain_not_fault before line after o n e k t x y keep f) (first_step c) (first_step d)
  where
    by : ((o : Option LPresentation) → IsSound o → Chain o (before ++ line ∷ after) n → Chain o before e → ⊥)
        → FirstStep m b (before ++ line ∷ after) n → FirstStep m b before e → ⊥
    by rest (inl x) (inl y) = rest m s x.1 y.1
    by rest (inl x) (inr y) = true≢false (sym x.0 ∙ y.1)
    by rest (inr x) (inl y) = true≢false (sym y.0 ∙ x.1)
    by rest (inr x) (inr y) =
        let same : x.0 ≡ y.0 = makes_unique m b x.0 y.0 s x.2 y.2 in
        rest (Some y.0) (makes_sound m b y.0 s y.2) (subst (λ (L : LPresentation). Chain (Some L) (before ++ line ∷ after) n) same x.3) y.3

-- at most one line has a fault, and that is one
pub faults_alike : (before other : List (List ℕ)) (line next : List ℕ) (after rest : List (List ℕ)) (m e d : Option LPresentation)
    (k l : Kind) → IsSound m
    → before ++ line ∷ after ≡ other ++ next ∷ rest → Chain m before e → Chain m other d → is_skipped line ≡ false → is_skipped next ≡ false
    → LineFault e line k → LineFault d next l → (length before ≡ length other) × (k ≡ l)
faults_alike [] [] line next after rest m e d k l s same c x keep kept f g =
    let is : line ≡ next = cc in (
      refl,
      fault_unique m next k l (subst (λ (b : List ℕ). LineFault m b k) is
          (subst (λ (o : Option LPresentation). LineFault o line k) (sym (ended c)) f))
          (subst (λ (o : Option LPresentation). LineFault o next l) (sym (ended x)) g),
    )
faults_alike [] (b ∷ other) line next after rest m e d k l s same c x keep kept f g = absurd (by (first_step x))
  where
    is : line ≡ b
    is = cc

    here : LineFault m b k
    here = subst (λ (a : List ℕ). LineFault m a k) is (subst (λ (o : Option LPresentation). LineFault o line k) (sym (ended c)) f)

    by : FirstStep m b other d → ⊥
    by (inl y) = true≢false (sym y.0 ∙ sym (ap is_skipped is) ∙ keep)
    by (inr y) = not_both m b y.0 k s y.2 here
faults_alike (a ∷ before) [] line next after rest m e d k l s same c x keep kept f g = absurd (by (first_step c))
  where
    is : next ≡ a
    is = cc

    here : LineFault m a l
    here = subst (λ (b : List ℕ). LineFault m b l) is (subst (λ (o : Option LPresentation). LineFault o next l) (sym (ended x)) g)

    by : FirstStep m a before e → ⊥
    by (inl y) = true≢false (sym y.0 ∙ sym (ap is_skipped is) ∙ kept)
    by (inr y) = not_both m a y.0 l s y.2 here
faults_alike (a ∷ before) (b ∷ other) line next after rest m e d k l s same c x keep kept f g =
    let is : a ≡ b = cc in
    let tails : before ++ line ∷ after ≡ other ++ next ∷ rest = cc in
    by (λ o t y z. faults_alike before other line next after rest o e d k l t tails y z keep kept f g)
    (subst (λ (h : List ℕ). FirstStep m h before e) is (first_step c)) (first_step x)
  where
    by : ((o : Option LPresentation) → IsSound o → Chain o before e → Chain o other d → (length before ≡ length other) × (k ≡ l))
        → FirstStep m b before e → FirstStep m b other d → (suc (length before) ≡ suc (length other)) × (k ≡ l)
    by go (inl y) (inl z) = let r = go m s y.1 z.1 in (ap suc r.0, r.1)
    by go (inl y) (inr z) = absurd (true≢false (sym y.0 ∙ z.1))
    by go (inr y) (inl z) = absurd (true≢false (sym z.0 ∙ y.1))
    by go (inr y) (inr z) =
        let same_one : y.0 ≡ z.0 = makes_unique m b y.0 z.0 s y.2 z.2 in
        let r = go (Some z.0) (makes_sound m b z.0 s z.2) (subst (λ (L : LPresentation). Chain (Some L) before e) same_one y.3) z.3 in
        (ap suc r.0, r.1)
