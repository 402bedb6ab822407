-- Trials of which all are kept give a value, and others are told by the first that is passed.
use Rattle.std.proofs.Common.{◌≡◌, ◌≤◌, ◌<◌, ◌+◌, ℕ, ltb, leb, Bool, true, false, cond, ℤ, List, [], ◌∷◌, ◌++◌, length, append_assoc}
use Rattle.std.proofs.Common.{Result, Ok, Err, refl, ap, subst, ◌∙◌}
use Rattle.std.proofs.lemmas.Bool.{ltb-true, ltb-false, leb-true, leb-false}
use Rattle.pq_base.specs.SignedWord.{pow}
use Rattle.lpres_reader.specs.declared.fault.Stop.{Stop}
use Rattle.lpres_reader.specs.declared.fault.Stop.TheVariants.{Fault}
use Rattle.lpres_reader.specs.declared.fault.Kind.TheVariants.{Limit}
use Rattle.lpres_reader.specs.declared.fault.Which as declared
use Rattle.lpres_reader.specs.declared.fault.Which.TheVariants as which
use Rattle.lpres_reader.specs.Stops.{which_of}
use Rattle.lpres_reader.specs.Words.{letter_limit, exponent_limit}
use Rattle.lpres_reader.specs.Trees.{exponent_size, exponent_value}
use Rattle.lpres_reader.specs.Trees as trees
use Rattle.lpres_reader.specs.Trials.{Exponent, Letters, Total, most, Trial, tried, AreKept, reported, letters_tried}
use Rattle.lpres_reader.specs.Passed.{PassedAs}
use Rattle.lpres_reader.specs.Values.{followed, fits, raised, more_letters}
use Rattle.lpres_reader.proofs.trees.TreeWords.{kept_append}

pub data Tried {X : Type 0} (ts : List Trial) (x : X) : Result X Stop → Type 0 where
  kept : AreKept ts → Tried ts x (Ok x)
  passed : (w : declared.Which) (n : ℕ) → PassedAs ts w n → Tried ts x (Err (Fault (Limit w n)))

pub passed_further : (ts us : List Trial) (w : declared.Which) (n : ℕ) → PassedAs ts w n → PassedAs (ts ++ us) w n
passed_further ts us w n p = record {
  trial = p.trial;
  first = record {
    before = p.first.before;
    after = p.first.after ++ us;
    place = ap (λ (l : List Trial). l ++ us) p.first.place ∙ append_assoc p.first.before (p.trial ∷ p.first.after) us;
    kept = p.first.kept;
    passed = p.first.passed;
  };
  limit = p.limit;
  number = p.number;
}

pub tried_same : {X : Type 0} (ts us : List Trial) (x : X) {r : Result X Stop} → ts ≡ us → Tried ts x r → Tried us x r
tried_same ts us x {r = r} e t = subst (λ (l : List Trial). Tried l x r) e t

-- first these trials, and then others
pub tried_then : {X Y : Type 0} (ts us : List Trial) (x : X) (y : Y) (f : X → Result Y Stop) {r : Result X Stop} → Tried ts x r
    → (AreKept ts → Tried (ts ++ us) y (f x)) → Tried (ts ++ us) y (followed r f)
tried_then ts us x y f (kept h) g = g h
tried_then ts us x y f (passed w n p) g = passed w n (passed_further ts us w n p)

pub tried_map : {X Y : Type 0} (ts : List Trial) (x : X) (f : X → Y) {r : Result X Stop} → Tried ts x r
    → Tried ts (f x) (followed r (λ z. Ok (f z)))
tried_map ts x f (kept h) = kept h
tried_map ts x f (passed w n p) = passed w n p

-- one trial more
pub one_more : (ts : List Trial) (t : Trial) → AreKept ts → t.size ≤ most t.limit → AreKept (ts ++ t ∷ [])
one_more ts t h small = kept_append ts (t ∷ []) h (small, tt)

pub passes_now : (ts us : List Trial) (t : Trial) (w : declared.Which) (n : ℕ) → AreKept ts → most t.limit < t.size → which_of w ≡ t.limit
    → n ≡ reported t.limit t.size → PassedAs (ts ++ t ∷ us) w n
passes_now ts us t w n h large limit number =
    record { trial = t; first = record { before = ts; after = us; place = refl; kept = h; passed = large }; limit = limit; number = number }

-- a test that chooses
pub tried_if : {X : Type 0} (ts us : List Trial) (x : X) (b : Bool) (r s : Result X Stop) → (b ≡ true → Tried ts x r)
    → (b ≡ false → Tried ts x s) → Tried ts x (cond b r s)
tried_if ts us x true r s f g = f refl
tried_if ts us x false r s f g = g refl

pub tried_fits : (ts : List Trial) (w : List ℤ) → AreKept ts → Tried (ts ++ letters_tried w) w (fits w)
tried_fits ts w h = tried_if (ts ++ letters_tried w) [] w (leb (length w) letter_limit) _ _
    (λ e. kept (one_more ts (tried Letters (length w)) h (leb-true (length w) letter_limit e)))
    (λ e. passed which.Letters (length w)
    (passes_now ts [] (tried Letters (length w)) which.Letters (length w) h (leb-false (length w) letter_limit e) refl refl))

pub tried_letters : (ts : List Trial) (total : ℕ) (w : List ℤ) → AreKept ts
    → Tried (ts ++ tried Total (total + length w) ∷ []) (total + length w) (more_letters total w)
tried_letters ts total w h = tried_if (ts ++ tried Total (total + length w) ∷ []) [] (total + length w) (leb (total + length w) 4194304) _ _
    (λ e. kept (one_more ts (tried Total (total + length w)) h (leb-true (total + length w) 4194304 e)))
    (λ e. passed which.Total (total + length w)
    (passes_now ts [] (tried Total (total + length w)) which.Total (total + length w) h (leb-false (total + length w) 4194304 e) refl refl))

pub tried_raised : (ts : List Trial) (base : List ℤ) (e : trees.Exponent) → AreKept ts
    → Tried (ts ++ (tried Exponent (exponent_size e) ∷ letters_tried (pow base (exponent_value e)))) (pow base (exponent_value e))
    (raised base e)
tried_raised ts base e h =
    let size = exponent_size e in
    let rest = letters_tried (pow base (exponent_value e)) in
    tried_if (ts ++ (tried Exponent size ∷ rest)) [] (pow base (exponent_value e)) (ltb exponent_limit size) _ _
    (λ large. passed which.Exponent _
    (passes_now ts rest (tried Exponent size) which.Exponent _ h (ltb-true exponent_limit size large) refl refl))
    (λ small.
    let first = one_more ts (tried Exponent size) h (ltb-false exponent_limit size small) in
    tried_same ((ts ++ tried Exponent size ∷ []) ++ rest) (ts ++ (tried Exponent size ∷ rest)) (pow base (exponent_value e))
    (append_assoc ts (tried Exponent size ∷ []) rest)
    (tried_fits (ts ++ tried Exponent size ∷ []) (pow base (exponent_value e)) first))
