-- Plain factors where a factor comes next change neither the form of a line nor what is known of its names.
use Rattle.std.proofs.Common.{◌≡◌, ◌<◌, ◌≤◌, ℕ, Bool, true, false, List, length, Some, is_some, refl, sym, ap, subst, arith}
use Rattle.lpres_reader.specs.declared.token.Symbol.TheVariants.{Star}
use Rattle.lpres_reader.specs.declared.syntax.Stage.{Stage}
use Rattle.lpres_reader.specs.declared.syntax.Stage.TheVariants.{Before, Behind}
use Rattle.lpres_reader.specs.declared.syntax.Form.{Form}
use Rattle.lpres_reader.specs.Tokens.{name, symbol}
use Rattle.lpres_reader.specs.Forms.{form, form_at, form_step}
use Rattle.lpres_reader.specs.PlainFactors.{BeginsPlainly, GoesPlainly, nowhere, further, PassesOver, nothing, factors}
use Rattle.lpres_reader.proofs.trees.FormRuns.{InForm, form_next}
use Rattle.lpres_reader.proofs.names.KnownRuns.{KnownSoFar, known_next}
use Rattle.lpres_reader.proofs.recipes.PlainRuns.{rest_behind_plain}

pub plainly_within : (names : List (List ℕ)) {line after : List ℕ} → GoesPlainly names line after → length after ≤ length line
plainly_within names nowhere = omega arith
plainly_within names {after = after} (further rest place g p) =
    let far = plainly_within names g in
    let one = rest_behind_plain names rest after place p in
    omega arith

-- one more plain factor
form_plain : (names : List (List ℕ)) (line rest after : List ℕ) (place : ℕ) (f : Form) → f.stage ≡ Before
    → BeginsPlainly names rest place after → InForm line rest f → InForm line after f
form_plain names line rest after place f is p h =
    let behind = form Behind f.outer f.brackets in
    let named : form_step f (name p.text) ≡ Some behind = ap (λ (s : Stage). form_at s f.outer f.brackets (name p.text)) is in
    let starred : form_step behind (symbol Star) ≡ Some f = ap (λ (s : Stage). Some (form s f.outer f.brackets)) (sym is) in
    let then = form_next line rest p.behind f behind (name p.text) h p.named named in
    form_next line p.behind after behind f (symbol Star) then p.starred starred

form_plainly : (names : List (List ℕ)) (line : List ℕ) (f : Form) → f.stage ≡ Before
    → {start after : List ℕ} → GoesPlainly names start after → InForm line start f → InForm line after f
form_plainly names line f is nowhere h = h
form_plainly names line f is {after = after} (further rest place g p) h =
    form_plain names line rest after place f is p (form_plainly names line f is g h)

known_plainly : (names : List (List ℕ)) (line : List ℕ) (known : Bool) {start after : List ℕ} → GoesPlainly names start after
    → KnownSoFar names line start known → KnownSoFar names line after known
known_plainly names line false g k = k
known_plainly names line true nowhere k = k
known_plainly names line true {after = after} (further rest place g p) k =
    let before = known_plainly names line true g k in
    let named = known_next names line rest p.behind (name p.text) true true before p.named (ap is_some p.is) in
    known_next names line p.behind after (symbol Star) true true named p.starred refl

-- what is passed over behind a form
pub form_passes : (names : List (List ℕ)) (line start after : List ℕ) (f : Form) → PassesOver names f.stage start after
    → InForm line start f → InForm line after f
form_passes names line start after f (nothing e) h = subst (λ (r : List ℕ). InForm line r f) (sym e) h
form_passes names line start after f (factors is g) h = form_plainly names line f is g h

pub known_passes : (names : List (List ℕ)) (line start after : List ℕ) (stage : Stage) (known : Bool) → PassesOver names stage start after
    → KnownSoFar names line start known → KnownSoFar names line after known
known_passes names line start after stage known (nothing e) k =
    subst (λ (r : List ℕ). KnownSoFar names line r known) (sym e) k
known_passes names line start after stage known (factors is g) k = known_plainly names line known g k

pub passes_within : (names : List (List ℕ)) (start after : List ℕ) (stage : Stage) {n : ℕ} → PassesOver names stage start after
    → length start < n → length after < n
passes_within names start after stage {n = n} (nothing e) h = subst (λ (r : List ℕ). length r < n) (sym e) h
passes_within names start after stage (factors is g) h = let far = plainly_within names g in omega arith
