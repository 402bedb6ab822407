-- A plain factor is taken as the steps of its two tokens take it.
use Rattle.std.proofs.Common.{◌≡◌, ◌++◌, ◌<◌, ℕ, ℤ, List, length, Option, Some, Result, Ok, Err, ap, sym, subst, arith}
use Rattle.lpres_reader.specs.declared.fault.Stop.{Stop}
use Rattle.lpres_reader.specs.declared.fault.Stop.TheVariants.{Fault, NoMemory}
use Rattle.lpres_reader.specs.declared.token.Symbol.TheVariants.{Star}
use Rattle.lpres_reader.specs.declared.value.Stage.{Stage}
use Rattle.lpres_reader.specs.declared.value.Stage.TheVariants.{Before, Behind}
use Rattle.lpres_reader.specs.declared.value.Around.{Around}
use Rattle.lpres_reader.specs.declared.value.Value.{Value}
use Rattle.lpres_reader.specs.Tokens.{name, symbol}
use Rattle.lpres_reader.specs.Trees.{letter_at}
use Rattle.lpres_reader.specs.Stops.{Refuses}
use Rattle.lpres_reader.specs.Values.{Given, followed, fits, value, value_step, RunsOn, StopsAt, FactorsRunOn, FactorsStopAt}
use Rattle.lpres_reader.specs.PlainFactors.{BeginsPlainly}
use Rattle.lpres_reader.proofs.texts.FrontLemmas.{rest_is_shorter}
use Rattle.lpres_reader.proofs.faults.Refusing.{refuses_map}
use Rattle.lpres_reader.proofs.recipes.ValueRuns.{runs_next, runs_stopped}

pub rest_behind_plain : (names : List (List ℕ)) (line rest : List ℕ) (k : ℕ) → BeginsPlainly names line k rest → length rest < length line
rest_behind_plain names line rest k p =
    let first = rest_is_shorter line p.behind (name p.text) p.named in
    let second = rest_is_shorter p.behind rest (symbol Star) p.starred in
    omega arith

module _ (names : List (List ℕ)) (line rest after : List ℕ) (k : ℕ) (p : BeginsPlainly names rest k after) (before w : List ℤ)
    (runs : FactorsRunOn names line rest before w) where
  name_taken : (a : Around) → RunsOn names line p.behind (value (Before before) a) (value (Behind w (letter_at (Some k))) a)
  name_taken a =
      let e : value_step names (value (Before w) a) (name p.text) ≡ Ok (value (Behind w (letter_at (Some k))) a) =
      ap (λ (o : Option ℕ). Ok (value (Behind w (letter_at o)) a)) p.is in
      runs_next names line rest p.behind (value (Before before) a) (value (Before w) a) (value (Behind w (letter_at (Some k))) a)
      (name p.text) (runs a) p.named e

  pub plain_taken : (u : List ℤ) → fits (w ++ letter_at (Some k)) ≡ Ok u → FactorsRunOn names line after before u
  plain_taken u e a =
      let starred : value_step names (value (Behind w (letter_at (Some k))) a) (symbol Star) ≡ Ok (value (Before u) a) =
      ap (λ (r : Result (List ℤ) Stop). followed r (λ x. Ok (value (Before x) a))) e in
      runs_next names line p.behind after (value (Before before) a) (value (Behind w (letter_at (Some k))) a) (value (Before u) a)
      (symbol Star) (name_taken a) p.starred starred

  pub plain_refused : (s : Stop) → Given (Err s) (fits (w ++ letter_at (Some k))) → Refuses (FactorsStopAt names before line) s
  plain_refused NoMemory e = tt
  plain_refused (Fault kind) e = λ a.
      let starred : value_step names (value (Behind w (letter_at (Some k))) a) (symbol Star) ≡ Err (Fault kind) =
      ap (λ (r : Result (List ℤ) Stop). followed r (λ x. Ok (value (Before x) a))) e in
      runs_stopped names line p.behind after (value (Before before) a) (value (Behind w (letter_at (Some k))) a) (symbol Star) (Fault kind)
      (name_taken a) p.starred starred

-- what is meant so far, where it stands behind factors
module _ (names : List (List ℕ)) (line : List ℕ) (v : Value) (before : List ℤ) (is : v.stage ≡ Before before) where
  pub factors_run_on : (rest : List ℕ) (w : List ℤ) → FactorsRunOn names line rest before w
      → RunsOn names line rest v (value (Before w) v.around)
  factors_run_on rest w runs =
      subst (λ (s : Stage). RunsOn names line rest (value s v.around) (value (Before w) v.around)) (sym is) (runs v.around)

  pub factors_refused : (s : Stop) → Refuses (FactorsStopAt names before line) s → Refuses (StopsAt names v line) s
  factors_refused s h =
      refuses_map (FactorsStopAt names before line) (StopsAt names v line) s
      (λ k stops. subst (λ (t : Stage). StopsAt names (value t v.around) line k) (sym is) (stops v.around)) h
