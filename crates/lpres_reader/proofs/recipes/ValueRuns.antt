-- Reading a line token by token gives what its tokens give.
use Rattle.std.proofs.Common.{◌≡◌, ◌<◌, ℕ, length, List, Result, Ok, Err, refl, ap, ◌∙◌, arith}
use Rattle.lpres_reader.specs.declared.fault.Stop.{Stop}
use Rattle.lpres_reader.specs.declared.fault.Stop.TheVariants.{Fault, NoMemory}
use Rattle.lpres_reader.specs.declared.value.Value.{Value}
use Rattle.lpres_reader.specs.Tokens.{Token, ReadsTokens}
use Rattle.lpres_reader.specs.Front.{line_end, no_token, token_first, front_of}
use Rattle.lpres_reader.specs.Stops.{Refuses}
use Rattle.lpres_reader.specs.Values.{Given, followed, value_step, value_end, value_run, RunsOn, StopsAt}
use Rattle.lpres_reader.proofs.texts.FrontLemmas.{rest_is_shorter, tokens_behind}
use Rattle.lpres_reader.proofs.texts.LineTokens.{end_only, no_tokens}

pub runs_first : (names : List (List ℕ)) (line : List ℕ) (first : Value) → RunsOn names line line first first
runs_first names line first = record { on = λ ts d. (ts, d, refl); within = omega arith }

-- the rest of a line with a token at its front
pub runs_next : (names : List (List ℕ)) (line rest after : List ℕ) (first last next : Value) (t : Token) → RunsOn names line rest first last
    → front_of rest ≡ token_first t after
    → value_step names last t ≡ Ok next → RunsOn names line after first next
runs_next names line rest after first last next t r front e = record {
  on = λ ts d.
      let a = r.on ts d in
      let b = tokens_behind rest after t a.0 front a.1 in
      (b.0, b.2, a.2 ∙ ap (value_run names last) b.1 ∙ ap (λ (x : Result Value Stop). followed x (λ n. value_run names n b.0)) e);
  within = let shorter = rest_is_shorter rest after t front in omega (arith, r.within);
}

pub runs_joined : (names : List (List ℕ)) (line rest after : List ℕ) (first last next : Value) → RunsOn names line rest first last
    → RunsOn names rest after last next → RunsOn names line after first next
runs_joined names line rest after first last next r q = record {
  on = λ ts d.
      let a = r.on ts d in
      let b = q.on a.0 a.1 in
      (b.0, b.1, a.2 ∙ b.2);
  within = omega (arith, r.within, q.within);
}

pub runs_shorten : (names : List (List ℕ)) (line rest : List ℕ) (first last : Value) {n : ℕ} → RunsOn names line rest first last
    → length line < n → length rest < n
runs_shorten names line rest first last r short = omega (arith, r.within)

pub runs_to_refused : (names : List (List ℕ)) (line rest : List ℕ) (first last : Value) → RunsOn names line rest first last → (s : Stop)
    → Refuses (StopsAt names last rest) s
    → (ts : List Token) → ReadsTokens line ts → Given (Err s) (value_run names first ts)
runs_to_refused names line rest first last r NoMemory h ts d = tt
runs_to_refused names line rest first last r (Fault k) h ts d = let a = r.on ts d in a.2 ∙ h a.0 a.1

pub runs_stopped : (names : List (List ℕ)) (line rest after : List ℕ) (first last : Value) (t : Token) (s : Stop)
    → RunsOn names line rest first last → front_of rest ≡ token_first t after
    → value_step names last t ≡ Err s → (ts : List Token) → ReadsTokens line ts → value_run names first ts ≡ Err s
runs_stopped names line rest after first last t s r front e ts d =
    let a = r.on ts d in
    let b = tokens_behind rest after t a.0 front a.1 in
    a.2 ∙ ap (value_run names last) b.1 ∙ ap (λ (x : Result Value Stop). followed x (λ n. value_run names n b.0)) e

pub runs_nowhere : (names : List (List ℕ)) (line rest : List ℕ) (first last : Value) → RunsOn names line rest first last
    → front_of rest ≡ no_token → (ts : List Token) → ReadsTokens line ts → ⊥
runs_nowhere names line rest first last r front ts d =
    let a = r.on ts d in
    no_tokens rest a.0 front a.1

pub runs_to_end : (names : List (List ℕ)) (line rest : List ℕ) (first last : Value) → RunsOn names line rest first last
    → front_of rest ≡ line_end → (ts : List Token) → ReadsTokens line ts
    → value_run names first ts ≡ value_end last
runs_to_end names line rest first last r front ts d =
    let a = r.on ts d in
    a.2 ∙ ap (value_run names last) (end_only rest a.0 front a.1)

-- what is given stays so under an equation
pub given_same : {X : Type 0} (r e f : Result X Stop) → f ≡ e → Given r e → Given r f
given_same (Ok x) e f s g = s ∙ g
given_same (Err NoMemory) e f s g = tt
given_same (Err (Fault k)) e f s g = s ∙ g

-- a stop is handed on
pub given_stop : {X Y : Type 0} (s : Stop) (e : Result X Stop) (f : Result Y Stop) → (e ≡ Err s → f ≡ Err s) → Given (Err s) e
    → Given (Err s) f
given_stop NoMemory e f h g = tt
given_stop (Fault k) e f h g = h g
