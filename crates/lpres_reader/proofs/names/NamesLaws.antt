-- Tokens are those of at most one list of names, and there is such a list or there is none.
use Rattle.std.proofs.Common.{◌≡◌, ◌≤◌, ℕ, List, [], ◌∷◌, map, length, bytes_eq, codes, Option, Some, None, option_map, MatchOption, refl}
use Rattle.std.proofs.Common.{sym, ap, subst, ◌∙◌, arith}
use Rattle.std.proofs.lemmas.Bool.{true≢false, cond_both}
use Rattle.std.proofs.lemmas.Slice.Eq.{bytes_eq-Decides}
use Rattle.lpres_reader.specs.declared.token.Symbol.TheVariants.{Comma}
use Rattle.lpres_reader.specs.Tokens.{Token, name, number, symbol}
use Rattle.lpres_reader.specs.Items.{ReadsNames, last_name, next_name, next_name_after_comma}
use Rattle.lpres_reader.specs.Reads.{IsGenerators}
use Rattle.lpres_reader.specs.Verdicts.{names_of, generator_names}

-- tokens of names begin with a name, so what stands behind a name and no comma is seen whole
behind_name : (n : List ℕ) (ts : List Token) (ns : List (List ℕ)) → ReadsNames ts ns
    → names_of (name n ∷ ts) ≡ option_map (λ ms. n ∷ ms) (names_of ts)
behind_name n ts ns (last_name m) = refl
behind_name n ts ns (next_name m d) = refl
behind_name n ts ns (next_name_after_comma m d) = refl

pub names_of-reads : {ts : List Token} {ns : List (List ℕ)} → ReadsNames ts ns → names_of ts ≡ Some ns
names_of-reads (last_name n) = refl
names_of-reads (next_name {ts = us} {ns = ms} n d) = behind_name n us ms d ∙ ap (option_map (λ l. n ∷ l)) (names_of-reads d)
names_of-reads (next_name_after_comma n d) = ap (option_map (λ l. n ∷ l)) (names_of-reads d)

abbrev AreNamesOf : Option (List (List ℕ)) → List Token → Type 0
AreNamesOf None ts = Unit {0}
AreNamesOf (Some ns) ts = ReadsNames ts ns

mapped : (o : Option (List (List ℕ))) (n : List ℕ) (ts us : List Token) → ((ns : List (List ℕ)) → ReadsNames ts ns → ReadsNames us (n ∷ ns))
    → AreNamesOf o ts → AreNamesOf (option_map (λ l. n ∷ l) o) us
mapped None n ts us f h = tt
mapped (Some ns) n ts us f h = f ns h

reads-names_of : (ts : List Token) → AreNamesOf (names_of ts) ts
reads-names_of [] = tt
reads-names_of (name n ∷ []) = last_name n
reads-names_of (name n ∷ symbol Comma ∷ ts) =
    mapped (names_of ts) n ts (name n ∷ symbol Comma ∷ ts) (λ ns d. next_name_after_comma n d) (reads-names_of ts)
reads-names_of (name n ∷ ts) = mapped (names_of ts) n ts (name n ∷ ts) (λ ns d. next_name n d) (reads-names_of ts)
reads-names_of (number digits ∷ ts) = tt
reads-names_of (symbol s ∷ ts) = tt

pub names_some : {ts : List Token} {ns : List (List ℕ)} → ReadsNames ts ns → 1 ≤ length ns
names_some (last_name n) = omega arith
names_some (next_name n d) = omega arith
names_some (next_name_after_comma n d) = omega arith

pub names_right : (ts : List Token) → MatchOption (names_of ts) ((ns : List (List ℕ)) → ReadsNames ts ns → ⊥) (ReadsNames ts)
names_right ts = by (names_of ts) refl
  where
    by : (o : Option (List (List ℕ))) → names_of ts ≡ o → MatchOption o ((ns : List (List ℕ)) → ReadsNames ts ns → ⊥) (ReadsNames ts)
    by (Some ns) e = subst (λ (p : Option (List (List ℕ))). AreNamesOf p ts) e (reads-names_of ts)
    by None e = λ ns d. let found : None ≡ Some ns = sym e ∙ names_of-reads d in cc

-- names without commas are read
pub names_read : (n : List ℕ) (ns : List (List ℕ)) → ReadsNames (map name (n ∷ ns)) (n ∷ ns)
names_read n [] = last_name n
names_read n (m ∷ ns) = next_name n (names_read m ns)

-- and they are these names alone
pub names_are : {ts : List Token} {ns : List (List ℕ)} → ReadsNames ts ns → (ms : List (List ℕ)) → ts ≡ map name ms → ns ≡ ms
names_are (last_name n) [] e = absurd cc
names_are (last_name n) (m ∷ []) e = let same : n ≡ m = cc in ap (λ (x : List ℕ). x ∷ []) same
names_are (last_name n) (m ∷ k ∷ ms) e = absurd cc
names_are (next_name n d) [] e = absurd cc
names_are (next_name {ns = ns} n d) (m ∷ ms) e =
    let same : n ≡ m = cc in
    let others = names_are d ms cc in
    cc
names_are (next_name_after_comma n d) [] e = absurd cc
names_are (next_name_after_comma n d) (m ∷ []) e = absurd cc
names_are (next_name_after_comma n d) (m ∷ k ∷ ms) e = absurd cc

-- lines of generators
pub generators_unique : (ns ms : List (List ℕ)) (tokens : List Token) → IsGenerators ns tokens → IsGenerators ms tokens → ns ≡ ms
generators_unique ns ms tokens d e =
    let tails : d.0 ≡ e.0 = let both : name (codes "generators") ∷ d.0 ≡ name (codes "generators") ∷ e.0 = sym d.1 ∙ e.1 in cc in
    let same : Some ns ≡ Some ms = sym (names_of-reads d.2) ∙ ap names_of tails ∙ names_of-reads e.2 in
    cc

abbrev AreGenerators : List Token → Option (List (List ℕ)) → Type 0
AreGenerators tokens o = MatchOption o ((ns : List (List ℕ)) → IsGenerators ns tokens → ⊥) (λ ns. IsGenerators ns tokens)

pub generator_names_right : (tokens : List Token) → AreGenerators tokens (generator_names tokens)
generator_names_right [] = λ ns d. let e : [] ≡ name (codes "generators") ∷ d.0 = d.1 in cc
generator_names_right (number digits ∷ ts) = λ ns d. let e : number digits ∷ ts ≡ name (codes "generators") ∷ d.0 = d.1 in cc
generator_names_right (symbol s ∷ ts) = λ ns d. let e : symbol s ∷ ts ≡ name (codes "generators") ∷ d.0 = d.1 in cc
generator_names_right (name n ∷ ts) =
    cond_both (bytes_eq n (codes "generators")) (names_of ts) None (AreGenerators (name n ∷ ts))
    (λ e. by ((bytes_eq-Decides n (codes "generators")).0 e) (names_of ts) (names_right ts))
    (λ e ns d. let same : name n ∷ ts ≡ name (codes "generators") ∷ d.0 = d.1 in
    let is : n ≡ codes "generators" = cc in true≢false (sym ((bytes_eq-Decides n (codes "generators")).1 is) ∙ e))
  where
    by : n ≡ codes "generators" → (o : Option (List (List ℕ))) → MatchOption o ((ns : List (List ℕ)) → ReadsNames ts ns → ⊥) (ReadsNames ts)
        → AreGenerators (name n ∷ ts) o
    by is None never = λ ns d. let same : name n ∷ ts ≡ name (codes "generators") ∷ d.0 = d.1 in
        let tail : d.0 ≡ ts = cc in never ns (subst (λ (us : List Token). ReadsNames us ns) tail d.2)
    by is (Some ns) d = (ts, ap (λ (m : List ℕ). name m ∷ ts) is, d)
