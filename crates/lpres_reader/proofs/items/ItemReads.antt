-- A line behind a presentation is read as what its tree gives, or it has the fault that is told.
use Rattle.std.proofs.Common.{◌≡◌, ◌≤◌, ◌<◌, ◌+◌, ℕ, suc, Bool, true, false, cond, leb, List, [], ◌∷◌, length, Option, Some, None}
use Rattle.std.proofs.Common.{option_and_then, MatchResult, Result, Ok, Err, refl, ap, ap₂, sym, subst, ◌∙◌, arith}
use Rattle.std.proofs.lemmas.Bool.{leb-true, leb-false}
use Rattle.std.specs.Prelude.{codes, bytes_eq}
use Rattle.pq_base.specs.LPresentation.{LPresentation, AreDistinct}
use Rattle.lpres_reader.specs.declared.fault.Stop.{Stop}
use Rattle.lpres_reader.specs.declared.fault.Stop.TheVariants.{Fault, NoMemory}
use Rattle.lpres_reader.specs.declared.fault.Kind.TheVariants as kind
use Rattle.lpres_reader.specs.declared.fault.Kind as declared
use Rattle.lpres_reader.specs.declared.fault.Which.TheVariants as which
use Rattle.lpres_reader.specs.declared.value.Value.{Value}
use Rattle.lpres_reader.specs.Gatherings.{Gathering}
use Rattle.lpres_reader.specs.Stops.{Refuses, kind_of}
use Rattle.lpres_reader.specs.Limits.{total_letters}
use Rattle.lpres_reader.specs.Lines.{IsShallow}
use Rattle.lpres_reader.specs.Tokens.{Token, name, ReadsTokens}
use Rattle.lpres_reader.specs.Front.{Front, token_first, front_of, IsNamed}
use Rattle.lpres_reader.specs.Trees.{ItemTree, relators, arrows, Sort, fixed_sort, iterated_sort, body_tokens, item_tokens, AreKnown}
use Rattle.lpres_reader.specs.Trials.{Which, Trial, AreKept, relators_of, item_trials}
use Rattle.lpres_reader.specs.Parser.{State, at_name, at_factor, outside, in_relators, begin, run, parse_item}
use Rattle.lpres_reader.specs.Faults as fault
use Rattle.lpres_reader.specs.Faults.{Kind, UnknownName, Unless, fails, holds, UnlessPassed, passed, ItemForm, LineFault}
use Rattle.lpres_reader.specs.Values.{Given, RunsTo, value_run, nothing_gathered, at_relators, at_arrows, no_form}
use Rattle.lpres_reader.specs.Meanings.{sort_which, relators_gathered, arrows_gathered, gathered_of}
use Rattle.lpres_reader.proofs.trees.ParsedMeanings.{value_of}
use Rattle.lpres_reader.specs.Passed.{PassedAs, GivesTree, first_value, first_arrow, ItemRead}
use Rattle.lpres_reader.proofs.texts.FrontLemmas.{Follows, follows}
use Rattle.lpres_reader.proofs.trees.FormRuns.{no_form_unnamed}
use Rattle.lpres_reader.proofs.trees.ParserReads.{parse_item-tokens}
use Rattle.lpres_reader.proofs.faults.StateTrials.{state_trials, endo_tried}
use Rattle.lpres_reader.proofs.faults.Tried as try
use Rattle.lpres_reader.proofs.faults.Tried.{Tried, kept, passed_further, passes_now, tried_if}
use Rattle.lpres_reader.proofs.recipes.ValueEnds.{run_grows, run_gives}

-- what is meant behind the first token
nothing_is : (M : LPresentation) (s : Sort)
    → nothing_gathered (sort_which s) (length (relators_of M s)) (total_letters M) ≡ relators_gathered M s []
nothing_is M s =
    let n : length (relators_of M s) ≡ length (relators_of M s) + 0 = omega arith in
    let t : total_letters M ≡ total_letters M + 0 = omega arith in
    ap₂ (λ (x y : ℕ). nothing_gathered (sort_which s) x y) n t

no_arrows_is : (M : LPresentation) → nothing_gathered which.Endos 0 (total_letters M) ≡ arrows_gathered M []
no_arrows_is M =
    let t : total_letters M ≡ total_letters M + 0 = omega arith in
    ap (λ (y : ℕ). nothing_gathered which.Endos 0 y) t

first_arrow_goes : (M : LPresentation)
    → Tried (state_trials M (at_name [])) (value_of M (at_name [])) (first_arrow (length M.endos + 1) (total_letters M))
first_arrow_goes M =
    let n = length M.endos + 1 in
    let one : n ≡ suc (length M.endos) = omega arith in
    tried_if (endo_tried M ∷ []) [] (value_of M (at_name [])) (leb n 16) _ _
    (λ e.
    let small : n ≤ 16 = leb-true n 16 e in
    subst (λ (g : Gathering). Tried (endo_tried M ∷ []) (at_arrows g) (Ok (at_arrows (nothing_gathered which.Endos 0 (total_letters M)))))
    (no_arrows_is M) (kept (omega arith, tt)))
    (λ e.
    let large : 16 < n = leb-false n 16 e in
    try.passed which.Endos n (passes_now [] [] (endo_tried M) which.Endos n tt (omega arith) refl one))

first_relators_go : (M : LPresentation) (s : Sort)
    → Tried [] (value_of M (at_factor (outside (in_relators s [] None)) None))
    (Ok (at_relators (nothing_gathered (sort_which s) (length (relators_of M s)) (total_letters M))))
first_relators_go M s =
    subst (λ (g : Gathering).
    Tried [] (at_relators g) (Ok (at_relators (nothing_gathered (sort_which s) (length (relators_of M s)) (total_letters M)))))
    (nothing_is M s) (kept tt)

first_by : (M : LPresentation) (state : State) (b c d : Bool)
    → cond b (Some (at_factor (outside (in_relators fixed_sort [] None)) None))
    (cond c (Some (at_factor (outside (in_relators iterated_sort [] None)) None)) (cond d (Some (at_name [])) None)) ≡ Some state
    → Tried (state_trials M state) (value_of M state)
    (cond b (Ok (at_relators (nothing_gathered which.Fixed (length M.fixed) (total_letters M))))
    (cond c (Ok (at_relators (nothing_gathered which.Iterated (length M.iterated) (total_letters M))))
    (cond d (first_arrow (length M.endos + 1) (total_letters M)) no_form)))
first_by M state true c d e = let same : at_factor (outside (in_relators fixed_sort [] None)) None ≡ state = cc in
    subst (λ (s : State). Tried (state_trials M s) (value_of M s)
    (Ok (at_relators (nothing_gathered which.Fixed (length M.fixed) (total_letters M))))) same (first_relators_go M fixed_sort)
first_by M state false true d e = let same : at_factor (outside (in_relators iterated_sort [] None)) None ≡ state = cc in
    subst (λ (s : State). Tried (state_trials M s) (value_of M s)
    (Ok (at_relators (nothing_gathered which.Iterated (length M.iterated) (total_letters M))))) same (first_relators_go M iterated_sort)
first_by M state false false true e = let same : at_name [] ≡ state = cc in
    subst (λ (s : State). Tried (state_trials M s) (value_of M s) (first_arrow (length M.endos + 1) (total_letters M))) same
    (first_arrow_goes M)
first_by M state false false false e = absurd (cc e)

first_goes : (M : LPresentation) (n : List ℕ) (state : State) → begin n ≡ Some state
    → Tried (state_trials M state) (value_of M state) (first_value M n)
first_goes M n state e = first_by M state (bytes_eq n (codes "fixed")) (bytes_eq n (codes "iterated")) (bytes_eq n (codes "endo")) e

-- the parts of a line of a tree
pub record TreeLine (after keyword : List ℕ) (i : ItemTree) : Type 0 where
  pub body : List Token
  pub whole : item_tokens i ≡ name keyword ∷ body
  pub spelled : ReadsTokens after body
  pub first : State
  pub begun : begin keyword ≡ Some first
  pub runs : run first body ≡ Some i

pub tree_line : (line after keyword : List ℕ) (i : ItemTree) → front_of line ≡ token_first (name keyword) after
    → ReadsTokens line (item_tokens i) → TreeLine after keyword i
tree_line line after keyword i front d =
    let f = subst (λ (x : Front). Follows x (item_tokens i)) front (follows d) in
    by (begin keyword) refl f.0 f.1 f.2 (sym (ap parse_item f.1) ∙ parse_item-tokens i)
  where
    by : (o : Option State) → begin keyword ≡ o → (us : List Token) → item_tokens i ≡ name keyword ∷ us → ReadsTokens after us
        → option_and_then (λ s. run s us) (begin keyword) ≡ Some i → TreeLine after keyword i
    by None e us w s r = absurd (let g : None ≡ Some i = sym (ap (λ (o : Option State). option_and_then (λ s. run s us) o) e) ∙ r in cc)
    by (Some state) e us w s r =
        record {
          body = us;
          whole = w;
          spelled = s;
          first = state;
          begun = e;
          runs = sym (ap (λ (o : Option State). option_and_then (λ s. run s us) o) e) ∙ r;
        }

body_is : (i : ItemTree) (keyword : List ℕ) (us : List Token) → item_tokens i ≡ name keyword ∷ us → us ≡ body_tokens i
body_is (relators s rs r) keyword us e = cc
body_is (arrows qs q) keyword us e = cc

-- what is given, where a trial may be passed
stopped_gives : (M : LPresentation) (distinct : AreDistinct M.names) (state : State) (ts : List Token) (i : ItemTree)
    (e : Result Value Stop) (s : Stop) → run state ts ≡ Some i → Tried (state_trials M state) (value_of M state) e → Given (Err s) e
    → GivesTree M i (Err s)
stopped_gives M distinct state ts i e NoMemory r t g = tt
stopped_gives M distinct state ts i e (Fault k) r t g = by t g
  where
    by : {e : Result Value Stop} → Tried (state_trials M state) (value_of M state) e → e ≡ Err (Fault k) → GivesTree M i (Err (Fault k))
    by (kept h) g = absurd (cc g)
    by (try.passed w n p) g =
        let same : kind.Limit w n ≡ k = cc in
        let more = run_grows M distinct state ts i r in
        subst (λ (x : declared.Kind). GivesTree M i (Err (Fault x))) same
        (subst (λ (l : List Trial). PassedAs l w n) (sym more.1) (passed_further (state_trials M state) more.0 w n p))

ended_gives : (M : LPresentation) (i : ItemTree) (e r : Result Gathering Stop) → Tried (item_trials M i) (gathered_of M i) e → Given r e
    → GivesTree M i r
ended_gives M i e (Ok g) t h = by t h
  where
    by : {e : Result Gathering Stop} → Tried (item_trials M i) (gathered_of M i) e → e ≡ Ok g
        → (g ≡ gathered_of M i) × AreKept (item_trials M i)
    by (kept k) h = (cc, k)
    by (try.passed w n p) h = absurd (cc h)
ended_gives M i e (Err NoMemory) t h = tt
ended_gives M i e (Err (Fault k)) t h = by t h
  where
    by : {e : Result Gathering Stop} → Tried (item_trials M i) (gathered_of M i) e → e ≡ Err (Fault k) → GivesTree M i (Err (Fault k))
    by (kept x) h = absurd (cc h)
    by (try.passed w n p) h =
        let same : kind.Limit w n ≡ k = cc in
        subst (λ (x : declared.Kind). GivesTree M i (Err (Fault x))) same p

begun_as : (M : LPresentation) (state : State) (v : Value) {e : Result Value Stop} → Tried (state_trials M state) (value_of M state) e
    → e ≡ Ok v → (v ≡ value_of M state) × AreKept (state_trials M state)
begun_as M state v (kept h) g = (cc, h)
begun_as M state v (try.passed w n p) g = absurd (cc g)

module _ (M : LPresentation) (distinct : AreDistinct M.names) (line after keyword : List ℕ)
    (front : front_of line ≡ token_first (name keyword) after) where
  pub unbegun_gives : (s : Stop) → Given (Err s) (first_value M keyword) → (i : ItemTree) → ReadsTokens line (item_tokens i)
      → GivesTree M i (Err s)
  unbegun_gives s g i d =
      let t = tree_line line after keyword i front d in
      stopped_gives M distinct t.first t.body i (first_value M keyword) s t.runs (first_goes M keyword t.first t.begun) g

  pub formed_gives : (v : Value) (r : Result Gathering Stop) → first_value M keyword ≡ Ok v → RunsTo M.names v after r → (i : ItemTree)
      → ReadsTokens line (item_tokens i) → GivesTree M i r
  formed_gives v r e runs i d =
      let t = tree_line line after keyword i front d in
      let b = begun_as M t.first v (first_goes M keyword t.first t.begun) e in
      let given = subst (λ (x : Value). Given r (value_run M.names x t.body)) b.0 (runs t.body t.spelled) in
      ended_gives M i (value_run M.names (value_of M t.first) t.body) r (run_gives M distinct t.first t.body i t.runs b.1) given

  -- the fault of a line over names of which one is not known
  pub unknown_fault : IsShallow line → (form : ItemForm line) → ((ts : List Token) → ReadsTokens after ts → ¬ AreKnown M.names ts)
      → LineFault (Some M) line UnknownName
  unknown_fault shallow form unknown =
      let t = tree_line line after keyword form.tree front form.spelled in
      let body : t.body ≡ body_tokens form.tree = body_is form.tree keyword t.body t.whole in
      holds shallow (holds form (fails (λ known. unknown t.body t.spelled (subst (AreKnown M.names) (sym body) known)) refl))

  pub known_body : (form : ItemForm line) → ((ts : List Token) → ReadsTokens after ts → AreKnown M.names ts)
      → AreKnown M.names (body_tokens form.tree)
  known_body form known =
      let t = tree_line line after keyword form.tree front form.spelled in
      subst (AreKnown M.names) (body_is form.tree keyword t.body t.whole) (known t.body t.spelled)

pub unnamed_gives : (M : LPresentation) (line : List ℕ) (s : Stop) → Refuses (λ k. (k ≡ kind.Syntax) × (¬ IsNamed (front_of line))) s
    → (i : ItemTree) → ReadsTokens line (item_tokens i) → GivesTree M i (Err s)
unnamed_gives M line NoMemory h i d = tt
unnamed_gives M line (Fault k) h i d = absurd (no_form_unnamed line h.1 (record { tree = i; spelled = d }))

-- the answer of a line
pub item_answers : (M : LPresentation) (line : List ℕ) (r : Result Gathering Stop) → IsShallow line → (form : ItemForm line)
    → AreKnown M.names (body_tokens form.tree) → GivesTree M form.tree r
    → MatchResult r (ItemRead M line) (Refuses (λ k. LineFault (Some M) line (kind_of k)))
item_answers M line (Ok g) shallow form known h = record { shallow = shallow; form = form; known = known; kept = h.1; is = h.0 }
item_answers M line (Err NoMemory) shallow form known h = tt
item_answers M line (Err (Fault (kind.Limit w n))) shallow form known h =
    holds shallow (holds form (holds known (passed h.trial h.first (ap₂ (λ (x : Which) (y : ℕ). fault.Limit x y) h.limit h.number))))
item_answers M line (Err (Fault kind.Deep)) shallow form known h = absurd h
item_answers M line (Err (Fault kind.Syntax)) shallow form known h = absurd h
item_answers M line (Err (Fault kind.UnknownName)) shallow form known h = absurd h
item_answers M line (Err (Fault kind.RepeatedName)) shallow form known h = absurd h
item_answers M line (Err (Fault kind.NotAllImages)) shallow form known h = absurd h
