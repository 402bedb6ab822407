-- The verdict on a line is right: it is the presentation that the line makes, or the line's fault.
use Rattle.std.proofs.Common.{◌≡◌, ℕ, ℤ, Bool, true, false, List, [], ◌∷◌, ◌++◌, map, length, Option, Some, None, option_and_then}
use Rattle.std.proofs.Common.{MatchOption, Result, Ok, Err, MatchResult, Decides, if◌then◌else◌, refl, subst}
use Rattle.std.proofs.lemmas.Bool.Decides.{not_from_Decides}
use Rattle.pq_base.specs.LPresentation.{LPresentation, AreDistinct}
use Rattle.lpres_reader.specs.Lines.{IsShallow}
use Rattle.lpres_reader.specs.Tokens.{Token, ReadsTokens}
use Rattle.lpres_reader.specs.Items.{GivesEach}
use Rattle.lpres_reader.specs.Limits.{IsWithinLimits}
use Rattle.lpres_reader.specs.Reads.{IsGenerators}
use Rattle.lpres_reader.specs.Trees.{ItemTree, relators, arrows, arrow_meaning, body_tokens, item_tokens, AreKnown, GivesAll, item_meaning}
use Rattle.lpres_reader.specs.Parser.{parse_item}
use Rattle.lpres_reader.specs.Trials.{Trial, AreKept, IsFirstPassed, item_trials, names_trials, added}
use Rattle.lpres_reader.specs.Faults.{Kind, Deep, UnknownName, RepeatedName, fails, holds, passed, kept, NamesForm, ItemForm, NamesFault}
use Rattle.lpres_reader.specs.Faults.{ItemFault, LineFault}
use Rattle.lpres_reader.specs.Verdicts.{is_shallow, tokens_of, generator_names, are_known, are_distinct, first_passed, images_of, bare}
use Rattle.lpres_reader.specs.Verdicts.{limit_verdict, names_verdict, images_verdict, item_end, item_verdict, line_verdict}
use Rattle.lpres_reader.proofs.texts.FrontLemmas.{tokens_unique}
use Rattle.lpres_reader.proofs.trees.ParserKeeps.{parse_item-found}
use Rattle.lpres_reader.proofs.trees.TreeItems.{reads_item}
use Rattle.lpres_reader.proofs.items.GivesEachLaws.{images_of-gives}
use Rattle.lpres_reader.proofs.items.AddedLaws.{within_added}
use Rattle.lpres_reader.proofs.names.NamesLaws.{names_some, generator_names_right}
use Rattle.lpres_reader.proofs.faults.FaultLaws.{first_passed-found}
use Rattle.lpres_reader.proofs.faults.Decisions.{is_shallow-Decides, AreTokens, tokens_of-found, are_known-Decides, are_distinct-Decides}
use Rattle.lpres_reader.specs.Makes.{MakesNames, MakesItem, Makes}
use Rattle.lpres_reader.proofs.faults.LineFaults.{IsSound, bare_within}

-- lines of generators
abbrev NamesRight : List ℕ → List (List ℕ) → Result LPresentation Kind → Type 0
NamesRight line names r = MatchResult r (MakesNames line) (NamesFault names)

names_limits : (line : List ℕ) (form : NamesForm line) → IsShallow line → AreDistinct form.names → (o : Option Trial)
    → MatchOption o (AreKept (names_trials 0 form.names)) (IsFirstPassed (names_trials 0 form.names))
    → NamesRight line form.names (limit_verdict o (Ok (bare form.names)))
names_limits line form shallow distinct (Some t) found = holds distinct (passed t found refl)
names_limits line form shallow distinct None all = record {
  reads = record { shallow = shallow; tokens = form.tokens; spelled = form.spelled; formed = form.formed };
  distinct = distinct;
  is = refl;
  within = bare_within form.names (names_some form.formed.2) all;
}

names_tested : (line : List ℕ) (form : NamesForm line) → IsShallow line → (b : Bool) → Decides b (AreDistinct form.names)
    → NamesRight line form.names
    (if b then limit_verdict (first_passed (names_trials 0 form.names)) (Ok (bare form.names)) else Err RepeatedName)
names_tested line form shallow true d =
    names_limits line form shallow (d.0 refl) (first_passed (names_trials 0 form.names)) (first_passed-found (names_trials 0 form.names))
names_tested line form shallow false d = fails (not_from_Decides false d refl) refl

abbrev AreNamesOf : List ℕ → Option (List (List ℕ)) → Type 0
AreNamesOf line o = MatchOption o (¬ NamesForm line) (λ names. (ts : List Token) × ReadsTokens line ts × IsGenerators names ts)

generators_found : (line : List ℕ) (ts : List Token) (o : Option (List (List ℕ))) → ReadsTokens line ts
    → MatchOption o ((ns : List (List ℕ)) → IsGenerators ns ts → ⊥) (λ ns. IsGenerators ns ts) → AreNamesOf line o
generators_found line ts None d never =
    λ f. never f.names (subst (IsGenerators f.names) (tokens_unique f.tokens ts line f.spelled d) f.formed)
generators_found line ts (Some ns) d g = (ts, d, g)

names_found : (line : List ℕ) (o : Option (List Token)) → AreTokens line o → AreNamesOf line (option_and_then generator_names o)
names_found line None never = λ f. never f.tokens f.spelled
names_found line (Some ts) d = generators_found line ts (generator_names ts) d (generator_names_right ts)

abbrev IsRight : Option LPresentation → List ℕ → Result LPresentation Kind → Type 0
IsRight m line r = MatchResult r (Makes m line) (LineFault m line)

names_carried : (line : List ℕ) (form : NamesForm line) (r : Result LPresentation Kind) → IsShallow line → NamesRight line form.names r
    → IsRight None line r
names_carried line form (Ok L) shallow h = h
names_carried line form (Err k) shallow h = holds shallow (holds form h)

names_formed : (line : List ℕ) → IsShallow line → (o : Option (List (List ℕ))) → AreNamesOf line o → IsRight None line (names_verdict o)
names_formed line shallow None never = holds shallow (fails never refl)
names_formed line shallow (Some names) f =
    let form : NamesForm line = record { tokens = f.0; spelled = f.1; names = names; formed = f.2 } in
    names_carried line form (names_verdict (Some names)) shallow
    (names_tested line form shallow (are_distinct names) (are_distinct-Decides names))

-- lines of items
abbrev ItemRight : LPresentation → List ℕ → ItemTree → Result LPresentation Kind → Type 0
ItemRight M line i r = MatchResult r (MakesItem M line) (ItemFault M i)

pub item_gives : (M : LPresentation) (line : List ℕ) (i : ItemTree) → AreDistinct M.names → IsWithinLimits M → IsShallow line
    → ReadsTokens line (item_tokens i)
    → AreKnown M.names (body_tokens i) → AreKept (item_trials M i) → (g : GivesAll M.names i)
    → MakesItem M line (added M (item_meaning M.names i g))
item_gives M line i distinct within shallow d known all g =
    let parts = within_added M i g distinct within all in
    record {
      item = item_meaning M.names i g;
      reads = record { shallow = shallow; tokens = item_tokens i; spelled = d; formed = reads_item M.names distinct i known parts.0 g };
      is = refl;
      within = parts.1;
    }

images_given : (M : LPresentation) (line : List ℕ) (qs : List _) (q : _) → AreDistinct M.names → IsWithinLimits M → IsShallow line
    → ReadsTokens line (item_tokens (arrows qs q))
    → AreKnown M.names (body_tokens (arrows qs q)) → AreKept (item_trials M (arrows qs q)) → (o : Option (List (List ℤ)))
    → MatchOption o ((f : List (List ℤ)) → GivesEach (length M.names) (map (arrow_meaning M.names) (qs ++ q ∷ [])) f → ⊥)
    (GivesEach (length M.names) (map (arrow_meaning M.names) (qs ++ q ∷ [])))
    → ItemRight M line (arrows qs q) (images_verdict M o)
images_given M line qs q distinct within shallow d known all None never = holds known (kept all (fails (λ g. never g.0 g.1) refl))
images_given M line qs q distinct within shallow d known all (Some f) g =
    item_gives M line (arrows qs q) distinct within shallow d known all (f, g)

item_ends : (M : LPresentation) (line : List ℕ) (i : ItemTree) → AreDistinct M.names → IsWithinLimits M → IsShallow line
    → ReadsTokens line (item_tokens i)
    → AreKnown M.names (body_tokens i) → AreKept (item_trials M i) → ItemRight M line i (item_end M i)
item_ends M line (relators s rs r) distinct within shallow d known all =
    item_gives M line (relators s rs r) distinct within shallow d known all tt
item_ends M line (arrows qs q) distinct within shallow d known all =
    let ms = map (arrow_meaning M.names) (qs ++ q ∷ []) in
    images_given M line qs q distinct within shallow d known all (images_of (length M.names) ms) (images_of-gives (length M.names) ms)

item_limits : (M : LPresentation) (line : List ℕ) (i : ItemTree) → AreDistinct M.names → IsWithinLimits M → IsShallow line
    → ReadsTokens line (item_tokens i)
    → AreKnown M.names (body_tokens i) → (o : Option Trial) → MatchOption o (AreKept (item_trials M i)) (IsFirstPassed (item_trials M i))
    → ItemRight M line i (limit_verdict o (item_end M i))
item_limits M line i distinct within shallow d known (Some t) found = holds known (passed t found refl)
item_limits M line i distinct within shallow d known None all = item_ends M line i distinct within shallow d known all

item_tested : (M : LPresentation) (line : List ℕ) (i : ItemTree) → AreDistinct M.names → IsWithinLimits M → IsShallow line
    → ReadsTokens line (item_tokens i)
    → (b : Bool) → Decides b (AreKnown M.names (body_tokens i))
    → ItemRight M line i (if b then limit_verdict (first_passed (item_trials M i)) (item_end M i) else Err UnknownName)
item_tested M line i distinct within shallow d true known =
    item_limits M line i distinct within shallow d (known.0 refl) (first_passed (item_trials M i)) (first_passed-found (item_trials M i))
item_tested M line i distinct within shallow d false known = fails (not_from_Decides false known refl) refl

abbrev IsTree : List ℕ → Option ItemTree → Type 0
IsTree line o = MatchOption o (¬ ItemForm line) (λ i. ReadsTokens line (item_tokens i))

parsed : (line : List ℕ) (ts : List Token) (o : Option ItemTree) → ReadsTokens line ts
    → MatchOption o ((i : ItemTree) → ts ≡ item_tokens i → ⊥) (λ i. ts ≡ item_tokens i) → IsTree line o
parsed line ts None d never = λ f. never f.tree (tokens_unique ts (item_tokens f.tree) line d f.spelled)
parsed line ts (Some i) d e = subst (ReadsTokens line) e d

tree_found : (line : List ℕ) (o : Option (List Token)) → AreTokens line o → IsTree line (option_and_then parse_item o)
tree_found line None never = λ f. never (item_tokens f.tree) f.spelled
tree_found line (Some ts) d = parsed line ts (parse_item ts) d (parse_item-found ts)

item_carried : (M : LPresentation) (line : List ℕ) (form : ItemForm line) (r : Result LPresentation Kind) → IsShallow line
    → ItemRight M line form.tree r → IsRight (Some M) line r
item_carried M line form (Ok L) shallow h = h
item_carried M line form (Err k) shallow h = holds shallow (holds form h)

item_formed : (M : LPresentation) (line : List ℕ) → AreDistinct M.names → IsWithinLimits M → IsShallow line → (o : Option ItemTree)
    → IsTree line o → IsRight (Some M) line (item_verdict M o)
item_formed M line distinct within shallow None never = holds shallow (fails never refl)
item_formed M line distinct within shallow (Some i) d =
    let form : ItemForm line = record { tree = i; spelled = d } in
    item_carried M line form (item_verdict M (Some i)) shallow
    (item_tested M line i distinct within shallow d (are_known M.names (body_tokens i)) (are_known-Decides M.names (body_tokens i)))

-- any line
line_tested : (m : Option LPresentation) (line : List ℕ) (b : Bool) (r : Result LPresentation Kind) → Decides b (IsShallow line)
    → (¬ IsShallow line → LineFault m line Deep) → (IsShallow line → IsRight m line r)
    → IsRight m line (if b then r else Err Deep)
line_tested m line true r d deep rest = rest (d.0 refl)
line_tested m line false r d deep rest = deep (not_from_Decides false d refl)

pub line_verdict-right : (m : Option LPresentation) (line : List ℕ) → IsSound m
    → MatchResult (line_verdict m line) (Makes m line) (LineFault m line)
line_verdict-right None line s =
    line_tested None line (is_shallow line) (names_verdict (option_and_then generator_names (tokens_of line))) (is_shallow-Decides line)
    (λ n. fails n refl)
    (λ shallow. names_formed line shallow (option_and_then generator_names (tokens_of line))
    (names_found line (tokens_of line) (tokens_of-found line)))
line_verdict-right (Some M) line s =
    line_tested (Some M) line (is_shallow line) (item_verdict M (option_and_then parse_item (tokens_of line))) (is_shallow-Decides line)
    (λ n. fails n refl)
    (λ shallow. item_formed M line s.0 s.1 shallow (option_and_then parse_item (tokens_of line))
    (tree_found line (tokens_of line) (tokens_of-found line)))
