-- A line behind a presentation, or behind none, makes at most one presentation or has at most one fault, and not both.
use Rattle.std.proofs.Common.{◌≡◌, ◌≤◌, ℕ, List, [], ◌∷◌, ◌++◌, map, length, Option, Some, None, refl, sym, ap, subst, ◌∙◌, arith}
use Rattle.std.proofs.lemmas.List.Elements.{All-from_recursion, recursion_from_All}
use Rattle.pq_base.specs.LPresentation.{LPresentation, AreDistinct}
use Rattle.lpres_reader.specs.Lines.{IsShallow}
use Rattle.lpres_reader.specs.Tokens.{Token, ReadsTokens}
use Rattle.lpres_reader.specs.Items.{Item, fixed, iterated, endo}
use Rattle.lpres_reader.specs.Limits.{IsWithinLimits}
use Rattle.lpres_reader.specs.Reads.{IsGenerators}
use Rattle.lpres_reader.specs.Trees.{ItemTree, relators, arrows, arrow_meaning, body_tokens, item_tokens, AreKnown, GivesAll, item_meaning}
use Rattle.lpres_reader.specs.Trials.{AreKept, item_trials, names_trials, added}
use Rattle.lpres_reader.specs.Verdicts.{bare}
use Rattle.lpres_reader.specs.Makes.{MakesNames, MakesItem, Makes}
use Rattle.lpres_reader.specs.Faults.{Kind, Deep, Syntax, UnknownName, RepeatedName, NotAllImages, Unless, UnlessPassed, NoOther, NamesForm}
use Rattle.lpres_reader.specs.Faults.{ItemForm, NamesFault, ItemFault, LineFault}
use Rattle.lpres_reader.proofs.texts.FrontLemmas.{tokens_unique}
use Rattle.lpres_reader.proofs.trees.ParserReads.{item_tokens_unique}
use Rattle.lpres_reader.proofs.trees.TreeItems.{item_of}
use Rattle.lpres_reader.proofs.items.GivesEachLaws.{images_unique}
use Rattle.lpres_reader.proofs.faults.TrialLaws.{names_kept, names_parts}
use Rattle.lpres_reader.proofs.items.AddedLaws.{kept_added}
use Rattle.lpres_reader.proofs.names.NamesLaws.{generators_unique}
use Rattle.lpres_reader.proofs.faults.FaultLaws.{Unless-unique, Unless-next, UnlessPassed-unique, UnlessPassed-next}

-- a presentation that was read
abbrev pub IsSound : Option LPresentation → Type 0
IsSound None = Unit {0}
IsSound (Some M) = AreDistinct M.names × IsWithinLimits M

pub added_names : (M : LPresentation) (item : Item) → (added M item).names ≡ M.names
added_names M (fixed ws) = refl
added_names M (iterated ws) = refl
added_names M (endo f) = refl

pub makes_sound : (m : Option LPresentation) (line : List ℕ) (L : LPresentation) → IsSound m → Makes m line L → IsSound (Some L)
makes_sound None line L s h = (h.distinct, h.within)
makes_sound (Some M) line L s h = (subst AreDistinct (sym (ap (λ (N : LPresentation). N.names) h.is ∙ added_names M h.item)) s.0, h.within)

pub bare_within : (names : List (List ℕ)) → 1 ≤ length names → AreKept (names_trials 0 names) → IsWithinLimits (bare names)
bare_within names some h =
    let parts = names_parts 0 names (omega arith) h in
    let few = parts.1 in
    record {
      some_generator = some;
      generators = omega arith;
      name_lengths = All-from_recursion (λ n. length n ≤ 32) names parts.0;
      fixed = omega arith;
      iterated = omega arith;
      endos = omega arith;
      fixed_letters = λ k d lt. absurd (omega arith);
      iterated_letters = λ k d lt. absurd (omega arith);
      endo_letters = λ k d lt. absurd (omega arith);
      total = omega arith;
    }

within_names : (L : LPresentation) → IsWithinLimits L → AreKept (names_trials 0 L.names)
within_names L h =
    let few = h.generators in
    names_kept 0 L.names (recursion_from_All (λ n. length n ≤ 32) L.names h.name_lengths) (omega arith)

meaning_unique : (names : List (List ℕ)) (i : ItemTree) (g h : GivesAll names i) → item_meaning names i g ≡ item_meaning names i h
meaning_unique names (relators s rs r) g h = refl
meaning_unique names (arrows qs q) g h = ap endo (images_unique (length names) (map (arrow_meaning names) (qs ++ q ∷ [])) g.0 h.0 g.1 h.1)

meaning_alike : (names : List (List ℕ)) (i j : ItemTree) → i ≡ j → (g : GivesAll names i) (h : GivesAll names j)
    → item_meaning names i g ≡ item_meaning names j h
meaning_alike names i j e g =
    subst (λ (t : ItemTree). (h : GivesAll names t) → item_meaning names i g ≡ item_meaning names t h) e (λ h. meaning_unique names i g h)

-- a line is at most one tree
tree_unique : (line : List ℕ) (ts : List Token) (i j : ItemTree) → ReadsTokens line ts → ts ≡ item_tokens i
    → ReadsTokens line (item_tokens j) → i ≡ j
tree_unique line ts i j d e f = item_tokens_unique i j (sym e ∙ tokens_unique ts (item_tokens j) line d f)

-- at most one fault
no_other : (k l : Kind) → NoOther k → NoOther l → k ≡ l
no_other k l h g = absurd h

names_fault_unique : (names : List (List ℕ)) (k l : Kind) → NamesFault names k → NamesFault names l → k ≡ l
names_fault_unique names k l =
    Unless-unique (AreDistinct names) RepeatedName (λ _. UnlessPassed (names_trials 0 names) NoOther) k l
    (λ p q. UnlessPassed-unique (names_trials 0 names) NoOther k l (no_other k l))

item_fault_unique : (M : LPresentation) (i : ItemTree) (k l : Kind) → ItemFault M i k → ItemFault M i l → k ≡ l
item_fault_unique M i k l =
    let last = Unless (GivesAll M.names i) NotAllImages (λ _. NoOther) in
    Unless-unique (AreKnown M.names (body_tokens i)) UnknownName (λ _. UnlessPassed (item_trials M i) last) k l
    (λ p q. UnlessPassed-unique (item_trials M i) last k l
    (Unless-unique (GivesAll M.names i) NotAllImages (λ _. NoOther) k l (λ g h. no_other k l)))

form_names_unique : (line : List ℕ) (p q : NamesForm line) → p.names ≡ q.names
form_names_unique line p q =
    let same = tokens_unique p.tokens q.tokens line p.spelled q.spelled in
    generators_unique p.names q.names q.tokens (subst (IsGenerators p.names) same p.formed) q.formed

form_tree_unique : (line : List ℕ) (p q : ItemForm line) → p.tree ≡ q.tree
form_tree_unique line p q = tree_unique line (item_tokens p.tree) p.tree q.tree p.spelled refl q.spelled

pub fault_unique : (m : Option LPresentation) (line : List ℕ) (k l : Kind) → LineFault m line k → LineFault m line l → k ≡ l
fault_unique None line k l =
    Unless-unique (IsShallow line) Deep (λ _. Unless (NamesForm line) Syntax (λ form. NamesFault form.names)) k l
    (λ _ _. Unless-unique (NamesForm line) Syntax (λ form. NamesFault form.names) k l
    (λ p q f g. names_fault_unique q.names k l (subst (λ (ns : List (List ℕ)). NamesFault ns k) (form_names_unique line p q) f) g))
fault_unique (Some M) line k l =
    Unless-unique (IsShallow line) Deep (λ _. Unless (ItemForm line) Syntax (λ form. ItemFault M form.tree)) k l
    (λ _ _. Unless-unique (ItemForm line) Syntax (λ form. ItemFault M form.tree) k l
    (λ p q f g. item_fault_unique M q.tree k l (subst (λ (i : ItemTree). ItemFault M i k) (form_tree_unique line p q) f) g))

-- no fault where the line makes a presentation
names_not_both : (line : List ℕ) (L : LPresentation) (k : Kind) → MakesNames line L → LineFault None line k → ⊥
names_not_both line L k h f =
    let form : NamesForm line = record { tokens = h.reads.tokens; spelled = h.reads.spelled; names = L.names; formed = h.reads.formed } in
    let deep =
    Unless-next (IsShallow line) Deep (λ _. Unless (NamesForm line) Syntax (λ form. NamesFault form.names)) k h.reads.shallow f in
    let syntax = Unless-next (NamesForm line) Syntax (λ form. NamesFault form.names) k form deep.1 in
    let fault = subst (λ (ns : List (List ℕ)). NamesFault ns k) (form_names_unique line syntax.0 form) syntax.1 in
    let repeated = Unless-next (AreDistinct L.names) RepeatedName (λ _. UnlessPassed (names_trials 0 L.names) NoOther) k h.distinct fault in
    UnlessPassed-next (names_trials 0 L.names) NoOther k (within_names L h.within) repeated.1

item_not_both : (M : LPresentation) (line : List ℕ) (L : LPresentation) (k : Kind) → AreDistinct M.names → MakesItem M line L
    → LineFault (Some M) line k → ⊥
item_not_both M line L k distinct h f =
    let read = item_of M.names distinct h.reads.formed in
    let i = read.tree in
    let form : ItemForm line = record { tree = i; spelled = subst (ReadsTokens line) read.spelled h.reads.spelled } in
    let last = Unless (GivesAll M.names i) NotAllImages (λ _. NoOther) in
    let deep = Unless-next (IsShallow line) Deep (λ _. Unless (ItemForm line) Syntax (λ form. ItemFault M form.tree)) k h.reads.shallow f in
    let syntax = Unless-next (ItemForm line) Syntax (λ form. ItemFault M form.tree) k form deep.1 in
    let fault = subst (λ (j : ItemTree). ItemFault M j k) (form_tree_unique line syntax.0 form) syntax.1 in
    let unknown =
    Unless-next (AreKnown M.names (body_tokens i)) UnknownName (λ _. UnlessPassed (item_trials M i) last) k read.known fault in
    let within = subst IsWithinLimits (h.is ∙ ap (added M) read.means) h.within in
    let limit = UnlessPassed-next (item_trials M i) last k (kept_added M i read.gives distinct read.kept within) unknown.1 in
    (Unless-next (GivesAll M.names i) NotAllImages (λ _. NoOther) k read.gives limit).1

pub not_both : (m : Option LPresentation) (line : List ℕ) (L : LPresentation) (k : Kind) → IsSound m → Makes m line L → LineFault m line k
    → ⊥
not_both None line L k s = names_not_both line L k
not_both (Some M) line L k s = item_not_both M line L k s.0

-- at most one presentation
pub makes_unique : (m : Option LPresentation) (line : List ℕ) (L N : LPresentation) → IsSound m → Makes m line L → Makes m line N → L ≡ N
makes_unique None line L N s h g =
    let same = tokens_unique h.reads.tokens g.reads.tokens line h.reads.spelled g.reads.spelled in
    h.is ∙ ap bare (generators_unique L.names N.names g.reads.tokens (subst (IsGenerators L.names) same h.reads.formed) g.reads.formed)
    ∙ sym g.is
makes_unique (Some M) line L N s h g =
    let a = item_of M.names s.0 h.reads.formed in
    let b = item_of M.names s.0 g.reads.formed in
    let same : a.tree ≡ b.tree =
    tree_unique line h.reads.tokens a.tree b.tree h.reads.spelled a.spelled (subst (ReadsTokens line) b.spelled g.reads.spelled) in
    let items : item_meaning M.names a.tree a.gives ≡ item_meaning M.names b.tree b.gives =
    meaning_alike M.names a.tree b.tree same a.gives b.gives in
    h.is ∙ ap (added M) (a.means ∙ items ∙ sym b.means) ∙ sym g.is
