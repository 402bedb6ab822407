-- A line has the form of an item exactly where its tokens go through, one after the other, to a whole form.
use Rattle.std.proofs.Common.{◌≡◌, ℕ, true, false, List, [], ◌∷◌, Option, Some, None, is_some, option_map, option_and_then, refl, ap, ◌∙◌}
use Rattle.std.proofs.Common.{sym, subst}
use Rattle.lpres_reader.specs.Tokens.{Token, name, number, symbol}
use Rattle.lpres_reader.specs.Trees.{ItemTree, relators, arrows, item_tokens}
use Rattle.lpres_reader.specs.Parser.{State, step, run, line_end, begin, parse_item}
use Rattle.lpres_reader.specs.Front.{Front, token_first, no_token, front_of, IsNamed}
use Rattle.lpres_reader.specs.Front as front
use Rattle.lpres_reader.specs.Faults.{ItemForm}
use Rattle.lpres_reader.specs.Forms.{form_step, first_form}
use Rattle.lpres_reader.proofs.trees.ParsedForms.{form_of}
use Rattle.lpres_reader.specs.declared.syntax.Form.{Form}
use Rattle.lpres_reader.proofs.texts.FrontLemmas.{Follows, follows}
use Rattle.lpres_reader.proofs.texts.LineTokens.{ends_here, end_only, no_tokens}
use Rattle.lpres_reader.proofs.trees.ParserReads.{parse_item-tokens}
use Rattle.lpres_reader.proofs.texts.LineRuns.{LineStands, line_begins, line_goes, line_tree, line_formed}
use Rattle.lpres_reader.proofs.trees.FormSteps.{form_goes, form_begins, form_ends, is_whole_form}

-- the form of the tokens before the rest
pub record InForm (line rest : List ℕ) (f : Form) : Type 0 where
  pub state : State
  pub is : f ≡ form_of state
  pub stands : LineStands line rest state

-- an option that maps to Some
from_Some : {A B : Type 0} (f : A → B) (o : Option A) (b : B) → option_map f o ≡ Some b → (a : A) × (o ≡ Some a) × (b ≡ f a)
from_Some f None b e = absurd (cc e)
from_Some f (Some a) b e = (a, refl, cc)

from_None : {A B : Type 0} (f : A → B) (o : Option A) → option_map f o ≡ None → o ≡ None
from_None f None e = refl
from_None f (Some a) e = absurd (cc e)

pub form_first : (line rest keyword : List ℕ) (f : Form) → front_of line ≡ token_first (name keyword) rest → first_form keyword ≡ Some f
    → InForm line rest f
form_first line rest keyword f front e =
    let b = from_Some form_of (begin keyword) f (sym (form_begins keyword) ∙ e) in
    record { state = b.0; is = b.2; stands = line_begins line rest keyword b.0 front b.1 }

pub form_next : (line rest after : List ℕ) (f g : Form) (t : Token) → InForm line rest f → front_of rest ≡ token_first t after
    → form_step f t ≡ Some g → InForm line after g
form_next line rest after f g t h front e =
    let b = from_Some form_of (step h.state t) g (sym (form_goes h.state t) ∙ ap (λ (x : Form). form_step x t) (sym h.is) ∙ e) in
    record { state = b.0; is = b.2; stands = line_goes line rest after h.state b.0 t h.stands front b.1 }

whole_state : (o : Option ItemTree) → is_some o ≡ true → (i : ItemTree) × (o ≡ Some i)
whole_state None e = absurd (cc e)
whole_state (Some i) e = (i, refl)

pub form_whole : (line rest : List ℕ) (f : Form) → InForm line rest f → front_of rest ≡ front.line_end → is_whole_form f ≡ true
    → ItemForm line
form_whole line rest f h end e =
    let w = whole_state (line_end h.state) (sym (form_ends h.state) ∙ ap is_whole_form (sym h.is) ∙ e) in
    record {
      tree = w.0;
      spelled = line_formed line rest h.state w.0 h.stands (record { tokens = []; spelled = ends_here rest end; runs = w.1 });
    }

-- no form
pub no_form_at_token : (line rest : List ℕ) (f : Form) → InForm line rest f → front_of rest ≡ no_token → ItemForm line → ⊥
no_form_at_token line rest f h front i =
    let r = line_tree line rest h.state i.tree h.stands i.spelled in
    no_tokens rest r.tokens front r.spelled

runs_none : (state : State) (t : Token) (ts us : List Token) (i : ItemTree) → step state t ≡ None → ts ≡ t ∷ us → run state ts ≡ Some i → ⊥
runs_none state t ts us i none same e =
    let f : run state (t ∷ us) ≡ Some i = ap (run state) (sym same) ∙ e in
    let g : None ≡ Some i = sym (ap (λ (o : Option State). option_and_then (λ s. run s us) o) none) ∙ f in
    cc

pub no_form_behind : (line rest after : List ℕ) (f : Form) (t : Token) → InForm line rest f → front_of rest ≡ token_first t after
    → form_step f t ≡ None → ItemForm line → ⊥
no_form_behind line rest after f t h front e i =
    let r = line_tree line rest h.state i.tree h.stands i.spelled in
    let none = from_None form_of (step h.state t) (sym (form_goes h.state t) ∙ ap (λ (x : Form). form_step x t) (sym h.is) ∙ e) in
    let left = subst (λ (x : Front). Follows x r.tokens) front (follows r.spelled) in
    runs_none h.state t r.tokens left.0 i.tree none left.1 r.runs

pub no_form_here : (line rest : List ℕ) (f : Form) → InForm line rest f → front_of rest ≡ front.line_end → is_whole_form f ≡ false
    → ItemForm line → ⊥
no_form_here line rest f h end e i =
    let r = line_tree line rest h.state i.tree h.stands i.spelled in
    let here : line_end h.state ≡ Some i.tree = sym (ap (run h.state) (end_only rest r.tokens end r.spelled)) ∙ r.runs in
    let no : false ≡ true = sym e ∙ ap is_whole_form h.is ∙ form_ends h.state ∙ ap is_some here in
    cc

parses_none : (k : List ℕ) (ts us : List Token) (t : ItemTree) → begin k ≡ None → ts ≡ name k ∷ us → parse_item ts ≡ Some t → ⊥
parses_none k ts us t none same e =
    let f : parse_item (name k ∷ us) ≡ Some t = ap parse_item (sym same) ∙ e in
    let g : None ≡ Some t = sym (ap (λ (o : Option State). option_and_then (λ s. run s us) o) none) ∙ f in
    cc

pub no_form_first : (line rest keyword : List ℕ) → front_of line ≡ token_first (name keyword) rest → first_form keyword ≡ None
    → ItemForm line → ⊥
no_form_first line rest keyword front e i =
    let none = from_None form_of (begin keyword) (sym (form_begins keyword) ∙ e) in
    let left = subst (λ (x : Front). Follows x (item_tokens i.tree)) front (follows i.spelled) in
    parses_none keyword (item_tokens i.tree) left.0 i.tree none left.1 (parse_item-tokens i.tree)

-- the tokens of an item begin with a name
abbrev BeginsNamed : List Token → Type 0
BeginsNamed [] = ⊥
BeginsNamed (name n ∷ ts) = Unit {0}
BeginsNamed (number n ∷ ts) = ⊥
BeginsNamed (symbol n ∷ ts) = ⊥

item_named : (i : ItemTree) → BeginsNamed (item_tokens i)
item_named (relators s rs r) = tt
item_named (arrows qs q) = tt

front_named : (ts : List Token) (f : Front) → Follows f ts → BeginsNamed ts → IsNamed f
front_named ts front.line_end h b = subst BeginsNamed h b
front_named ts no_token h b = absurd h
front_named ts (token_first (name n) rest) h b = tt
front_named ts (token_first (number n) rest) h b = subst BeginsNamed h.1 b
front_named ts (token_first (symbol n) rest) h b = subst BeginsNamed h.1 b

pub no_form_unnamed : (line : List ℕ) → ¬ IsNamed (front_of line) → ItemForm line → ⊥
no_form_unnamed line unnamed i = unnamed (front_named (item_tokens i.tree) (front_of line) (follows i.spelled) (item_named i.tree))
