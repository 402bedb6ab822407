-- Reading a line token by token: where the parser stands behind some of its tokens, and what is left of it, decide how the
-- line is parsed.
use Rattle.std.proofs.Common.{◌≡◌, ℕ, List, [], ◌∷◌, ◌++◌, Option, Some, option_and_then, refl, ap, ◌∙◌, sym, subst}
use Rattle.lpres_reader.specs.Tokens.{Token, name, ReadsTokens}
use Rattle.lpres_reader.specs.Trees.{ItemTree, item_tokens}
use Rattle.lpres_reader.specs.Parser.{State, step, run, begin, parse_item}
use Rattle.lpres_reader.specs.Front.{token_first, front_of}
use Rattle.lpres_reader.proofs.trees.Leads.{Leads, leads_on}
use Rattle.lpres_reader.proofs.texts.LineTokens.{token_leads}
use Rattle.lpres_reader.proofs.trees.ParserReads.{parse_item-tokens}
use Rattle.lpres_reader.proofs.trees.ParserKeeps.{IsTreeOf, parse_item_keeps}
use Rattle.lpres_reader.proofs.trees.StepRuns.{steps, steps-push, run_on}

-- the parser's state behind some tokens of a line
pub record LineStands (line rest : List ℕ) (state : State) : Type 0 where
  pub keyword : List ℕ
  pub first : State
  pub begun : begin keyword ≡ Some first
  pub read : List Token
  pub leads : Leads ReadsTokens line (name keyword ∷ read) rest
  pub reached : steps first read ≡ Some state

pub line_begins : (line rest keyword : List ℕ) (first : State) → front_of line ≡ token_first (name keyword) rest
    → begin keyword ≡ Some first → LineStands line rest first
line_begins line rest keyword first front b = record {
  keyword = keyword;
  first = first;
  begun = b;
  read = [];
  leads = token_leads line rest (name keyword) front;
  reached = refl;
}

pub line_goes : (line rest after : List ℕ) (state next : State) (t : Token) → LineStands line rest state
    → front_of rest ≡ token_first t after → step state t ≡ Some next → LineStands line after next
line_goes line rest after state next t h front e = record {
  keyword = h.keyword;
  first = h.first;
  begun = h.begun;
  read = h.read ++ t ∷ [];
  leads = leads_on ReadsTokens line rest after (name h.keyword ∷ h.read) t h.leads (token_leads rest after t front);
  reached = steps-push h.first state h.read t h.reached ∙ e;
}

parsed : (line rest : List ℕ) (state : State) (h : LineStands line rest state) (us : List Token)
    → parse_item (name h.keyword ∷ (h.read ++ us)) ≡ run state us
parsed line rest state h us =
    ap (λ (o : Option State). option_and_then (λ s. run s (h.read ++ us)) o) h.begun ∙ run_on h.first state h.read us h.reached

-- how the rest runs
pub record RestRuns (rest : List ℕ) (state : State) (tree : ItemTree) : Type 0 where
  pub tokens : List Token
  pub spelled : ReadsTokens rest tokens
  pub runs : run state tokens ≡ Some tree

pub line_tree : (line rest : List ℕ) (state : State) (tree : ItemTree) → LineStands line rest state → ReadsTokens line (item_tokens tree)
    → RestRuns rest state tree
line_tree line rest state tree h d =
    let left = h.leads.to (item_tokens tree) d in
    record {
      tokens = left.0;
      spelled = left.2;
      runs = sym (parsed line rest state h left.0) ∙ sym (ap parse_item left.1) ∙ parse_item-tokens tree;
    }

pub line_formed : (line rest : List ℕ) (state : State) (tree : ItemTree) → LineStands line rest state → RestRuns rest state tree
    → ReadsTokens line (item_tokens tree)
line_formed line rest state tree h r =
    let ts = name h.keyword ∷ (h.read ++ r.tokens) in
    let is : parse_item ts ≡ Some tree = parsed line rest state h r.tokens ∙ r.runs in
    let same : item_tokens tree ≡ ts = subst (λ (o : Option ItemTree). IsTreeOf o ts) is (parse_item_keeps ts) in
    subst (ReadsTokens line) (sym same) (h.leads.from r.tokens r.spelled)
