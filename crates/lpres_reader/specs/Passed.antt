-- What the reader tells of a line that is an item by its form, over names that are known.
use Rattle.std.specs.Prelude.{◌≡◌, ℕ, ◌+◌, leb, List, length, codes, bytes_eq, if◌then◌else◌, Result, Ok, Err}
use Rattle.pq_base.specs.LPresentation.{LPresentation}
use Rattle.lpres_reader.specs.declared.fault.Stop.{Stop}
use Rattle.lpres_reader.specs.declared.fault.Stop.TheVariants.{Fault, NoMemory}
use Rattle.lpres_reader.specs.declared.fault.Kind.TheVariants.{Limit}
use Rattle.lpres_reader.specs.declared.fault.Which as declared
use Rattle.lpres_reader.specs.declared.fault.Which.TheVariants as which
use Rattle.lpres_reader.specs.declared.value.Value.{Value}
use Rattle.lpres_reader.specs.Stops.{which_of}
use Rattle.lpres_reader.specs.Lines.{IsShallow}
use Rattle.lpres_reader.specs.Limits.{total_letters}
use Rattle.lpres_reader.specs.Trees.{ItemTree, body_tokens, item_tokens, AreKnown}
use Rattle.lpres_reader.specs.Tokens.{ReadsTokens}
use Rattle.lpres_reader.specs.Trials.{Trial, AreKept, IsFirstPassed, reported, item_trials}
use Rattle.lpres_reader.specs.Faults.{ItemForm}
use Rattle.lpres_reader.specs.Gatherings.{Gathering}
use Rattle.lpres_reader.specs.Meanings.{gathered_of}
use Rattle.lpres_reader.specs.Values.{no_form, nothing_gathered, at_relators, at_arrows}

-- the first trial that is passed, as the reader tells it
pub record PassedAs (ts : List Trial) (w : declared.Which) (n : ℕ) : Type 0 where
  pub trial : Trial
  pub first : IsFirstPassed ts trial
  pub limit : which_of w ≡ trial.limit
  pub number : n ≡ reported trial.limit trial.size

-- what a call answers that reads the line of a tree behind a presentation
abbrev pub GivesTree : LPresentation → ItemTree → Result Gathering Stop → Type 0
GivesTree M i (Ok g) = (g ≡ gathered_of M i) × AreKept (item_trials M i)
GivesTree M i (Err NoMemory) = Unit {0}
GivesTree M i (Err (Fault (Limit w n))) = PassedAs (item_trials M i) w n
GivesTree M i (Err (Fault k)) = ⊥

abbrev pub GivesLine : LPresentation → List ℕ → Result Gathering Stop → Type 0
GivesLine M line result = (i : ItemTree) → ReadsTokens line (item_tokens i) → GivesTree M i result

-- what is meant behind the first token of a line
abbrev pub first_arrow : ℕ → ℕ → Result Value Stop
first_arrow number total =
    if leb number 16 then Ok (at_arrows (nothing_gathered which.Endos 0 total)) else Err (Fault (Limit which.Endos number))

abbrev pub first_value : LPresentation → List ℕ → Result Value Stop
first_value M n =
    if bytes_eq n (codes "fixed") then Ok (at_relators (nothing_gathered which.Fixed (length M.fixed) (total_letters M)))
    else if bytes_eq n (codes "iterated") then Ok (at_relators (nothing_gathered which.Iterated (length M.iterated) (total_letters M)))
    else if bytes_eq n (codes "endo") then first_arrow (length M.endos + 1) (total_letters M)
    else no_form

-- a line that is read, but for its images
pub record ItemRead (M : LPresentation) (line : List ℕ) (g : Gathering) : Type 0 where
  pub shallow : IsShallow line
  pub form : ItemForm line
  pub known : AreKnown M.names (body_tokens form.tree)
  pub kept : AreKept (item_trials M form.tree)
  pub is : g ≡ gathered_of M form.tree
