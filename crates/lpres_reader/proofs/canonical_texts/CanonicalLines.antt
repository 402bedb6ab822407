-- Each line of a canonical text is read as what it is written for.
use Rattle.std.proofs.Common.{◌≡◌, ◌<◌, ◌≤◌, ◌+◌, ℕ, suc, Bool, true, false, List, [], ◌∷◌, ◌++◌, All, get_or, length, map, decimal, codes}
use Rattle.std.proofs.Common.{refl, sym, subst, ◌∙◌, arith, append_assoc, append-nil}
use Rattle.std.specs.Prelude.{ℤ, pos, negsuc, ◌==◌, if◌then◌else◌}
use Rattle.std.specs.List.{list_all}
use Rattle.std.proofs.lemmas.Bool.{and_from}
use Rattle.std.proofs.lemmas.List.Elements.{All-head, All-tail}
use Rattle.std.proofs.lemmas.List.Folds.{list_all-append}
use Rattle.pq_base.specs.LPresentation.{AreWords}
use Rattle.pq_base.specs.Name.{is_name_byte, IsName, IsNameText}
use Rattle.pq_base.specs.SignedWord.{HasLetters}
use Rattle.pq_base.specs.Name.{name_text}
use Rattle.lpres_reader.specs.declared.canonical.Run.{Run}
use Rattle.lpres_reader.specs.declared.token.Symbol.TheVariants.{Arrow, Caret, Comma}
use Rattle.lpres_reader.specs.Runs.{runs_of}
use Rattle.lpres_reader.specs.CanonicalText.{preceded, word_text, generators_line, arrow_text, arrow_texts, endo_line}
use Rattle.lpres_reader.specs.Lines.{is_skipped}
use Rattle.lpres_reader.specs.Tokens.{Token, name, number, symbol, StopsBefore, ReadsTokens, no_more, blank_first, name_first, symbol_first}
use Rattle.lpres_reader.specs.Items as items
use Rattle.lpres_reader.specs.Items.{ReadsNames, ReadsRelators, ReadsArrows, ReadsArrow, ReadsItem, Item, endo}
use Rattle.lpres_reader.specs.Limits.{AreShort}
use Rattle.lpres_reader.specs.Reads.{IsGenerators}
use Rattle.lpres_reader.proofs.canonical_texts.CanonicalItems.{mappings_from, mappings-give}
use Rattle.lpres_reader.proofs.canonical_texts.CanonicalTokens.{exponent_tokens, run_tokens, further_tokens, runs_tokens, name_text-IsName}
use Rattle.lpres_reader.proofs.canonical_texts.CanonicalTokens.{word_reads}
use Rattle.lpres_reader.proofs.canonical_texts.CanonicalWords.{word_means}
use Rattle.lpres_reader.proofs.texts.LineBytes.{is_plain_token}
use Rattle.lpres_reader.proofs.names.NamesLaws.{names_read}

-- a line of tokens of some form, with no opening bracket, which is not skipped
pub record IsWritten (form : List Token → Type 0) (line : List ℕ) : Type 0 where
  pub tokens : List Token
  pub spelled : ReadsTokens line tokens
  pub formed : form tokens
  pub plain : list_all is_plain_token tokens ≡ true
  pub kept : is_skipped line ≡ false

plain_parts : (ts us : List Token) → list_all is_plain_token ts ≡ true → list_all is_plain_token us ≡ true
    → list_all is_plain_token (ts ++ us) ≡ true
plain_parts ts us h g = list_all-append is_plain_token ts us ∙ and_from (list_all is_plain_token ts) _ h g

plain_exponent : (k : ℤ) (n : ℕ) → list_all is_plain_token (exponent_tokens k n) ≡ true
plain_exponent (negsuc k) n = refl
plain_exponent (pos k) n = by (n == 1)
  where
    by : (b : Bool) → list_all is_plain_token (if b then [] else symbol Caret ∷ number (decimal n) ∷ []) ≡ true
    by true = refl
    by false = refl

-- the line of the generators
names_stop : (ns : List (List ℕ)) → StopsBefore is_name_byte (preceded (codes " ") ns)
names_stop [] = tt
names_stop (n ∷ ns) = refl

names_spelled : (ns : List (List ℕ)) → All IsName ns → ReadsTokens (preceded (codes " ") ns) (map name ns)
names_spelled [] are = no_more
names_spelled (n ∷ ns) are =
    let is : IsName n = All-head IsName n ns are in
    blank_first 32 (n ++ preceded (codes " ") ns) refl refl
    (name_first n (preceded (codes " ") ns) refl is.text (names_stop ns) (names_spelled ns (All-tail IsName n ns are)))

plain_names : (ns : List (List ℕ)) → list_all is_plain_token (map name ns) ≡ true
plain_names [] = refl
plain_names (n ∷ ns) = plain_names ns

some_names : (ns : List (List ℕ)) → 1 ≤ length ns → ReadsNames (map name ns) ns
some_names [] h = absurd (omega arith)
some_names (n ∷ ns) h = names_read n ns

pub generators-written : (names : List (List ℕ)) → All IsName names → 1 ≤ length names
    → IsWritten (IsGenerators names) (generators_line names)
generators-written names are some = record {
  tokens = name (codes "generators") ∷ map name names;
  spelled = name_first (codes "generators") (preceded (codes " ") names) refl refl (names_stop names) (names_spelled names are);
  formed = (map name names, refl, some_names names some);
  plain = plain_names names;
  kept = refl;
}

module _ (names : List (List ℕ)) (are : All IsName names) where
  plain_further : (rs : List Run) → list_all is_plain_token (further_tokens names rs) ≡ true
  plain_further [] = refl
  plain_further (r ∷ rs) = plain_parts (run_tokens names r) (further_tokens names rs) (plain_exponent r.letter r.size) (plain_further rs)

  plain_runs : (rs : List Run) → list_all is_plain_token (runs_tokens names rs) ≡ true
  plain_runs [] = refl
  plain_runs (r ∷ rs) = plain_parts (run_tokens names r) (further_tokens names rs) (plain_exponent r.letter r.size) (plain_further rs)

  abbrev word_tokens : List ℤ → List Token
  word_tokens w = runs_tokens names (runs_of w)

  word_spelled : (w : List ℤ) → HasLetters (length names) w → length w ≤ 65536 → ReadsTokens (word_text names w) (word_tokens w)
  word_spelled w h small =
      subst (λ (line : List ℕ). ReadsTokens line (word_tokens w)) (append-nil (word_text names w))
      (subst (λ (ts : List Token). ReadsTokens (word_text names w ++ []) ts) (append-nil (word_tokens w))
      (word_reads names are w [] [] h small tt no_more))

  -- a relator behind a keyword and a blank
  relator-written : (keyword : List ℕ) (item : List (List ℤ) → Item) → IsNameText keyword
      → ((rest : List ℕ) → is_skipped ((keyword ++ codes " ") ++ rest) ≡ false)
      → ((ts : List Token) (ws : List (List ℤ)) → ReadsRelators names ts ws → ReadsItem names (name keyword ∷ ts) (item ws))
      → (w : List ℤ) → HasLetters (length names) w → length w ≤ 65536
      → IsWritten (λ ts. ReadsItem names ts (item (w ∷ []))) ((keyword ++ codes " ") ++ word_text names w)
  relator-written keyword item is unskipped makes w h small = record {
    tokens = name keyword ∷ word_tokens w;
    spelled =
        name_first keyword (32 ∷ word_text names w) (append_assoc keyword (codes " ") (word_text names w)) is refl
        (blank_first 32 (word_text names w) refl refl (word_spelled w h small));
    formed = makes (word_tokens w) (w ∷ []) (items.last_relator (items.plain (word_means names w h small)));
    plain = plain_runs (runs_of w);
    kept = unskipped (word_text names w);
  }

  pub fixed-written : (w : List ℤ) → HasLetters (length names) w → length w ≤ 65536
      → IsWritten (λ ts. ReadsItem names ts (items.fixed (w ∷ []))) (codes "fixed " ++ word_text names w)
  fixed-written w h small = relator-written (codes "fixed") items.fixed refl (λ rest. refl) (λ ts ws d. items.fixed_line d) w h small

  pub iterated-written : (w : List ℤ) → HasLetters (length names) w → length w ≤ 65536
      → IsWritten (λ ts. ReadsItem names ts (items.iterated (w ∷ []))) (codes "iterated " ++ word_text names w)
  iterated-written w h small =
      relator-written (codes "iterated") items.iterated refl (λ rest. refl) (λ ts ws d. items.iterated_line d) w h small

  -- the arrow from the generator at place i
  abbrev arrow_tokens : ℕ → List ℤ → List Token
  arrow_tokens i w = name (name_text names (suc i)) ∷ symbol Arrow ∷ word_tokens w

  -- further arrows, from the generators at the places from i on
  abbrev further_arrow_tokens : ℕ → List (List ℤ) → List Token
  further_arrow_tokens i [] = []
  further_arrow_tokens i (w ∷ ws) = symbol Comma ∷ (arrow_tokens i w ++ further_arrow_tokens (suc i) ws)

  arrow_reads : (i : ℕ) (w : List ℤ) (rest : List ℕ) (ts : List Token) → i < length names → HasLetters (length names) w → length w ≤ 65536
      → StopsBefore is_name_byte rest → ReadsTokens rest ts → ReadsTokens (arrow_text names (suc i) w ++ rest) (arrow_tokens i w ++ ts)
  arrow_reads i w rest ts inside h small stops d =
      let text = name_text names (suc i) in
      let behind = word_text names w ++ rest in
      name_first text (codes " -> " ++ behind) (append_assoc text (codes " -> " ++ word_text names w) rest)
      (name_text-IsName names are i inside) refl
      (blank_first 32 (codes "-> " ++ behind) refl refl
      (symbol_first Arrow (codes " " ++ behind) refl (blank_first 32 behind refl refl (word_reads names are w rest ts h small stops d))))

  arrows_stop : (i : ℕ) (ws : List (List ℤ)) → StopsBefore is_name_byte (preceded (codes ", ") (arrow_texts names i ws))
  arrows_stop i [] = tt
  arrows_stop i (w ∷ ws) = refl

  further_arrows_read : (i : ℕ) (ws : List (List ℤ)) → i + length ws ≤ length names → AreWords (length names) ws → AreShort ws
      → ReadsTokens (preceded (codes ", ") (arrow_texts names i ws)) (further_arrow_tokens i ws)
  further_arrows_read i [] few h short = no_more
  further_arrows_read i (w ∷ ws) few h short =
      let behind = preceded (codes ", ") (arrow_texts names (suc i) ws) in
      symbol_first Comma (32 ∷ (arrow_text names (suc i) w ++ behind)) refl (blank_first 32 (arrow_text names (suc i) w ++ behind) refl refl
      (arrow_reads i w behind (further_arrow_tokens (suc i) ws) (omega arith) h.0 (All-head (λ v. length v ≤ 65536) w ws short)
      (arrows_stop (suc i) ws)
      (further_arrows_read (suc i) ws (omega arith) h.1 (All-tail (λ v. length v ≤ 65536) w ws short))))

  arrow_means : (i : ℕ) (w : List ℤ) → i < length names → HasLetters (length names) w → length w ≤ 65536
      → ReadsArrow names (arrow_tokens i w) (record { from = i; to = w })
  arrow_means i w inside h small = items.an_arrow i (get_or names i []) inside refl (word_means names w h small)

  arrows_mean : (i : ℕ) (w : List ℤ) (ws : List (List ℤ)) → i + suc (length ws) ≤ length names → AreWords (length names) (w ∷ ws)
      → AreShort (w ∷ ws)
      → ReadsArrows names (arrow_tokens i w ++ further_arrow_tokens (suc i) ws) (mappings_from i (w ∷ ws))
  arrows_mean i w [] few h short =
      let small : length w ≤ 65536 = All-head (λ v. length v ≤ 65536) w [] short in
      subst (λ (ts : List Token). ReadsArrows names ts (mappings_from i (w ∷ []))) (sym (append-nil (arrow_tokens i w)))
      (items.last_arrow (arrow_means i w (omega arith) h.0 small))
  arrows_mean i w (v ∷ vs) few h short =
      let small : length w ≤ 65536 = All-head (λ v. length v ≤ 65536) w (v ∷ vs) short in
      items.next_arrow (arrow_tokens i w) (arrow_tokens (suc i) v ++ further_arrow_tokens (suc (suc i)) vs) refl
      (arrow_means i w (omega arith) h.0 small)
      (arrows_mean (suc i) v vs (omega arith) h.1 (All-tail (λ v. length v ≤ 65536) w (v ∷ vs) short))

  plain_arrows : (i : ℕ) (ws : List (List ℤ)) → list_all is_plain_token (further_arrow_tokens i ws) ≡ true
  plain_arrows i [] = refl
  plain_arrows i (w ∷ ws) = plain_parts (word_tokens w) (further_arrow_tokens (suc i) ws) (plain_runs (runs_of w)) (plain_arrows (suc i) ws)

  pub endo-written : (f : List (List ℤ)) → 1 ≤ length names → length f ≡ length names → AreWords (length names) f → AreShort f
      → IsWritten (λ ts. ReadsItem names ts (endo f)) (endo_line names f)
  endo-written [] some long h short = absurd (omega arith)
  endo-written (w ∷ ws) some long h short =
      let small : length w ≤ 65536 = All-head (λ v. length v ≤ 65536) w ws short in
      let behind = preceded (codes ", ") (arrow_texts names 1 ws) in
      record {
        tokens = name (codes "endo") ∷ (arrow_tokens 0 w ++ further_arrow_tokens 1 ws);
        spelled =
            name_first (codes "endo") (32 ∷ (arrow_text names 1 w ++ behind)) refl refl refl
            (blank_first 32 (arrow_text names 1 w ++ behind) refl refl
            (arrow_reads 0 w behind (further_arrow_tokens 1 ws) some h.0 small (arrows_stop 1 ws)
            (further_arrows_read 1 ws (omega arith) h.1 (All-tail (λ v. length v ≤ 65536) w ws short))));
        formed =
            items.endo_line (mappings_from 0 (w ∷ ws)) (arrows_mean 0 w ws (omega arith) h short)
            (mappings-give (length names) (w ∷ ws) long);
        plain = plain_parts (word_tokens w) (further_arrow_tokens 1 ws) (plain_runs (runs_of w)) (plain_arrows 1 ws);
        kept = refl;
      }
