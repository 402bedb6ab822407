-- Lines of a text, joined to a text of their own, are its lines. A line that begins with `generators` is not skipped,
-- and a text has such a line or has none.
use Rattle.std.proofs.Common.{◌≡◌, ℕ, Bool, true, false, eqb, not, List, [], ◌∷◌, ◌++◌, codes, filter, All, refl, sym, ap, subst, ◌∙◌, ◌⊎◌}
use Rattle.std.proofs.Common.{inl, inr, ◌||◌, Decides}
use Rattle.std.specs.List.{AllByRecursion, onto_first, list_any}
use Rattle.std.proofs.lemmas.Bool.Decides.{not_from_Decides}
use Rattle.std.proofs.lemmas.Bool.{cond_both, cond-true, cond-false, cases_Bool, eqb-true, true≢false}
use Rattle.std.proofs.lemmas.List.Elements.{All-nil, All-cons}
use Rattle.std.proofs.lemmas.List.Splits.{slice_split_none, slice_split_at}
use Rattle.std.proofs.lemmas.Slice.Eq.{bytes_eq-Decides}
use Rattle.lpres_reader.specs.Lines.{is_blank, is_skipped, lines_of, content_of}
use Rattle.lpres_reader.specs.Tokens.{Token, name, number, symbol, ReadsTokens}
use Rattle.lpres_reader.specs.Front.{Front, line_end, no_token, token_first, front_at, front_of}
use Rattle.lpres_reader.specs.Faults.{IsGeneratorsLine, text_of}
use Rattle.lpres_reader.proofs.names.NamedFronts.{front_of-named, named_front}
use Rattle.lpres_reader.proofs.texts.FrontLemmas.{Follows, follows}
use Rattle.lpres_reader.specs.Verdicts.{is_generators}

-- the lines that are not skipped
abbrev pub unskipped : List (List ℕ) → List (List ℕ)
unskipped lines = filter (λ line. not (is_skipped line)) lines

abbrev IsOneLine : List ℕ → Type 0
IsOneLine line = All (λ b. eqb b 10 ≡ false) line

one_line_more : (b : ℕ) (lines : List (List ℕ)) → eqb b 10 ≡ false → AllByRecursion IsOneLine lines
    → AllByRecursion IsOneLine (onto_first b lines)
one_line_more b [] e h = (All-cons (λ c. eqb c 10 ≡ false) b [] e (All-nil (λ c. eqb c 10 ≡ false)), tt)
one_line_more b (line ∷ lines) e h = (All-cons (λ c. eqb c 10 ≡ false) b line e h.0, h.1)

lines_are_lines : (text : List ℕ) → AllByRecursion IsOneLine (lines_of text)
lines_are_lines [] = (All-nil (λ c. eqb c 10 ≡ false), tt)
lines_are_lines (b ∷ text) =
    cond_both (eqb b 10) ([] ∷ lines_of text) (onto_first b (lines_of text)) (AllByRecursion IsOneLine)
    (λ e. (All-nil (λ c. eqb c 10 ≡ false), lines_are_lines text))
    (λ e. one_line_more b (lines_of text) e (lines_are_lines text))

front_lines : (before after : List (List ℕ)) → AllByRecursion IsOneLine (before ++ after) → AllByRecursion IsOneLine before
front_lines [] after h = tt
front_lines (line ∷ before) after h = (h.0, front_lines before after h.1)

lines_joined : (line : List ℕ) (lines : List (List ℕ)) → AllByRecursion IsOneLine (line ∷ lines)
    → lines_of (text_of (line ∷ lines)) ≡ line ∷ lines
lines_joined line [] h = slice_split_none (λ b. eqb b 10) line h.0
lines_joined line (next ∷ lines) h =
    slice_split_at (λ b. eqb b 10) line 10 (text_of (next ∷ lines)) h.0 refl
    ∙ ap (λ (l : List (List ℕ)). line ∷ l) (lines_joined next lines h.1)

-- lines at the front of a text, as a text
pub content_of-front : (text : List ℕ) (before after : List (List ℕ)) → lines_of text ≡ before ++ after
    → content_of (text_of before) ≡ unskipped before
content_of-front text [] after e = refl
content_of-front text (line ∷ before) after e =
    ap unskipped (lines_joined line before (front_lines (line ∷ before) after (subst (AllByRecursion IsOneLine) e (lines_are_lines text))))

-- lines that begin with `generators`
comment_front : (b : ℕ) (rest : List ℕ) → eqb b 35 ≡ true → front_at b rest ≡ no_token
comment_front b rest e = ap (λ (c : ℕ). front_at c rest) (eqb-true b 35 e)

-- the front of the line is the name `generators`
abbrev HasFront : List ℕ → Type 0
HasFront line = (rest : List ℕ) × (front_of line ≡ token_first (name (codes "generators")) rest)

front_kept : (line : List ℕ) → HasFront line → is_skipped line ≡ false
front_kept [] g = absurd (let e : line_end ≡ token_first (name (codes "generators")) g.0 = g.1 in cc)
front_kept (b ∷ line) g = by (λ h. front_kept line h) (cases_Bool (is_blank b)) (cases_Bool (eqb b 35))
  where
    by : (HasFront line → is_skipped line ≡ false) → (is_blank b ≡ true) ⊎ (is_blank b ≡ false) → (eqb b 35 ≡ true) ⊎ (eqb b 35 ≡ false)
        → is_skipped (b ∷ line) ≡ false
    by behind (inl blank) hash =
        cond-true (is_blank b) (is_skipped line) (eqb b 35) blank
        ∙ behind (g.0, sym (cond-true (is_blank b) (front_of line) (front_at b line) blank) ∙ g.1)
    by behind (inr full) (inl hash) =
        absurd (let e : no_token ≡ token_first (name (codes "generators")) g.0 =
        sym (comment_front b line hash) ∙ sym (cond-false (is_blank b) (front_of line) (front_at b line) full) ∙ g.1 in cc)
    by behind (inr full) (inr other) = cond-false (is_blank b) (is_skipped line) (eqb b 35) full ∙ other

front_begins : (line : List ℕ) (ts : List Token) → ReadsTokens line (name (codes "generators") ∷ ts) → HasFront line
front_begins line ts d = by (front_of line) refl (follows d)
  where
    by : (f : Front) → front_of line ≡ f → Follows f (name (codes "generators") ∷ ts) → HasFront line
    by line_end e h = absurd (cc h)
    by no_token e h = absurd h
    by (token_first t rest) e h = let is : t ≡ name (codes "generators") = let both : name (codes "generators") ∷ ts ≡ t ∷ h.0 = h.1 in
        cc in
        (rest, e ∙ ap (λ (s : Token). token_first s rest) is)

front_Decides : (line : List ℕ) → Decides (is_generators (front_of line)) (HasFront line)
front_Decides line = by (front_of line) refl
  where
    by : (f : Front) → front_of line ≡ f → Decides (is_generators f) (HasFront line)
    by line_end e = (
      λ t. absurd (true≢false (sym t)),
      λ g. let same : line_end ≡ token_first (name (codes "generators")) g.0 = sym e ∙ g.1 in
          absurd cc,
    )
    by no_token e = (
      λ t. absurd (true≢false (sym t)),
      λ g. let same : no_token ≡ token_first (name (codes "generators")) g.0 = sym e ∙ g.1 in
          absurd cc,
    )
    by (token_first (number digits) rest) e = (
      λ t. absurd (true≢false (sym t)),
      λ g. let same : token_first (number digits) rest ≡ token_first (name (codes "generators")) g.0 =
          sym e ∙ g.1 in absurd cc,
    )
    by (token_first (symbol s) rest) e = (
      λ t. absurd (true≢false (sym t)),
      λ g. let same : token_first (symbol s) rest ≡ token_first (name (codes "generators")) g.0 =
          sym e ∙ g.1 in absurd cc,
    )
    by (token_first (name n) rest) e = (
      λ t. (rest, e ∙ ap (λ (m : List ℕ). token_first (name m) rest) ((bytes_eq-Decides n (codes "generators")).0 t)),
      λ g. let same : token_first (name n) rest ≡ token_first (name (codes "generators")) g.0 = sym e ∙ g.1 in
          let is : n ≡ codes "generators" = cc in (bytes_eq-Decides n (codes "generators")).1 is,
    )

pub generators_kept : (line : List ℕ) → IsGeneratorsLine line → is_skipped line ≡ false
generators_kept line g = front_kept line (front_of-named (codes "generators") line g)

pub generators_begin : (line : List ℕ) (ts : List Token) → ReadsTokens line (name (codes "generators") ∷ ts) → IsGeneratorsLine line
generators_begin line ts d =
    let h = front_begins line ts d in
    named_front (codes "generators") line h.0 h.1

is_generators-Decides : (line : List ℕ) → Decides (is_generators (front_of line)) (IsGeneratorsLine line)
is_generators-Decides line =
    let d = front_Decides line in
    (λ t. let h = d.0 t in named_front (codes "generators") line h.0 h.1, λ g. d.1 (front_of-named (codes "generators") line g))

-- such a line among lines
pub record HasLine (lines : List (List ℕ)) : Type 0 where
  pub before : List (List ℕ)
  pub line : List ℕ
  pub after : List (List ℕ)
  pub place : lines ≡ before ++ line ∷ after
  pub begins : IsGeneratorsLine line

pub has_later : (line : List ℕ) (lines : List (List ℕ)) → HasLine lines → HasLine (line ∷ lines)
has_later line lines h =
    record {
      before = line ∷ h.before;
      line = h.line;
      after = h.after;
      place = ap (λ (l : List (List ℕ)). line ∷ l) h.place;
      begins = h.begins;
    }

has_line_parts : (line : List ℕ) (lines before : List (List ℕ)) (other : List ℕ) (after : List (List ℕ))
    → line ∷ lines ≡ before ++ other ∷ after → IsGeneratorsLine other → IsGeneratorsLine line ⊎ HasLine lines
has_line_parts line lines [] other after e g = inl (let is : other ≡ line = cc in subst IsGeneratorsLine is g)
has_line_parts line lines (b ∷ before) other after e g =
    inr (record { before = before; line = other; after = after; place = cc; begins = g })

no_line : (before : List (List ℕ)) (line : List ℕ) (after : List (List ℕ)) → [] ≡ before ++ line ∷ after → ⊥
no_line [] line after e = cc
no_line (b ∷ before) line after e = cc

pub has_line-Decides : (lines : List (List ℕ)) → Decides (list_any (λ line. is_generators (front_of line)) lines) (HasLine lines)
has_line-Decides [] = (λ t. absurd (true≢false (sym t)), λ h. absurd (no_line h.before h.line h.after h.place))
has_line-Decides (line ∷ lines) = by (is_generators (front_of line)) (is_generators-Decides line) (has_line-Decides lines)
  where
    by : (b : Bool) → Decides b (IsGeneratorsLine line) → Decides (list_any (λ l. is_generators (front_of l)) lines) (HasLine lines)
        → Decides (b || list_any (λ l. is_generators (front_of l)) lines) (HasLine (line ∷ lines))
    by true d rest = (λ t. record { before = []; line = line; after = lines; place = refl; begins = d.0 refl }, λ h. refl)
    by false d rest = (
      λ t. has_later line lines (rest.0 t),
      λ h. elim (has_line_parts line lines h.before h.line h.after h.place h.begins)
          [ inl g ↦ absurd (not_from_Decides false d refl g) | inr later ↦ rest.1 later ],
    )
