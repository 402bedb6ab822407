-- Texts whose meaning is worked out by hand: a presentation of a lamplighter group, a word with zeros and signs in its
-- exponents, and texts that mean nothing.
use Rattle.std.proofs.Common.{◌≡◌, ℕ, zero, suc, ◌<◌, ◌≤◌, List, [], ◌∷◌, ◌++◌, length, take, get_or, refl, sym, ap, subst, ◌∙◌, arith}
use Rattle.std.specs.Prelude.{ℤ, pos, negsuc, codes}
use Rattle.std.proofs.lemmas.List.Elements.{All-nil, All-cons, All-from_recursion}
use Rattle.std.proofs.lemmas.List.Sums.{count_by-le-length}
use Rattle.std.proofs.lemmas.List.{length-take}
use Rattle.pq_base.specs.LPresentation.{LPresentation, AreDistinct}
use Rattle.lpres_reader.specs.declared.token.Symbol.TheVariants as symbols
use Rattle.lpres_reader.specs.Lines.{is_opening, IsShallow}
use Rattle.lpres_reader.specs.Tokens.{Token, name, number, symbol, ReadsTokens}
use Rattle.lpres_reader.specs.Words as words
use Rattle.lpres_reader.specs.Words.{ReadsWord, ReadsFactor, ReadsUnit}
use Rattle.lpres_reader.specs.Items as items
use Rattle.lpres_reader.specs.Items.{ReadsItem, Item, Mapping, words_from, GivesEach}
use Rattle.lpres_reader.specs.Limits.{AreShort}
use Rattle.lpres_reader.specs.Reads.{Reads}
use Rattle.lpres_reader.specs.Front.{token_first, front_of}
use Rattle.lpres_reader.proofs.texts.FrontLemmas.{tokens_unique}
use Rattle.lpres_reader.proofs.texts.LineTokens.{token_leads, ends_here, same_first}
use Rattle.lpres_reader.proofs.names.NamesLaws.{names_are}

-- the tokens of a line, one after the other
next : (line rest : List ℕ) (t : Token) (ts : List Token) → front_of line ≡ token_first t rest → ReadsTokens rest ts
    → ReadsTokens line (t ∷ ts)
next line rest t ts e d = (token_leads line rest t e).from ts d

-- a short line is shallow
short_line : (line : List ℕ) → length line ≤ 64 → IsShallow line
short_line line h n = omega (arith, count_by-le-length is_opening (take n line), length-take n line)

abbrev names : List (List ℕ)
names = codes "a" ∷ codes "t" ∷ codes "u" ∷ []

abbrev a : Token
a = name (codes "a")

abbrev t : Token
t = name (codes "t")

abbrev u : Token
u = name (codes "u")

a_unit : ReadsUnit names (a ∷ []) (pos 1 ∷ [])
a_unit = words.generator 0 (codes "a") (omega arith) refl

t_unit : ReadsUnit names (t ∷ []) (pos 2 ∷ [])
t_unit = words.generator 1 (codes "t") (omega arith) refl

u_unit : ReadsUnit names (u ∷ []) (pos 3 ∷ [])
u_unit = words.generator 2 (codes "u") (omega arith) refl

factor_of : {ts : List Token} {w : List ℤ} → ReadsUnit names ts w → ReadsFactor names ts w
factor_of d = words.one_atom (words.one_unit d)

word_of : {ts : List Token} {w : List ℤ} → ReadsUnit names ts w → ReadsWord names ts w
word_of d = words.one_factor (factor_of d)

-- a zero in front of an exponent, a sign, and a power of a power: (t^-01)^-2
zeros_and_signs : ReadsFactor names
    (t ∷ symbol symbols.Caret ∷ symbol symbols.Minus ∷ number (codes "01") ∷ symbol symbols.Caret ∷ symbol symbols.Minus
    ∷ number (codes "2") ∷ []) (pos 2 ∷ pos 2 ∷ [])
zeros_and_signs =
    words.power (t ∷ symbol symbols.Caret ∷ symbol symbols.Minus ∷ number (codes "01") ∷ [])
    (symbol symbols.Minus ∷ number (codes "2") ∷ []) (negsuc 1 ∷ []) (negsuc 1) refl
    (words.power (t ∷ []) (symbol symbols.Minus ∷ number (codes "01") ∷ []) (pos 2 ∷ []) (negsuc 0) refl (factor_of t_unit)
    (words.negative (codes "01") (omega arith) refl) refl (omega arith))
    (words.negative (codes "2") (omega arith) refl) refl (omega arith)

-- u*t^-1
fixed_item : ReadsItem names
    (name (codes "fixed") ∷ u ∷ symbol symbols.Star ∷ t ∷ symbol symbols.Caret ∷ symbol symbols.Minus ∷ number (codes "1") ∷ [])
    (Item.fixed ((pos 3 ∷ negsuc 1 ∷ []) ∷ []))
fixed_item =
    items.fixed_line (items.last_relator
    (items.plain (words.product (u ∷ []) (t ∷ symbol symbols.Caret ∷ symbol symbols.Minus ∷ number (codes "1") ∷ []) (pos 3 ∷ [])
    (negsuc 1 ∷ []) refl (word_of u_unit)
    (words.power (t ∷ []) (symbol symbols.Minus ∷ number (codes "1") ∷ []) (pos 2 ∷ []) (negsuc 0) refl (factor_of t_unit)
    (words.negative (codes "1") (omega arith) refl) refl (omega arith))
    refl (omega arith))))

abbrev square : List ℤ
square = pos 1 ∷ pos 1 ∷ []

-- a^-1 u^-1 a^-1 u a u^-1 a u
abbrev entangled : List ℤ
entangled = negsuc 0 ∷ negsuc 2 ∷ negsuc 0 ∷ pos 3 ∷ pos 1 ∷ negsuc 2 ∷ pos 1 ∷ pos 3 ∷ []

abbrev square_tokens : List Token
square_tokens = a ∷ symbol symbols.Caret ∷ number (codes "2") ∷ []

abbrev bracket_tokens : List Token
bracket_tokens = symbol symbols.OpenSquare ∷ a ∷ symbol symbols.Comma ∷ a ∷ symbol symbols.Caret ∷ u ∷ symbol symbols.CloseSquare ∷ []

-- [a,a^u]
bracket_unit : ReadsUnit names bracket_tokens entangled
bracket_unit = words.commutator (a ∷ symbol symbols.Comma ∷ a ∷ symbol symbols.Caret ∷ u ∷ []) refl
    (words.two_entries (a ∷ []) (a ∷ symbol symbols.Caret ∷ u ∷ []) (pos 1 ∷ []) (negsuc 2 ∷ pos 1 ∷ pos 3 ∷ []) refl (word_of a_unit)
    (words.one_factor (words.conjugate (a ∷ []) (u ∷ []) (pos 1 ∷ []) (pos 3 ∷ []) refl (factor_of a_unit) u_unit refl (omega arith)))
    refl (omega arith))

iterated_item : ReadsItem names (name (codes "iterated") ∷ (square_tokens ++ symbol symbols.Comma ∷ bracket_tokens))
    (Item.iterated (square ∷ entangled ∷ []))
iterated_item = items.iterated_line (items.next_relator square_tokens bracket_tokens refl
    (items.plain (words.one_factor
    (words.power (a ∷ []) (number (codes "2") ∷ []) (pos 1 ∷ []) (pos 2) refl (factor_of a_unit)
    (words.unsigned (codes "2") (omega arith) refl) refl (omega arith))))
    (items.last_relator (items.plain (word_of bracket_unit))))

abbrev arrow : Token
arrow = symbol symbols.Arrow

abbrev images : List (List ℤ)
images = (pos 1 ∷ []) ∷ (pos 2 ∷ []) ∷ (pos 3 ∷ pos 2 ∷ []) ∷ []

abbrev arrows : List Mapping
arrows = record { from = 0; to = pos 1 ∷ [] } ∷ record { from = 1; to = pos 2 ∷ [] } ∷ record { from = 2; to = pos 3 ∷ pos 2 ∷ [] } ∷ []

each_once : (k : ℕ) → k < 3 → words_from k arrows ≡ get_or images k [] ∷ []
each_once zero h = refl
each_once (suc zero) h = refl
each_once (suc (suc zero)) h = refl
each_once (suc (suc (suc k))) h = absurd (omega arith)

endo_item : ReadsItem names
    (name (codes "endo") ∷ a ∷ arrow ∷ a ∷ symbol symbols.Comma ∷ t ∷ arrow ∷ t ∷ symbol symbols.Comma ∷ u ∷ arrow ∷ u ∷ symbol symbols.Star
    ∷ t ∷ []) (Item.endo images)
endo_item = items.endo_line arrows
    (items.next_arrow (a ∷ arrow ∷ a ∷ []) (t ∷ arrow ∷ t ∷ symbol symbols.Comma ∷ u ∷ arrow ∷ u ∷ symbol symbols.Star ∷ t ∷ []) refl
    (items.an_arrow 0 (codes "a") (omega arith) refl (word_of a_unit))
    (items.next_arrow (t ∷ arrow ∷ t ∷ []) (u ∷ arrow ∷ u ∷ symbol symbols.Star ∷ t ∷ []) refl
    (items.an_arrow 1 (codes "t") (omega arith) refl (word_of t_unit))
    (items.last_arrow (items.an_arrow 2 (codes "u") (omega arith) refl
    (words.product (u ∷ []) (t ∷ []) (pos 3 ∷ []) (pos 2 ∷ []) refl (word_of u_unit) (factor_of t_unit) refl (omega arith))))))
    (record { image_count = refl; exactly_one = each_once })

-- a lamplighter group, with a comment and a blank line
abbrev lamplighter_text : List ℕ
lamplighter_text =
    codes "# lamps" ++ 10 ∷ (codes "generators a, t u" ++ 10 ∷ 10
    ∷ (codes "fixed u*t^-1" ++ 10 ∷ (codes "iterated a^2, [a,a^u]" ++ 10 ∷ codes "endo a -> a, t -> t, u -> u*t")))

abbrev lamplighter : LPresentation
lamplighter = record { names = names; fixed = (pos 3 ∷ negsuc 1 ∷ []) ∷ []; iterated = square ∷ entangled ∷ []; endos = images ∷ [] }

distinct_names : (i j : ℕ) → i < j → j < 3 → get_or names i [] ≡ get_or names j [] → ⊥
distinct_names i zero lt h e = absurd (omega arith)
distinct_names zero (suc zero) lt h e = let first : ◌≡◌ {A = ℕ} 97 116 = ap (λ (n : List ℕ). get_or n 0 0) e in absurd (omega arith)
distinct_names (suc i) (suc zero) lt h e = absurd (omega arith)
distinct_names zero (suc (suc zero)) lt h e = let first : ◌≡◌ {A = ℕ} 97 117 = ap (λ (n : List ℕ). get_or n 0 0) e in absurd (omega arith)
distinct_names (suc zero) (suc (suc zero)) lt h e = let first : ◌≡◌ {A = ℕ} 116 117 = ap (λ (n : List ℕ). get_or n 0 0) e in
    absurd (omega arith)
distinct_names (suc (suc i)) (suc (suc zero)) lt h e = absurd (omega arith)
distinct_names i (suc (suc (suc j))) lt h e = absurd (omega arith)

pub lamplighter_reads : Reads lamplighter_text lamplighter
lamplighter_reads = record {
  first = codes "generators a, t u";
  later = codes "fixed u*t^-1" ∷ codes "iterated a^2, [a,a^u]" ∷ codes "endo a -> a, t -> t, u -> u*t" ∷ [];
  lines = refl;
  generators = record {
    shallow = short_line (codes "generators a, t u") (omega arith);
    tokens = name (codes "generators") ∷ a ∷ symbol symbols.Comma ∷ t ∷ u ∷ [];
    spelled = next _ _ _ _ refl (next _ _ _ _ refl (next _ _ _ _ refl (next _ _ _ _ refl (next _ _ _ _ refl (ends_here _ refl)))));
    formed = (
      a ∷ symbol symbols.Comma ∷ t ∷ u ∷ [],
      refl,
      items.next_name_after_comma (codes "a") (items.next_name (codes "t") (items.last_name (codes "u"))),
    );
  };
  distinct = distinct_names;
  items = Item.fixed ((pos 3 ∷ negsuc 1 ∷ []) ∷ []) ∷ Item.iterated (square ∷ entangled ∷ []) ∷ Item.endo images ∷ [];
  each = (
    record {
      shallow = short_line (codes "fixed u*t^-1") (omega arith);
      tokens = _;
      spelled =
          next _ _ _ _ refl (next _ _ _ _ refl
          (next _ _ _ _ refl (next _ _ _ _ refl (next _ _ _ _ refl (next _ _ _ _ refl (next _ _ _ _ refl (ends_here _ refl)))))));
      formed = fixed_item;
    },
    (
      record {
        shallow = short_line (codes "iterated a^2, [a,a^u]") (omega arith);
        tokens = _;
        spelled =
            next _ _ _ _ refl (next _ _ _ _ refl
            (next _ _ _ _ refl (next _ _ _ _ refl (next _ _ _ _ refl (next _ _ _ _ refl (next _ _ _ _ refl (next _ _ _ _ refl
            (next _ _ _ _ refl (next _ _ _ _ refl (next _ _ _ _ refl (next _ _ _ _ refl (ends_here _ refl))))))))))));
        formed = iterated_item;
      },
      (
        record {
          shallow = short_line (codes "endo a -> a, t -> t, u -> u*t") (omega arith);
          tokens = _;
          spelled =
              next _ _ _ _ refl (next _ _ _ _ refl
              (next _ _ _ _ refl (next _ _ _ _ refl (next _ _ _ _ refl (next _ _ _ _ refl (next _ _ _ _ refl (next _ _ _ _ refl
              (next _ _ _ _ refl (next _ _ _ _ refl
              (next _ _ _ _ refl (next _ _ _ _ refl (next _ _ _ _ refl (next _ _ _ _ refl (ends_here _ refl))))))))))))));
          formed = endo_item;
        },
        tt,
      ),
    ),
  );
  fixed = refl;
  iterated = refl;
  endos = refl;
  limits = record {
    some_generator = omega arith;
    generators = omega arith;
    name_lengths = All-from_recursion (λ n. length n ≤ 32) names (omega arith, (omega arith, (omega arith, tt)));
    fixed = omega arith;
    iterated = omega arith;
    endos = omega arith;
    fixed_letters = All-from_recursion (λ w. length w ≤ 65536) lamplighter.fixed (omega arith, tt);
    iterated_letters = All-from_recursion (λ w. length w ≤ 65536) lamplighter.iterated (omega arith, (omega arith, tt));
    endo_letters =
        All-cons AreShort images [] (All-from_recursion (λ w. length w ≤ 65536) images (omega arith, (omega arith, (omega arith, tt))))
        (All-nil AreShort);
    total = omega arith;
  };
}

-- no generators line, and a generator that comes twice
pub nothing_reads : (L : LPresentation) → Reads [] L → ⊥
nothing_reads L r = let e = r.lines in cc

pub repeated_reads : (L : LPresentation) → Reads (codes "generators x x") L → ⊥
repeated_reads L r =
    let line = (same_first (codes "generators x x") r.first [] r.later r.lines).0 in
    let spelled : ReadsTokens (codes "generators x x") (name (codes "generators") ∷ name (codes "x") ∷ name (codes "x") ∷ []) =
    next _ _ _ _ refl (next _ _ _ _ refl (next _ _ _ _ refl (ends_here _ refl))) in
    let tokens =
    tokens_unique r.generators.tokens _ (codes "generators x x")
    (subst (λ (l : List ℕ). ReadsTokens l r.generators.tokens) (sym line) r.generators.spelled) spelled in
    let behind =
    (same_first (name (codes "generators")) (name (codes "generators")) r.generators.formed.0 (name (codes "x") ∷ name (codes "x") ∷ [])
    (sym r.generators.formed.1 ∙ tokens)).1 in
    let same : L.names ≡ codes "x" ∷ codes "x" ∷ [] = names_are r.generators.formed.2 (codes "x" ∷ codes "x" ∷ []) behind in
    let twice : AreDistinct (codes "x" ∷ codes "x" ∷ []) = subst AreDistinct same r.distinct in
    twice 0 1 (omega arith) (omega arith) refl
