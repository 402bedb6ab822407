-- A canonical text reads as its presentation.
use Rattle.std.proofs.Common.{◌≡◌, ◌≤◌, ℕ, false, List, [], ◌∷◌, ◌++◌, All, codes, length, map, refl, sym, ap, ◌∙◌}
use Rattle.std.specs.Prelude.{ℤ, ◌==◌}
use Rattle.std.proofs.lemmas.List.Elements.{All-head, All-tail}
use Rattle.std.proofs.lemmas.List.Splits.{slice_split_at}
use Rattle.pq_base.specs.LPresentation.{LPresentation, IsLPresentation, AreWords, AreEndos}
use Rattle.pq_base.specs.Name.{IsName}
use Rattle.pq_base.specs.SignedWord.{HasLetters}
use Rattle.pq_base.specs.Lines.{text_of_lines}
use Rattle.lpres_reader.specs.CanonicalText.{word_text, generators_line, relator_lines, endo_lines, canonical_text}
use Rattle.lpres_reader.specs.Lines.{lines_of, content_of}
use Rattle.lpres_reader.specs.Tokens.{Token}
use Rattle.lpres_reader.specs.Items.{ReadsItem, Item, fixed, iterated, endo}
use Rattle.lpres_reader.specs.Limits.{AreShort, IsWithinLimits}
use Rattle.lpres_reader.specs.Reads.{ReadsLine, IsGenerators, ReadsItems, Reads}
use Rattle.lpres_reader.specs.ReaderLaws.{CanonicalTextsReadBack}
use Rattle.lpres_reader.proofs.canonical_texts.CanonicalItems.{relator_items, canonical_items, fixed_of-canonical, iterated_of-canonical}
use Rattle.lpres_reader.proofs.canonical_texts.CanonicalItems.{endos_of-canonical}
use Rattle.lpres_reader.proofs.canonical_texts.CanonicalLines.{IsWritten, generators-written, fixed-written, iterated-written, endo-written}
use Rattle.lpres_reader.proofs.texts.LineBytes.{line_is_plain, plain_is_shallow, plain_is_one_line}
use Rattle.lpres_reader.proofs.texts.TextLines.{unskipped}
use Rattle.lpres_reader.proofs.texts.TextReads.{unskipped-keep}

-- a line that is kept is the first of the content
content_of-line : (form : List Token → Type 0) (line text : List ℕ) (content : List (List ℕ)) → IsWritten form line
    → content_of text ≡ content → content_of (line ++ 10 ∷ text) ≡ line ∷ content
content_of-line form line text content written e =
    let one : All (λ b. (b == 10) ≡ false) line = plain_is_one_line line (line_is_plain written.spelled written.plain) in
    ap unskipped (slice_split_at (λ b. b == 10) line 10 text one refl) ∙ unskipped-keep line (lines_of text) written.kept
    ∙ ap (λ (ls : List (List ℕ)). line ∷ ls) e

reads_line : (form : List Token → Type 0) (line : List ℕ) → IsWritten form line → ReadsLine form line
reads_line form line written = record {
  shallow = plain_is_shallow line (line_is_plain written.spelled written.plain);
  tokens = written.tokens;
  spelled = written.spelled;
  formed = written.formed;
}

-- each line is read as the item at its place
abbrev AreWritten : List (List ℕ) → List (List ℕ) → List Item → Type 0
AreWritten names [] [] = Unit {0}
AreWritten names [] (item ∷ items) = ⊥
AreWritten names (line ∷ lines) [] = ⊥
AreWritten names (line ∷ lines) (item ∷ items) = IsWritten (λ ts. ReadsItem names ts item) line × AreWritten names lines items

AreWritten-append : (names ks ls : List (List ℕ)) (items others : List Item) → AreWritten names ks items → AreWritten names ls others
    → AreWritten names (ks ++ ls) (items ++ others)
AreWritten-append names [] ls [] others h g = g
AreWritten-append names [] ls (item ∷ items) others h g = absurd h
AreWritten-append names (k ∷ ks) ls [] others h g = absurd h
AreWritten-append names (k ∷ ks) ls (item ∷ items) others h g = (h.0, AreWritten-append names ks ls items others h.1 g)

content_of-written : (names lines : List (List ℕ)) (items : List Item) → AreWritten names lines items
    → content_of (text_of_lines lines) ≡ lines
content_of-written names [] [] h = refl
content_of-written names [] (item ∷ items) h = absurd h
content_of-written names (line ∷ lines) [] h = absurd h
content_of-written names (line ∷ lines) (item ∷ items) h =
    content_of-line (λ ts. ReadsItem names ts item) line (text_of_lines lines) lines h.0 (content_of-written names lines items h.1)

reads_items : (names lines : List (List ℕ)) (items : List Item) → AreWritten names lines items → ReadsItems names lines items
reads_items names [] [] h = tt
reads_items names [] (item ∷ items) h = absurd h
reads_items names (line ∷ lines) [] h = absurd h
reads_items names (line ∷ lines) (item ∷ items) h = (reads_line (λ ts. ReadsItem names ts item) line h.0, reads_items names lines items h.1)

relators-written : (names : List (List ℕ)) (keyword : List ℕ) (item : List (List ℤ) → Item)
    → ((w : List ℤ) → HasLetters (length names) w → length w ≤ 65536
    → IsWritten (λ ts. ReadsItem names ts (item (w ∷ []))) (keyword ++ word_text names w))
    → (ws : List (List ℤ)) → AreWords (length names) ws → AreShort ws
    → AreWritten names (relator_lines keyword names ws) (relator_items item ws)
relators-written names keyword item one [] h short = tt
relators-written names keyword item one (w ∷ ws) h short = (
  one w h.0 (All-head (λ v. length v ≤ 65536) w ws short),
  relators-written names keyword item one ws h.1 (All-tail (λ v. length v ≤ 65536) w ws short),
)

endos-written : (names : List (List ℕ)) → All IsName names → 1 ≤ length names → (fs : List (List (List ℤ))) → AreEndos (length names) fs
    → All AreShort fs
    → AreWritten names (endo_lines names fs) (map endo fs)
endos-written names are some [] h short = tt
endos-written names are some (f ∷ fs) h short = (
  endo-written names are f some h.0 h.1 (All-head AreShort f fs short),
  endos-written names are some fs h.2 (All-tail AreShort f fs short),
)

module _ (L : LPresentation) (are : All IsName L.names) (is : IsLPresentation L) (limits : IsWithinLimits L) where
  abbrev later : List (List ℕ)
  later = relator_lines (codes "fixed ") L.names L.fixed
      ++ (relator_lines (codes "iterated ") L.names L.iterated ++ endo_lines L.names L.endos)

  later-written : AreWritten L.names later (canonical_items L)
  later-written =
      AreWritten-append L.names (relator_lines (codes "fixed ") L.names L.fixed)
      (relator_lines (codes "iterated ") L.names L.iterated ++ endo_lines L.names L.endos)
      (relator_items fixed L.fixed) (relator_items iterated L.iterated ++ map endo L.endos)
      (relators-written L.names (codes "fixed ") fixed (fixed-written L.names are) L.fixed is.fixed_words limits.fixed_letters)
      (AreWritten-append L.names (relator_lines (codes "iterated ") L.names L.iterated) (endo_lines L.names L.endos)
      (relator_items iterated L.iterated) (map endo L.endos)
      (relators-written L.names (codes "iterated ") iterated (iterated-written L.names are) L.iterated is.iterated_words
      limits.iterated_letters)
      (endos-written L.names are limits.some_generator L.endos is.endo_words limits.endo_letters))

  first-written : IsWritten (IsGenerators L.names) (generators_line L.names)
  first-written = generators-written L.names are limits.some_generator

  content_of-canonical : content_of (canonical_text L) ≡ generators_line L.names ∷ later
  unfolding canonical_text
  content_of-canonical =
      content_of-line (IsGenerators L.names) (generators_line L.names) (text_of_lines later) later first-written
      (content_of-written L.names later (canonical_items L) later-written)

  reads_back : Reads (canonical_text L) L
  reads_back = record {
    first = generators_line L.names;
    later = later;
    lines = content_of-canonical;
    generators = reads_line (IsGenerators L.names) (generators_line L.names) first-written;
    distinct = is.distinct;
    items = canonical_items L;
    each = reads_items L.names later (canonical_items L) later-written;
    fixed = sym (fixed_of-canonical L);
    iterated = sym (iterated_of-canonical L);
    endos = sym (endos_of-canonical L);
    limits = limits;
  }

pub canonical_texts_read_back : CanonicalTextsReadBack
canonical_texts_read_back L are is limits = reads_back L are is limits
