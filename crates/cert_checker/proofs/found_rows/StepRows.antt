-- The rows of a step grow by one at the end, and the rows that are found are the only ones.
use Rattle.std.proofs.Common.{◌≡◌, ◌<◌, ◌+◌, ℕ, List, [], ◌∷◌, ◌++◌, get_or, length, take, ap, sym, ◌∙◌, subst}
use Rattle.std.proofs.lemmas.List.{take_more, map-append}
use Rattle.std.proofs.lemmas.List.Elements.{All-nil, All-cons, All-append}
use Rattle.pq_base.specs.LPresentation.{LPresentation}
use Rattle.fp_rows.specs.Row.{PrimeRow}
use Rattle.pc_presentation.specs.Collection.{State, plain_push}
use Rattle.pc_presentation.specs.Tailed.{rowed_presentation}
use Rattle.p_cover.specs.Covers.{CoverOf, cover_presentation}
use Rattle.derivation_log.specs.declared.source.RowSource.{RowSource}
use Rattle.derivation_log.specs.RowSources.{IsRowOf, AreRowsOf}
use Rattle.derivation_log.proofs.RowSources.{rows_of-push}
use Rattle.cert_checker.specs.StepRows.{entries_of, IsRowFor, ArePlainRows}

module _ (L : LPresentation) (C : CoverOf) where
  abbrev push : State → ℕ → State
  push = plain_push (rowed_presentation (cover_presentation C))

  pub no_rows : ArePlainRows L C [] []
  no_rows = record { shapes = All-nil (IsRowFor C); are = tt }

  pub rows-more : (ss : List RowSource) (rows more : List PrimeRow) (i : ℕ) (s : RowSource) (r : PrimeRow) → i < length ss
      → s ≡ get_or ss i s
      → ArePlainRows L C (take i ss) rows → IsRowFor C r → IsRowOf L C push s r.entries → more ≡ rows ++ r ∷ []
      → ArePlainRows L C (take (i + 1) ss) more
  rows-more ss rows more i s r l is so_far shape row grown =
      let sources : take (i + 1) ss ≡ take i ss ++ s ∷ [] = take_more ss i s l ∙ ap (λ (t : RowSource). take i ss ++ t ∷ []) (sym is) in
      subst (ArePlainRows L C (take (i + 1) ss)) (sym grown)
      (subst (λ (ts : List RowSource). ArePlainRows L C ts (rows ++ r ∷ [])) (sym sources)
      (record {
        shapes = All-append (IsRowFor C) rows (r ∷ []) so_far.shapes (All-cons (IsRowFor C) r [] shape (All-nil (IsRowFor C)));
        are = subst (AreRowsOf L C push (take i ss ++ s ∷ [])) (sym (map-append (λ (q : PrimeRow). q.entries) rows (r ∷ [])))
            (rows_of-push L C push (take i ss) (entries_of rows) s r.entries so_far.are row);
      }))
