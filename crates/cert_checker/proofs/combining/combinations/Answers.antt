use Rattle.std.proofs.Common.{◌≡◌, ◌+◌, ◌++◌, ◌∷◌, [], ℕ, List, length, map, ap, sym, ◌∙◌, subst, arith}
use Rattle.pq_base.specs.Canonical.{numbers_from}
use Rattle.pc_presentation.specs.declared.syllable.Syllable.{Syllable}
use Rattle.pc_presentation.specs.Syllable.{spread, syllables_of, AreSyllables}
use Rattle.cover_quotient.specs.Combinations.{TailCombinations}
use Rattle.derivation_log.specs.Certificates.{TailLine}
use Rattle.cert_checker.specs.KeptTails.{kept_tails, kept_row}
use Rattle.cert_checker.proofs.summing.LineCombinations.{kept_row-word, kept_row-spread, kept_rows-more}
use Rattle.cert_checker.proofs.combining.combinations.Goals as goal

pub push-requires : goal.push-requires
push-requires c =
    let C = c.args.cover.now in
    let lines = c.args.step.now.tails in
    let width = length C.sources in
    let some = c.pcp.ensures.cover.answer.presentation.prime in
    let word : c.in_ok-word.word.items ≡ syllables_of 0 (kept_row width lines (c.loop-t.t + 1)) =
    c.in_ok-word.ensures ∙ ap (λ (ls : List TailLine). syllables_of 0 (kept_row width ls (c.loop-t.t + 1))) c.tails.ensures in
    subst (λ (K : TailCombinations). AreSyllables K.prime (length K.kept) 0 c.in_ok-word.word.items) (sym c.loop-t.invariant)
    (subst (AreSyllables C.answer.presentation.prime (length (kept_tails width lines)) 0) (sym word)
    (kept_row-word width lines C.answer.presentation.prime (length c.args.step.now.sources) (omega (arith, some)) c.requires.lines
    (c.loop-t.t + 1)))

pub loop-t-preserved : goal.loop-t-preserved
loop-t-preserved c =
    let C = c.args.cover.now in
    let lines = c.args.step.now.tails in
    let width = length C.sources in
    let word : c.in_ok-word.word.items ≡ syllables_of 0 (kept_row width lines (c.loop-t.t + 1)) =
    c.in_ok-word.ensures ∙ ap (λ (ls : List TailLine). syllables_of 0 (kept_row width ls (c.loop-t.t + 1))) c.tails.ensures in
    c.in_ok-push.ensures.ok
    ∙ ap (λ (K : TailCombinations). let more : TailCombinations = record {
      prime = K.prime;
      kept = K.kept;
      rows = K.rows ++ spread (length K.kept) 0 c.in_ok-word.word.items ∷ [];
    } in more) c.loop-t.invariant
    ∙ ap (λ (rows : List (List ℕ)). let K : TailCombinations = record {
      prime = C.answer.presentation.prime;
      kept = kept_tails width lines;
      rows = rows;
    } in K)
    (ap (λ (w : List Syllable). map (kept_row width lines) (numbers_from 1 c.loop-t.t) ++ spread (length (kept_tails width lines)) 0 w ∷ [])
    word
    ∙ ap (λ (x : List ℕ). map (kept_row width lines) (numbers_from 1 c.loop-t.t) ++ x ∷ []) (kept_row-spread width lines (c.loop-t.t + 1))
    ∙ sym (kept_rows-more width lines c.loop-t.t))
