use Rattle.std.proofs.Common.{◌≡◌, List, ℕ, [], ◌∷◌, ◌++◌, Bool, cond, get_or, take, false, refl, ap, sym, subst, ◌∙◌, arith}
use Rattle.std.specs.Borrow.{Bor}
use Rattle.std.specs.List.{list_any}
use Rattle.pq_base.specs.LPresentation.{AreDistinct}
use Rattle.std.proofs.lemmas.Bool.{not-false, not-true}
use Rattle.std.proofs.lemmas.List.{take_all, take_more}
use Rattle.lpres_reader.specs.GeneratorNames.{texts_of}
use Rattle.lpres_reader.proofs.texts.SeenTexts.{same_text, seen_distinct, seen_again}
use Rattle.lpres_reader.proofs.generators.check_distinct.Goals as goal

-- stands for the text at no place
abbrev nowhere : Bor (List ℕ)
nowhere = record { ref_ptr = (0, 0); now = [] }

pub returns-then-not-branch : goal.returns-then-not-branch
returns-then-not-branch c = (
  refl,
  λ distinct. seen_again c.args.texts.now c.loop-text.seen.keys c.loop-text.text-index nowhere c.loop-text.invariant.same
      c.loop-text-test.true
      (not-false _ (sym c.in_ok-insert.ensures.added ∙ c.if-not-branch.true)) distinct,
)

pub loop-text-preserved : goal.loop-text-preserved
loop-text-preserved c =
    let keys = c.loop-text.seen.keys in
    let texts = c.args.texts.now in
    let t = get_or texts c.loop-text.text-index nowhere in
    let new : list_any (same_text t) keys ≡ false = not-true _ (sym c.in_ok-insert.ensures.added ∙ c.if-not-branch.false) in
    record {
      same =
          c.in_ok-insert.ensures.keys ∙ ap (λ (b : Bool). cond b keys (keys ++ t ∷ [])) new
          ∙ ap (λ (l : List (Bor (List ℕ))). l ++ t ∷ []) c.loop-text.invariant.same
          ∙ sym (take_more texts c.loop-text.text-index nowhere c.loop-text-test.true);
      distinct = seen_distinct c.insert.new.self.keys c.in_ok-insert.ensures.unique;
    }

pub returns : goal.returns
returns c =
    let texts = c.args.texts.now in
    let all : take c.loop-text.text-index texts ≡ texts = take_all _ texts (omega arith) in
    subst (λ (l : List (Bor (List ℕ))). AreDistinct (texts_of l)) (c.loop-text.invariant.same ∙ all) c.loop-text.invariant.distinct
