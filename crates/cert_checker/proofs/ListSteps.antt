-- What holds of the entries of a list so far, and of options.
use Rattle.std.proofs.Common.{◌≡◌, ◌<◌, ◌≤◌, ◌+◌, ℕ, List, [], ◌∷◌, ◌++◌, get_or, length, take, Option, Some, None, IfSome, IfNone, true}
use Rattle.std.proofs.Common.{false, ap, sym, ◌∙◌, subst}
use Rattle.std.specs.Option.{is_some}
use Rattle.std.proofs.lemmas.Bool.{false≢true}
use Rattle.std.specs.List.{All}
use Rattle.std.proofs.lemmas.List.{take_more, take_all}
use Rattle.std.proofs.lemmas.List.Elements.{All-nil, All-cons, All-append}

module _ {X : Type 0} (P : X → Type 0) (xs : List X) (i : ℕ) where
  -- one entry more
  pub all-more : (x : X) → i < length xs → x ≡ get_or xs i x → All P (take i xs) → P x → All P (take (i + 1) xs)
  all-more x l is all here =
      subst (All P) (sym (take_more xs i x l ∙ ap (λ (y : X). take i xs ++ y ∷ []) (sym is)))
      (All-append P (take i xs) (x ∷ []) all (All-cons P x [] here (All-nil P)))

  -- all of them in the end
  pub all-whole : length xs ≤ i → All P (take i xs) → All P xs
  all-whole l all = subst (All P) (take_all i xs l) all

  -- an entry
  pub all-entry : (x : X) → i < length xs → x ≡ get_or xs i x → All P xs → P x
  all-entry x l is all = subst P (sym is) (all i x l)

module _ {X : Type 0} (P : Type 0) where
  pub none-holds : (o : Option X) → IfNone o P → is_some o ≡ false → P
  none-holds None holds none = holds
  none-holds (Some x) holds none = absurd (false≢true (sym none))

  pub some-holds : (Q : X → Type 0) (o : Option X) → IfSome o Q → is_some o ≡ true → ((x : X) → Q x → P) → P
  some-holds Q None holds some from = absurd (false≢true some)
  some-holds Q (Some x) holds some from = from x holds
