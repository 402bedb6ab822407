-- The first token of a line leads to what is behind it, and a line of blanks has none.
use Rattle.std.proofs.Common.{◌≡◌, ℕ, List, [], ◌∷◌, Option, Some, None, MatchOption, refl, sym, subst}
use Rattle.lpres_reader.specs.Tokens.{Token, ReadsTokens}
use Rattle.lpres_reader.specs.Front.{Front, line_end, no_token, token_first, front_of}
use Rattle.lpres_reader.proofs.texts.FrontLemmas.{Follows, follows, tells}
use Rattle.lpres_reader.proofs.trees.Leads.{Leads}

-- one token leads to what is behind it
pub token_leads : (line rest : List ℕ) (t : Token) → front_of line ≡ token_first t rest → Leads ReadsTokens line (t ∷ []) rest
token_leads line rest t e = record {
  from = λ ts d. tells line (t ∷ ts) (subst (λ (f : Front). Follows f (t ∷ ts)) (sym e) (ts, refl, d));
  to = λ ts d. subst (λ (f : Front). Follows f ts) e (follows d);
}

pub ends_here : (line : List ℕ) → front_of line ≡ line_end → ReadsTokens line []
ends_here line e = tells line [] (subst (λ (f : Front). Follows f []) (sym e) refl)

-- a line with nothing at its front has no tokens
pub end_only : (line : List ℕ) (ts : List Token) → front_of line ≡ line_end → ReadsTokens line ts → ts ≡ []
end_only line ts e d = subst (λ (f : Front). Follows f ts) e (follows d)

-- a line that begins with no token is none
pub no_tokens : (line : List ℕ) (ts : List Token) → front_of line ≡ no_token → ReadsTokens line ts → ⊥
no_tokens line ts e d = subst (λ (f : Front). Follows f ts) e (follows d)

-- an option that is no Some is None
pub none_left : {A : Type 0} (o : Option A) (P : Type 0) (Q : A → Type 0) → ((x : A) → o ≡ Some x → ⊥) → MatchOption o P Q → P
none_left None P Q no_some h = h
none_left (Some x) P Q no_some h = absurd (no_some x refl)

-- lists that are the same begin alike and go on alike
pub same_first : {X : Type 0} (x y : X) (xs ys : List X) → x ∷ xs ≡ y ∷ ys → (x ≡ y) × (xs ≡ ys)
same_first x y xs ys e = (cc, cc)
