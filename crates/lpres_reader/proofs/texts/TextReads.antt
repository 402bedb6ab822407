-- A text reads as a presentation exactly where its lines lead to it.
use Rattle.std.proofs.Common.{◌≡◌, ℕ, Bool, true, false, not, cond, List, [], ◌∷◌, ◌++◌, Option, Some, None, refl, sym, ap, subst, ◌∙◌, ◌⊎◌}
use Rattle.std.proofs.Common.{inl, inr, append_assoc}
use Rattle.std.proofs.lemmas.List.{append-nil}
use Rattle.std.proofs.lemmas.Bool.{cases_Bool}
use Rattle.pq_base.specs.LPresentation.{LPresentation, AreDistinct}
use Rattle.lpres_reader.specs.Lines.{is_skipped, content_of}
use Rattle.lpres_reader.specs.Tokens.{ReadsTokens}
use Rattle.lpres_reader.specs.Items.{Item, fixed, iterated, endo, fixed_of, iterated_of, endos_of}
use Rattle.lpres_reader.specs.Limits.{IsWithinLimits}
use Rattle.lpres_reader.specs.Reads.{ReadsLine, IsGenerators, ReadsItems, Reads}
use Rattle.lpres_reader.specs.Trials.{added}
use Rattle.lpres_reader.proofs.items.AddedLaws.{within_before}
use Rattle.lpres_reader.specs.Makes.{Makes, MakesNames, MakesItem}
use Rattle.lpres_reader.proofs.faults.LineFaults.{added_names}
use Rattle.lpres_reader.specs.Verdicts.{bare}
use Rattle.lpres_reader.proofs.texts.TextLines.{unskipped, generators_begin, HasLine, has_later}
use Rattle.lpres_reader.proofs.texts.TextChains.{Chain, done, skips, reads}

-- a presentation with more items
abbrev extended : LPresentation → List Item → LPresentation
extended M [] = M
extended M (item ∷ items) = extended (added M item) items

abbrev with_items : LPresentation → List Item → LPresentation
with_items M items =
    record {
      names = M.names;
      fixed = M.fixed ++ fixed_of items;
      iterated = M.iterated ++ iterated_of items;
      endos = M.endos ++ endos_of items;
    }

with_items-cons : (M : LPresentation) (item : Item) (items : List Item) → with_items (added M item) items ≡ with_items M (item ∷ items)
with_items-cons M (fixed ws) items =
    ap (λ (x : List _). let L : LPresentation =
    record { names = M.names; fixed = x; iterated = M.iterated ++ iterated_of items; endos = M.endos ++ endos_of items } in L)
    (append_assoc M.fixed ws (fixed_of items))
with_items-cons M (iterated ws) items =
    ap (λ (x : List _). let L : LPresentation =
    record { names = M.names; fixed = M.fixed ++ fixed_of items; iterated = x; endos = M.endos ++ endos_of items } in L)
    (append_assoc M.iterated ws (iterated_of items))
with_items-cons M (endo f) items =
    ap (λ (x : List _). let L : LPresentation =
    record { names = M.names; fixed = M.fixed ++ fixed_of items; iterated = M.iterated ++ iterated_of items; endos = x } in L)
    (append_assoc M.endos (f ∷ []) (endos_of items))

same_parts : (names : List (List ℕ)) (f g i j : List (List _)) (d e : List (List (List _))) → f ≡ g → i ≡ j → d ≡ e
    → (let L : LPresentation = record { names = names; fixed = f; iterated = i; endos = d } in L)
    ≡ (let M : LPresentation = record { names = names; fixed = g; iterated = j; endos = e } in M)
same_parts names f g i j d e p q r =
    ap (λ (x : List (List _)). let L : LPresentation = record { names = names; fixed = x; iterated = i; endos = d } in L) p
    ∙ ap (λ (x : List (List _)). let L : LPresentation = record { names = names; fixed = g; iterated = x; endos = d } in L) q
    ∙ ap (λ (x : List (List (List _))). let L : LPresentation = record { names = names; fixed = g; iterated = j; endos = x } in L) r

extended-is : (items : List Item) (M : LPresentation) → extended M items ≡ with_items M items
extended-is [] M =
    same_parts M.names M.fixed (M.fixed ++ []) M.iterated (M.iterated ++ []) M.endos (M.endos ++ []) (sym (append-nil M.fixed))
    (sym (append-nil M.iterated)) (sym (append-nil M.endos))
extended-is (item ∷ items) M = extended-is items (added M item) ∙ with_items-cons M item items

extended_names : (items : List Item) (M : LPresentation) → (extended M items).names ≡ M.names
extended_names items M = ap (λ (L : LPresentation). L.names) (extended-is items M)

within_extended : (items : List Item) (M : LPresentation) → IsWithinLimits (extended M items) → IsWithinLimits M
within_extended [] M h = h
within_extended (item ∷ items) M h = within_before M item (within_extended items (added M item) h)

-- from items to lines
items_chain : (lines : List (List ℕ)) (M : LPresentation) (items : List Item) → ReadsItems M.names (unskipped lines) items
    → IsWithinLimits (extended M items) → Chain (Some M) lines (Some (extended M items))
items_chain [] M [] each within = done
items_chain [] M (item ∷ items) each within = absurd each
items_chain (line ∷ lines) M items each within = by (λ N rest. items_chain lines N rest) (cases_Bool (is_skipped line))
  where
    read : (items : List Item) → ReadsItems M.names (line ∷ unskipped lines) items → IsWithinLimits (extended M items)
        → is_skipped line ≡ false
        → ((N : LPresentation) (rest : List Item) → ReadsItems N.names (unskipped lines) rest → IsWithinLimits (extended N rest)
        → Chain (Some N) lines (Some (extended N rest)))
        → Chain (Some M) (line ∷ lines) (Some (extended M items))
    read [] e w keep go = absurd e
    read (item ∷ rest) e w keep go =
        reads line (added M item) keep (record { item = item; reads = e.0; is = refl; within = within_extended rest (added M item) w })
        (go (added M item) rest (subst (λ (ns : List (List ℕ)). ReadsItems ns (unskipped lines) rest) (sym (added_names M item)) e.1) w)

    by : ((N : LPresentation) (rest : List Item) → ReadsItems N.names (unskipped lines) rest → IsWithinLimits (extended N rest)
        → Chain (Some N) lines (Some (extended N rest)))
        → (is_skipped line ≡ true) ⊎ (is_skipped line ≡ false) → Chain (Some M) (line ∷ lines) (Some (extended M items))
    by go (inl skip) =
        skips line skip (go M items
        (subst (λ (b : Bool). ReadsItems M.names (cond (not b) (line ∷ unskipped lines) (unskipped lines)) items) skip each) within)
    by go (inr keep) =
        read items (subst (λ (b : Bool). ReadsItems M.names (cond (not b) (line ∷ unskipped lines) (unskipped lines)) items) keep each)
        within keep go

pub unskipped-skip : (line : List ℕ) (lines : List (List ℕ)) → is_skipped line ≡ true → unskipped (line ∷ lines) ≡ unskipped lines
unskipped-skip line lines e = ap (λ (b : Bool). cond (not b) (line ∷ unskipped lines) (unskipped lines)) e

pub unskipped-keep : (line : List ℕ) (lines : List (List ℕ)) → is_skipped line ≡ false → unskipped (line ∷ lines) ≡ line ∷ unskipped lines
unskipped-keep line lines e = ap (λ (b : Bool). cond (not b) (line ∷ unskipped lines) (unskipped lines)) e

-- and back
abbrev ItemsTo : LPresentation → List (List ℕ) → Option LPresentation → Type 0
ItemsTo M lines n =
    (items : List Item) × (n ≡ Some (extended M items)) × ReadsItems M.names (unskipped lines) items
    × (IsWithinLimits M → IsWithinLimits (extended M items))

chain_items : {m n : Option LPresentation} {lines : List (List ℕ)} → Chain m lines n → (M : LPresentation) → m ≡ Some M → ItemsTo M lines n
chain_items done M e = ([], e, tt, λ w. w)
chain_items (skips {lines = lines} line skip c) M e =
    let r = chain_items c M e in
    (r.0, r.1, subst (λ (l : List (List ℕ)). ReadsItems M.names l r.0) (sym (unskipped-skip line lines skip)) r.2, r.3)
chain_items (reads {n = n} {lines = lines} line L keep made c) M e =
    let here : MakesItem M line L = subst (λ (o : Option LPresentation). Makes o line L) e made in
    let r = chain_items c L refl in
    let names : L.names ≡ M.names = ap (λ (N : LPresentation). N.names) here.is ∙ added_names M here.item in
    let tail = subst (λ (ns : List (List ℕ)). ReadsItems ns (unskipped lines) r.0) names r.2 in
    let whole : extended L r.0 ≡ extended (added M here.item) r.0 = ap (λ (N : LPresentation). extended N r.0) here.is in (
      here.item ∷ r.0,
      r.1 ∙ ap (λ (N : LPresentation). Some N) whole,
      subst (λ (l : List (List ℕ)). ReadsItems M.names l (here.item ∷ r.0)) (sym (unskipped-keep line lines keep)) (here.reads, tail),
      λ w. subst IsWithinLimits whole (r.3 here.within),
    )

-- what a text says, by its lines
pub record ReadsLines (content : List (List ℕ)) (L : LPresentation) : Type 0 where
  pub first : List ℕ
  pub later : List (List ℕ)
  pub lines : content ≡ first ∷ later
  pub generators : ReadsLine (IsGenerators L.names) first
  pub distinct : AreDistinct L.names
  pub items : List Item
  pub each : ReadsItems L.names later items
  pub is : L ≡ extended (bare L.names) items
  pub limits : IsWithinLimits L

pub lines_from_reads : (text : List ℕ) (L : LPresentation) → Reads text L → ReadsLines (content_of text) L
lines_from_reads text L r = record {
  first = r.first;
  later = r.later;
  lines = r.lines;
  generators = r.generators;
  distinct = r.distinct;
  items = r.items;
  each = r.each;
  is = same_parts L.names L.fixed (fixed_of r.items) L.iterated (iterated_of r.items) L.endos (endos_of r.items) r.fixed r.iterated r.endos
      ∙ sym (extended-is r.items (bare L.names));
  limits = r.limits;
}

pub reads_from_lines : (text : List ℕ) (L : LPresentation) → ReadsLines (content_of text) L → Reads text L
reads_from_lines text L r =
    let whole : L ≡ with_items (bare L.names) r.items = r.is ∙ extended-is r.items (bare L.names) in
    record {
      first = r.first;
      later = r.later;
      lines = r.lines;
      generators = r.generators;
      distinct = r.distinct;
      items = r.items;
      each = r.each;
      fixed = ap (λ (N : LPresentation). N.fixed) whole;
      iterated = ap (λ (N : LPresentation). N.iterated) whole;
      endos = ap (λ (N : LPresentation). N.endos) whole;
      limits = r.limits;
    }

pub chain_from_lines : (lines : List (List ℕ)) (L : LPresentation) → ReadsLines (unskipped lines) L → Chain None lines (Some L)
chain_from_lines [] L r = absurd (let e : [] ≡ r.first ∷ r.later = r.lines in cc)
chain_from_lines (line ∷ lines) L r = by (λ s. chain_from_lines lines L s) (cases_Bool (is_skipped line))
  where
    by : (ReadsLines (unskipped lines) L → Chain None lines (Some L)) → (is_skipped line ≡ true) ⊎ (is_skipped line ≡ false)
        → Chain None (line ∷ lines) (Some L)
    by go (inl skip) = skips line skip (go (subst (λ (l : List (List ℕ)). ReadsLines l L) (unskipped-skip line lines skip) r))
    by go (inr keep) =
        let content : line ∷ unskipped lines ≡ r.first ∷ r.later = sym (unskipped-keep line lines keep) ∙ r.lines in
        let is : r.first ≡ line = cc in
        let rest : r.later ≡ unskipped lines = cc in
        let within : IsWithinLimits (extended (bare L.names) r.items) = subst IsWithinLimits r.is r.limits in
        let made : MakesNames line (bare L.names) =
        record {
          reads = subst (ReadsLine (IsGenerators L.names)) is r.generators;
          distinct = r.distinct;
          is = refl;
          within = within_extended r.items (bare L.names) within;
        } in
        let each : ReadsItems L.names (unskipped lines) r.items = subst (λ (l : List (List ℕ)). ReadsItems L.names l r.items) rest r.each in
        reads line (bare L.names) keep made
        (subst (λ (N : LPresentation). Chain (Some (bare L.names)) lines (Some N)) (sym r.is)
        (items_chain lines (bare L.names) r.items each within))

pub lines_from_chain : {m n : Option LPresentation} {lines : List (List ℕ)} → Chain m lines n → (L : LPresentation) → m ≡ None → n ≡ Some L
    → ReadsLines (unskipped lines) L
lines_from_chain done L e f = absurd (let same : None ≡ Some L = sym e ∙ f in cc)
lines_from_chain (skips {lines = lines} line skip c) L e f =
    subst (λ (l : List (List ℕ)). ReadsLines l L) (sym (unskipped-skip line lines skip)) (lines_from_chain c L e f)
lines_from_chain (reads {n = n} {lines = lines} line M keep made c) L e f =
    let here : MakesNames line M = subst (λ (o : Option LPresentation). Makes o line M) e made in
    let r = chain_items c M refl in
    let whole : L ≡ extended M r.0 = let both : Some L ≡ Some (extended M r.0) = sym f ∙ r.1 in cc in
    let names : M.names ≡ L.names = sym (ap (λ (N : LPresentation). N.names) whole ∙ extended_names r.0 M) in
    record {
      first = line;
      later = unskipped lines;
      lines = unskipped-keep line lines keep;
      generators = subst (λ (ns : List (List ℕ)). ReadsLine (IsGenerators ns) line) names here.reads;
      distinct = subst AreDistinct names here.distinct;
      items = r.0;
      each = subst (λ (ns : List (List ℕ)). ReadsItems ns (unskipped lines) r.0) names r.2;
      is = whole ∙ ap (λ (N : LPresentation). extended N r.0) (here.is ∙ ap bare names);
      limits = subst IsWithinLimits (sym whole) (r.3 here.within);
    }

-- lines that lead from nothing to nothing are all skipped
pub chain_from_nothing : (lines : List (List ℕ)) → unskipped lines ≡ [] → Chain None lines None
chain_from_nothing [] e = done
chain_from_nothing (line ∷ lines) e = by (λ f. chain_from_nothing lines f) (cases_Bool (is_skipped line))
  where
    by : (unskipped lines ≡ [] → Chain None lines None) → (is_skipped line ≡ true) ⊎ (is_skipped line ≡ false)
        → Chain None (line ∷ lines) None
    by go (inl skip) = skips line skip (go (sym (unskipped-skip line lines skip) ∙ e))
    by go (inr keep) = absurd (let same : line ∷ unskipped lines ≡ [] = sym (unskipped-keep line lines keep) ∙ e in cc)

still_some : {m n : Option LPresentation} {lines : List (List ℕ)} → Chain m lines n → (M : LPresentation) → m ≡ Some M → n ≡ None → ⊥
still_some done M e f = let same : Some M ≡ None = sym e ∙ f in cc
still_some (skips line skip c) M e f = still_some c M e f
still_some (reads line L keep made c) M e f = still_some c L refl f

pub nothing_from_chain : {m n : Option LPresentation} {lines : List (List ℕ)} → Chain m lines n → m ≡ None → n ≡ None → unskipped lines ≡ []
nothing_from_chain done e f = refl
nothing_from_chain (skips {lines = lines} line skip c) e f = unskipped-skip line lines skip ∙ nothing_from_chain c e f
nothing_from_chain (reads line L keep made c) e f = absurd (still_some c L refl f)

-- lines that lead to a presentation have one that begins with `generators`
pub chain_has_line : {m n : Option LPresentation} {lines : List (List ℕ)} → Chain m lines n → (L : LPresentation) → m ≡ None → n ≡ Some L
    → HasLine lines
chain_has_line done L e f = absurd (let same : None ≡ Some L = sym e ∙ f in cc)
chain_has_line (skips {lines = lines} line skip c) L e f = has_later line lines (chain_has_line c L e f)
chain_has_line (reads {lines = lines} line M keep made c) L e f =
    let here : MakesNames line M = subst (λ (o : Option LPresentation). Makes o line M) e made in
    let formed = here.reads.formed in
    record {
      before = [];
      line = line;
      after = lines;
      place = refl;
      begins = generators_begin line formed.0 (subst (ReadsTokens line) formed.1 here.reads.spelled);
    }
