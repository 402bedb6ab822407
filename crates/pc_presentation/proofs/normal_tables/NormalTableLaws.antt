-- The normal words of a consistent presentation form a group table, in which words are joined exactly where their values
-- are equal: a word is joined to the normal word of the digits of its value.
use Rattle.std.proofs.Common.{◌≡◌, ℕ, zero, suc, ◌+◌, ◌^◌, ◌<◌, ℤ, pos, negsuc, List, [], ◌∷◌, ◌++◌, get_or, length, replicate, refl, ap}
use Rattle.std.proofs.Common.{sym, ◌∙◌, subst, arith}
use Rattle.std.proofs.lemmas.List.{append-nil}
use Rattle.pq_base.specs.SignedWord.{inv, copies, HasLetters}
use Rattle.pq_base.specs.Table.{Table, IsGroup, AllBelow, times, inverse, value, element_of}
use Rattle.pq_base.specs.Presentation.{Presentation, IsPresentation, IsNormal, letter, word_from, normal_word}
use Rattle.pq_base.specs.Joined.{Joined, IsConsistent}
use Rattle.pq_base.proofs.words.LetterLaws.{HasLetters-relator, HasLetters-normal_word}
use Rattle.pq_base.proofs.words.WordLaws.{word_from-zeros}
use Rattle.pq_base.proofs.words.JoinedLaws.{joined-sym, joined-trans, joined-from_equal, joined-append, relator-joined}
use Rattle.pq_base.proofs.tables.TableLaws.{times-inverse, inverse-below, get_or-below, element-below, value-below}
use Rattle.pc_presentation.specs.NormalTable.{list_from, single, number_of, digits, product_of, normal_table, generator_numbers}
use Rattle.pc_presentation.specs.NormalTable.{NormalWordsAreATable}
use Rattle.pc_presentation.specs.CollectionLaws.{ConsistentPresentationsHaveTables}
use Rattle.pc_presentation.proofs.rows.SingleRows.{length-list_from, get_or-list_from, single-normal}
use Rattle.pc_presentation.proofs.normal_tables.DigitLaws.{digits-normal, digits-number_of, number_of-below, number_of-digits}
use Rattle.pc_presentation.proofs.normal_tables.DigitLaws.{number_of-zeros, digits-zero, power-positive}
use Rattle.pc_presentation.proofs.normal_tables.NormalProducts.{product_of-normal, product_of-joined, inverse_exponents, zeros-word}
use Rattle.pc_presentation.proofs.normal_tables.NormalProducts.{product_of-assoc, product_of-zeros_left, product_of-zeros_right}
use Rattle.pc_presentation.proofs.normal_tables.NormalProducts.{inverse-joined, product_of-inverse_left}

-- the word of one exponent
word-single : (n k i c : ℕ) → i < n → word_from k (single n i c) ≡ copies (letter (k + i)) c
word-single zero k i c l = absurd (omega arith)
word-single (suc n) k zero c l =
    ap (λ (w : List ℤ). copies (letter k) c ++ w) (word_from-zeros (suc k) n)
    ∙ append-nil (copies (letter k) c) ∙ ap (λ (m : ℕ). copies (letter m) c) (let e : k ≡ k + 0 = omega arith in e)
word-single (suc n) k (suc i) c l =
    word-single n (suc k) i c (omega arith) ∙ ap (λ (m : ℕ). copies (letter m) c) (let e : suc k + i ≡ k + suc i = omega arith in e)

-- the list of values below a number
pub AllBelow-list_from : (m : ℕ) (f : ℕ → ℕ) (i d : ℕ) → ((j : ℕ) → f j < m) → AllBelow m (list_from f i d)
AllBelow-list_from m f i zero h = tt
AllBelow-list_from m f i (suc d) h = (h i, AllBelow-list_from m f (suc i) d h)

-- what the table says
abbrev size_of : Presentation → ℕ
size_of P = P.prime ^ P.rank

pub size-normal_table : (P : Presentation) → (normal_table P).size ≡ size_of P
unfolding normal_table
size-normal_table P = refl

row-count : (P : Presentation) → length (normal_table P).rows ≡ size_of P
unfolding normal_table
row-count P =
    length-list_from (λ (a : ℕ).
    list_from (λ (b : ℕ). number_of P.prime (product_of P (digits P.prime P.rank a) (digits P.prime P.rank b))) 0 (P.prime ^ P.rank)) 0
    (P.prime ^ P.rank)

row-at : (P : Presentation) (a : ℕ) → a < size_of P
    → get_or (normal_table P).rows a []
    ≡ list_from (λ (b : ℕ). number_of P.prime (product_of P (digits P.prime P.rank a) (digits P.prime P.rank b))) 0 (size_of P)
unfolding normal_table
row-at P a l =
    get_or-list_from (λ (a : ℕ).
    list_from (λ (b : ℕ). number_of P.prime (product_of P (digits P.prime P.rank a) (digits P.prime P.rank b))) 0 (P.prime ^ P.rank)) 0
    (P.prime ^ P.rank) a [] l
    ∙ ap (λ (z : ℕ). list_from (λ (b : ℕ). number_of P.prime (product_of P (digits P.prime P.rank z) (digits P.prime P.rank b))) 0
    (P.prime ^ P.rank)) (let e : 0 + a ≡ a = omega arith in e)

times-normal_table : (P : Presentation) (a b : ℕ) → a < size_of P → b < size_of P
    → times (normal_table P) a b ≡ number_of P.prime (product_of P (digits P.prime P.rank a) (digits P.prime P.rank b))
times-normal_table P a b l m =
    ap (λ (r : List ℕ). get_or r b 0) (row-at P a l)
    ∙ get_or-list_from (λ (b : ℕ). number_of P.prime (product_of P (digits P.prime P.rank a) (digits P.prime P.rank b))) 0 (size_of P) b 0 m
    ∙ ap (λ (z : ℕ). number_of P.prime (product_of P (digits P.prime P.rank a) (digits P.prime P.rank z)))
    (let e : 0 + b ≡ b = omega arith in e)

module _ (P : Presentation) (h : IsPresentation P) (big : 1 < P.prime) (consistent : IsConsistent P) where
  abbrev T : Table
  T = normal_table P

  positive : 0 < P.prime
  positive = omega arith

  abbrev d : ℕ → List ℕ
  d a = digits P.prime P.rank a

  dn : (a : ℕ) → IsNormal P.prime P.rank (d a)
  dn a = digits-normal P.prime P.rank a positive

  below : (e : List ℕ) → IsNormal P.prime P.rank e → number_of P.prime e < size_of P
  below e n = number_of-below P.prime P.rank e n

  -- the digits of a product
  digits-times : (a b : ℕ) → a < size_of P → b < size_of P → d (times T a b) ≡ product_of P (d a) (d b)
  digits-times a b l m =
      ap d (times-normal_table P a b l m)
      ∙ digits-number_of P.prime P.rank (product_of P (d a) (d b)) (product_of-normal P h positive (d a) (d b) (dn a))

  times-below : (a b : ℕ) → a < size_of P → b < size_of P → times T a b < size_of P
  times-below a b l m =
      subst (λ (x : ℕ). x < size_of P) (sym (times-normal_table P a b l m))
      (below (product_of P (d a) (d b)) (product_of-normal P h positive (d a) (d b) (dn a)))

  -- numbers with the same digits
  same_digits : (a b : ℕ) → a < size_of P → b < size_of P → d a ≡ d b → a ≡ b
  same_digits a b l m e =
      sym (number_of-digits P.prime P.rank a positive l) ∙ ap (number_of P.prime) e ∙ number_of-digits P.prime P.rank b positive m

  zero-below : 0 < size_of P
  zero-below = power-positive P.prime P.rank positive

  table-associative : (a b c : ℕ) → a < size_of P → b < size_of P → c < size_of P → times T (times T a b) c ≡ times T a (times T b c)
  table-associative a b c l m n =
      let ab = times-below a b l m in
      let bc = times-below b c m n in
      same_digits (times T (times T a b) c) (times T a (times T b c)) (times-below (times T a b) c ab n) (times-below a (times T b c) l bc)
      (digits-times (times T a b) c ab n ∙ ap (λ (e : List ℕ). product_of P e (d c)) (digits-times a b l m)
      ∙ product_of-assoc P h positive consistent (d a) (d b) (d c) (dn a) (dn b) (dn c)
      ∙ sym (digits-times a (times T b c) l bc ∙ ap (product_of P (d a)) (digits-times b c m n)))

  table-neutral_left : (a : ℕ) → a < size_of P → times T 0 a ≡ a
  table-neutral_left a l =
      same_digits (times T 0 a) a (times-below 0 a zero-below l) l
      (digits-times 0 a zero-below l
      ∙ ap (λ (e : List ℕ). product_of P e (d a)) (digits-zero P.prime P.rank) ∙ product_of-zeros_left P h positive consistent (d a) (dn a))

  table-neutral_right : (a : ℕ) → a < size_of P → times T a 0 ≡ a
  table-neutral_right a l =
      same_digits (times T a 0) a (times-below a 0 l zero-below) l
      (digits-times a 0 l zero-below
      ∙ ap (product_of P (d a)) (digits-zero P.prime P.rank) ∙ product_of-zeros_right P h positive consistent (d a) (dn a))

  -- products of exponents as products of numbers
  times-number_of : (e f : List ℕ) → IsNormal P.prime P.rank e → IsNormal P.prime P.rank f
      → times T (number_of P.prime e) (number_of P.prime f) ≡ number_of P.prime (product_of P e f)
  times-number_of e f n m =
      times-normal_table P (number_of P.prime e) (number_of P.prime f) (below e n) (below f m)
      ∙ ap (λ (x : List ℕ). number_of P.prime (product_of P x (d (number_of P.prime f)))) (digits-number_of P.prime P.rank e n)
      ∙ ap (λ (x : List ℕ). number_of P.prime (product_of P e x)) (digits-number_of P.prime P.rank f m)

  times-to_zero : (a b : ℕ) → a < size_of P → b < size_of P → product_of P (d a) (d b) ≡ replicate P.rank 0 → times T a b ≡ 0
  times-to_zero a b l m e = times-normal_table P a b l m ∙ ap (number_of P.prime) e ∙ number_of-zeros P.prime P.rank

  table-inverses : (a : ℕ) → a < size_of P → (b : ℕ) × (b < size_of P) × (times T a b ≡ 0) × (times T b a ≡ 0)
  table-inverses a l =
      let r = inverse_exponents P h positive (d a) (dn a) in
      let b : ℕ = number_of P.prime r.exponents in
      let m : number_of P.prime r.exponents < size_of P = below r.exponents r.normal in
      let db : d (number_of P.prime r.exponents) ≡ r.exponents = digits-number_of P.prime P.rank r.exponents r.normal in
      let other = product_of-inverse_left P h positive consistent (d a) r.exponents (dn a) r.normal r.is in (
        number_of P.prime r.exponents,
        m,
        times-to_zero a b l m (ap (product_of P (d a)) db ∙ r.is),
        times-to_zero b a m l (ap (λ (e : List ℕ). product_of P e (d a)) db ∙ other),
      )

  pub is_group : IsGroup (normal_table P)
  is_group =
      subst (λ (s : ℕ). IsGroupOfSize s) (sym (size-normal_table P)) (record {
        nonempty = zero-below;
        row_count = row-count P;
        widths = λ a l. ap length (row-at P a l)
            ∙ length-list_from (λ (b : ℕ). number_of P.prime (product_of P (digits P.prime P.rank a) (digits P.prime P.rank b))) 0
            (size_of P);
        closed = times-below;
        associative = table-associative;
        neutral_left = table-neutral_left;
        neutral_right = table-neutral_right;
        inverses = table-inverses;
      })
    where
      IsGroupOfSize : ℕ → Type 0
      IsGroupOfSize s = IsGroup (record { size = s; rows = (normal_table P).rows })

  -- the generators
  abbrev gens : List ℕ
  gens = generator_numbers P

  generator-normal : (i : ℕ) → IsNormal P.prime P.rank (single P.rank i 1)
  generator-normal i = single-normal P.prime P.rank i 1 big

  gens-at : (i : ℕ) → i < P.rank → get_or gens i 0 ≡ number_of P.prime (single P.rank i 1)
  gens-at i l =
      get_or-list_from (λ (i : ℕ). number_of P.prime (single P.rank i 1)) 0 P.rank i 0 l
      ∙ ap (λ (m : ℕ). number_of P.prime (single P.rank m 1)) (let e : 0 + i ≡ i = omega arith in e)

  gens-below : AllBelow (normal_table P).size (generator_numbers P)
  gens-below =
      subst (λ (m : ℕ). AllBelow m (generator_numbers P)) (sym (size-normal_table P))
      (AllBelow-list_from (size_of P) (λ (i : ℕ). number_of P.prime (single P.rank i 1)) 0 P.rank
      (λ i. below (single P.rank i 1) (generator-normal i)))

  in_size : (a : ℕ) → a < (normal_table P).size → a < size_of P
  in_size a l = subst (λ (m : ℕ). a < m) (size-normal_table P) l

  value-in_size : (w : List ℤ) → value T gens w < size_of P
  value-in_size w = in_size (value T gens w) (value-below T is_group gens gens-below w)

  -- the letter of a generator and its inverse
  generator-word : (i : ℕ) → i < P.rank → normal_word (d (get_or gens i 0)) ≡ letter i
  generator-word i l =
      ap (λ (a : ℕ). normal_word (d a)) (gens-at i l)
      ∙ ap normal_word (digits-number_of P.prime P.rank (single P.rank i 1) (generator-normal i))
      ∙ word-single P.rank 0 i 1 l
      ∙ ap letter (let e : 0 + i ≡ i = omega arith in e)

  inverse-word : (i : ℕ) → i < P.rank → Joined P (normal_word (d (inverse T (get_or gens i 0)))) (negsuc i ∷ [])
  inverse-word i l =
      let g : ℕ = get_or gens i 0 in
      let gt : get_or gens i 0 < (normal_table P).size = get_or-below (normal_table P).size gens i is_group.nonempty gens-below in
      let gs : get_or gens i 0 < size_of P = in_size g gt in
      let is : inverse T (get_or gens i 0) < size_of P = in_size (inverse T g) (inverse-below T is_group g gt) in
      let product : product_of P (d (get_or gens i 0)) (d (inverse T (get_or gens i 0))) ≡ replicate P.rank 0 =
      sym (digits-times g (inverse T g) gs is) ∙ ap d (times-inverse T g) ∙ digits-zero P.prime P.rank in
      joined-trans (inverse-joined P h positive consistent (d g) (d (inverse T g)) (dn g) (dn (inverse T g)) product)
      (joined-from_equal P (ap inv (generator-word i l)))

  letter-word : (k : ℤ) (w : List ℤ) → HasLetters P.rank (k ∷ w) → Joined P (normal_word (d (element_of T gens k))) (k ∷ [])
  letter-word (pos zero) w l = absurd l.0
  letter-word (pos (suc i)) w l = joined-from_equal P (generator-word i l.0)
  letter-word (negsuc i) w l = inverse-word i l.0

  -- a word is joined to the normal word of the digits of its value
  value-word : (w : List ℤ) → HasLetters P.rank w → Joined P (normal_word (d (value T gens w))) w
  value-word [] l = joined-from_equal P (ap normal_word (digits-zero P.prime P.rank) ∙ zeros-word P h positive)
  value-word (k ∷ w) l =
      let x : ℕ = element_of T gens k in
      let y : ℕ = value T gens w in
      let xs : element_of T gens k < size_of P = in_size x (element-below T is_group gens gens-below k) in
      let c : Joined P (normal_word (d (element_of T gens k)) ++ normal_word (d (value T gens w))) ((k ∷ []) ++ w) =
      joined-append (letter-word k w l) (value-word w l.1) in
      joined-trans (joined-from_equal P (ap normal_word (digits-times x y xs (value-in_size w))))
      (joined-trans (joined-sym (product_of-joined P h positive (d x) (d y) (dn x) (dn y))) c)

  joined-value : (u v : List ℤ) → HasLetters P.rank u → HasLetters P.rank v → Joined P u v → value T gens u ≡ value T gens v
  joined-value u v l m c =
      same_digits (value T gens u) (value T gens v) (value-in_size u) (value-in_size v)
      (consistent.unique (d (value T gens u)) (d (value T gens v)) (dn (value T gens u)) (dn (value T gens v))
      (joined-trans (value-word u l) (joined-trans c (joined-sym (value-word v m)))))

  value-joined_back : (u v : List ℤ) → HasLetters P.rank u → HasLetters P.rank v → value T gens u ≡ value T gens v → Joined P u v
  value-joined_back u v l m e =
      joined-trans (joined-sym (value-word u l)) (joined-trans (joined-from_equal P (ap (λ (a : ℕ). normal_word (d a)) e)) (value-word v m))

  normal_word-value : (e : List ℕ) → IsNormal P.prime P.rank e → value T gens (normal_word e) ≡ number_of P.prime e
  normal_word-value e n =
      let c = n.count in
      let l : HasLetters P.rank (normal_word e) = HasLetters-normal_word P.rank e (omega arith) in
      let x : ℕ = value T gens (normal_word e) in
      sym (number_of-digits P.prime P.rank x positive (value-in_size (normal_word e)))
      ∙ ap (number_of P.prime) (consistent.unique (d x) e (dn x) n (value-word (normal_word e) l))

  pub normal_words_are_a_table : NormalWordsAreATable P
  normal_words_are_a_table = record {
    group = is_group;
    size = size-normal_table P;
    elements =
        λ a l. (
          digits P.prime P.rank a,
          (digits-normal P.prime P.rank a positive),
          number_of-digits P.prime P.rank a positive (in_size a l),
        );
    distinct = λ e f n m q. sym (digits-number_of P.prime P.rank e n) ∙ ap (digits P.prime P.rank) q ∙ digits-number_of P.prime P.rank f m;
    products = times-number_of;
    generators = gens-below;
    relators = λ r m. joined-value r [] (HasLetters-relator P h m) tt (relator-joined P m);
    normal_words = normal_word-value;
    joined = λ u v l m. (joined-value u v l m, value-joined_back u v l m);
  }

pub consistent_presentations_have_tables : ConsistentPresentationsHaveTables
consistent_presentations_have_tables P h consistent = normal_words_are_a_table P h h.prime consistent
