-- The head of an answer's text tells the prime and the rank.
use Rattle.std.proofs.Common.{◌≡◌, ◌<◌, ℕ, List, [], ◌∷◌, ◌++◌, drop, decimal, ap, sym, ◌∙◌, arith, append_assoc}
use Rattle.std.specs.Prelude.{codes}
use Rattle.pq_base.specs.Lines.{text_of_lines}
use Rattle.answer_text.specs.AnswerText.{head_lines}
use Rattle.answer_text.proofs.Splits.{decimal-same}

-- the parts of the head from the last
abbrev order_part : ℕ → ℕ → List ℕ → List ℕ
order_part p n more = codes "order " ++ (decimal p ++ 94 ∷ (decimal n ++ 10 ∷ more))

abbrev rank_part : ℕ → ℕ → List ℕ → List ℕ
rank_part p n more = codes "rank " ++ (decimal n ++ 10 ∷ order_part p n more)

abbrev class_part : ℕ → ℕ → ℕ → List ℕ → List ℕ
class_part p c n more = codes "class " ++ (decimal c ++ 10 ∷ rank_part p n more)

head_text : (p c n : ℕ) (more : List ℕ)
    → text_of_lines (head_lines p c n) ++ more ≡ codes "prime " ++ (decimal p ++ 10 ∷ class_part p c n more)
head_text p c n more =
    let order : List ℕ = codes "order " ++ (decimal p ++ (94 ∷ decimal n)) in
    let order_line : List ℕ = order ++ (10 ∷ []) in
    let rank_line : List ℕ = (codes "rank " ++ decimal n) ++ (10 ∷ order_line) in
    let class_line : List ℕ = (codes "class " ++ decimal c) ++ (10 ∷ rank_line) in
    let by_order : order_line ++ more ≡ order_part p n more =
    ap (λ (t : List ℕ). codes "order " ++ t)
    (append_assoc (decimal p ++ (94 ∷ decimal n)) (10 ∷ []) more ∙ append_assoc (decimal p) (94 ∷ decimal n) (10 ∷ more)) in
    let by_rank : rank_line ++ more ≡ rank_part p n more =
    ap (λ (t : List ℕ). codes "rank " ++ t)
    (append_assoc (decimal n) (10 ∷ order_line) more ∙ ap (λ (t : List ℕ). decimal n ++ 10 ∷ t) by_order) in
    let by_class : class_line ++ more ≡ class_part p c n more =
    ap (λ (t : List ℕ). codes "class " ++ t)
    (append_assoc (decimal c) (10 ∷ rank_line) more ∙ ap (λ (t : List ℕ). decimal c ++ 10 ∷ t) by_rank) in
    ap (λ (t : List ℕ). codes "prime " ++ t)
    (append_assoc (decimal p) (10 ∷ class_line) more ∙ ap (λ (t : List ℕ). decimal p ++ 10 ∷ t) by_class)

pub head-same : (p c n q d m : ℕ) (more rest : List ℕ) → p < 1000 → c < 1000 → n < 1000 → q < 1000 → d < 1000 → m < 1000
    → text_of_lines (head_lines p c n) ++ more ≡ text_of_lines (head_lines q d m) ++ rest → (p ≡ q) × (n ≡ m) × (more ≡ rest)
head-same p c n q d m more rest a b e f g k h =
    let whole = sym (head_text p c n more) ∙ h ∙ head_text q d m rest in
    let prime =
    decimal-same 10 p q (class_part p c n more) (class_part q d m rest) (λ x y z. omega arith) a f (ap (λ (t : List ℕ). drop 6 t) whole) in
    let class =
    decimal-same 10 c d (rank_part p n more) (rank_part q m rest) (λ x y z. omega arith) b g (ap (λ (t : List ℕ). drop 6 t) prime.1) in
    let rank =
    decimal-same 10 n m (order_part p n more) (order_part q m rest) (λ x y z. omega arith) e k (ap (λ (t : List ℕ). drop 5 t) class.1) in
    let order =
    decimal-same 94 p q (decimal n ++ 10 ∷ more) (decimal m ++ 10 ∷ rest) (λ x y z. omega arith) a f
    (ap (λ (t : List ℕ). drop 6 t) rank.1) in
    let last = decimal-same 10 n m more rest (λ x y z. omega arith) e k order.1 in
    (prime.0, rank.0, last.1)
