-- Parts of rows: fronts and rests of sums and multiples, of zero rows, and of lists that are written part by part.
use Rattle.std.proofs.Common.{◌≡◌, ℕ, zero, suc, ◌+◌, ◌≤◌, List, [], ◌∷◌, ◌++◌, length, take, drop, refl, ap, sym, subst, ◌∙◌, arith}
use Rattle.std.proofs.lemmas.List.{take_all}
use Rattle.std.proofs.lemmas.Simd.{put_chunk_whole}
use lib.Lanes.{put_chunk}
use Rattle.fp_rows.specs.Rows.{add_rows, scale_row}
use Rattle.fp_rows.specs.Row.{IsZeroRow}

-- multiples
take-scale_row : (p k n : ℕ) (xs : List ℕ) → take n (scale_row p k xs) ≡ scale_row p k (take n xs)
take-scale_row p k zero xs = refl
take-scale_row p k (suc n) [] = refl
take-scale_row p k (suc n) (x ∷ xs) = ap (λ (l : List ℕ). scale_row p k (x ∷ []) ++ l) (take-scale_row p k n xs)

drop-scale_row : (p k n : ℕ) (xs : List ℕ) → drop n (scale_row p k xs) ≡ scale_row p k (drop n xs)
drop-scale_row p k zero xs = refl
drop-scale_row p k (suc n) [] = refl
drop-scale_row p k (suc n) (x ∷ xs) = drop-scale_row p k n xs

pub part-scale_row : (p k i n : ℕ) (xs : List ℕ) → take n (drop i (scale_row p k xs)) ≡ scale_row p k (take n (drop i xs))
part-scale_row p k i n xs = ap (take n) (drop-scale_row p k i xs) ∙ take-scale_row p k n (drop i xs)

-- sums
add_rows-nil : (p : ℕ) (xs : List ℕ) → add_rows p xs [] ≡ []
add_rows-nil p [] = refl
add_rows-nil p (x ∷ xs) = refl

take-add_rows : (p n : ℕ) (xs ys : List ℕ) → take n (add_rows p xs ys) ≡ add_rows p (take n xs) (take n ys)
take-add_rows p zero xs ys = refl
take-add_rows p (suc n) [] ys = refl
take-add_rows p (suc n) (x ∷ xs) [] = refl
take-add_rows p (suc n) (x ∷ xs) (y ∷ ys) = ap (λ (l : List ℕ). add_rows p (x ∷ []) (y ∷ []) ++ l) (take-add_rows p n xs ys)

drop-add_rows : (p n : ℕ) (xs ys : List ℕ) → drop n (add_rows p xs ys) ≡ add_rows p (drop n xs) (drop n ys)
drop-add_rows p zero xs ys = refl
drop-add_rows p (suc n) [] ys = refl
drop-add_rows p (suc n) (x ∷ xs) [] = sym (add_rows-nil p (drop n xs))
drop-add_rows p (suc n) (x ∷ xs) (y ∷ ys) = drop-add_rows p n xs ys

pub part-add_rows : (p i n : ℕ) (xs ys : List ℕ)
    → take n (drop i (add_rows p xs ys)) ≡ add_rows p (take n (drop i xs)) (take n (drop i ys))
part-add_rows p i n xs ys = ap (take n) (drop-add_rows p i xs ys) ∙ take-add_rows p n (drop i xs) (drop i ys)

-- the front of the new list and the rest of the old, with a part of the new one more
written_front : (ws xs : List ℕ) (n : ℕ) → length ws ≡ length xs → n ≤ length xs
    → put_chunk 0 xs (take n ws) ≡ take n ws ++ drop n xs
written_front [] [] zero e h = refl
written_front [] [] (suc n) e h = absurd (omega arith)
written_front [] (x ∷ xs) n e h = absurd (omega arith)
written_front (w ∷ ws) [] n e h = absurd (omega arith)
written_front (w ∷ ws) (x ∷ xs) zero e h = refl
written_front (w ∷ ws) (x ∷ xs) (suc n) e h = ap (λ (l : List ℕ). w ∷ l) (written_front ws xs n (omega arith) (omega arith))

pub written_part : (ws xs part : List ℕ) (i n m : ℕ) → length ws ≡ length xs → m ≡ i + n → m ≤ length xs
    → part ≡ take n (drop i ws) → put_chunk i (take i ws ++ drop i xs) part ≡ take m ws ++ drop m xs
written_part ws xs part zero n m e same h is =
    let k : n ≡ m = omega arith in
    ap (put_chunk 0 xs) is ∙ written_front ws xs n e (omega arith) ∙ ap (λ (j : ℕ). take j ws ++ drop j xs) k
written_part [] xs part (suc i) n m e same h is = absurd (omega arith)
written_part (w ∷ ws) [] part (suc i) n m e same h is = absurd (omega arith)
written_part (w ∷ ws) (x ∷ xs) part (suc i) n zero e same h is = absurd (omega arith)
written_part (w ∷ ws) (x ∷ xs) part (suc i) n (suc m) e same h is =
    ap (λ (l : List ℕ). w ∷ l) (written_part ws xs part i n m (omega arith) (omega arith) (omega arith) is)

pub part_not_written : (ws xs : List ℕ) (i n : ℕ) → length ws ≡ length xs → take n (drop i (take i ws ++ drop i xs)) ≡ take n (drop i xs)
part_not_written ws xs zero n e = refl
part_not_written [] [] (suc i) n e = refl
part_not_written [] (x ∷ xs) (suc i) n e = absurd (omega arith)
part_not_written (w ∷ ws) [] (suc i) n e = absurd (omega arith)
part_not_written (w ∷ ws) (x ∷ xs) (suc i) n e = part_not_written ws xs i n (omega arith)

length-written : (ws xs : List ℕ) (i : ℕ) → length ws ≡ length xs → length (take i ws ++ drop i xs) ≡ length ws
length-written ws xs zero e = sym e
length-written [] [] (suc i) e = refl
length-written [] (x ∷ xs) (suc i) e = absurd (omega arith)
length-written (w ∷ ws) [] (suc i) e = absurd (omega arith)
length-written (w ∷ ws) (x ∷ xs) (suc i) e = ap suc (length-written ws xs i (omega arith))

-- the last part, which overlaps with the front or meets it
pub written_last : (ws xs part : List ℕ) (i j n : ℕ) → length ws ≡ length xs → j + n ≡ length xs → j ≤ i
    → part ≡ take n (drop j ws) → put_chunk j (take i ws ++ drop i xs) part ≡ ws
written_last ws xs part i zero n e whole h is =
    let all : part ≡ ws = is ∙ take_all n ws (omega arith) in
    put_chunk_whole (take i ws ++ drop i xs) part (length-written ws xs i e ∙ ap length (sym all)) ∙ all
written_last [] [] part i (suc j) n e whole h is = absurd (omega arith)
written_last [] (x ∷ xs) part i (suc j) n e whole h is = absurd (omega arith)
written_last (w ∷ ws) [] part i (suc j) n e whole h is = absurd (omega arith)
written_last (w ∷ ws) (x ∷ xs) part zero (suc j) n e whole h is = absurd (omega arith)
written_last (w ∷ ws) (x ∷ xs) part (suc i) (suc j) n e whole h is =
    ap (λ (l : List ℕ). w ∷ l) (written_last ws xs part i j n (omega arith) (omega arith) (omega arith) is)

-- zero rows
pub IsZeroRow-take_more : (xs : List ℕ) (i n m : ℕ) → m ≡ i + n → IsZeroRow (take i xs) → IsZeroRow (take n (drop i xs))
    → IsZeroRow (take m xs)
IsZeroRow-take_more xs zero n m same h h' =
    let k : n ≡ m = omega arith in
    subst (λ (j : ℕ). IsZeroRow (take j xs)) k h'
IsZeroRow-take_more xs (suc i) n zero same h h' = tt
IsZeroRow-take_more [] (suc i) n (suc m) same h h' = tt
IsZeroRow-take_more (x ∷ xs) (suc i) n (suc m) same h h' = (h.0, IsZeroRow-take_more xs i n m (omega arith) h.1 h')

pub IsZeroRow-part : (n m : ℕ) (xs : List ℕ) → IsZeroRow xs → IsZeroRow (take m (drop n xs))
IsZeroRow-part zero zero xs h = tt
IsZeroRow-part zero (suc m) [] h = tt
IsZeroRow-part zero (suc m) (x ∷ xs) h = (h.0, IsZeroRow-part zero m xs h.1)
IsZeroRow-part (suc n) zero [] h = tt
IsZeroRow-part (suc n) (suc m) [] h = tt
IsZeroRow-part (suc n) m (x ∷ xs) h = IsZeroRow-part n m xs h.1

-- a front and a last part that overlap or meet
pub IsZeroRow-overlapped : (xs : List ℕ) (i j n : ℕ) → j + n ≡ length xs → j ≤ i
    → IsZeroRow (take i xs) → IsZeroRow (take n (drop j xs)) → IsZeroRow xs
IsZeroRow-overlapped xs i zero n whole h front part = subst IsZeroRow (take_all n xs (omega arith)) part
IsZeroRow-overlapped [] i (suc j) n whole h front part = tt
IsZeroRow-overlapped (x ∷ xs) zero (suc j) n whole h front part = absurd (omega arith)
IsZeroRow-overlapped (x ∷ xs) (suc i) (suc j) n whole h front part =
    (front.0, IsZeroRow-overlapped xs i j n (omega arith) (omega arith) front.1 part)
