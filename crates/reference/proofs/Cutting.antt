-- Lists that are put together from pieces of another.
use Rattle.std.proofs.Common.{◌≡◌, ℕ, zero, suc, ◌+◌, ◌-◌, ◌<◌, ◌≤◌, List, [], ◌∷◌, ◌++◌, length, take, drop, set, sym, refl, ap, ◌∙◌, append_assoc, arith, length-append}
use Rattle.std.proofs.lemmas.List.{drop-take}
use Rattle.semantics.specs.Shapes.{without, put_in}

front : (ys zs : List ℕ) → take (length ys) (ys ++ zs) ≡ ys
front [] zs = refl
front (y ∷ ys) zs = ap (λ l. y ∷ l) (front ys zs)

-- two lists before a third
pub take_both : (xs ys zs : List ℕ) (n : ℕ) → n ≡ length xs + length ys → take n (xs ++ (ys ++ zs)) ≡ xs ++ ys
take_both xs ys zs n e =
    let all : n ≡ length (xs ++ ys) = omega (arith, length-append xs ys) in
    ap (take n) (sym (append_assoc xs ys zs)) ∙ (ap (λ k. take k ((xs ++ ys) ++ zs)) all ∙ front (xs ++ ys) zs)

-- all but the first k of those taken
pub drop_cut : (k n : ℕ) (xs : List ℕ) → k ≤ n → drop k (take n xs) ≡ take (n - k) (drop k xs)
drop_cut k n xs h = let all : n ≡ k + (n - k) = omega arith in ap (λ m. drop k (take m xs)) all ∙ drop-take k (n - k) xs

-- one of those taken left out
pub without_cut : (a n : ℕ) (xs : List ℕ) → a < n → n ≤ length xs → without a (take n xs) ≡ take a xs ++ take (n - (a + 1)) (drop (a + 1) xs)
unfolding without
without_cut a zero xs h l = absurd (omega arith)
without_cut a (suc n) [] h l = absurd (omega arith)
without_cut zero (suc n) (x ∷ xs) h l = ap (λ k. take k xs) (omega arith)
without_cut (suc a) (suc n) (x ∷ xs) h l =
    let more = without_cut a n xs (omega arith) (omega arith) in
    let one : a + 1 ≡ suc a = omega arith in
    let two : suc a + 1 ≡ suc (suc a) = omega arith in
    let few : n - suc a ≡ suc n - suc (suc a) = omega arith in
    ap (λ l. x ∷ l) (more ∙ ap (λ k. take a xs ++ take (n - k) (drop k xs)) one ∙ ap (λ k. take a xs ++ take k (drop (suc a) xs)) few)
    ∙ ap (λ k. x ∷ take a xs ++ take (suc n - k) (drop k (x ∷ xs))) (sym two)

-- one put among those taken
pub put_cut : (a n j : ℕ) (xs : List ℕ) → a ≤ n → n < length xs → put_in a j (take n xs) ≡ take (a + 1) (set xs a j) ++ take (n - a) (drop a xs)
unfolding put_in
put_cut a n j [] h l = absurd (omega arith)
put_cut zero n j (x ∷ xs) h l = ap (λ k. j ∷ take k (x ∷ xs)) (omega arith)
put_cut (suc a) zero j (x ∷ xs) h l = absurd (omega arith)
put_cut (suc a) (suc n) j (x ∷ xs) h l =
    let more = put_cut a n j xs (omega arith) (omega arith) in
    let two : suc (a + 1) ≡ suc a + 1 = omega arith in
    let few : n - a ≡ suc n - suc a = omega arith in
    ap (λ l. x ∷ l) (more ∙ ap (λ k. take (a + 1) (set xs a j) ++ take k (drop a xs)) few)
    ∙ ap (λ k. take k (x ∷ set xs a j) ++ take (suc n - suc a) (drop a xs)) two
