-- Bytes that lie in others at an index, and the words that they are.
use Rattle.std.proofs.Common.{◌≡◌, ℕ, zero, suc, ◌+◌, ◌*◌, ◌/◌, ◌%◌, ◌^◌, ◌<◌, ◌≤◌, List, [], ◌∷◌, ◌++◌, length, get_or, take, sym, ap, ◌∙◌, subst, add-zero, add_assoc, mod-eq_of_lt, mul-zero, mul-suc, add-one, arith, length-append}
use native.Mathlib.Nat.{div-div-eq-div-mul}
use Rattle.std.specs.List.{flat_map}
use Rattle.std.proofs.lemmas.List.{get_or_append_left, get_or-append-add, take_more}
use Rattle.encoding.specs.Words.{word4, word8, bytes4, bytes8}
use Rattle.encoding.specs.Format.{words_at}
use Rattle.encoding.proofs.Formats.{words_at_none, words_at_more}
use Rattle.encoding.proofs.Writings.{length_bytes4}

pub record Lies (bs : List ℕ) (i : ℕ) (ws : List ℕ) : Type 0 where
  pub byte : (k : ℕ) → k < length ws → get_or bs (i + k) 0 ≡ get_or ws k 0

pub lies_left : (bs : List ℕ) (i : ℕ) (xs ys : List ℕ) → Lies bs i (xs ++ ys) → Lies bs i xs
lies_left bs i xs ys l =
    record { byte = λ k h. l.byte k (omega (arith, length-append xs ys)) ∙ get_or_append_left xs ys 0 k h }

pub lies_right : (bs : List ℕ) (i : ℕ) (xs ys : List ℕ) → Lies bs i (xs ++ ys) → Lies bs (i + length xs) ys
lies_right bs i xs ys l =
    record { byte = λ k h. ap (λ n. get_or bs n 0) (add_assoc i (length xs) k) ∙ (l.byte (length xs + k) (omega (arith, length-append xs ys)) ∙ get_or-append-add xs ys k 0) }

pub lies_behind : (pre ws rest : List ℕ) → Lies (pre ++ (ws ++ rest)) (length pre) ws
lies_behind pre ws rest = record { byte = λ k h. get_or-append-add pre (ws ++ rest) k 0 ∙ get_or_append_left ws rest 0 k h }

-- word k of words that lie one after another
pub lies_joined : (f : ℕ → List ℕ) (w : ℕ) → ((x : ℕ) → length (f x) ≡ w) → (bs : List ℕ) (i : ℕ) (xs : List ℕ) (k : ℕ) → k < length xs → Lies bs i (flat_map f xs) → Lies bs (i + w * k) (f (get_or xs k 0))
lies_joined f w wide bs i [] k h l = absurd (omega arith)
lies_joined f w wide bs i (x ∷ xs) zero h l =
    let same : i ≡ i + w * 0 = sym (add-zero i) ∙ ap (λ n. i + n) (sym (mul-zero w)) in
    subst (λ n. Lies bs n (f x)) same (lies_left bs i (f x) (flat_map f xs) l)
lies_joined f w wide bs i (x ∷ xs) (suc k) h l =
    let same : i + length (f x) + w * k ≡ i + w * suc k = omega (arith, wide x, mul-suc w k) in
    subst (λ n. Lies bs n (f (get_or xs k 0))) same (lies_joined f w wide bs (i + length (f x)) xs k (omega arith) (lies_right bs i (f x) (flat_map f xs) l))

pub word4_lies : (bs : List ℕ) (i x : ℕ) → x < 2 ^ 32 → Lies bs i (bytes4 x) → word4 bs i ≡ x
unfolding word4 bytes4
word4_lies bs i x small l =
    let first : get_or bs i 0 ≡ x % 256 = ap (λ n. get_or bs n 0) (sym (add-zero i)) ∙ l.byte 0 (omega arith) in
    let top : x / 16777216 < 256 = omega arith in
    let last : x / 16777216 % 256 ≡ x / 16777216 = mod-eq_of_lt top in
    omega (arith, l.byte 1 (omega arith), l.byte 2 (omega arith), l.byte 3 (omega arith), div-div-eq-div-mul x 256 256, div-div-eq-div-mul x 65536 256)

pub word8_lies : (bs : List ℕ) (i x : ℕ) → x < 2 ^ 64 → Lies bs i (bytes8 x) → word8 bs i ≡ x
unfolding word8 bytes8
word8_lies bs i x small l =
    let first : get_or bs i 0 ≡ x % 256 = ap (λ n. get_or bs n 0) (sym (add-zero i)) ∙ l.byte 0 (omega arith) in
    omega (
      arith,
      l.byte 1 (omega arith),
      l.byte 2 (omega arith),
      l.byte 3 (omega arith),
      l.byte 4 (omega arith),
      l.byte 5 (omega arith),
      l.byte 6 (omega arith),
      l.byte 7 (omega arith),
      div-div-eq-div-mul x 256 256,
      div-div-eq-div-mul x 65536 256,
      div-div-eq-div-mul x 16777216 256,
      div-div-eq-div-mul x 4294967296 256,
      div-div-eq-div-mul x 1099511627776 256,
      div-div-eq-div-mul x 281474976710656 256,
    )

-- lengths that were written, as they are read
pub words_at_lies : (bs : List ℕ) (i : ℕ) (xs : List ℕ) → ((k : ℕ) → k < length xs → get_or xs k 0 < 2 ^ 32) → Lies bs i (flat_map bytes4 xs) → (k : ℕ) → k ≤ length xs → words_at bs i k ≡ take k xs
words_at_lies bs i xs short l zero h = words_at_none bs i
words_at_lies bs i xs short l (suc k) h =
    let low : k < length xs = omega arith in
    let word = word4_lies bs (i + 4 * k) (get_or xs k 0) (short k low) (lies_joined bytes4 4 length_bytes4 bs i xs k low l) in
    let before = words_at_lies bs i xs short l k (omega arith) in
    ap (words_at bs i) (sym (add-one k))
    ∙ (words_at_more bs i k ∙ (ap (λ w. words_at bs i k ++ w ∷ []) word ∙ (ap (λ ys. ys ++ get_or xs k 0 ∷ []) before ∙ (sym (take_more xs k 0 low) ∙ ap (λ n. take n xs) (add-one k)))))
