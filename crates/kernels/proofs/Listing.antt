-- The numbers of an array, listed block after block.
use Rattle.std.proofs.Common.{◌≡◌, ℕ, zero, suc, ◌+◌, ◌*◌, ◌<◌, ◌≤◌, List, [], ◌∷◌, ◌++◌, length, get_or, sym, refl, ap, ◌∙◌, ap₂, append_assoc, add-zero, zero-add, arith}
use Rattle.std.specs.List.{flat_map}
use Rattle.semantics.specs.Shapes.{unflat, up_to}
use Rattle.semantics.specs.Arrays.{Array}
use Rattle.semantics.specs.Programs.{numbers_at}
use Rattle.encoding.specs.Words.{bytes8, written}
use Rattle.encoding.specs.Writing.{number_bytes}
use Rattle.encoding.proofs.Writings.{written_none, written_written, length_number_bytes}

-- a list that has the numbers from i on
list_is : (a : Array ℕ) (i : ℕ) (xs : List ℕ) → ((j : ℕ) → j < length xs → get_or xs j 0 ≡ a.at (unflat a.shape (i + j))) → xs ≡ numbers_at a (up_to i (length xs))
unfolding numbers_at up_to
list_is a i [] h = refl
list_is a i (x ∷ xs) h =
    ap₂ (λ y ys. y ∷ ys) (h 0 (omega arith) ∙ ap (λ n. a.at (unflat a.shape n)) (add-zero i))
    (list_is a (suc i) xs (λ j l. h (suc j) (omega arith) ∙ ap (λ n. a.at (unflat a.shape n)) (omega arith)))

list_more : (a : Array ℕ) (i n m : ℕ) → numbers_at a (up_to i (n + m)) ≡ numbers_at a (up_to i n) ++ numbers_at a (up_to (i + n) m)
unfolding numbers_at up_to
list_more a i zero m = ap₂ (λ k l. numbers_at a (up_to k l)) (sym (add-zero i)) (zero-add m)
list_more a i (suc n) m =
    let same : suc n + m ≡ suc (n + m) = omega arith in
    let next : suc i + n ≡ i + suc n = omega arith in
    ap (λ k. numbers_at a (up_to i k)) same
    ∙ ap (λ v. a.at (unflat a.shape i) ∷ v) (list_more a (suc i) n m ∙ ap (λ k. numbers_at a (up_to (suc i) n) ++ numbers_at a (up_to k m)) next)

length_list : (a : Array ℕ) (i n : ℕ) → length (numbers_at a (up_to i n)) ≡ n
unfolding numbers_at up_to
length_list a i zero = refl
length_list a i (suc n) = ap suc (length_list a (suc i) n)

bytes_append : (xs ys : List ℕ) → number_bytes (xs ++ ys) ≡ number_bytes xs ++ number_bytes ys
unfolding number_bytes
bytes_append [] ys = refl
bytes_append (x ∷ xs) ys = ap (λ v. bytes8 x ++ v) (bytes_append xs ys) ∙ sym (append_assoc (bytes8 x) (flat_map bytes8 xs) (flat_map bytes8 ys))

pub shown_none : (old : List ℕ) (at : ℕ) (a : Array ℕ) → old ≡ written old at (number_bytes (numbers_at a (up_to 0 0)))
unfolding number_bytes numbers_at up_to
shown_none old at a = sym (written_none old at)

pub shown_more : (old room new : List ℕ) (at done : ℕ) (a : Array ℕ) (xs : List ℕ) → at ≤ length old → room ≡ written old at (number_bytes (numbers_at a (up_to 0 done))) →
    new ≡ written room (at + 8 * done) (number_bytes xs) → ((j : ℕ) → j < length xs → get_or xs j 0 ≡ a.at (unflat a.shape (done + j))) → new ≡ written old at (number_bytes (numbers_at a (up_to 0 (done + length xs))))
shown_more old room new at done a xs there before after each =
    let ws = number_bytes (numbers_at a (up_to 0 done)) in
    let long : at + 8 * done ≡ at + length ws = omega (arith, length_number_bytes (numbers_at a (up_to 0 done)), length_list a 0 done) in
    after
    ∙ (ap (λ r. written r (at + 8 * done) (number_bytes xs)) before
    ∙ (written_written old ws at there (number_bytes xs) (at + 8 * done) long
    ∙ ap (written old at)
    (sym (bytes_append (numbers_at a (up_to 0 done)) xs)
    ∙ ap number_bytes (ap (λ v. numbers_at a (up_to 0 done) ++ v) (list_is a done xs each ∙ ap (λ k. numbers_at a (up_to k (length xs))) (sym (zero-add done))) ∙ sym (list_more a 0 done (length xs))))))
