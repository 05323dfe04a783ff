-- What was written is read back as itself: one array behind any bytes, then a row of them.
use Rattle.std.proofs.Common.{◌≡◌, ℕ, ◌+◌, ◌*◌, ◌<◌, ◌≤◌, true, List, [], ◌∷◌, ◌++◌, map, length, get_or, sym, refl, ap, ◌∙◌, subst, add-zero, arith, length-append}
use Rattle.std.specs.List.{flat_map}
use Rattle.std.proofs.lemmas.List.{append_assoc, append-nil, take_all}
use Rattle.semantics.specs.Shapes.{size}
use Rattle.semantics.specs.Programs.{Shown, listed}
use Rattle.semantics.proofs.Listings.{numbers_at_is}
use Rattle.semantics.proofs.Places.{flat_unflat}
use Rattle.numbers.specs.Binary64.{canonical_bits}
use Rattle.encoding.specs.Words.{bytes4, bytes8}
use Rattle.encoding.specs.Format.{rank_at, words_at, shape_at, start_at, next_at, good_at, number_at, array_at, Row, behind, row_at, offsets, inputs_of}
use Rattle.encoding.specs.Writing.{head_bytes, number_bytes, array_bytes}
use Rattle.encoding.specs.ReadBack.{Writable, AllWritable, none, more, shown_bytes, ReadBack}
use Rattle.encoding.proofs.Formats.{rank_at_is, start_at_is, next_at_is, good_at_from}
use Rattle.encoding.proofs.Rows.{row_at_good, row_at_bad, not_good_past, offsets_is, stop_is}
use Rattle.encoding.proofs.Writings.{length_bytes8, length_head_bytes, length_array_bytes}
use Rattle.encoding.proofs.Lying.{Lies, lies_left, lies_right, lies_behind, lies_joined, word8_lies, words_at_lies}

shown_same : {s t : List ℕ} {ms ns : List ℕ} → s ≡ t → ms ≡ ns → ◌≡◌ {A = Shown ℕ} (record { shape = s; numbers = ms }) (record { shape = t; numbers = ns })
shown_same p q = cc

module _ (bs : List ℕ) (i : ℕ) (h : Shown ℕ) (w : Writable h) (lies : Lies bs i (array_bytes h.shape h.numbers)) where
  head_lies : Lies bs i (head_bytes h.shape)
  unfolding array_bytes
  head_lies = lies_left bs i (head_bytes h.shape) (number_bytes h.numbers) lies

  rank_read : rank_at bs i ≡ length h.shape
  unfolding head_bytes
  rank_read = rank_at_is bs i ∙ (ap (λ n. get_or bs n 0) (sym (add-zero i)) ∙ head_lies.byte 0 (omega arith))

  pub shape_read : shape_at bs i ≡ h.shape
  unfolding shape_at head_bytes
  shape_read =
      ap (words_at bs (i + 1)) rank_read
      ∙ (words_at_lies bs (i + 1) h.shape w.short (lies_right bs i (length h.shape ∷ []) (flat_map bytes4 h.shape) head_lies) (length h.shape) (omega arith)
      ∙ take_all (length h.shape) h.shape (omega arith))

  start_read : start_at bs i ≡ i + length (head_bytes h.shape)
  start_read = omega (arith, start_at_is bs i, rank_read, length_head_bytes h.shape)

  pub next_read : next_at bs i ≡ i + length (array_bytes h.shape h.numbers)
  next_read = omega (arith, next_at_is bs i, start_read, length_head_bytes h.shape, length_array_bytes h.shape h.numbers, w.many, ap size shape_read)

  number_read : (k : ℕ) → k < length h.numbers → number_at bs (start_at bs i + 8 * k) ≡ get_or h.numbers k 0
  unfolding number_at array_bytes number_bytes
  number_read k low =
      let numbers-lie = subst (λ n. Lies bs n (flat_map bytes8 h.numbers)) (sym start_read) (lies_right bs i (head_bytes h.shape) (number_bytes h.numbers) lies) in
      let word = word8_lies bs (start_at bs i + 8 * k) (get_or h.numbers k 0) (w.plain k low).below (lies_joined bytes8 8 length_bytes8 bs (start_at bs i) h.numbers k low numbers-lie) in
      ap canonical_bits word ∙ (w.plain k low).plain

  pub listed_read : listed (array_at bs i) ≡ h
  unfolding listed array_at
  listed_read =
      let a = array_at bs i in
      let many : length h.numbers ≡ size a.shape = w.many ∙ ap size (sym shape_read) in
      let numbers = numbers_at_is a h.numbers 0 many
      (λ k low.
      let inside : k < size a.shape = omega arith in
      sym (number_read k low) ∙ ap (λ n. number_at bs (start_at bs i + 8 * n)) (sym (flat_unflat a.shape k inside)))
      in
      shown_same shape_read numbers

  pub good_read : i + length (array_bytes h.shape h.numbers) ≤ length bs → good_at bs i ≡ true
  good_read fits = good_at_from bs i (omega (arith, rank_read, w.few)) (omega (arith, next_read))

-- a row of them, behind any bytes
record Read (bs : List ℕ) (i : ℕ) (hs : List (Shown ℕ)) : Type 0 where
  whole : (row_at bs i).stop ≡ length bs
  same : map (λ k. listed (array_at bs k)) (row_at bs i).offsets ≡ hs

read_none : (bs : List ℕ) (i : ℕ) → i ≡ length bs → Read bs i []
read_none bs i e =
    let no_more = row_at_bad bs i (not_good_past bs i (omega arith)) in
    record { whole = ap (λ (r : Row). r.stop) no_more ∙ e; same = ap (λ (r : Row). map (λ k. listed (array_at bs k)) r.offsets) no_more }

read_more : (bs : List ℕ) (i : ℕ) (h : Shown ℕ) (hs : List (Shown ℕ)) → Writable h → Lies bs i (array_bytes h.shape h.numbers) →
    i + length (array_bytes h.shape h.numbers) ≤ length bs → Read bs (i + length (array_bytes h.shape h.numbers)) hs → Read bs i (h ∷ hs)
unfolding behind
read_more bs i h hs w lies fits rest =
    let one : row_at bs i ≡ behind i (row_at bs (i + length (array_bytes h.shape h.numbers)))
    = row_at_good bs i (good_read bs i h w lies fits) ∙ ap (λ n. behind i (row_at bs n)) (next_read bs i h w lies)
    in
    record {
      whole = ap (λ (r : Row). r.stop) one ∙ rest.whole;
      same = ap (λ (r : Row). map (λ k. listed (array_at bs k)) r.offsets) one ∙ (ap (λ x. x ∷ map (λ k. listed (array_at bs k)) (row_at bs (i + length (array_bytes h.shape h.numbers))).offsets) (listed_read bs i h w lies) ∙ ap (λ xs. h ∷ xs) rest.same);
    }

rows_read : (bs pre : List ℕ) (hs : List (Shown ℕ)) → AllWritable hs → bs ≡ pre ++ shown_bytes hs → Read bs (length pre) hs
unfolding shown_bytes
rows_read bs pre [] none e = read_none bs (length pre) (ap length (sym (append-nil pre)) ∙ ap length (sym e))
rows_read bs pre (h ∷ hs) (more w ws) e =
    let one = array_bytes h.shape h.numbers in
    let lies = subst (λ xs. Lies xs (length pre) one) (sym e) (lies_behind pre one (shown_bytes hs)) in
    let behind-it = rows_read bs (pre ++ one) hs ws (e ∙ sym (append_assoc pre one (shown_bytes hs))) in
    read_more bs (length pre) h hs w lies
    (omega (arith, ap length e, length-append pre (one ++ shown_bytes hs), length-append one (shown_bytes hs)))
    (subst (λ n. Read bs n hs) (length-append pre one) behind-it)

map_map : {A B C : Type 0} (f : B → C) (g : A → B) (xs : List A) → map f (map g xs) ≡ map (λ x. f (g x)) xs
map_map f g [] = refl
map_map f g (x ∷ xs) = ap (λ ys. f (g x) ∷ ys) (map_map f g xs)

pub read_back : ReadBack
unfolding inputs_of
read_back hs ws =
    let bs = shown_bytes hs in
    let read = rows_read bs [] hs ws refl in (
      sym (stop_is bs) ∙ read.whole,
      map_map listed (array_at bs) (offsets bs) ∙ (ap (map (λ k. listed (array_at bs k))) (sym (offsets_is bs)) ∙ read.same),
    )
