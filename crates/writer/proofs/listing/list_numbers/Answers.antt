use Rattle.std.proofs.Common.{◌≡◌, ℕ, ◌+◌, ◌-◌, ◌*◌, ◌^◌, ◌<◌, ◌≤◌, min, List, [], ◌∷◌, ◌++◌, length, get_or, drop, vec_items, sym, ap, ◌∙◌, arith}
use Rattle.std.proofs.lemmas.List.{append_assoc, append-nil, drop_more, drop_all}
use Rattle.semantics.specs.Shapes.{size}
use Rattle.semantics.specs.Programs.{listed}
use Rattle.encoding.specs.declared.header.Header.{Header}
use Rattle.encoding.specs.ShapeOf.{shape_of}
use Rattle.encoding.specs.Format.{shape_at, number_at, array_at}
use Rattle.encoding.specs.Headers.{Heads}
use Rattle.encoding.proofs.Formats.{next_at_is}
use Rattle.encoding.proofs.Rows.{good_at_parts}
use Rattle.encoding.proofs.Listed.{length_listed, get_d_listed}
use Rattle.writer.specs.Digits.{hex16}
use Rattle.writer.specs.Listing.{gap, numbers_text}
use Rattle.writer.proofs.listing.list_numbers.Goals as goal

-- all numbers lie in the bytes
module _ (bs : List ℕ) (at : ℕ) (h : Header) (heads : Heads bs at h) where
  room : h.start + 8 * size (shape_of h.shape) ≤ length bs
  room =
      let there = (good_at_parts bs at heads.good).1 in
      omega (arith, next_at_is bs at, heads.starts, ap size heads.shaped)

  counted : (n : ℕ) → length bs < 2 ^ 64 → n ≡ min (size (shape_of h.shape)) (2 ^ 64 - 1) → n ≡ size (shape_of h.shape)
  counted n fits e = let all = room in omega arith

  number_there : (k : ℕ) → k < size (shape_of h.shape) → number_at bs (h.start + 8 * k) ≡ get_or (listed (array_at bs at)).numbers k 0
  number_there k low =
      let inside : k < size (shape_at bs at) = omega (arith, ap size heads.shaped) in
      ap (λ n. number_at bs (n + 8 * k)) heads.starts ∙ sym (get_d_listed bs at k inside)

-- one number more: its digits and what comes behind them
one_more : (row k x : ℕ) (out mid last rest ns : List ℕ) → mid ≡ out ++ hex16 x → last ≡ mid ++ gap row (k + 1) ∷ [] → ns ≡ x ∷ rest → last ++ numbers_text row (k + 1) rest ≡ out ++ numbers_text row k ns
unfolding numbers_text
one_more row k x out mid last rest ns p q r =
    let along : out ++ hex16 x ++ gap row (k + 1) ∷ [] ++ numbers_text row (k + 1) rest ≡ out ++ (hex16 x ++ gap row (k + 1) ∷ numbers_text row (k + 1) rest) = simp append_assoc in
    ap (λ xs. xs ++ numbers_text row (k + 1) rest) (q ∙ ap (λ xs. xs ++ gap row (k + 1) ∷ []) p) ∙ (along ∙ ap (λ xs. out ++ numbers_text row k xs) (sym r))

pub overflow_mul-k : goal.overflow_mul-k
overflow_mul-k c =
    let all = room c.args.bytes.now c.args.at c.args.head.now c.requires.heads in omega (arith, c.size-count.ensures)

pub overflow_add-head : goal.overflow_add-head
overflow_add-head c =
    let all = room c.args.bytes.now c.args.at c.args.head.now c.requires.heads in omega (arith, c.size-count.ensures)

pub unreachable-requires : goal.unreachable-requires
unreachable-requires c =
    let all = room c.args.bytes.now c.args.at c.args.head.now c.requires.heads in
    let short = c.in_default.ensures in omega (arith, c.size-count.ensures)

pub loop-k-preserved : goal.loop-k-preserved
loop-k-preserved c =
    let bs = c.args.bytes.now in
    let ns = (listed (array_at bs c.args.at)).numbers in
    let k = c.loop-k.k in
    let heads = c.requires.heads in
    let all = room bs c.args.at c.args.head.now heads in
    let low : k < size (shape_of c.args.head.now.shape) = omega (arith, c.size-count.ensures) in
    let inside : k < length ns = omega (arith, length_listed bs c.args.at, ap size heads.shaped) in
    let x = c.in-Some.ensures.1 ∙ number_there bs c.args.at c.args.head.now heads k low in
    let mid = c.in_ok-extend_from_slice.ensures.items ∙ ap (λ ds. vec_items c.loop-k.out ++ ds) (c.hex_digits.ensures ∙ ap hex16 x) in
    let last = c.in_ok-push.ensures.items ∙ ap (λ g. vec_items c.extend_from_slice.new.self ++ g ∷ []) c.gap_after.ensures in
    one_more c.row_of-row.result k (get_or ns k 0) (vec_items c.loop-k.out) (vec_items c.extend_from_slice.new.self) (vec_items c.push.new.self) (drop (k + 1) ns) (drop k ns) mid last (drop_more ns k 0 inside)
    ∙ c.loop-k.invariant

pub returns : goal.returns
unfolding numbers_text
returns c =
    let bs = c.args.bytes.now in
    let ns = (listed (array_at bs c.args.at)).numbers in
    let heads = c.requires.heads in
    let all = room bs c.args.at c.args.head.now heads in
    let past : length ns ≤ c.loop-k.k = omega (arith, c.size-count.ensures, length_listed bs c.args.at, ap size heads.shaped) in
    sym (append-nil (vec_items c.loop-k.out))
    ∙ (ap (λ xs. vec_items c.loop-k.out ++ numbers_text c.row_of-row.result c.loop-k.k xs) (sym (drop_all c.loop-k.k ns past))
    ∙ (c.loop-k.invariant ∙ ap (λ r. vec_items c.args.out.now ++ numbers_text r 0 ns) c.row_of-row.ensures))
