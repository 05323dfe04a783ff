use Rattle.std.proofs.Common.{◌≡◌, ℕ, ◌+◌, ◌*◌, ◌≤◌, List, length, ap, ◌∙◌, rules, arith}
use Rattle.std.proofs.lemmas.List.{length-take-le}
use Rattle.encoding.specs.declared.shape.Shape.{Shape}
use Rattle.encoding.specs.ShapeOf.{shape_of}
use Rattle.encoding.specs.Writing.{head_bytes, number_bytes, array_bytes}
use Rattle.encoding.proofs.Writings.{writes_none, writes_behind, length_head_bytes, length_array_bytes}
use Rattle.encoding.proofs.writing.write_array.Goals as goal

-- the sizes of the head and of the whole, by rank and count
module _ (s : Shape) (ns : List ℕ) (few : s.rank ≤ length s.lens) where
  head_size : length (head_bytes (shape_of s)) ≡ 1 + 4 * s.rank
  head_size = length_head_bytes (shape_of s) ∙ ap (λ n. 1 + 4 * n) (length-take-le s.rank s.lens few)

  array_size : length (array_bytes (shape_of s) ns) ≡ 1 + 4 * s.rank + 8 * length ns
  array_size = length_array_bytes (shape_of s) ns ∙ ap (λ n. 1 + 4 * n + 8 * length ns) (length-take-le s.rank s.lens few)

pub returns : goal.returns
unfolding array_bytes
returns c =
    let fits = c.in_ok-end_of.ensures in
    let s = c.args.shape in
    let ns = c.args.numbers.now in
    let few : s.rank ≤ length s.lens = omega arith in
    let size = array_size s ns few in
    writes_behind c.args.room.now c.write_head.new.room c.write_numbers.new.room (head_bytes (shape_of s)) (number_bytes ns) c.args.at c.in_ok-start.start c.write_numbers.result c.in_ok-start.ensures c.write_numbers.ensures (omega arith)

pub returns-in_err-end_of : goal.returns-in_err-end_of
returns-in_err-end_of c =
    let small = c.in_err-end_of.ensures in
    let few : c.args.shape.rank ≤ length c.args.shape.lens = omega arith in
    let size = array_size c.args.shape c.args.numbers.now few in writes_none c.args.room.now _ c.args.at (search rules) (omega arith)

pub returns-in_err-start : goal.returns-in_err-start
returns-in_err-start c =
    let fits = c.in_ok-end_of.ensures in
    let small = c.in_err-start.ensures in
    let few : c.args.shape.rank ≤ length c.args.shape.lens = omega arith in
    let begins = head_size c.args.shape c.args.numbers.now few in absurd (omega arith)
