use Rattle.std.proofs.Common.{◌≡◌, ℕ, ◌+◌, ◌*◌, ◌≤◌, List, length, refl, ap, ◌∙◌, arith}
use Rattle.std.proofs.lemmas.List.{length-take-le}
use Rattle.semantics.specs.Shapes.{size, up_to}
use Rattle.semantics.specs.Programs.{numbers_at}
use Rattle.encoding.specs.declared.shape.Shape.{Shape}
use Rattle.encoding.specs.ShapeOf.{shape_of}
use Rattle.encoding.specs.Format.{inputs_of}
use Rattle.encoding.specs.Words.{written}
use Rattle.encoding.specs.Writing.{head_bytes, number_bytes, array_bytes}
use Rattle.encoding.proofs.Writings.{written_written, length_written, length_head_bytes, length_array_bytes}
use Rattle.kernels.specs.Filling.{tree_array}
use Rattle.semantics.proofs.Listings.{length_numbers_at}
use Rattle.runtime.proofs.output.show_tree.Goals as goal

head_size : (s : Shape) → s.rank ≤ length s.lens → length (head_bytes (shape_of s)) ≡ 1 + 4 * s.rank
head_size s few = length_head_bytes (shape_of s) ∙ ap (λ n. 1 + 4 * n) (length-take-le s.rank s.lens few)

array_size : (s : Shape) (ns : List ℕ) → s.rank ≤ length s.lens → length (array_bytes (shape_of s) ns) ≡ 1 + 4 * s.rank + 8 * length ns
array_size s ns few = length_array_bytes (shape_of s) ns ∙ ap (λ n. 1 + 4 * n + 8 * length ns) (length-take-le s.rank s.lens few)

pub returns-then-bytes-room : goal.returns-then-bytes-room
returns-then-bytes-room c =
    let s = c.args.env.now.shape in
    let few : s.rank ≤ length s.lens = omega arith in
    record {
      on = λ q.
          let a = tree_array (inputs_of c.args.env.now.lent.bytes.now) q.names q.expr (shape_of s) in
          (omega (arith, array_size s (numbers_at a (up_to 0 (size (shape_of s)))) few, length_numbers_at a 0 (size (shape_of s))), refl);
    }

pub unreachable-requires : goal.unreachable-requires
unreachable-requires c =
    let s = c.args.env.now.shape in
    let few : s.rank ≤ length s.lens = omega arith in
    omega (arith, c.in_default.ensures, head_size s few)

pub show_with-requires : goal.show_with-requires
show_with-requires c =
    let s = c.args.env.now.shape in
    let few : s.rank ≤ length s.lens = omega arith in
    let head = c.in-Some.ensures in
    let type_size = head_size s few in
    let long = length_written c.args.room.now (head_bytes (shape_of s)) c.args.shown c.requires.behind (omega arith) in
    record { ready = c.requires.ready; shallow = c.requires.shallow; fits = omega (arith, ap length head.2); scratch = c.requires.scratch }

pub returns : goal.returns
unfolding array_bytes
returns c =
    let s = c.args.env.now.shape in
    let few : s.rank ≤ length s.lens = omega arith in
    let head = c.in-Some.ensures in
    let type_size = head_size s few in
    record {
      on = λ q.
          let a = tree_array (inputs_of c.args.env.now.lent.bytes.now) q.names q.expr (shape_of s) in
          let ns = numbers_at a (up_to 0 (size (shape_of s))) in
          let all = array_size s ns few in
          let many = length_numbers_at a 0 (size (shape_of s)) in (
            omega arith,
            omega arith,
            c.show_with.ensures.shown q
                ∙ (ap (λ r. written r c.in-Some.start (number_bytes ns)) head.2
                ∙ written_written c.args.room.now (head_bytes (shape_of s)) c.args.shown c.requires.behind (number_bytes ns) c.in-Some.start head.0),
          );
    }
