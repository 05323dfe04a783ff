use Rattle.std.proofs.Common.{ℕ, ◌<◌, ◌≤◌, List, length, get_or, set, sym, ap, ◌∙◌, subst, arith}
use Rattle.semantics.specs.Shapes.{In, put_in}
use Rattle.semantics.specs.Arrays.{folded}
use Rattle.semantics.proofs.Places.{inside_in, in_inside, length_inside}
use Rattle.semantics.proofs.Inside.{inside_put_in}
use Rattle.numbers.specs.Operations.{binary64}
use Rattle.encoding.specs.ShapeOf.{shape_of}
use Rattle.reference.specs.ArrayOf.{array_of}
use Rattle.reference.specs.IndicesOf.{indices_of}
use Rattle.reference.proofs.Axes.{length_without, length_put_in, set_put_in, folded_same}
use Rattle.reference.proofs.Measures.{shape_few}
use Rattle.reference.proofs.reduce.ReducedSource.number.Goals as goal

pub insert_index-first-requires : goal.insert_index-first-requires
insert_index-first-requires c =
    let s = c.args.self.now.array.now.shape in
    let x = c.args.self.now.axis in
    let l = length_inside (inside_in _ _ c.requires.1) in
    let m = length_without x (shape_of s) c.requires.0 in
    let few = shape_few s in
    record { there = omega (arith, c.requires.0); few = omega (arith, c.requires.0) }

pub accumulate-requires : goal.accumulate-requires
accumulate-requires c =
    let s = shape_of c.args.self.now.array.now.shape in
    let x = c.args.self.now.axis in
    let is = indices_of c.args.place.now in
    let i = inside_in _ _ c.requires.1 in
    let l = length_inside i in
    let m = length_without x s c.requires.0 in
    let there : x ≤ length is = omega (arith, c.requires.0) in
    let n = ap length c.insert_index-first.ensures ∙ length_put_in x 0 is there in
    record {
      few = omega arith;
      there = omega arith;
      inside = λ j h.
          let put = ap (λ ks. set ks x j) c.insert_index-first.ensures ∙ set_put_in x 0 j is there in
          let low : j < get_or s x 0 = omega arith in
          subst (λ ks. In s ks) (sym put) (in_inside (inside_put_in x j s is low i));
    }

pub returns : goal.returns
returns c =
    let s = shape_of c.args.self.now.array.now.shape in
    let x = c.args.self.now.axis in
    let is = indices_of c.args.place.now in
    let f = binary64.two c.args.self.now.op in
    let e = binary64.empty c.args.self.now.op in
    let at : List ℕ → ℕ = λ ks. (array_of c.args.self.now.array.now).at ks in
    let l = length_inside (inside_in _ _ c.requires.1) in
    let m = length_without x s c.requires.0 in
    let there : x ≤ length is = omega (arith, c.requires.0) in
    c.accumulate.ensures
    ∙ (folded_same f e (λ j. at (set (indices_of c.insert_index-first.result) x j)) (λ j. at (put_in x j is)) (λ j. ap (λ ks. at (set ks x j)) c.insert_index-first.ensures ∙ ap at (set_put_in x 0 j is there)) c.from.result
    ∙ ap (folded f e (λ j. at (put_in x j is))) (c.from.ensures ∙ c.axis_length-len.ensures))
