use Rattle.std.proofs.Common.{◌≡◌, ℕ, set, sym, ap, ◌∙◌, arith}
use Rattle.semantics.specs.Arrays.{folded}
use Rattle.numbers.specs.Operations.{binary64}
use Rattle.reference.specs.ArrayOf.{array_of}
use Rattle.reference.specs.IndicesOf.{indices_of}
use Rattle.reference.proofs.Axes.{folded_more}
use Rattle.reference.proofs.reduce.accumulate.Goals as goal

pub returns-then-count-eq0 : goal.returns-then-count-eq0
unfolding folded
returns-then-count-eq0 c =
    let none : 0 ≡ c.args.count = omega arith in
    c.empty_fold.ensures ∙ ap (folded (binary64.two c.args.op) (binary64.empty c.args.op) (λ j. (array_of c.args.array.now).at (set (indices_of c.args.place.now) c.args.axis j))) none

pub loop-j-init : goal.loop-j-init
unfolding folded
loop-j-init c = c.get-first.ensures ∙ ap (λ is. (array_of c.args.array.now).at is) c.with_index.ensures

pub loop-j-preserved : goal.loop-j-preserved
loop-j-preserved c =
    let f = binary64.two c.args.op in
    let e = binary64.empty c.args.op in
    let g : ℕ → ℕ = λ j. (array_of c.args.array.now).at (set (indices_of c.args.place.now) c.args.axis j) in
    let number = c.get-number.ensures ∙ ap (λ is. (array_of c.args.array.now).at is) c.with_index-in-loop-j.ensures in
    c.binary-next.ensures
    ∙ (ap (λ x. f x c.get-number.result) c.loop-j.invariant ∙ (ap (λ x. f (folded f e g c.loop-j.j) x) number ∙ sym (folded_more f e g c.loop-j.j (omega arith))))
