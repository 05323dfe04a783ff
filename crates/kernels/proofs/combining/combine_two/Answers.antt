use Rattle.std.proofs.Common.{ℕ, ◌<◌, length, sym, subst, arith}
use lib.Ieee.{nan}
use Rattle.numbers.specs.Operations.{binary64}
use Rattle.numbers.specs.Standing.{StandsFor}
use Rattle.kernels.specs.Blocks.{at}
use Rattle.kernels.specs.Operands.{Gives}
use Rattle.kernels.proofs.Turns.{set_below, set_behind}
use Rattle.kernels.proofs.combining.combine_two.Goals as goal

pub loop-k-preserved : goal.loop-k-preserved
loop-k-preserved g c =
    let k = c.loop-k.k in
    let l : k < length c.loop-k.out = omega arith in
    let old = c.args.out.now in
    let area = c.args.lent.area.now in
    let bytes = c.args.lent.bytes.now in
    let left = g.F.Feed.operand c.args.left in
    let right = g.G.Feed.operand c.args.right in
    let own = sym (c.loop-k.invariant.1 k (omega arith)) in (
      set_below nan (λ j x. (a b : ℕ) → Gives left area bytes j (at old j) a → Gives right area bytes j (at old j) b → StandsFor x (binary64.two g.O.OnTwo.name a b)) c.loop-k.out k c.apply.result l c.loop-k.invariant.0
          (λ a b u v. c.apply.ensures.on a b (c.get-x.ensures.on a (subst (λ x. Gives left area bytes k x a) own u)) (c.get-y.ensures.on b (subst (λ x. Gives right area bytes k x b) own v))),
      set_behind nan c.loop-k.out old k c.apply.result c.loop-k.invariant.1,
    )
