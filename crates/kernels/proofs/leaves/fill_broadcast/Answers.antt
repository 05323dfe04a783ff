use Rattle.std.proofs.Common.{◌+◌, ◌≤◌, length, sym, ◌∙◌, subst, arith}
use Rattle.semantics.specs.Shapes.{size}
use Rattle.semantics.proofs.Inside.{same_true}
use Rattle.kernels.proofs.Feeding.{own_filled, broadcast_filled, single_there, single_filled}
use Rattle.kernels.proofs.Readings.{stands_to}
use Rattle.kernels.proofs.leaves.fill_broadcast.Goals as goal

pub returns-then-eq : goal.returns-then-eq
returns-then-eq c a h = own_filled h (same_true _ _ (sym c.eq.ensures ∙ c.if-eq.true)) (omega arith) c.fill_view.ensures

pub fill_view-requires-clause-within : goal.fill_view-requires-clause-within
fill_view-requires-clause-within c = subst (λ w. c.args.first + length c.args.out.now ≤ size w) (sym (same_true _ _ (sym c.eq.ensures ∙ c.if-eq.true))) c.requires.within

pub number_at-x-requires : goal.number_at-x-requires
number_at-x-requires c = single_there c.args.env.now.lent.area.now c.args.env.now.lent.bytes.now c.args.view (omega arith) c.requires.good c.requires.there

pub returns-then-view-eq0 : goal.returns-then-view-eq0
returns-then-view-eq0 c a h = single_filled h (omega arith) (c.fill_with.ensures _ (stands_to c.number_at-x.ensures c.float_of.ensures))

pub returns : goal.returns
returns c a h = broadcast_filled (c.broadcast-wide.ensures.holds _ _ a h) (omega arith) c.fill_view-2.ensures
