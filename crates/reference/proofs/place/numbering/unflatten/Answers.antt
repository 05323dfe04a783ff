use Rattle.std.proofs.Common.{◌≡◌, ◌+◌, ◌-◌, ◌<◌, ◌≤◌, length, get_or, mod-lt, arith, length-set, rules}
use Rattle.reference.proofs.Numbering.{length_some, rest_below, unflat_more, unflat_all}
use Rattle.reference.proofs.place.numbering.unflatten.Goals as goal

len_some : (c : goal.After-len-1) → 0 < get_or c.args.shape.now.lens (c.loop-k.k - 1) 0
len_some c =
    length_some c.args.shape.now.lens c.loop-k.indices c.args.shape.now.rank (c.loop-k.k - 1) c.loop-k.k c.args.number c.loop-k.rest (omega arith) (omega arith) (omega arith) (omega arith) c.loop-k.invariant.1

pub nonzero_rem-indices : goal.nonzero_rem-indices
nonzero_rem-indices c = len_some c

pub overflow_cast-indices : goal.overflow_cast-indices
overflow_cast-indices c = let low = mod-lt c.loop-k.rest (len_some c) in search (rules, low)

pub nonzero_div-rest : goal.nonzero_div-rest
nonzero_div-rest c = len_some c

pub loop-k-preserved : goal.loop-k-preserved
loop-k-preserved c =
    let lens = c.args.shape.now.lens in
    let long : c.args.shape.now.rank ≤ length lens = omega arith in
    let there : c.loop-k.k - 1 < length c.loop-k.indices = omega arith in
    let step : c.loop-k.k ≡ c.loop-k.k - 1 + 1 = omega arith in
    let more : c.loop-k.k - 1 < c.args.shape.now.rank = omega arith in
    let next = unflat_more lens c.loop-k.indices c.args.shape.now.rank (c.loop-k.k - 1) c.loop-k.k c.args.number c.loop-k.rest long there step more c.loop-k.invariant.1 c.loop-k.invariant.0 in
    let low = rest_below lens c.loop-k.indices c.args.shape.now.rank (c.loop-k.k - 1) c.loop-k.k c.args.number c.loop-k.rest long there step more c.loop-k.invariant.1 in
    (next, low, simp length-set c.loop-k.invariant.2)

pub returns : goal.returns
returns c =
    unflat_all c.args.shape.now.lens c.loop-k.indices c.args.shape.now.rank c.loop-k.k c.args.number c.loop-k.rest c.loop-k-test.false c.loop-k.invariant.0
