use Rattle.std.proofs.Common.{◌<◌, length, take, refl, arith}
use Rattle.semantics.specs.Shapes.{size}
use Rattle.encoding.proofs.Sizes.{size_more, min_mul_capped}
use Rattle.reference.proofs.restructure.count_places.Goals as goal

pub loop-len-init : goal.loop-len-init
unfolding size
loop-len-init c = refl

pub loop-len-preserved : goal.loop-len-preserved
loop-len-preserved c =
    let inside : c.loop-len.len-index < length c.args.lens.now = omega arith in
    let more = size_more c.args.lens.now c.loop-len.len-index inside in
    let capped = min_mul_capped (size (take c.loop-len.len-index c.args.lens.now)) c.from.result 18446744073709551615 in
    cc
