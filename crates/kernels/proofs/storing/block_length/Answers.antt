use Rattle.std.proofs.Common.{◌/◌, ◌≤◌, mul_comm, mul-le-mul_left, div-mul-le_self, arith}
use Rattle.std.proofs.lemmas.Nat.{le-div}
use Rattle.kernels.proofs.storing.block_length.Goals as goal

pub returns : goal.returns
returns c =
    let b = c.args.blocks in
    let some : 1 ≤ 4096 / b = le-div 1 4096 b (omega arith) (omega arith) in
    let few : c.min.result ≤ 4096 / b = omega arith in
    let more = mul-le-mul_left b few in
    record { some = omega arith; few = omega arith; fits = omega (arith, div-mul-le_self 4096 b, mul_comm b (4096 / b)) }
