use Rattle.std.proofs.Common.{length, arith}
use Rattle.kernels.proofs.Turns.{length_part}
use Rattle.kernels.proofs.Readings.{stand_same, part_word}
use Rattle.kernels.proofs.rows.read_run.Goals as goal

pub read_plain-requires : goal.read_plain-requires
read_plain-requires c =
    record { same = length_part 0 c.args.from (length c.args.out.now) c.args.area.now c.requires; plain = c.no_nans.ensures c.if-no_nans.true }

pub read_patterns-requires : goal.read_patterns-requires
read_patterns-requires c = length_part 0 c.args.from (length c.args.out.now) c.args.area.now c.requires

pub returns-then-no_nans : goal.returns-then-no_nans
returns-then-no_nans c = stand_same (λ j l. part_word c.args.area.now c.args.from (length c.args.out.now) j (omega arith)) c.read_plain.ensures

pub returns-else-no_nans : goal.returns-else-no_nans
returns-else-no_nans c = stand_same (λ j l. part_word c.args.area.now c.args.from (length c.args.out.now) j (omega arith)) c.read_patterns.ensures
