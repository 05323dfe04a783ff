use Rattle.std.proofs.Common.{refl, arith}
use Rattle.reader.proofs.machine.Machine.top_symbol.Goals as goal

pub returns-then-self-lt-DEPTH : goal.returns-then-self-lt-DEPTH
returns-then-self-lt-DEPTH c = record { there = omega arith; is = refl }
