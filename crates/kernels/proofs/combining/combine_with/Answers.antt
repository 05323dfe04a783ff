use Rattle.std.proofs.Common.{subst}
use Rattle.kernels.specs.Operands.{Readable}
use Rattle.kernels.proofs.combining.combine_with.Goals as goal

pub combine_from-requires-in-Words : goal.combine_from-requires-in-Words
combine_from-requires-in-Words g c =
    record { left = c.requires.left; right = λ k l. subst (λ o. Readable o c.args.lent.area.now c.args.lent.bytes.now k) c.in-Words.is (c.requires.right k l) }

pub combine_from-requires-in-Bytes : goal.combine_from-requires-in-Bytes
combine_from-requires-in-Bytes g c =
    record { left = c.requires.left; right = λ k l. subst (λ o. Readable o c.args.lent.area.now c.args.lent.bytes.now k) c.in-Bytes.is (c.requires.right k l) }
