use Rattle.std.proofs.Common.{subst}
use Rattle.kernels.specs.Operands.{Readable}
use Rattle.kernels.proofs.combining.combine.Goals as goal

pub combine_with-requires-in-Words : goal.combine_with-requires-in-Words
combine_with-requires-in-Words c =
    record { left = λ k l. subst (λ o. Readable o c.args.lent.area.now c.args.lent.bytes.now k) c.in-Words.is (c.requires.left k l); right = c.requires.right }

pub combine_with-requires-in-Bytes : goal.combine_with-requires-in-Bytes
combine_with-requires-in-Bytes c =
    record { left = λ k l. subst (λ o. Readable o c.args.lent.area.now c.args.lent.bytes.now k) c.in-Bytes.is (c.requires.left k l); right = c.requires.right }
