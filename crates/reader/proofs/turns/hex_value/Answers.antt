use Rattle.std.proofs.Common.{inl, inr, arith}
use Rattle.reader.proofs.Turnings.{hex_low, hex_of_low, hex_of_high}
use Rattle.reader.proofs.turns.hex_value.Goals as goal

pub overflow_sub-result : goal.overflow_sub-result
overflow_sub-result c = elim (hex_low c.args.b c.requires.is) [ inl p ↦ omega arith | inr p ↦ omega arith ]

pub returns-then-b-lt97 : goal.returns-then-b-lt97
returns-then-b-lt97 c = (hex_of_low c.args.b c.if-b-lt97.true, elim (hex_low c.args.b c.requires.is) [ inl p ↦ omega arith | inr p ↦ omega arith ])

pub returns-else-b-lt97 : goal.returns-else-b-lt97
returns-else-b-lt97 c = (hex_of_high c.args.b c.if-b-lt97.false, elim (hex_low c.args.b c.requires.is) [ inl p ↦ omega arith | inr p ↦ omega arith ])
