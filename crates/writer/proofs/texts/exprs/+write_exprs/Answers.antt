use Rattle.std.proofs.Common.{◌<◌, sym, arith}
use Rattle.program.proofs.Storing.{length_steps_in}
use Rattle.writer.specs.StepTexts.{wants}
use Rattle.writer.proofs.Exprs.{writes_none, all_there, stand_as, writes_as, operands_stand, others_stand, writes_more}
use Rattle.writer.proofs.texts.exprs.+write_exprs.Goals as goal

pub returns-then-many-eq0 : goal.returns-then-many-eq0
returns-then-many-eq0 t c =
    writes_none c.args.close c.args.words.now c.args.node c.args.room.now c.args.at c.args.many c.if-many-eq0.true c.requires.inside

pub unreachable-requires : goal.unreachable-requires
unreachable-requires t c =
    let some : 0 < c.args.many = omega (arith, c.if-many-eq0.false) in
    omega (arith, all_there c.args.words.now c.args.node c.args.many c.requires.stand some, c.in_default.ensures)

pub write_exprs-inner-requires : goal.write_exprs-inner-requires
write_exprs-inner-requires t c =
    let some : 0 < c.args.many = omega (arith, c.if-many-eq0.false) in
    let at = c.in-Some.ensures in
    let head = c.write_head-head.ensures in
    let stand = operands_stand c.args.words.now c.args.node c.args.many c.args.close c.in-Some.step at some c.requires.stand head in (
      omega (arith, at.there, head.further, head.within, c.decreases),
      (c.requires.few, (stand_as c.count_wanted.result (sym c.count_wanted.ensures) stand, (head.within, omega (arith, head.short, c.requires.low)))),
    )

pub put_gap-gap-requires : goal.put_gap-gap-requires
put_gap-gap-requires t c =
    let head = c.write_head-head.ensures in
    let inner = c.write_exprs-inner.ensures.passed in
    omega (arith, head.short, inner.short, inner.within, c.requires.low, c.requires.few, length_steps_in c.args.words.now)

pub write_exprs-requires : goal.write_exprs-requires
write_exprs-requires t c =
    let some : 0 < c.args.many = omega (arith, c.if-many-eq0.false) in
    let at = c.in-Some.ensures in
    let head = c.write_head-head.ensures in
    let inner = writes_as (wants c.in-Some.step) c.count_wanted.ensures c.write_exprs-inner.ensures in
    let stand = others_stand c.args.words.now c.args.node c.args.many c.args.close c.in-Some.step at some c.requires.stand head inner in (
      omega (arith, at.there, head.further, inner.passed.further, inner.passed.within, c.decreases),
      (c.requires.few, (stand, (inner.passed.within, omega (arith, head.short, inner.passed.short, c.put_gap-gap.ensures.short, c.requires.low)))),
    )

pub returns : goal.returns
returns t c =
    let some : 0 < c.args.many = omega (arith, c.if-many-eq0.false) in
    let at = c.in-Some.ensures in
    let inner = writes_as (wants c.in-Some.step) c.count_wanted.ensures c.write_exprs-inner.ensures in
    writes_more c.args.words.now c.args.node c.args.many c.args.close c.in-Some.step at some c.write_head-head.ensures inner c.put_gap-gap.ensures.laid c.put_gap-gap.ensures.short c.write_exprs.ensures
