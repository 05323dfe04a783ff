use Rattle.std.proofs.Common.{◌≤◌, Bool, true, false, [], ◌++◌, length, codes, ap, arith}
use Rattle.semantics.specs.Shapes.{pick}
use Rattle.writer.proofs.Overlays.{laid_more, laid_as}
use Rattle.writer.proofs.StepLengths.{decimal_short}
use Rattle.writer.proofs.texts.steps.put_slice.Goals as goal

sign_short : (b : Bool) → length (codes ":" ++ pick b (codes "-") []) ≤ 2
sign_short true = omega arith
sign_short false = omega arith

pub put_number-sign-requires : goal.put_number-sign-requires
put_number-sign-requires c = omega (arith, decimal_short c.args.slice.from (omega arith))

pub put_number-colon-requires : goal.put_number-colon-requires
put_number-colon-requires c =
    omega (arith, decimal_short c.args.slice.step (omega arith), c.put_number-sign.ensures.short, c.put_bytes-step.ensures.ends, ap length c.sign_before.ensures, sign_short c.args.slice.backward)

pub returns : goal.returns
returns c =
    let sign = laid_as (codes ":" ++ pick c.args.slice.backward (codes "-") []) c.sign_before.ensures c.put_bytes-step.ensures in
    record {
      laid = laid_more (laid_more c.put_number-sign.ensures.laid sign) (laid_more c.put_number-colon.ensures.laid c.put_numbered.ensures.laid);
      short = omega (arith, c.put_number-sign.ensures.short, sign.ends, sign_short c.args.slice.backward, c.put_number-colon.ensures.short, c.put_numbered.ensures.short);
    }
