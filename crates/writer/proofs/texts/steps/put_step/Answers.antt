use Rattle.std.proofs.Common.{◌^◌, ◌<◌, ◌++◌, length, codes, sym, ap, arith, rules}
use Rattle.std.proofs.lemmas.List.{length-append}
use Rattle.grammar.specs.Words.{unary_word, binary_word}
use Rattle.writer.specs.Digits.{hex16}
use Rattle.writer.specs.StepTexts.{step_text}
use Rattle.writer.proofs.Overlays.{laid_as}
use Rattle.writer.proofs.StepLengths.{unary_short, binary_short, decimal_short, hex16_long}
use Rattle.writer.proofs.texts.steps.put_step.Goals as goal

pub put_both-requires-in-Each : goal.put_both-requires-in-Each
put_both-requires-in-Each c = omega (arith, ap length c.unary_word.ensures, unary_short c.in-Each.k)

pub put_both-requires-in-Both : goal.put_both-requires-in-Both
put_both-requires-in-Both c = omega (arith, ap length c.binary_word.ensures, binary_short c.in-Both.k)

pub put_number-requires : goal.put_number-requires
put_number-requires c = let small : c.in-Item.k < 2 ^ 32 = search rules in omega (arith, decimal_short c.in-Item.k small)

pub returns-in-End : goal.returns-in-End
unfolding step_text
returns-in-End c =
    let laid = laid_as (step_text c.args.step) (sym (ap step_text c.in-End.is)) c.put_bytes.ensures in
    record { laid = laid; short = omega (arith, c.put_bytes.ensures.ends) }

pub returns-in-Let : goal.returns-in-Let
unfolding step_text
returns-in-Let c =
    let laid = laid_as (step_text c.args.step) (sym (ap step_text c.in-Let.is)) c.put_named.ensures.laid in
    record { laid = laid; short = omega (arith, c.put_named.ensures.short) }

pub returns-in-Put : goal.returns-in-Put
unfolding step_text
returns-in-Put c =
    let laid = laid_as (step_text c.args.step) (sym (ap step_text c.in-Put.is)) c.put_named-in-Put.ensures.laid in
    record { laid = laid; short = omega (arith, c.put_named-in-Put.ensures.short) }

pub returns-in-Show : goal.returns-in-Show
unfolding step_text
returns-in-Show c =
    let laid = laid_as (step_text c.args.step) (sym (ap step_text c.in-Show.is)) c.put_bytes-in-Show.ensures in
    record { laid = laid; short = omega (arith, c.put_bytes-in-Show.ensures.ends) }

pub returns-in-Again : goal.returns-in-Again
unfolding step_text
returns-in-Again c =
    let laid = laid_as (step_text c.args.step) (sym (ap step_text c.in-Again.is)) c.put_numbered.ensures.laid in
    record { laid = laid; short = omega (arith, c.put_numbered.ensures.short) }

pub returns-in-Name : goal.returns-in-Name
unfolding step_text
returns-in-Name c =
    let laid = laid_as (step_text c.args.step) (sym (ap step_text c.in-Name.is)) c.put_name.ensures.laid in
    record { laid = laid; short = omega (arith, c.put_name.ensures.short) }

pub returns-in-Input : goal.returns-in-Input
unfolding step_text
returns-in-Input c =
    let laid = laid_as (step_text c.args.step) (sym (ap step_text c.in-Input.is)) c.put_numbered-in-Input.ensures.laid in
    record { laid = laid; short = omega (arith, c.put_numbered-in-Input.ensures.short) }

pub returns-in-Constant : goal.returns-in-Constant
unfolding step_text
returns-in-Constant c =
    let digits = laid_as (codes "#" ++ hex16 c.in-Constant.x) (ap (λ ds. codes "#" ++ ds) c.hex_digits.ensures) c.put_both.ensures in
    record { laid = laid_as (step_text c.args.step) (sym (ap step_text c.in-Constant.is)) digits; short = omega (arith, digits.ends, hex16_long c.in-Constant.x) }

pub returns-in-Count : goal.returns-in-Count
unfolding step_text
returns-in-Count c =
    let laid = laid_as (step_text c.args.step) (sym (ap step_text c.in-Count.is)) c.put_numbered-in-Count.ensures.laid in
    record { laid = laid; short = omega (arith, c.put_numbered-in-Count.ensures.short) }

pub returns-in-Each : goal.returns-in-Each
unfolding step_text
returns-in-Each c =
    let word = laid_as (unary_word c.in-Each.k ++ codes "(") (ap (λ w. w ++ codes "(") c.unary_word.ensures) c.put_both-in-Each.ensures in
    record { laid = laid_as (step_text c.args.step) (sym (ap step_text c.in-Each.is)) word; short = omega (arith, word.ends, length-append (unary_word c.in-Each.k) (codes "("), unary_short c.in-Each.k) }

pub returns-in-Both : goal.returns-in-Both
unfolding step_text
returns-in-Both c =
    let word = laid_as (binary_word c.in-Both.k ++ codes "(") (ap (λ w. w ++ codes "(") c.binary_word.ensures) c.put_both-in-Both.ensures in
    record { laid = laid_as (step_text c.args.step) (sym (ap step_text c.in-Both.is)) word; short = omega (arith, word.ends, length-append (binary_word c.in-Both.k) (codes "("), binary_short c.in-Both.k) }

pub returns-in-Choose : goal.returns-in-Choose
unfolding step_text
returns-in-Choose c =
    let laid = laid_as (step_text c.args.step) (sym (ap step_text c.in-Choose.is)) c.put_bytes-in-Choose.ensures in
    record { laid = laid; short = omega (arith, c.put_bytes-in-Choose.ensures.ends) }

pub returns-in-Fold : goal.returns-in-Fold
unfolding step_text
returns-in-Fold c =
    let laid = laid_as (step_text c.args.step) (sym (ap step_text c.in-Fold.is)) c.put_along.ensures.laid in
    record { laid = laid; short = omega (arith, c.put_along.ensures.short) }

pub returns-in-Scan : goal.returns-in-Scan
unfolding step_text
returns-in-Scan c =
    let laid = laid_as (step_text c.args.step) (sym (ap step_text c.in-Scan.is)) c.put_along-in-Scan.ensures.laid in
    record { laid = laid; short = omega (arith, c.put_along-in-Scan.ensures.short) }

pub returns-in-Shape : goal.returns-in-Shape
unfolding step_text
returns-in-Shape c =
    let laid = laid_as (step_text c.args.step) (sym (ap step_text c.in-Shape.is)) c.put_bytes-in-Shape.ensures in
    record { laid = laid; short = omega (arith, c.put_bytes-in-Shape.ensures.ends) }

pub returns-in-Turn : goal.returns-in-Turn
unfolding step_text
returns-in-Turn c =
    let laid = laid_as (step_text c.args.step) (sym (ap step_text c.in-Turn.is)) c.put_bytes-in-Turn.ensures in
    record { laid = laid; short = omega (arith, c.put_bytes-in-Turn.ensures.ends) }

pub returns-in-Part : goal.returns-in-Part
unfolding step_text
returns-in-Part c =
    let laid = laid_as (step_text c.args.step) (sym (ap step_text c.in-Part.is)) c.put_bytes-in-Part.ensures in
    record { laid = laid; short = omega (arith, c.put_bytes-in-Part.ensures.ends) }

pub returns-in-Join : goal.returns-in-Join
unfolding step_text
returns-in-Join c =
    let laid = laid_as (step_text c.args.step) (sym (ap step_text c.in-Join.is)) c.put_numbered-in-Join.ensures.laid in
    record { laid = laid; short = omega (arith, c.put_numbered-in-Join.ensures.short) }

pub returns-in-Rows : goal.returns-in-Rows
unfolding step_text
returns-in-Rows c =
    let laid = laid_as (step_text c.args.step) (sym (ap step_text c.in-Rows.is)) c.put_bytes-in-Rows.ensures in
    record { laid = laid; short = omega (arith, c.put_bytes-in-Rows.ensures.ends) }

pub returns-in-Item : goal.returns-in-Item
unfolding step_text
returns-in-Item c =
    let laid = laid_as (step_text c.args.step) (sym (ap step_text c.in-Item.is)) c.put_number.ensures.laid in
    record { laid = laid; short = omega (arith, c.put_number.ensures.short) }

pub returns-in-Slice : goal.returns-in-Slice
unfolding step_text
returns-in-Slice c =
    let laid = laid_as (step_text c.args.step) (sym (ap step_text c.in-Slice.is)) c.put_slice.ensures.laid in
    record { laid = laid; short = omega (arith, c.put_slice.ensures.short) }
