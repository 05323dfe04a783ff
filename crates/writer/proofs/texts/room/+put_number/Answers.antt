use Rattle.std.proofs.Common.{◌+◌, ◌/◌, ◌%◌, ◌^◌, ◌<◌, ◌≤◌, length, decimal, sym, ap, arith}
use Rattle.std.proofs.lemmas.List.{length_push}
use Rattle.std.proofs.lemmas.Fmt.{decimal_digit, decimal_step, length-decimal-le}
use Rattle.writer.proofs.Overlays.{laid_more, laid_as}
use Rattle.writer.proofs.texts.room.+put_number.Goals as goal

pub put_byte-requires : goal.put_byte-requires
put_byte-requires t c = omega (arith, ap length (decimal_digit c.args.n c.if-n-lt10.true))

pub returns-then-n-lt10 : goal.returns-then-n-lt10
returns-then-n-lt10 t c = record {
  laid = laid_as (decimal c.args.n) (sym (decimal_digit c.args.n c.if-n-lt10.true)) c.put_byte.ensures;
  short = omega (arith, c.put_byte.ensures.ends);
}

pub put_number-front-requires : goal.put_number-front-requires
put_number-front-requires t c =
    let n = c.args.n in
    let large : 10 ≤ n = c.if-n-lt10.false in
    let fits : n < 2 ^ 64 = omega arith in
    (omega arith, omega (arith, ap length (decimal_step n large fits), length_push (decimal (n / 10)) (48 + n % 10)))

pub put_byte-requires-2 : goal.put_byte-requires-2
put_byte-requires-2 t c =
    let n = c.args.n in
    let large : 10 ≤ n = c.if-n-lt10.false in
    let fits : n < 2 ^ 64 = omega arith in
    omega (arith, c.put_number-front.ensures.laid.ends, ap length (decimal_step n large fits), length_push (decimal (n / 10)) (48 + n % 10))

pub returns : goal.returns
returns t c =
    let n = c.args.n in
    let large : 10 ≤ n = c.if-n-lt10.false in
    let fits : n < 2 ^ 64 = omega arith in
    let few : n < 10 ^ 10 = omega arith in
    let laid = laid_as (decimal n) (sym (decimal_step n large fits)) (laid_more c.put_number-front.ensures.laid c.put_byte-2.ensures) in
    record { laid = laid; short = omega (arith, laid.ends, length-decimal-le 10 n (omega arith) few fits) }
