use Rattle.std.proofs.Common.{◌++◌, length, ap, arith}
use Rattle.std.proofs.lemmas.List.{length-append}
use Rattle.grammar.specs.Words.{binary_word}
use Rattle.writer.proofs.Overlays.{laid_more, laid_as}
use Rattle.writer.proofs.StepLengths.{binary_short}
use Rattle.writer.proofs.texts.steps.put_along.Goals as goal

pub put_both-word-requires : goal.put_both-word-requires
put_both-word-requires c = omega (arith, ap length c.binary_word.ensures, binary_short c.args.k)

pub put_numbered-requires : goal.put_numbered-requires
put_numbered-requires c =
    omega (arith, c.put_both-word.ensures.ends, length-append c.args.before.now c.binary_word.result.now, ap length c.binary_word.ensures, binary_short c.args.k)

pub returns : goal.returns
returns c =
    let word = laid_as (c.args.before.now ++ binary_word c.args.k) (ap (λ w. c.args.before.now ++ w) c.binary_word.ensures) c.put_both-word.ensures in
    record {
      laid = laid_more word c.put_numbered.ensures.laid;
      short = omega (arith, word.ends, length-append c.args.before.now (binary_word c.args.k), binary_short c.args.k, c.put_numbered.ensures.short);
    }
