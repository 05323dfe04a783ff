use Rattle.std.proofs.Common.{◌+◌, ◌++◌, length, take, sym, ap, ◌∙◌, arith}
use Rattle.std.specs.Option.{option_to_list}
use Rattle.std.proofs.lemmas.List.{take_more_set}
use Rattle.reader.proofs.judging.reading.store_step.Goals as goal

pub returns : goal.returns
returns c =
    record {
      is = take_more_set c.args.steps.now c.args.said c.in-Some.it (omega (arith, c.requires.room, ap (λ x. length (option_to_list x)) c.in-Some.is)) ∙ ap (λ x. take c.args.said c.args.steps.now ++ option_to_list x) (sym c.in-Some.is);
      more = ap (λ x. c.args.said + length (option_to_list x)) (sym c.in-Some.is);
    }
