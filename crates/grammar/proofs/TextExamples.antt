-- The worked examples, by computing them.
use Rattle.std.proofs.Common.{refl}
use Rattle.grammar.specs.Automaton.{answer_to}
use Rattle.grammar.specs.TextExamples.{TextExamples}

pub text_examples : TextExamples
unfolding answer_to
text_examples =
    record {
      empty = refl;
      newline = refl;
      hollow = refl;
      twice = refl;
      stray = refl;
      brackets = refl;
      longer = refl;
      ninth = refl;
      reserved_name = refl;
      large = refl;
      leading = refl;
      soon = refl;
      patterns = refl;
      ninth_again = refl;
    }
