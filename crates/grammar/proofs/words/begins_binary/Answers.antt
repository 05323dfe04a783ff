use Rattle.std.proofs.Common.{rules, ◌∙◌}
use borrow.Author.Tests.{tests}
use Rattle.std.proofs.lemmas.Iterator.{YieldsList-from_slice}
use Rattle.std.proofs.lemmas.Iterator.Search.{any_from_yields_List}
use Rattle.grammar.specs.Words.{begins_word, binaries, binary_word}
use Rattle.grammar.proofs.Sought.{any_begins}
use Rattle.grammar.proofs.words.begins_binary.Goals as goal

pub returns : goal.returns
unfolding binaries
returns c =
    any_from_yields_List (λ k. begins_word c.args.word.now (binary_word k)) _ _ _ c.any.ensures.ran (YieldsList-from_slice binaries cc) (λ x b q k. search (rules, tests))
    ∙ any_begins binary_word binaries c.args.word.now
