use Rattle.std.proofs.Common.{rules, ◌∙◌}
use borrow.Author.Tests.{tests}
use Rattle.std.proofs.lemmas.Iterator.{YieldsList-from_slice}
use Rattle.std.proofs.lemmas.Iterator.Search.{all_from_yields_List}
use Rattle.grammar.specs.Words.{in_word}
use Rattle.grammar.proofs.Sought.{all_is}
use Rattle.grammar.proofs.words.all_in_word.Goals as goal

pub returns : goal.returns
returns c =
    all_from_yields_List in_word _ _ _ c.all.ensures.ran (YieldsList-from_slice c.args.word.now cc) (λ x b q k. search (rules, tests))
    ∙ all_is c.args.word.now
