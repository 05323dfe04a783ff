use Rattle.std.proofs.Common.{rules, sym, ◌∙◌}
use borrow.Author.Tests.{tests}
use Rattle.std.proofs.lemmas.Iterator.Adapters.{option_map_id}
use Rattle.std.proofs.lemmas.Iterator.{YieldsList-from_slice}
use Rattle.std.proofs.lemmas.Iterator.Search.{find_from_yields_List}
use Rattle.std.proofs.lemmas.Iterator.Consumers.{YieldsList-from_copied}
use Rattle.grammar.specs.Words.{same_word, binaries, binary_word}
use Rattle.grammar.proofs.Sought.{first_is}
use Rattle.grammar.proofs.words.find_binary.Goals as goal

pub returns : goal.returns
unfolding binaries
returns c =
    let found = find_from_yields_List (λ k. same_word c.args.word.now (binary_word k)) _ _ c.find.result c.find.ensures.ran (YieldsList-from_copied (YieldsList-from_slice binaries cc)) (λ x b q k. search (rules, tests)) in
    sym (option_map_id c.find.result) ∙ (found ∙ first_is binary_word binaries c.args.word.now)
