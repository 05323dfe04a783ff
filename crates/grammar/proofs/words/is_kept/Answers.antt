use Rattle.std.proofs.Common.{◌≡◌, rules, Bor, List, [], ◌∷◌, map, ◌||◌, refl, ap, ◌∙◌}
use borrow.Author.Tests.{tests}
use Rattle.std.specs.List.{list_any}
use Rattle.std.proofs.lemmas.Iterator.{YieldsList-from_slice}
use Rattle.std.proofs.lemmas.Iterator.Search.{any_from_yields_List}
use Rattle.grammar.specs.Words.{Word, same_word, is_some, itself, kept_words}
use Rattle.grammar.proofs.words.is_kept.Goals as goal

-- the words behind the references of the table
any_lent : (l : List (Bor Word)) (w : Word) → list_any (λ k. same_word w k.now) l ≡ is_some itself (map (λ k. k.now) l) w
unfolding is_some
any_lent [] w = refl
any_lent (k ∷ l) w = ap (λ t. same_word w k.now || t) (any_lent l w)

pub returns : goal.returns
unfolding kept_words
returns c =
    let table : map (λ (k : Bor Word). k.now) c.iter.result.rest.now ≡ kept_words = simp c.iter.ensures.rest in
    any_from_yields_List (λ (k : Bor Word). same_word c.args.word.now k.now) _ _ _ c.any.ensures.ran (YieldsList-from_slice c.iter.result.rest.now refl) (λ x b q k. search (rules, tests))
    ∙ (any_lent c.iter.result.rest.now c.args.word.now ∙ ap (λ l. is_some itself l c.args.word.now) table)
