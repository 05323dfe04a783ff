use Rattle.std.proofs.Common.{◌≡◌, None, MatchOption, rules, arith}
use Rattle.program.specs.Leading.{item_in, items_at}
use Rattle.program.proofs.Storing.{length_steps_in}
use Rattle.program.proofs.Leadings.{read_there, read_some}
use Rattle.program.proofs.lists.item_at.Goals as goal

pub overflow_add-node : goal.overflow_add-node
unfolding items_at
overflow_add-node c = omega (arith, read_there item_in 0 c.args.words.now c.args.node c.args.index c.requires, length_steps_in c.args.words.now)

pub unwrap-requires : goal.unwrap-requires
unfolding items_at
unwrap-requires c =
    let h : MatchOption c.step_at.result (c.and_then.result ≡ None) (λ x. c.and_then.result ≡ item_in x) = search rules in
    let found = read_some item_in 0 c.args.words.now c.args.node c.args.index c.requires c.step_at.result c.step_at.ensures c.and_then.result h in
    rw found (search rules)

pub returns : goal.returns
unfolding items_at
returns c =
    let h : MatchOption c.step_at.result (c.and_then.result ≡ None) (λ x. c.and_then.result ≡ item_in x) = search rules in
    let found = read_some item_in 0 c.args.words.now c.args.node c.args.index c.requires c.step_at.result c.step_at.ensures c.and_then.result h in
    cc
