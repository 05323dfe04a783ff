use Rattle.std.proofs.Common.{◌++◌, get_or, sym, ap, ◌∙◌, subst}
use Rattle.std.specs.Option.{option_to_list}
use Rattle.grammar.specs.Automaton.{top_move, moved, next}
use Rattle.reader.specs.Machines.{Advances}
use Rattle.reader.proofs.Settling.{advanced_both}
use Rattle.reader.proofs.stepping.moving.advance.Goals as goal

pub returns-in_err-before-clause-advances : goal.returns-in_err-before-clause-advances
unfolding next moved
returns-in_err-before-clause-advances c =
    subst (λ r. Advances c.args.text.now c.args.i c.args.machine.now c.settle_top.new.machine r) (sym c.from_residual.ensures)
    (λ out. ap (λ q. moved (top_move q (get_or c.args.text.now c.args.i 0)) q) (c.in_err-before.ensures.settles out))

pub returns-in_err-turned-clause-advances : goal.returns-in_err-turned-clause-advances
unfolding next
returns-in_err-turned-clause-advances c =
    subst (λ r. Advances c.args.text.now c.args.i c.args.machine.now c.turn_top.new.machine r) (sym c.from_residual-in_err-turned.ensures)
    (λ out. ap (λ q. moved (top_move q (get_or c.args.text.now c.args.i 0)) q) (c.in_ok-before.ensures.settles.is out)
    ∙ c.in_err-turned.ensures.turns (option_to_list c.in_ok-before.before.step ++ out))

pub returns-clause-advances : goal.returns-clause-advances
returns-clause-advances c =
    advanced_both c.args.text.now c.args.i c.args.machine.now c.settle_top.new.machine c.turn_top.new.machine c.in_ok-before.before c.in_ok-turned.turned c.in_ok-before.ensures.settles c.in_ok-turned.ensures.turns

pub returns-clause-kept : goal.returns-clause-kept
returns-clause-kept c hinted = c.in_ok-turned.ensures.kept (c.in_ok-before.ensures.kept hinted)
