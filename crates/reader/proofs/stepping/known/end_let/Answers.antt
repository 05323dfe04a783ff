use Rattle.std.proofs.Common.{sym, subst, ◌∙◌, arith}
use Rattle.reader.specs.Machines.{Placed}
use Rattle.reader.proofs.Settling.{few_used}
use Rattle.reader.proofs.Known.{let_settled}
use Rattle.reader.proofs.stepping.known.end_let.Goals as goal

pub replace_top-requires : goal.replace_top-requires
replace_top-requires c = let top = (rw c.in-Some-Target-Let.field-0-0-is at (rw c.in-Some-Target-Let.field-0-is at c.in-Some-Target-Let.ensures)) in record { there = top.there; room = omega (arith, c.requires.good.room, c.as_slice.ensures.few) }

pub overflow_cast-result : goal.overflow_cast-result
overflow_cast-result c = omega (arith, c.in_ok-k.ensures.low, few_used c.args.text.now c.args.i 16 c.args.machine.now c.requires.good, c.requires.good.few)

pub returns : goal.returns
returns c =
    let placed = subst (λ p. Placed c.args.machine.now c.replace_top.new.self p c.args.i) (c.as_slice.ensures.are ∙ c.target_rest.ensures) c.replace_top.ensures in
    let_settled c.args.text.now c.args.i c.args.b c.args.machine.now c.requires (sym c.if-in_word.ensures) c.in_ok-k.k _ (rw c.in-Some-Target-Let.field-0-0-is at (rw c.in-Some-Target-Let.field-0-is at c.in-Some-Target-Let.ensures)) c.in_ok-k.ensures placed
