use Rattle.std.proofs.Common.{◌+◌, ◌*◌, ◌≤◌, length, sym, ap, ◌∙◌, rules, arith}
use Rattle.std.specs.List.{flat_map}
use Rattle.std.proofs.lemmas.List.{take_all}
use Rattle.encoding.specs.Words.{bytes8, written}
use Rattle.encoding.specs.Writing.{number_bytes}
use Rattle.encoding.proofs.Writings.{written_none, writes_none, written_more, length_bytes8, length_number_bytes}
use Rattle.encoding.proofs.writing.write_numbers.Goals as goal

pub loop-k-init : goal.loop-k-init
loop-k-init c = sym (written_none c.args.room.now c.args.at)

pub loop-k-preserved : goal.loop-k-preserved
unfolding bytes8
loop-k-preserved c =
    let fits = c.in_ok-end.ensures in
    let there : c.args.at ≤ length c.args.room.now = omega arith in
    written_more bytes8 8 length_bytes8 c.args.room.now c.args.numbers.now c.args.at c.loop-k.k there c.loop-k-test.true c.loop-k.room c.put.new.room c.loop-k.invariant (c.put.ensures ∙ ap (written c.loop-k.room (c.args.at + 8 * c.loop-k.k)) c.to_le_bytes.ensures)

pub returns : goal.returns
unfolding number_bytes
returns c =
    let fits = c.in_ok-end.ensures in
    let size = length_number_bytes c.args.numbers.now in
    let all = take_all c.loop-k.k c.args.numbers.now c.loop-k-test.false in
    (omega arith, omega arith, c.loop-k.invariant ∙ ap (λ xs. written c.args.room.now c.args.at (flat_map bytes8 xs)) all)

pub returns-in_err-end : goal.returns-in_err-end
returns-in_err-end c =
    let small = c.in_err-end.ensures in
    let size = length_number_bytes c.args.numbers.now in
    writes_none c.args.room.now _ c.args.at (search rules) (omega arith)
