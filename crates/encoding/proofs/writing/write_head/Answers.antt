use Rattle.std.proofs.Common.{◌+◌, ◌*◌, ◌<◌, ◌≤◌, length, take, set, sym, ap, ◌∙◌, rules, arith, length-set}
use Rattle.std.specs.List.{flat_map}
use Rattle.std.proofs.lemmas.List.{length-take-le, take_all}
use Rattle.encoding.specs.Words.{bytes4, written}
use Rattle.encoding.proofs.Writings.{written_none, writes_none, written_more, written_head, length_bytes4, length_head_bytes}
use Rattle.encoding.proofs.writing.write_head.Goals as goal

pub loop-k-init : goal.loop-k-init
loop-k-init c = sym (written_none _ _)

pub loop-k-preserved : goal.loop-k-preserved
unfolding bytes4
loop-k-preserved c =
    let fits = c.in_ok-end.ensures in
    let size = length-set c.args.room.now c.args.at c.args.shape.rank in
    let there : c.args.at + 1 ≤ length (set c.args.room.now c.args.at c.args.shape.rank) = omega arith in
    written_more bytes4 4 length_bytes4 (set c.args.room.now c.args.at c.args.shape.rank) c.lengths-len-items.result.now (c.args.at + 1) c.loop-k.k there c.loop-k-test.true c.loop-k.room c.put.new.room c.loop-k.invariant (c.put.ensures ∙ ap (written c.loop-k.room (c.args.at + 1 + 4 * c.loop-k.k)) c.to_le_bytes.ensures)

pub returns : goal.returns
returns c =
    let fits = c.in_ok-end.ensures in
    let rank = c.args.shape.rank in
    let lens = c.args.shape.lens in
    let few : rank ≤ length lens = omega arith in
    let size = length_head_bytes (take rank lens) in
    let taken = length-take-le rank lens few in
    let all = take_all c.loop-k.k c.lengths-len-items.result.now c.loop-k-test.false ∙ c.lengths-len-items.ensures in
    let there : c.args.at < length c.args.room.now = omega arith in (
      omega arith,
      omega arith,
      c.loop-k.invariant
          ∙ (ap (λ xs. written (set c.args.room.now c.args.at rank) (c.args.at + 1) (flat_map bytes4 xs)) all
          ∙ written_head c.args.room.now lens c.args.at rank there few),
    )

pub returns-in_err-end : goal.returns-in_err-end
returns-in_err-end c =
    let small = c.in_err-end.ensures in
    let rank = c.args.shape.rank in
    let lens = c.args.shape.lens in
    let few : rank ≤ length lens = omega arith in
    let size = length_head_bytes (take rank lens) in
    let taken = length-take-le rank lens few in
    writes_none c.args.room.now _ c.args.at (search rules) (omega arith)
