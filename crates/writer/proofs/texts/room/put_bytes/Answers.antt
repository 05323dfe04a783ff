use Rattle.std.proofs.Common.{◌+◌, ◌<◌, ◌≤◌, [], length, drop, sym, refl, arith}
use Rattle.std.proofs.lemmas.List.{drop_more, drop_all, length-drop}
use Rattle.writer.proofs.Overlays.{left_start, left_more, left_laid, left_as, left_all}
use Rattle.writer.proofs.texts.room.put_bytes.Goals as goal

pub loop-b-init : goal.loop-b-init
loop-b-init c = left_start c.args.room.now c.args.at c.args.text.now

pub put_byte-behind-requires : goal.put_byte-behind-requires
put_byte-behind-requires c = omega (arith, c.loop-b.invariant.ends, length-drop c.loop-b.b-index c.args.text.now)

pub loop-b-preserved : goal.loop-b-preserved
loop-b-preserved c =
    let text = c.args.text.now in
    let i = c.loop-b.b-index in
    let inside : i < length text = omega arith in
    left_more c.loop-b.invariant
    (left_as (drop i text) (drop (i + 1) text) (sym (drop_more text i 0 inside)) refl (left_laid c.put_byte-behind.ensures (drop (i + 1) text)))

pub returns : goal.returns
returns c =
    let text = c.args.text.now in
    let past : length text ≤ c.loop-b.b-index = omega arith in
    left_all (left_as text [] refl (drop_all c.loop-b.b-index text past) c.loop-b.invariant)
