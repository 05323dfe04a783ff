use Rattle.std.proofs.Common.{◌≡◌, ◌<◌, length, sym, ap, ◌∙◌, arith}
use Rattle.std.proofs.lemmas.List.{take_more_set, take_at, take_all, length-take-le}
use Rattle.encoding.specs.Format.{words_at}
use Rattle.encoding.proofs.Formats.{words_at_none, words_at_more}
use Rattle.encoding.proofs.header.read_lens.Goals as goal

pub loop-k-init : goal.loop-k-init
loop-k-init c = (omega arith, sym (words_at_none _ _))

pub loop-k-preserved : goal.loop-k-preserved
loop-k-preserved c =
    let inside : c.loop-k.k < length c.loop-k.len-items = omega arith in
    let more = take_more_set c.loop-k.len-items c.loop-k.k c.in_ok-len.field-0 inside in
    let said = words_at_more c.args.bytes.now c.args.at c.loop-k.k in
    let read = c.in_ok-len.ensures in
    let so_far = c.loop-k.invariant.1 in
    let here = read.1 in
    (omega arith, cc)

pub returns : goal.returns
returns c =
    let items = c.loop-k.len-items in
    let all : length items ≡ c.args.count = c.loop-k.auto.len-items ∙ length-take-le c.args.count _ c.requires.few in
    let turns : c.loop-k.k ≡ c.args.count = omega arith in
    (omega arith, take_at items _ c.args.count all ∙ (sym (take_all c.loop-k.k items (omega arith)) ∙ (c.loop-k.invariant.1 ∙ ap (words_at c.args.bytes.now c.args.at) turns)))
