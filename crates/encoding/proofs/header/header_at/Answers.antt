use Rattle.std.proofs.Common.{◌≡◌, ◌≤◌, length, get_or, sym, ap, ◌∙◌, rules, arith}
use Rattle.encoding.specs.Format.{rank_at}
use Rattle.semantics.specs.Shapes.{size}
use Rattle.encoding.proofs.Formats.{rank_at_is, rank_at_past, start_at_is, next_at_is, shape_at_read, good_at_from}
use Rattle.encoding.proofs.header.header_at.Goals as goal

pub returns-in_default : goal.returns-in_default
returns-in_default c =
    let bs = c.args.bytes.now in
    let i = c.args.at in
    let past : length bs ≤ i = search rules in
    let none = rank_at_past bs i past in
    let begins = start_at_is bs i in
    let ends = next_at_is bs i in
    (omega arith, omega arith)

pub returns-then-rank-gt8 : goal.returns-then-rank-gt8
unfolding rank_at
returns-then-rank-gt8 c =
    let here : c.in-Some.rank.now ≡ get_or c.args.bytes.now c.args.at 0 = search rules in
    omega arith

pub returns-in_default-read_lens : goal.returns-in_default-read_lens
returns-in_default-read_lens c =
    let bs = c.args.bytes.now in
    let i = c.args.at in
    let here : c.in-Some.rank.now ≡ get_or bs i 0 = search rules in
    let small = c.in_default-read_lens.ensures in
    let few = c.from-rank.ensures ∙ (here ∙ sym (rank_at_is bs i)) in
    let begins = start_at_is bs i in
    let ends = next_at_is bs i in
    (omega arith, omega arith)

pub returns-then-places-bytes : goal.returns-then-places-bytes
returns-then-places-bytes c =
    let bs = c.args.bytes.now in
    let i = c.args.at in
    let here : c.in-Some.rank.now ≡ get_or bs i 0 = search rules in
    let few = c.from-rank.ensures ∙ (here ∙ sym (rank_at_is bs i)) in
    let begins = start_at_is bs i in
    let ends = next_at_is bs i in
    let read = c.in-Some-read_lens.ensures in
    let many = ap size (shape_at_read bs c.in-Some-read_lens.lens i c.from-rank.result few read.1) in
    (omega arith, omega arith)

pub returns : goal.returns
returns c =
    let bs = c.args.bytes.now in
    let i = c.args.at in
    let here : c.in-Some.rank.now ≡ get_or bs i 0 = search rules in
    let few = c.from-rank.ensures ∙ (here ∙ sym (rank_at_is bs i)) in
    let begins = start_at_is bs i in
    let ends = next_at_is bs i in
    let read = c.in-Some-read_lens.ensures in
    let shaped = shape_at_read bs c.in-Some-read_lens.lens i c.from-rank.result few read.1 in
    let many = ap size shaped in
    record { good = good_at_from bs i (omega arith) (omega arith); shaped = shaped; starts = omega arith; ends = omega arith }
