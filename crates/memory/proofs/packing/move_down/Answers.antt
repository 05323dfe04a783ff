use Rattle.std.proofs.Common.{◌+◌, get_or, ap, ◌∙◌, arith, None}
use Rattle.kernels.proofs.Feeding.{get_d_any}
use Rattle.memory.specs.Spans.{low_of, high_of}
use Rattle.memory.proofs.Moving.{Move, turn}
use Rattle.memory.proofs.packing.move_down.Goals as goal

move : (c : goal.After-shift_holders) → Move c.args.area.now c.copy_within.new.self c.args.names.now c.shift_holders.new.names c.args.to c.args.k c.low_of-low.result c.high_of-high.result
move c =
    let t = c.args.names.now in
    let k = c.args.k in
    let there = c.requires.lowest.there in
    record {
      neat = c.requires.neat;
      parted = c.requires.parted;
      lowest = c.requires.lowest;
      low_is = c.low_of-low.ensures ∙ ap low_of (get_d_any t k c.index-names-k.result None there);
      high_is = c.high_of-high.ensures ∙ ap high_of (get_d_any t k c.index-names-k-2.result None there);
      after = c.shift_holders.ensures;
      long = c.copy_within.ensures.len;
      words = λ i h. c.copy_within.ensures.by_index.0 (c.args.to + i) 0 (omega arith) (omega arith) ∙ ap (λ n. get_or c.args.area.now n 0) (omega arith);
      before = λ i h. c.copy_within.ensures.by_index.1 i 0 h;
      behind = λ i h. c.copy_within.ensures.by_index.2 i 0 h;
    }

pub returns : goal.returns
returns c = turn (move c)
