use Rattle.std.proofs.Common.{◌+◌, ◌-◌, set, sym, subst, arith, Some}
use Rattle.memory.specs.Spans.{loose_size}
use Rattle.memory.specs.Tables.{Bound}
use Rattle.memory.proofs.Slotted.{loose_below}
use Rattle.memory.proofs.Counting.{loose_held, old_held, old_loose, bound}
use Rattle.memory.proofs.binding.bind.Goals as goal

pub size_of-freed-requires : goal.size_of-freed-requires
size_of-freed-requires c = omega (arith, old_held c.args.memory.now c.args.name c.index-memory-name.result c.requires.counted c.requires.there)

pub overflow_sub-memory : goal.overflow_sub-memory
overflow_sub-memory c = omega (arith, old_held c.args.memory.now c.args.name c.index-memory-name.result c.requires.counted c.requires.there)

pub loose_of-requires : goal.loose_of-requires
loose_of-requires c = omega (arith, old_held c.args.memory.now c.args.name c.index-memory-name.result c.requires.counted c.requires.there)

pub overflow_sub-memory-2 : goal.overflow_sub-memory-2
overflow_sub-memory-2 c = omega (arith, old_loose c.args.memory.now c.args.name c.index-memory-name.result c.requires.counted c.requires.there)

pub overflow_add-memory-2 : goal.overflow_add-memory-2
overflow_add-memory-2 c =
    let few = c.requires.few in
    let all = loose_held c.requires.counted in
    let own = loose_below (Some c.args.view) in
    record { fits = omega arith }

pub returns : goal.returns
returns c =
    let m = c.args.memory.now in
    let k = c.args.name in
    let v = c.args.view in
    subst
    (λ n. Bound m (record { names = set m.names k (Some v); top = c.max-memory.result; held = m.held - c.size_of-freed.result + c.size_of-taken.result; loose = m.loose - c.loose_of.result + n }) k v)
    (sym c.loose_of-2.ensures)
    (subst
    (λ n. Bound m (record { names = set m.names k (Some v); top = c.max-memory.result; held = m.held - c.size_of-freed.result + n; loose = m.loose - c.loose_of.result + loose_size (Some v) }) k v)
    (sym c.size_of-taken.ensures)
    (bound m k c.index-memory-name.result c.requires.counted c.requires.there v c.size_of-freed.result c.loose_of.result c.max-memory.result c.size_of-freed.ensures c.loose_of.ensures (omega arith)))
