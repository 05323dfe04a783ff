use Rattle.std.proofs.Common.{◌+◌, ◌≤◌, length, ap, arith}
use Rattle.semantics.specs.Shapes.{size}
use Rattle.encoding.specs.ShapeOf.{shape_of}
use Rattle.memory.specs.Spans.{slot_size}
use Rattle.memory.proofs.Holding.{all_fill_owned}
use Rattle.runtime.proofs.Binding.{ready_below, new_keeps, new_bound}
use Rattle.runtime.proofs.statements.bind_new.Goals as goal

pub reserve-to-requires : goal.reserve-to-requires
reserve-to-requires c =
    let k = c.requires.keeps in
    record { neat = k.neat; counted = k.counted; owned = all_fill_owned k.fills; there = k.room; short = omega (arith, c.requires.small); fits = omega (arith, c.size.ensures, c.requires.fits, c.requires.small) }

pub store_with-requires : goal.store_with-requires
store_with-requires c =
    let r = c.reserve-to.ensures in
    let kept = c.reserve-to.auto.area in
    record {
      ready = ready_below c.reserve-to.new.area c.args.area.now c.args.memory.now c.reserve-to.new.memory r.carries c.reserve-to.result r.top (omega (arith, r.top, r.room)) c.requires.ready;
      shallow = c.requires.shallow;
      room = omega (arith, r.room, c.size.ensures, c.requires.fits, c.requires.small);
      scratch = c.requires.scratch;
    }

pub bind-requires : goal.bind-requires
unfolding slot_size
bind-requires c =
    let r = c.reserve-to.ensures in
    record { there = c.requires.there; counted = r.carries.counted; few = omega (arith, r.carries.held, c.requires.fits, c.requires.small, ap size c.of_buffer.ensures.whole.shaped) }

pub returns : goal.returns
returns c =
    let r = c.reserve-to.ensures in
    let long = c.store_with.auto.area in
    let kept = c.reserve-to.auto.area in
    let whole = c.of_buffer.ensures.whole in
    let room : c.reserve-to.result + c.reserve-to.new.memory.loose + size (shape_of c.args.shape) ≤ length c.store_with.new.area = omega (arith, r.room, c.size.ensures, c.requires.fits, c.requires.small) in
    record {
      keeps = new_keeps c.args.area.now c.reserve-to.new.area c.store_with.new.area c.args.memory.now c.reserve-to.new.memory c.bind.new.memory r.carries c.reserve-to.result r.top (shape_of c.args.shape) c.of_buffer.result whole room c.args.name c.requires.there c.bind.ensures c.requires.keeps.fills (omega (arith, c.requires.fits));
      bound = new_bound c.args.area.now c.reserve-to.new.area c.store_with.new.area c.args.memory.now c.reserve-to.new.memory c.bind.new.memory r.carries c.reserve-to.result r.top (shape_of c.args.shape) c.of_buffer.result whole room c.args.name c.requires.there c.bind.ensures c.args.words.now c.args.node c.args.inputs.now c.store_with.ensures c.of_buffer.ensures.holds long;
    }
