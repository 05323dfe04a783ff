use Rattle.std.proofs.Common.{◌≡◌, ◌++◌, reverse, length, take, sym, refl, ap, ◌∙◌, subst, arith}
use Rattle.std.specs.Option.{option_to_list}
use Rattle.reader.specs.Machines.{Hinted}
use Rattle.reader.proofs.Settling.{less_room}
use Rattle.reader.proofs.OnWay.{way_start, at_end, unchanged}
use Rattle.reader.proofs.Ways.{said_more, many_marks, deep_level, way_long, way_stuck, way_over, room_now, place_room, way_on, way_skim, way_lines, way_unsettled, room_last, way_refused, way_taken}
use Rattle.reader.proofs.judging.reading.read_text.Goals as goal

pub loop-i-init : goal.loop-i-init
loop-i-init c =
    record {
      way = way_start c.args.text.now c.fresh_machine-machine.result c.args.steps.now c.args.places.now c.fresh_machine-machine.ensures.good (c.fresh_machine-machine.ensures.is c.args.text.now) c.requires.steps_long c.requires.places_long;
      hinted = c.fresh_machine-machine.ensures.hinted c.args.text.now;
    }

pub returns-then-i-eq-MOST_BYTES : goal.returns-then-i-eq-MOST_BYTES
returns-then-i-eq-MOST_BYTES c = way_long c.args.text.now c.loop-i.i c.loop-i.machine c.loop-i.count c.loop-i.said c.loop-i.steps c.loop-i.places c.loop-i.invariant.way c.loop-i-test.true c.if-i-eq-MOST_BYTES.true

pub skim-requires : goal.skim-requires
skim-requires c = record { inside = c.loop-i-test.true; good = less_room c.loop-i.i c.loop-i.machine c.loop-i.invariant.way.good; hinted = c.loop-i.invariant.hinted }

pub loop-i-preserved-then-skim : goal.loop-i-preserved-then-skim
loop-i-preserved-then-skim c =
    record {
      way = way_skim c.args.text.now c.loop-i.i c.loop-i.machine c.loop-i.count c.loop-i.said c.loop-i.steps c.loop-i.places c.loop-i.invariant.way c.loop-i-test.true c.if-i-eq-MOST_BYTES.false c.skim.new.machine c.if-skim.ensures;
      hinted = c.if-skim.ensures.hinted;
    }

pub advance_quick-requires : goal.advance_quick-requires
advance_quick-requires c =
    record {
      inside = c.loop-i-test.true;
      standing =
          record {
            good = (unchanged c.if-skim.ensures c.loop-i.invariant.way).good;
            hinted = subst (λ m. Hinted c.args.text.now c.loop-i.i m) (sym c.if-skim.ensures) c.loop-i.invariant.hinted;
          };
    }

pub returns-in_default : goal.returns-in_default
returns-in_default c = way_stuck c.args.text.now c.loop-i.i c.skim.new.machine c.loop-i.count c.loop-i.said c.loop-i.steps c.loop-i.places (unchanged c.if-skim.ensures c.loop-i.invariant.way) c.loop-i-test.true c.if-i-eq-MOST_BYTES.false c.in_default.ensures.advances

pub count_mark-counted-requires : goal.count_mark-counted-requires
count_mark-counted-requires c = record { few = c.loop-i.invariant.way.few; low = c.loop-i.invariant.way.low }

pub returns-then-counted-gt-MOST_MARKS : goal.returns-then-counted-gt-MOST_MARKS
returns-then-counted-gt-MOST_MARKS c = way_over c.args.text.now c.loop-i.i c.skim.new.machine c.loop-i.count c.loop-i.said c.loop-i.steps c.loop-i.places (unchanged c.if-skim.ensures c.loop-i.invariant.way) c.loop-i-test.true c.if-i-eq-MOST_BYTES.false c.advance_quick.new.machine c.in-Some.turn c.in-Some.ensures.advances c.count_mark-counted.result c.count_mark-counted.ensures (many_marks c.count_mark-counted.result c.if-counted-gt-MOST_MARKS.true)

pub returns-then-counted-gt-MOST_LEVELS : goal.returns-then-counted-gt-MOST_LEVELS
returns-then-counted-gt-MOST_LEVELS c = way_over c.args.text.now c.loop-i.i c.skim.new.machine c.loop-i.count c.loop-i.said c.loop-i.steps c.loop-i.places (unchanged c.if-skim.ensures c.loop-i.invariant.way) c.loop-i-test.true c.if-i-eq-MOST_BYTES.false c.advance_quick.new.machine c.in-Some.turn c.in-Some.ensures.advances c.count_mark-counted.result c.count_mark-counted.ensures (deep_level c.count_mark-counted.result c.if-counted-gt-MOST_LEVELS.true)

pub store_step-said-requires : goal.store_step-said-requires
store_step-said-requires c = omega (arith, room_now c.args.text.now c.loop-i.i c.skim.new.machine c.loop-i.count c.loop-i.said c.loop-i.steps c.loop-i.places (unchanged c.if-skim.ensures c.loop-i.invariant.way) c.loop-i-test.true c.if-i-eq-MOST_BYTES.false c.advance_quick.new.machine c.in-Some.turn c.in-Some.ensures.advances c.count_mark-counted.result c.count_mark-counted.ensures, c.if-counted-gt-MOST_MARKS.false, c.loop-i.invariant.way.long)

pub store_step-said-requires-in-loop-i : goal.store_step-said-requires-in-loop-i
store_step-said-requires-in-loop-i c = omega (arith, room_now c.args.text.now c.loop-i.i c.skim.new.machine c.loop-i.count c.loop-i.said c.loop-i.steps c.loop-i.places (unchanged c.if-skim.ensures c.loop-i.invariant.way) c.loop-i-test.true c.if-i-eq-MOST_BYTES.false c.advance_quick.new.machine c.in-Some.turn c.in-Some.ensures.advances c.count_mark-counted.result c.count_mark-counted.ensures, c.if-counted-gt-MOST_MARKS.false, c.loop-i.invariant.way.long, c.store_step-said.ensures.more, c.store_step-said.auto.steps)

pub overflow_cast-i : goal.overflow_cast-i
overflow_cast-i c = omega (arith, c.loop-i.invariant.way.short)

pub store_place-requires : goal.store_place-requires
store_place-requires c = omega (arith, place_room c.args.text.now c.loop-i.i c.skim.new.machine c.loop-i.count c.loop-i.said c.loop-i.steps c.loop-i.places (unchanged c.if-skim.ensures c.loop-i.invariant.way) c.loop-i-test.true c.if-i-eq-MOST_BYTES.false c.advance_quick.new.machine c.in-Some.turn c.in-Some.ensures.advances c.count_mark-counted.result c.count_mark-counted.ensures, c.if-counted-gt-MOST_MARKS.false, c.loop-i.invariant.way.wide)

pub loop-i-preserved : goal.loop-i-preserved
loop-i-preserved c =
    let before = c.in-Some.turn.before in
    let step = c.in-Some.turn.step in
    let said1 = c.store_step-said.result in
    let steps1 = c.store_step-said.new.steps in
    let said2 = c.store_step-said-in-loop-i.result in
    let steps2 = c.store_step-said-in-loop-i.new.steps in
    let first : reverse (take said1 steps1) ≡ option_to_list before ++ reverse (take c.loop-i.said c.loop-i.steps) = said_more (take c.loop-i.said c.loop-i.steps) (take said1 steps1) before c.store_step-said.ensures.is in
    let second : reverse (take said2 steps2) ≡ option_to_list step ++ reverse (take said1 steps1) = said_more (take said1 steps1) (take said2 steps2) step c.store_step-said-in-loop-i.ensures.is in
    let room = room_now c.args.text.now c.loop-i.i c.skim.new.machine c.loop-i.count c.loop-i.said c.loop-i.steps c.loop-i.places (unchanged c.if-skim.ensures c.loop-i.invariant.way) c.loop-i-test.true c.if-i-eq-MOST_BYTES.false c.advance_quick.new.machine c.in-Some.turn c.in-Some.ensures.advances c.count_mark-counted.result c.count_mark-counted.ensures in
    let marks = place_room c.args.text.now c.loop-i.i c.skim.new.machine c.loop-i.count c.loop-i.said c.loop-i.steps c.loop-i.places (unchanged c.if-skim.ensures c.loop-i.invariant.way) c.loop-i-test.true c.if-i-eq-MOST_BYTES.false c.advance_quick.new.machine c.in-Some.turn c.in-Some.ensures.advances c.count_mark-counted.result c.count_mark-counted.ensures in
    record {
      way =
          way_on c.args.text.now c.loop-i.i c.skim.new.machine c.loop-i.count c.loop-i.said c.loop-i.steps c.loop-i.places (unchanged c.if-skim.ensures c.loop-i.invariant.way) c.loop-i-test.true c.if-i-eq-MOST_BYTES.false c.advance_quick.new.machine c.in-Some.turn c.in-Some.ensures.advances c.count_mark-counted.result c.count_mark-counted.ensures c.if-counted-gt-MOST_MARKS.false c.if-counted-gt-MOST_LEVELS.false said2 steps2 c.store_place.new.places
          (omega (arith, c.store_step-said.auto.steps, c.store_step-said-in-loop-i.auto.steps, c.loop-i.invariant.way.long))
          (omega (arith, c.store_place.auto.places, c.loop-i.invariant.way.wide))
          (omega (arith, room, c.store_step-said.ensures.more, c.store_step-said-in-loop-i.ensures.more, c.if-counted-gt-MOST_MARKS.false))
          (second ∙ ap (λ o. option_to_list step ++ o) first)
          (ap (λ n. take n c.store_place.new.places) marks ∙ c.store_place.ensures);
      hinted = c.in-Some.ensures.kept;
    }

pub returns-then-at_lines : goal.returns-then-at_lines
returns-then-at_lines c = let on = at_end c.args.text.now c.loop-i.i c.loop-i.machine c.loop-i.count c.loop-i.said c.loop-i.steps c.loop-i.places (omega arith) c.loop-i.invariant.way in way_lines c.args.text.now (length c.args.text.now) c.loop-i.machine c.loop-i.count c.loop-i.said c.loop-i.steps c.loop-i.places on refl c.if-at_lines.ensures

pub settle_top-requires : goal.settle_top-requires
settle_top-requires c = let on = at_end c.args.text.now c.loop-i.i c.loop-i.machine c.loop-i.count c.loop-i.said c.loop-i.steps c.loop-i.places (omega arith) c.loop-i.invariant.way in record { good = on.good }

pub returns-in_default-settle_top : goal.returns-in_default-settle_top
returns-in_default-settle_top c = let on = at_end c.args.text.now c.loop-i.i c.loop-i.machine c.loop-i.count c.loop-i.said c.loop-i.steps c.loop-i.places (omega arith) c.loop-i.invariant.way in way_unsettled c.args.text.now (length c.args.text.now) c.loop-i.machine c.loop-i.count c.loop-i.said c.loop-i.steps c.loop-i.places on refl c.if-at_lines.ensures c.in_default-settle_top.ensures.settles

pub store_step-said-requires-2 : goal.store_step-said-requires-2
store_step-said-requires-2 c = let on = at_end c.args.text.now c.loop-i.i c.loop-i.machine c.loop-i.count c.loop-i.said c.loop-i.steps c.loop-i.places (omega arith) c.loop-i.invariant.way in record { room = omega (arith, room_last c.args.text.now (length c.args.text.now) c.loop-i.machine c.loop-i.count c.loop-i.said c.loop-i.steps c.loop-i.places on refl c.if-at_lines.ensures c.settle_top.new.machine c.in-Some-settle_top.last c.in-Some-settle_top.ensures.settles, on.long) }

pub returns-then-at_last_newline : goal.returns-then-at_last_newline
returns-then-at_last_newline c =
    let on = at_end c.args.text.now c.loop-i.i c.loop-i.machine c.loop-i.count c.loop-i.said c.loop-i.steps c.loop-i.places (omega arith) c.loop-i.invariant.way in
    way_taken c.args.text.now (length c.args.text.now) c.loop-i.machine c.loop-i.count c.loop-i.said c.loop-i.steps c.loop-i.places on refl c.if-at_lines.ensures c.settle_top.new.machine c.in-Some-settle_top.last c.in-Some-settle_top.ensures.settles c.if-at_last_newline.ensures c.store_step-said-2.result c.store_step-said-2.new.steps c.store_step-said-2.ensures.more
    (said_more (take c.loop-i.said c.loop-i.steps) (take c.store_step-said-2.result c.store_step-said-2.new.steps) c.in-Some-settle_top.last.step c.store_step-said-2.ensures.is)

pub returns : goal.returns
returns c = let on = at_end c.args.text.now c.loop-i.i c.loop-i.machine c.loop-i.count c.loop-i.said c.loop-i.steps c.loop-i.places (omega arith) c.loop-i.invariant.way in way_refused c.args.text.now (length c.args.text.now) c.loop-i.machine c.loop-i.count c.loop-i.said c.loop-i.steps c.loop-i.places on refl c.if-at_lines.ensures c.settle_top.new.machine c.in-Some-settle_top.last c.in-Some-settle_top.ensures.settles c.if-at_last_newline.ensures
