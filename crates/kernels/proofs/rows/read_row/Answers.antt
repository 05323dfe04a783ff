use Rattle.std.proofs.Common.{[], ◌∷◌, length, sym, ap, ◌∙◌, subst, arith, w64}
use Rattle.std.proofs.lemmas.Int.{to_z-of_z}
use Rattle.views.specs.declared.view.Source.TheVariants.{Area, Input}
use Rattle.views.specs.Copying.{Walk}
use Rattle.views.proofs.Copies.{run_ends, one_from_bits}
use Rattle.kernels.specs.Blocks.{StandFor}
use Rattle.kernels.specs.Reading.{along}
use Rattle.kernels.proofs.Readings.{stand_same, along_run, along_bytes, along_still, along_area, along_input, walk_reaches, bytes_end, zero_from_bits, stands_to}
use Rattle.kernels.proofs.rows.read_row.Goals as goal

pub number_at-requires : goal.number_at-requires
number_at-requires c = walk_reaches c.requires.walk c.requires.some

pub returns-then-stride-eq0 : goal.returns-then-stride-eq0
returns-then-stride-eq0 c =
    stand_same (λ j l. along_still c.args.source c.args.lent.area.now c.args.lent.bytes.now c.args.from c.args.stride j (zero_from_bits c.ranges.stride c.if-stride-eq0.true))
    (c.fill_with.ensures _ (stands_to c.number_at.ensures c.float_of.ensures))

pub read_run-requires : goal.read_run-requires
read_run-requires c =
    let walk = subst (λ o. Walk o c.args.lent.area.now c.args.lent.bytes.now (length c.args.out.now ∷ []) (c.args.stride ∷ []) c.args.from) c.in-Area.is c.requires.walk in
    run_ends walk (one_from_bits c.ranges.stride c.if-stride-eq1.true) c.requires.some

pub returns-then-stride-eq1 : goal.returns-then-stride-eq1
returns-then-stride-eq1 c =
    subst (λ o. StandFor c.read_run.new.out (along o c.args.lent.area.now c.args.lent.bytes.now c.args.from c.args.stride)) (sym c.in-Area.is)
    (stand_same (λ j l. along_run c.args.lent.area.now c.args.lent.bytes.now c.args.from c.args.stride j (one_from_bits c.ranges.stride c.if-stride-eq1.true)) c.read_run.ensures)

pub returns-else-stride-eq1 : goal.returns-else-stride-eq1
returns-else-stride-eq1 c =
    subst (λ o. StandFor c.read_words.new.out (along o c.args.lent.area.now c.args.lent.bytes.now c.args.from c.args.stride)) (sym c.in-Area.is)
    (stand_same (λ j l. along_area c.args.lent.area.now c.args.lent.bytes.now c.args.from _ j ∙ ap (λ z. along Area c.args.lent.area.now c.args.lent.bytes.now c.args.from z j) (to_z-of_z w64 c.args.stride c.ranges.stride)) c.read_words.ensures)

pub overflow_mul-from : goal.overflow_mul-from
overflow_mul-from c = record { fits = omega (arith, bytes_end c.in-Input.is c.requires.walk (one_from_bits c.ranges.stride c.if-stride-eq1-2.true) c.requires.some) }

pub overflow_add-base : goal.overflow_add-base
overflow_add-base c = record { fits = omega (arith, bytes_end c.in-Input.is c.requires.walk (one_from_bits c.ranges.stride c.if-stride-eq1-2.true) c.requires.some) }

pub read_bytes_run-requires : goal.read_bytes_run-requires
read_bytes_run-requires c = bytes_end c.in-Input.is c.requires.walk (one_from_bits c.ranges.stride c.if-stride-eq1-2.true) c.requires.some

pub returns-then-stride-eq1-2 : goal.returns-then-stride-eq1-2
returns-then-stride-eq1-2 c =
    subst (λ o. StandFor c.read_bytes_run.new.out (along o c.args.lent.area.now c.args.lent.bytes.now c.args.from c.args.stride)) (sym c.in-Input.is)
    (stand_same (λ j l. along_bytes c.in-Input.base c.args.lent.area.now c.args.lent.bytes.now c.args.from c.args.stride j (one_from_bits c.ranges.stride c.if-stride-eq1-2.true)) c.read_bytes_run.ensures)

pub returns-else-stride-eq1-2 : goal.returns-else-stride-eq1-2
returns-else-stride-eq1-2 c =
    subst (λ o. StandFor c.read_numbers.new.out (along o c.args.lent.area.now c.args.lent.bytes.now c.args.from c.args.stride)) (sym c.in-Input.is)
    (stand_same (λ j l. along_input c.in-Input.base c.args.lent.area.now c.args.lent.bytes.now c.args.from _ j ∙ ap (λ z. along (Input c.in-Input.base) c.args.lent.area.now c.args.lent.bytes.now c.args.from z j) (to_z-of_z w64 c.args.stride c.ranges.stride)) c.read_numbers.ensures)
