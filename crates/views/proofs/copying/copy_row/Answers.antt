use Rattle.std.proofs.Common.{[], ◌∷◌, length, sym, subst, w64}
use Rattle.std.proofs.lemmas.Int.{to_z-of_z}
use Rattle.views.specs.declared.view.Source.TheVariants.{Area, Input}
use Rattle.views.specs.Copying.{Walk, Copied}
use Rattle.views.proofs.Copies.{some_room, copied_run, copied_words, copied_numbers, run_ends, one_from_bits}
use Rattle.views.proofs.copying.copy_row.Goals as goal

pub copy_run-requires : goal.copy_run-requires
copy_run-requires c =
    let walk = subst (λ o. Walk o c.args.lent.area.now c.args.lent.bytes.now (length c.args.out.now ∷ []) (c.args.stride ∷ []) c.args.from) c.in-Area.is c.requires in
    run_ends walk (one_from_bits c.ranges.stride c.if-stride-eq1.true) (some_room _ c.if-not-is_empty.ensures)

pub returns-then-not-is_empty : goal.returns-then-not-is_empty
returns-then-not-is_empty c =
    subst (λ o. Copied o c.args.lent.area.now c.args.lent.bytes.now (length c.args.out.now ∷ []) (c.args.stride ∷ []) c.args.from c.copy_run.new.out) (sym c.in-Area.is)
    (copied_run (one_from_bits c.ranges.stride c.if-stride-eq1.true) c.copy_run.ensures)

pub returns-else-stride-eq1 : goal.returns-else-stride-eq1
returns-else-stride-eq1 c =
    subst (λ o. Copied o c.args.lent.area.now c.args.lent.bytes.now (length c.args.out.now ∷ []) (c.args.stride ∷ []) c.args.from c.copy_words.new.out) (sym c.in-Area.is)
    (subst (λ z. Copied Area c.args.lent.area.now c.args.lent.bytes.now (length c.args.out.now ∷ []) (z ∷ []) c.args.from c.copy_words.new.out) (to_z-of_z w64 c.args.stride c.ranges.stride)
    (copied_words c.copy_words.ensures))

pub returns-in-Input : goal.returns-in-Input
returns-in-Input c =
    subst (λ o. Copied o c.args.lent.area.now c.args.lent.bytes.now (length c.args.out.now ∷ []) (c.args.stride ∷ []) c.args.from c.copy_numbers.new.out) (sym c.in-Input.is)
    (subst (λ z. Copied (Input c.in-Input.base) c.args.lent.area.now c.args.lent.bytes.now (length c.args.out.now ∷ []) (z ∷ []) c.args.from c.copy_numbers.new.out) (to_z-of_z w64 c.args.stride c.ranges.stride)
    (copied_numbers c.copy_numbers.ensures))
