use Rattle.std.proofs.Common.{◌≡◌, pos, ◌-ℤ◌, ◌*ℤ◌, neg_ℤ, refl, ap, ◌∙◌, w64, SFits, rules}
use lib.IntN.{+ℤ_idl}
use Rattle.std.proofs.lemmas.Bool.{lt-ltb, le-ltb}
use Rattle.views.specs.Slicing.{part_stride}
use Rattle.views.proofs.Casts.{mul_is, kept_is}
use Rattle.views.proofs.slice.stride_of_slice.Goals as goal

pub returns-then-slice-le1 : goal.returns-then-slice-le1
unfolding part_stride
returns-then-slice-le1 c = rw (le-ltb 1 c.args.slice.many c.if-slice-le1.true) refl

pub returns-then-slice : goal.returns-then-slice
unfolding part_stride
returns-then-slice c =
    let g : SFits w64 c.from.result = search rules in
    let product = kept_is (mul_is c.ranges.stride g c.from.ensures) (c.requires.forth c.if-slice-le1.false) in
    let back : pos 0 -ℤ (c.args.stride *ℤ pos c.args.slice.step) ≡ neg_ℤ (c.args.stride *ℤ pos c.args.slice.step) = +ℤ_idl _ in
    kept_is (ap (λ z. pos 0 -ℤ z) product ∙ back) (c.requires.back c.if-slice-le1.false) ∙ rw (lt-ltb 1 c.args.slice.many c.if-slice-le1.false, c.if-slice.true) refl

pub returns-else-slice : goal.returns-else-slice
unfolding part_stride
returns-else-slice c =
    let g : SFits w64 c.from.result = search rules in
    kept_is (mul_is c.ranges.stride g c.from.ensures) (c.requires.forth c.if-slice-le1.false) ∙ rw (lt-ltb 1 c.args.slice.many c.if-slice-le1.false, c.if-slice.false) refl
