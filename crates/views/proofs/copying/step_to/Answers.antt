use Rattle.std.proofs.Common.{◌≡◌, pos, ◌*ℤ◌, refl, ap, ◌∙◌, arith, w64, SFits, to_z, of_z}
use Rattle.std.proofs.lemmas.Int.{to_z-of_z, to_z_pos}
use Rattle.views.proofs.Walks.{apart_fits, lies_fits}
use Rattle.views.specs.Walking.{Lies}
use Rattle.views.proofs.Casts.{add_is, kept_is, nat_casts}
use Rattle.views.proofs.copying.step_to.Goals as goal

pub overflow_cast-result-3 : goal.overflow_cast-result-3
overflow_cast-result-3 c =
    let m = c.requires in
    let here : Lies 0 m.high (pos c.args.from) = record { word = c.args.from; is = refl; above = omega arith; below = m.here } in
    let far : SFits w64 (c.args.stride *ℤ pos c.args.index) = apart_fits m.short here m.there in
    let f : SFits w64 c.args.stride = c.ranges.stride in
    let product : to_z w64 (of_z w64 c.args.stride) *ℤ to_z w64 c.args.index ≡ c.args.stride *ℤ pos c.args.index
    = ap (λ x. x *ℤ to_z w64 c.args.index) (to_z-of_z w64 c.args.stride f) ∙ ap (λ x. c.args.stride *ℤ x) (to_z_pos w64 c.args.index (omega arith))
    in
    let begins : to_z w64 c.args.from ≡ pos c.args.from = to_z_pos w64 c.args.from (omega arith) in
    nat_casts (kept_is (add_is begins product far) (lies_fits m.short m.there) ∙ m.there.is) (omega arith)
