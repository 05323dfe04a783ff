use Rattle.std.proofs.Common.{◌≡◌, ℕ, ◌+◌, ◌-◌, ◌<◌, ◌≤◌, [], ◌∷◌, length, take, drop, sym, ap, ◌∙◌, subst, add_assoc, arith, w64, SFits, rules}
use lib.Ieee.{nan}
use Rattle.std.proofs.lemmas.Int.{to_z-of_z}
use Rattle.semantics.specs.Shapes.{unflat}
use Rattle.encoding.specs.ShapeOf.{shape_of}
use Rattle.numbers.specs.Standing.{StandsFor}
use Rattle.views.specs.Views.{seen}
use Rattle.views.specs.Copying.{Walk}
use Rattle.kernels.specs.Blocks.{at}
use Rattle.kernels.specs.Reading.{along}
use borrow.Rule.Slice.PartMut.{put_mid}
use Rattle.kernels.proofs.Turns.{part_below, part_long, length_part}
use Rattle.kernels.proofs.Readings.{row_walk, row_seen, stands_to}
use Rattle.kernels.proofs.leaves.fill_rows.Goals as goal

pub read_row-requires : goal.read_row-requires
read_row-requires c =
    let v = c.args.view.now in
    let r = c.row_at-row.result in
    let row = c.row_at-row.ensures in
    let done = c.loop-done.done in
    let count = c.min-count.result in
    let long = length_part nan done count c.loop-done.out (omega arith) in
    let f : SFits w64 r.stride = search rules in
    record {
      walk = subst (λ z. Walk v.source c.args.lent.area.now c.args.lent.bytes.now (length (take (done + count - done) (drop done c.loop-done.out)) ∷ []) (z ∷ []) r.from) (sym (to_z-of_z w64 r.stride f))
          (row_walk v (c.args.first + done) r (length (take (done + count - done) (drop done c.loop-done.out))) c.requires.good c.requires.there row (omega arith));
      some = omega arith;
    }

pub loop-done-preserved : goal.loop-done-preserved
loop-done-preserved c =
    let v = c.args.view.now in
    let r = c.row_at-row.result in
    let row = c.row_at-row.ensures in
    let done = c.loop-done.done in
    let count = c.min-count.result in
    let f : SFits w64 r.stride = search rules in
    let out = c.loop-done.out in
    let part = c.read_row.new.out in
    let few : done ≤ length out = omega arith in
    let long = length_part nan done count out (omega arith) in
    let same : length part ≡ count = omega arith in
    let area = c.args.lent.area.now in
    let bytes = c.args.lent.bytes.now in
    let new = put_mid done (done + count - done) out part in (
      subst (λ n. done + n ≤ length new) same (part_long nan done (done + count - done) out part few),
      subst (λ n. (k : ℕ) → k < done + n → StandsFor (at new k) (seen area bytes v (unflat (shape_of v.shape) (c.args.first + k)))) same
          (part_below nan (λ k x. StandsFor x (seen area bytes v (unflat (shape_of v.shape) (c.args.first + k)))) done (done + count - done) out part few c.loop-done.invariant.1
          (λ j l.
          stands_to
          (ap (λ z. along v.source area bytes r.from z j) (to_z-of_z w64 r.stride f)
          ∙ (row_seen area bytes v (c.args.first + done) r j row (omega arith) ∙ ap (λ n. seen area bytes v (unflat (shape_of v.shape) n)) (add_assoc c.args.first done j)))
          (c.read_row.ensures.each j l))),
    )
