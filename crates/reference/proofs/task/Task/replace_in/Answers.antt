use Rattle.std.proofs.Common.{Some, sym, arith}
use Rattle.std.proofs.lemmas.List.{length-map}
use Rattle.reference.specs.declared.fault.Stop.TheVariants.{Memory}
use Rattle.reference.specs.ArrayOf.{array_of}
use Rattle.semantics.specs.Slices.{part_of, parts_of}
use Rattle.reference.specs.Running.{replaces_wanting}
use Rattle.reference.proofs.Measured.{length_shape, length_fit}
use Rattle.reference.proofs.Stating.{replace_stop, replace_unfit, replace_apart, replace_done, replaces_exit, size_put}
use Rattle.reference.proofs.task.Task.replace_in.Goals as goal

pub returns-in_err-v : goal.returns-in_err-v
returns-in_err-v c k =
    replaces_exit c.args.self.now.words.now c.args.self.now.inputs.now c.args.names.now c.args.node c.args.self.now.places (parts_of c.args.list.now) c.from_residual.result k (Some c.args.old.now) c.in_err-v.field-0.0 c.from_residual.ensures.1
    (record { small = tt; skips = tt; right = λ e s t d h l m. replace_stop t k (parts_of c.args.list.now) c.args.old.now m (c.in_err-v.ensures.right e s t h l) })

pub returns-then-not-slices_fit : goal.returns-then-not-slices_fit
returns-then-not-slices_fit c k =
    record { small = tt; skips = tt; right = λ e s t d h l m. replace_unfit t k (parts_of c.args.list.now) c.args.old.now m (c.in_ok-v.ensures.right e s t h l) (sym c.if-not-slices_fit.ensures) }

pub replaceable-requires : goal.replaceable-requires
replaceable-requires c =
    record { few = omega (arith, length_fit (parts_of c.args.list.now) _ (sym c.if-not-slices_fit.ensures), length-map c.args.list.now part_of, length_shape c.args.old.now.shape) }

pub returns-then-not-replaceable : goal.returns-then-not-replaceable
returns-then-not-replaceable c k =
    record { small = tt; skips = tt; right = λ e s t d h l m. replace_apart t k (parts_of c.args.list.now) c.args.old.now m (c.in_ok-v.ensures.right e s t h l) (sym c.if-not-slices_fit.ensures) (sym c.if-not-replaceable.ensures) }

pub returns : goal.returns
returns c k =
    record {
      small = size_put (parts_of c.args.list.now) (array_of c.args.old.now) (array_of c.in_ok-v.v.made.array) c.in_ok-array.array c.in_ok-array.ensures c.requires.fits;
      skips = c.in_ok-v.ensures.skips;
      right = λ e s t d h l m. replace_done t k (parts_of c.args.list.now) c.args.old.now m (c.in_ok-v.ensures.right e s t h l) (sym c.if-not-slices_fit.ensures) (sym c.if-not-replaceable.ensures) c.in_ok-array.ensures;
    }

pub returns-in_err-array : goal.returns-in_err-array
returns-in_err-array c k =
    replaces_exit c.args.self.now.words.now c.args.self.now.inputs.now c.args.names.now c.args.node c.args.self.now.places (parts_of c.args.list.now) c.from_residual-in_err-array.result k (Some c.args.old.now) Memory c.from_residual-in_err-array.ensures.1
    (record { small = tt; skips = tt; right = λ e s t d h l m. replaces_wanting })
