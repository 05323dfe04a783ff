use Rattle.std.proofs.Common.{◌+◌, ◌*◌, IfOk, subst}
use Rattle.semantics.specs.Shapes.{flat}
use Rattle.semantics.specs.Arrays.{Alike}
use Rattle.encoding.specs.Format.{number_at, shape_at, array_at}
use Rattle.reference.specs.ArrayOf.{array_of, array_with}
use Rattle.reference.proofs.decode.decode.Goals as goal

pub returns : goal.returns
unfolding array_at
returns c i heads =
    let bs = c.args.bytes.now in
    let h = c.args.head in
    let shaped =
    subst (λ s. IfOk c.tabulate.result (λ a. Alike (array_of a) (array_with s (λ is. number_at bs (h.start + 8 * flat s is))))) heads.shaped c.tabulate.ensures in
    subst (λ n. IfOk c.tabulate.result (λ a. Alike (array_of a) (array_with (shape_at bs i) (λ is. number_at bs (n + 8 * flat (shape_at bs i) is))))) heads.starts shaped
