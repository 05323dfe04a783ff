use Rattle.std.proofs.Common.{◌≡◌, Some, None, Option, IsSome, MatchOption, rules, arith}
use Rattle.std.specs.Option.{option_map}
use Rattle.semantics.specs.Slices.{part_of, no_part}
use Rattle.program.specs.Leading.{slice_in, slices_at}
use Rattle.program.proofs.Storing.{length_steps_in}
use Rattle.program.proofs.Leadings.{read_there, read_some}
use Rattle.program.proofs.lists.slice_at.Goals as goal

mapped_some : {A B : Type 0} (f : A → B) (o : Option A) (y : B) → option_map f o ≡ Some y → IsSome o
mapped_some f None y e = cc
mapped_some f (Some x) y e = search rules

pub overflow_add-node : goal.overflow_add-node
unfolding slices_at
overflow_add-node c = omega (arith, read_there slice_in no_part c.args.words.now c.args.node c.args.index c.requires, length_steps_in c.args.words.now)

pub unwrap-requires : goal.unwrap-requires
unfolding slices_at
unwrap-requires c =
    let h : MatchOption c.step_at.result (option_map part_of c.and_then.result ≡ None) (λ x. option_map part_of c.and_then.result ≡ slice_in x) = search rules in
    let found = read_some slice_in no_part c.args.words.now c.args.node c.args.index c.requires c.step_at.result c.step_at.ensures (option_map part_of c.and_then.result) h in
    mapped_some part_of c.and_then.result _ found

pub returns : goal.returns
unfolding slices_at
returns c =
    let h : MatchOption c.step_at.result (option_map part_of c.and_then.result ≡ None) (λ x. option_map part_of c.and_then.result ≡ slice_in x) = search rules in
    let found = read_some slice_in no_part c.args.words.now c.args.node c.args.index c.requires c.step_at.result c.step_at.ensures (option_map part_of c.and_then.result) h in
    let is = rw c.unwrap.ensures at found in cc
