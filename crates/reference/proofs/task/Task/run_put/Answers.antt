use Rattle.std.proofs.Common.{get_or, Ok, Err, ap, ◌∙◌, subst}
use Rattle.std.proofs.lemmas.Result.{IfOk-from_err}
use Rattle.semantics.specs.Values.{none}
use Rattle.semantics.specs.Programs.{value_in, is_put}
use Rattle.semantics.proofs.Runs.{since_is_put}
use Rattle.numbers.specs.Operations.{binary64}
use Rattle.encoding.specs.Format.{inputs_of}
use Rattle.reference.specs.declared.fault.Stop.TheVariants.{Memory}
use Rattle.reference.specs.CellsOf.{sizes}
use Rattle.semantics.specs.Slices.{parts_of}
use Rattle.reference.specs.Running.{Replaces, replaces_wanting}
use Rattle.reference.proofs.Stating.{put_stop, put_done, small_set, went_exit}
use Rattle.reference.proofs.task.Task.run_put.Goals as goal

pub returns-in_err-list : goal.returns-in_err-list
returns-in_err-list c =
    record {
      fits = c.requires.fits;
      skips = IfOk-from_err _ _ c.from_residual.ensures.0;
      right = λ ps e s t h l. went_exit _ _ c.from_residual.result Memory c.from_residual.ensures.1 (put_stop t c.args.state.now l c.args.name (since_is_put t c.args.name ps _ _) replaces_wanting);
    }

pub returns-in_err-v : goal.returns-in_err-v
returns-in_err-v c =
    record {
      fits = c.requires.fits;
      skips = IfOk-from_err _ _ c.from_residual-in_err-v.ensures.0;
      right = λ ps e s t h l.
          let is = ap parts_of c.as_slice.ensures.value ∙ c.in_ok-list.ensures.on ps e s h in
          let r = c.in_err-v.ensures.right e s t (c.skip_brackets-operand.ensures.skips.past_slices ps e s h) l.names in
          let V = value_in (sizes c.args.self.now.places) binary64 (inputs_of c.args.self.now.inputs.now) t e in
          went_exit _ _ c.from_residual-in_err-v.result c.in_err-v.field-0.0 c.from_residual-in_err-v.ensures.1
          (put_stop t c.args.state.now l c.args.name (since_is_put t c.args.name ps _ _) (subst (λ qs. Replaces t (is_put t c.args.name qs (get_or t.names c.args.name none) V) c.args.name (Err c.in_err-v.field-0.0)) is r));
    }

pub returns : goal.returns
returns c =
    record {
      fits = small_set c.args.state.now.names c.put_cell.new.names c.args.name c.in_ok-v.v.made.array c.in_ok-v.ensures.small c.in-Ok.ensures.1 c.requires.fits;
      skips = record { on = λ ps e s h. c.in_ok-v.ensures.skips.on e s (c.skip_brackets-operand.ensures.skips.past_slices ps e s h) };
      right = λ ps e s t h l.
          let is = ap parts_of c.as_slice.ensures.value ∙ c.in_ok-list.ensures.on ps e s h in
          let r = c.in_ok-v.ensures.right e s t (c.skip_brackets-operand.ensures.skips.past_slices ps e s h) l.names in
          let V = value_in (sizes c.args.self.now.places) binary64 (inputs_of c.args.self.now.inputs.now) t e in
          put_done t c.args.state.now l c.args.name {v = c.in_ok-v.v} c.put_cell.new.names (subst (λ qs. Replaces t (is_put t c.args.name qs (get_or t.names c.args.name none) V) c.args.name (Ok c.in_ok-v.v)) is r) c.in-Ok.ensures.1;
    }
