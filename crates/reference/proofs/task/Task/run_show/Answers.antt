use Rattle.std.proofs.Common.{◌++◌, vec_items, refl, ap, ◌∙◌}
use Rattle.std.proofs.lemmas.Result.{IfOk-from_err}
use Rattle.reference.specs.declared.fault.Stop.TheVariants.{Memory}
use Rattle.reference.proofs.Stating.{show_stop, show_wanting, show_done, went_exit}
use Rattle.reference.proofs.task.Task.run_show.Goals as goal

pub returns-in_err-v : goal.returns-in_err-v
returns-in_err-v c =
    record {
      fits = c.requires.fits;
      skips = IfOk-from_err _ _ c.from_residual.ensures.0;
      right = λ e s t h l. went_exit _ _ c.from_residual.result c.in_err-v.field-0.0 c.from_residual.ensures.1 (show_stop t c.args.state.now l (c.in_err-v.ensures.right e s t h l.names));
    }

pub returns-in_err-bytes : goal.returns-in_err-bytes
returns-in_err-bytes c =
    record {
      fits = c.requires.fits;
      skips = IfOk-from_err _ _ c.from_residual-in_err-bytes.ensures.0;
      right = λ e s t h l. went_exit _ _ c.from_residual-in_err-bytes.result Memory c.from_residual-in_err-bytes.ensures.1 (show_wanting t c.args.state.now l _ c.args.state.now.shown refl);
    }

pub returns-in_err-extend_from_slice : goal.returns-in_err-extend_from_slice
returns-in_err-extend_from_slice c =
    record {
      fits = c.requires.fits;
      skips = IfOk-from_err _ _ c.from_residual-in_err-extend_from_slice.ensures.0;
      right = λ e s t h l. went_exit _ _ c.from_residual-in_err-extend_from_slice.result Memory c.from_residual-in_err-extend_from_slice.ensures.1 (show_wanting t c.args.state.now l _ c.extend_from_slice.new.self c.in_err-extend_from_slice.ensures.items);
    }

pub returns : goal.returns
returns c =
    record {
      fits = c.requires.fits;
      skips = c.in_ok-v.ensures.skips;
      right = λ e s t h l. show_done t c.args.state.now l c.extend_from_slice.new.self (c.in_ok-v.ensures.right e s t h l.names) (c.in_ok-extend_from_slice.ensures.items ∙ ap (λ x. vec_items c.args.state.now.shown ++ x) (c.as_slice.ensures.value ∙ c.in_ok-bytes.ensures));
    }
