use Rattle.std.proofs.Common.{sym, subst}
use Rattle.std.proofs.lemmas.Result.{IfOk-from_err}
use Rattle.reference.specs.declared.fault.Fault.TheVariants.{Nothing}
use Rattle.reference.specs.Running.{SmallNames}
use Rattle.reference.proofs.Stating.{let_stop, let_nowhere, let_done, small_set, went_exit, went_fault}
use Rattle.reference.proofs.task.Task.run_let.Goals as goal

pub returns-in_err-v : goal.returns-in_err-v
returns-in_err-v c =
    record {
      fits = c.requires.fits;
      skips = IfOk-from_err _ _ c.from_residual.ensures.0;
      right = λ e s t h l. went_exit _ _ c.from_residual.result c.in_err-v.field-0.0 c.from_residual.ensures.1 (let_stop c.args.self.now.places t c.args.state.now l c.args.name (c.in_err-v.ensures.right e s t h l.names));
    }

pub returns-in_err-put_cell : goal.returns-in_err-put_cell
returns-in_err-put_cell c =
    record {
      fits = subst (λ n. SmallNames n) (sym c.in_err-put_cell.ensures.2) c.requires.fits;
      skips = IfOk-from_err _ _ c.from_residual-in_err-put_cell.ensures.0;
      right = λ e s t h l.
          went_fault _ _ c.from_residual-in_err-put_cell.result c.in_err-put_cell.field-0.0 Nothing c.from_residual-in_err-put_cell.ensures.1 c.in_err-put_cell.ensures.1
          (let_nowhere c.args.self.now.places t c.args.state.now l c.args.name c.put_cell.new.names (c.in_ok-v.ensures.right e s t h l.names) c.in_err-put_cell.ensures.0);
    }

pub returns : goal.returns
returns c =
    record {
      fits = small_set c.args.state.now.names c.put_cell.new.names c.args.name c.in_ok-v.v.made.array c.in_ok-v.ensures.small c.in_ok-put_cell.ensures.1 c.requires.fits;
      skips = c.in_ok-v.ensures.skips;
      right = λ e s t h l. let_done c.args.self.now.places t c.args.state.now l c.args.name c.put_cell.new.names (c.in_ok-v.ensures.right e s t h l.names) c.in_ok-put_cell.ensures.0 c.in_ok-put_cell.ensures.1;
    }
