use Rattle.std.proofs.Common.{sym, refl, ap, ◌∙◌, subst, arith}
use Rattle.std.proofs.lemmas.Result.{IfOk-from_err}
use Rattle.kernels.proofs.Shallows.{few_steps_shallow}
use Rattle.encoding.specs.ShapeOf.{shape_of}
use Rattle.runtime.specs.Showing.{TreeShown}
use Rattle.runtime.specs.Statements.{ShowGoes}
use Rattle.runtime.proofs.Stops.{exits, found, missed}
use Rattle.runtime.proofs.Stating.{plan_ready, plan_show_stop, plan_show_done, plan_show_full, show_exit}
use Rattle.runtime.proofs.statements.run_show.Goals as goal

pub returns-in_err-planned : goal.returns-in_err-planned
returns-in_err-planned c =
    record {
      skips = IfOk-from_err _ _ c.from_residual.ensures.0;
      right = λ e t u enc st.
          show_exit u _ c.args.shown c.args.room.now c.args.room.now c.from_residual.result c.in_err-planned.field-0.0 c.from_residual.ensures.1
          (plan_show_stop c.args.words.now c.args.node c.requires.runnable c.args.area.now c.args.inputs.now c.args.memory.now c.requires.keeps.counted _ refl e t enc u st c.args.shown c.args.room.now c.in_err-planned.ensures);
    }

pub show_tree-requires : goal.show_tree-requires
show_tree-requires c =
    let h = c.in_ok-planned.ensures in
    record {
      ready = plan_ready c.args.words.now c.args.node c.requires.runnable c.args.area.now c.args.inputs.now c.args.memory.now c.requires.keeps.counted _ refl c.requires.stands c.requires.standing h;
      shallow = few_steps_shallow c.args.words.now c.args.node (omega (arith, c.requires.runnable.few));
      small = omega (arith, h.within.0, h.within.1, c.requires.small);
      behind = c.requires.behind;
      scratch = c.requires.scratch;
    }

pub returns : goal.returns
returns c =
    let h = found c.show_tree.result c.at.result c.in_ok-end.end (sym c.ok_or.ensures.value ∙ c.in_ok-end.was) in
    record {
      skips = c.in_ok-planned.ensures.skips;
      right = λ e t u enc st.
          plan_show_done c.args.words.now c.args.node c.requires.runnable c.args.area.now c.args.inputs.now c.args.memory.now c.requires.keeps.counted _ refl e t enc u st c.in_ok-planned.planned c.in_ok-planned.ensures c.args.shown c.args.room.now c.show_tree.new.room _
          (subst (TreeShown c.args.words.now c.args.node c.args.memory.now.names c.args.area.now c.args.inputs.now (shape_of c.in_ok-planned.planned.shape) c.args.shown c.args.room.now c.show_tree.new.room) h c.show_tree.ensures);
    }

pub returns-in_err-end : goal.returns-in_err-end
returns-in_err-end c =
    let x = c.in_err-end.field-0.0 in
    let m = missed c.show_tree.result c.at.result x (sym c.ok_or.ensures.value ∙ c.in_err-end.was) in
    record {
      skips = IfOk-from_err _ _ c.from_residual-in_err-end.ensures.0;
      right = λ e t u enc st.
          exits (ShowGoes u _ c.args.shown c.args.room.now c.show_tree.new.room) c.from_residual-in_err-end.result x c.from_residual-in_err-end.ensures.1
          (plan_show_full c.args.words.now c.args.node c.requires.runnable c.args.area.now c.args.inputs.now c.args.memory.now c.requires.keeps.counted _ refl e t enc u st c.in_ok-planned.planned c.in_ok-planned.ensures c.args.shown c.args.room.now c.show_tree.new.room x (ap (λ s. s.fault) m.1 ∙ c.at.ensures.fault)
          (subst (TreeShown c.args.words.now c.args.node c.args.memory.now.names c.args.area.now c.args.inputs.now (shape_of c.in_ok-planned.planned.shape) c.args.shown c.args.room.now c.show_tree.new.room) m.0 c.show_tree.ensures));
    }
