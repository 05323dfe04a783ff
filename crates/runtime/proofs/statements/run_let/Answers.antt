use Rattle.std.proofs.Common.{refl, ap, arith}
use Rattle.std.proofs.lemmas.Result.{IfOk-from_err}
use Rattle.kernels.proofs.Shallows.{few_steps_shallow}
use Rattle.runtime.specs.Faults.{fault_number}
use Rattle.runtime.proofs.Binding.{view_keeps}
use Rattle.runtime.proofs.Stating.{plan_ready, view_size, plan_let_stop, plan_let_nowhere, plan_let_view, plan_let_new, let_exit}
use Rattle.runtime.proofs.statements.run_let.Goals as goal

pub returns-in_err-planned : goal.returns-in_err-planned
returns-in_err-planned c =
    record {
      keeps = c.requires.keeps;
      skips = IfOk-from_err _ _ c.from_residual.ensures.0;
      right = λ e t u enc st.
          let_exit c.from_residual.result c.in_err-planned.field-0.0 c.from_residual.ensures.1
          (plan_let_stop c.args.words.now c.args.node c.requires.runnable c.args.area.now c.args.inputs.now c.args.memory.now c.requires.keeps.counted _ refl e t enc u st c.args.name c.args.area.now c.args.memory.now.names c.in_err-planned.ensures);
    }

pub returns-then-k-ge64 : goal.returns-then-k-ge64
returns-then-k-ge64 c =
    record {
      keeps = c.requires.keeps;
      skips = tt;
      right = λ e t u enc st.
          plan_let_nowhere c.args.words.now c.args.node c.requires.runnable c.args.area.now c.args.inputs.now c.args.memory.now c.requires.keeps.counted _ refl e t enc u st c.args.name c.in_ok-planned.planned c.in_ok-planned.ensures c.args.area.now c.args.memory.now.names c.if-k-ge64.true (ap fault_number c.at.ensures.fault);
    }

pub find_view-requires : goal.find_view-requires
find_view-requires c = record { stands = c.requires.stands; good = record { each = c.requires.keeps.neat.good } }

pub bind-requires : goal.bind-requires
bind-requires c =
    let h = c.in_ok-planned.ensures in
    let many = view_size c.args.words.now c.args.node c.requires.runnable c.args.area.now c.args.inputs.now c.args.memory.now c.requires.keeps.counted _ refl c.in-Some.view c.requires.stands c.requires.standing h c.in-Some.ensures in
    record { there = c.if-k-ge64.false; counted = c.requires.keeps.counted; few = omega (arith, h.within.0, h.within.1, c.requires.keeps.within, c.requires.small) }

pub bind_new-requires : goal.bind_new-requires
bind_new-requires c =
    let h = c.in_ok-planned.ensures in
    record {
      there = c.if-k-ge64.false;
      ready = plan_ready c.args.words.now c.args.node c.requires.runnable c.args.area.now c.args.inputs.now c.args.memory.now c.requires.keeps.counted _ refl c.requires.stands c.requires.standing h;
      shallow = few_steps_shallow c.args.words.now c.args.node (omega (arith, c.requires.runnable.few));
      keeps = c.requires.keeps;
      small = c.requires.small;
      fits = omega (arith, h.within.0, h.within.1, c.requires.keeps.within);
      scratch = c.requires.scratch;
    }

pub returns-in-Some : goal.returns-in-Some
returns-in-Some c =
    let h = c.in_ok-planned.ensures in
    let many = view_size c.args.words.now c.args.node c.requires.runnable c.args.area.now c.args.inputs.now c.args.memory.now c.requires.keeps.counted _ refl c.in-Some.view c.requires.stands c.requires.standing h c.in-Some.ensures in
    record {
      keeps = view_keeps c.args.area.now c.args.memory.now c.bind.new.memory c.requires.keeps c.args.words.now c.args.node c.args.inputs.now c.in-Some.view c.in-Some.ensures c.args.name c.if-k-ge64.false c.bind.ensures (omega (arith, h.within.0, h.within.1, c.requires.keeps.within));
      skips = h.skips;
      right = λ e t u enc st.
          plan_let_view c.args.words.now c.args.node c.requires.runnable c.args.area.now c.args.inputs.now c.args.memory.now c.requires.keeps.counted _ refl e t enc u st c.args.name c.in_ok-planned.planned h c.bind.new.memory c.in-Some.view c.if-k-ge64.false c.in-Some.ensures c.bind.ensures;
    }

pub returns-in-None : goal.returns-in-None
returns-in-None c =
    let h = c.in_ok-planned.ensures in
    record {
      keeps = c.bind_new.ensures.keeps;
      skips = h.skips;
      right = λ e t u enc st.
          plan_let_new c.args.words.now c.args.node c.requires.runnable c.args.area.now c.args.inputs.now c.args.memory.now c.requires.keeps.counted _ refl e t enc u st c.args.name c.in_ok-planned.planned h c.bind_new.new.area c.bind_new.new.memory c.if-k-ge64.false c.bind_new.ensures.bound;
    }
