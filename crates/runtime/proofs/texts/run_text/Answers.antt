use Rattle.std.proofs.Common.{◌≡◌, ℕ, ◌-◌, ◌*◌, ◌≤◌, true, false, length, take, drop, refl, ap, ◌∙◌, subst, arith}
use Rattle.std.proofs.lemmas.List.{length-take-le, drop_at}
use Rattle.runtime.specs.Running.{RunsAs}
use Rattle.runtime.specs.Answering.{Answers, for_text, for_steps_not_built, for_size, for_input, for_steps, for_work}
use Rattle.runtime.proofs.Stops.{exits}
use Rattle.runtime.proofs.Answering.{refuses_flaw, text_taken, text_unbuilt, text_stands, text_runnable, text_runs, length_taken}
use Rattle.runtime.proofs.texts.run_text.Goals as goal

pub returns-in_err-count : goal.returns-in_err-count
returns-in_err-count c =
    exits (λ r. Answers c.args.text.now c.args.inputs.now c.args.places c.args.steps.now c.args.steps.now c.args.work.now c.args.work.now c.args.room.now c.args.room.now r)
    c.from_residual.result _ c.from_residual.ensures.1
    (refuses_flaw c.args.text.now c.args.inputs.now c.args.places (length c.args.steps.now) (length c.args.work.now) c.read_text.new.steps c.read_text.new.places c.in_err-count.field-0.0 c.in_err-count.ensures, refl, refl, refl)

pub returns-in-Some : goal.returns-in-Some
returns-in-Some c =
    let read = c.in_ok-count.ensures in
    (for_steps_not_built (text_unbuilt c.args.text.now c.read_text.new.steps c.read_text.new.places c.in_ok-count.count read c.in-Some.k (omega (arith, read.2, c.read_text.auto.steps)) c.in-Some.ensures), refl, refl, refl)

pub returns-in_err-count_inputs : goal.returns-in_err-count_inputs
returns-in_err-count_inputs c =
    let read = c.in_ok-count.ensures in
    let bad = c.in_err-count_inputs.ensures in
    exits (λ r. Answers c.args.text.now c.args.inputs.now c.args.places c.args.steps.now c.args.steps.now c.args.work.now c.args.work.now c.args.room.now c.args.room.now r)
    c.from_residual-in_err-count_inputs.result _ c.from_residual-in_err-count_inputs.ensures.1
    (for_input (text_taken c.args.text.now c.read_text.new.steps c.read_text.new.places c.in_ok-count.count read c.in_default.ensures) bad.early bad.count, refl, refl, refl)

pub returns-then-steps-count : goal.returns-then-steps-count
returns-then-steps-count c =
    let read = c.in_ok-count.ensures in
    let good = c.in_ok-count_inputs.ensures in
    let many = length_taken c.args.text.now c.read_text.new.steps c.read_text.new.places c.in_ok-count.count read (omega (arith, read.2, c.read_text.auto.steps)) c.in_default.ensures in
    (for_steps (text_taken c.args.text.now c.read_text.new.steps c.read_text.new.places c.in_ok-count.count read c.in_default.ensures) good.whole (omega arith), refl, refl, refl)

pub returns-then-not-has_places : goal.returns-then-not-has_places
returns-then-not-has_places c =
    let read = c.in_ok-count.ensures in
    let good = c.in_ok-count_inputs.ensures in
    let many = length_taken c.args.text.now c.read_text.new.steps c.read_text.new.places c.in_ok-count.count read (omega (arith, read.2, c.read_text.auto.steps)) c.in_default.ensures in
    (for_work (text_taken c.args.text.now c.read_text.new.steps c.read_text.new.places c.in_ok-count.count read c.in_default.ensures) good.whole (omega arith) (λ e. no_way (c.if-not-has_places.ensures.1 e)), refl, refl, refl)
  where
    no_way : false ≡ true → ⊥
    no_way e = let z : ◌≡◌ {A = ℕ} 0 1 = cc in omega arith

pub run_program-requires : goal.run_program-requires
run_program-requires c =
    let read = c.in_ok-count.ensures in
    let enough = c.if-not-has_places.ensures.0 refl in
    let long : c.in_ok-count.count ≤ length c.read_text.new.steps = omega (arith, read.2, c.read_text.auto.steps) in
    record {
      stands = text_stands c.args.text.now c.read_text.new.steps c.read_text.new.places c.in_ok-count.count read long c.in_default.ensures c.args.steps.now c.write_steps.new.words c.write_steps.ensures;
      runnable = text_runnable c.args.text.now c.read_text.new.steps c.read_text.new.places c.in_ok-count.count read long c.in_default.ensures c.args.steps.now c.write_steps.new.words c.write_steps.ensures;
      small = omega (arith, enough.few, length-take-le c.args.places c.args.work.now (omega (arith, enough.room)));
      scratch = omega arith;
    }

pub returns : goal.returns
returns c =
    let read = c.in_ok-count.ensures in
    let good = c.in_ok-count_inputs.ensures in
    let enough = c.if-not-has_places.ensures.0 refl in
    let long : c.in_ok-count.count ≤ length c.read_text.new.steps = omega (arith, read.2, c.read_text.auto.steps) in
    let p = c.args.places in
    let whole : length (take p c.args.work.now) ≡ p = length-take-le p c.args.work.now (omega (arith, enough.room)) in
    let kept = c.run_program.auto.area in
    text_runs c.args.text.now c.read_text.new.steps c.read_text.new.places c.in_ok-count.count read long c.in_default.ensures c.args.steps.now c.write_steps.new.words c.write_steps.ensures c.args.inputs.now p c.args.work.now _ c.args.room.now c.run_program.new.room c.run_program.result good.whole (omega arith) enough
    (subst (λ n. RunsAs (take (5 * c.in_ok-count.count) c.write_steps.new.words) c.args.inputs.now n c.args.room.now c.run_program.new.room c.run_program.result) whole c.run_program.ensures)
    (drop_at c.run_program.new.area _ p (kept ∙ whole))
