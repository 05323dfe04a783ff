use Rattle.std.proofs.Common.{◌++◌, get_or, None, sym, ap, ◌∙◌, subst}
use Rattle.std.specs.Option.{option_to_list}
use Rattle.grammar.specs.Automaton.{top_move, moved, next}
use Rattle.reader.specs.declared.turn.Mark.{Mark}
use Rattle.reader.specs.Machines.{state_of, Good, Hinted, Settled, Turned, Advances, ReadOn}
use Rattle.reader.proofs.Settling.{less_room, advanced_both, advanced_on}
use Rattle.reader.proofs.stepping.moving.advance_quick.Goals as goal

pub begin_mark-requires : goal.begin_mark-requires
begin_mark-requires c = record { inside = c.requires.inside; good = less_room c.args.i c.args.machine.now c.requires.standing.good; hinted = c.requires.standing.hinted }

pub returns-then-begin_mark-clause-advances : goal.returns-then-begin_mark-clause-advances
returns-then-begin_mark-clause-advances c = advanced_on c.args.text.now c.args.i c.args.machine.now c.begin_mark.new.machine Mark.Begins c.requires.standing.good c.if-begin_mark.ensures

pub returns-then-begin_mark-clause-kept : goal.returns-then-begin_mark-clause-kept
returns-then-begin_mark-clause-kept c = c.if-begin_mark.ensures.hinted

pub end_known-requires : goal.end_known-requires
end_known-requires c =
    record {
      good = subst (λ m. Good c.args.i 16 m) (sym c.if-begin_mark.ensures) c.requires.standing.good;
      hinted = subst (λ m. Hinted c.args.text.now c.args.i m) (sym c.if-begin_mark.ensures) c.requires.standing.hinted;
    }

pub begin_again-requires : goal.begin_again-requires
begin_again-requires c =
    let same = sym (c.in_default.ensures ∙ c.if-begin_mark.ensures) in
    record {
      inside = c.requires.inside;
      good = subst (λ m. Good c.args.i 8 m) same (less_room c.args.i c.args.machine.now c.requires.standing.good);
      hinted = subst (λ m. Hinted c.args.text.now c.args.i m) same c.requires.standing.hinted;
    }

pub returns-then-begin_again-clause-advances : goal.returns-then-begin_again-clause-advances
returns-then-begin_again-clause-advances c =
    advanced_on c.args.text.now c.args.i c.args.machine.now c.begin_again.new.machine Mark.Opens c.requires.standing.good
    (subst (λ m. ReadOn c.args.text.now c.args.i m c.begin_again.new.machine Mark.Opens) (c.in_default.ensures ∙ c.if-begin_mark.ensures) c.if-begin_again.ensures)

pub returns-then-begin_again-clause-kept : goal.returns-then-begin_again-clause-kept
returns-then-begin_again-clause-kept c = c.if-begin_again.ensures.hinted

pub advance-requires : goal.advance-requires
advance-requires c =
    record {
      inside = c.requires.inside;
      good = subst (λ m. Good c.args.i 16 m) (sym (c.if-begin_again.ensures ∙ (c.in_default.ensures ∙ c.if-begin_mark.ensures))) c.requires.standing.good;
    }

pub returns-in_default-clause-advances : goal.returns-in_default-clause-advances
returns-in_default-clause-advances c =
    subst (λ m. Advances c.args.text.now c.args.i m c.advance.new.machine c.advance.result) (c.if-begin_again.ensures ∙ (c.in_default.ensures ∙ c.if-begin_mark.ensures)) c.advance.ensures.advances

pub returns-in_default-clause-kept : goal.returns-in_default-clause-kept
returns-in_default-clause-kept c =
    c.advance.ensures.kept (subst (λ m. Hinted c.args.text.now c.args.i m) (sym (c.if-begin_again.ensures ∙ (c.in_default.ensures ∙ c.if-begin_mark.ensures))) c.requires.standing.hinted)

pub take_plain-requires : goal.take_plain-requires
take_plain-requires c = record { inside = c.requires.inside; good = c.in-Some.ensures.settled.good; hinted = c.in-Some.ensures.hinted }

pub returns-then-take_plain-clause-advances : goal.returns-then-take_plain-clause-advances
returns-then-take_plain-clause-advances c =
    advanced_both c.args.text.now c.args.i c.args.machine.now c.end_known.new.machine c.take_plain.new.machine c.in-Some.before (record { before = None; step = None; mark = Mark.Inside })
    (subst (λ m. Settled c.args.text.now c.args.i (get_or c.args.text.now c.args.i 0) m c.end_known.new.machine c.in-Some.before) c.if-begin_mark.ensures c.in-Some.ensures.settled)
    c.if-take_plain.ensures.turned

pub returns-then-take_plain-clause-kept : goal.returns-then-take_plain-clause-kept
returns-then-take_plain-clause-kept c = c.if-take_plain.ensures.hinted

pub turn_top-requires : goal.turn_top-requires
turn_top-requires c = record { inside = c.requires.inside; good = subst (λ m. Good c.args.i 8 m) (sym c.if-take_plain.ensures) c.in-Some.ensures.settled.good }

pub returns-in_err-turned-clause-advances : goal.returns-in_err-turned-clause-advances
unfolding next
returns-in_err-turned-clause-advances c =
    let t = c.args.text.now in
    let i = c.args.i in
    let b = get_or t i 0 in
    subst (λ r. Advances t i c.args.machine.now c.turn_top.new.machine r) (sym c.from_residual.ensures)
    (λ out.
    let said = option_to_list c.in-Some.before.step ++ out in
    ap (λ m. next (state_of t i m out) b) (sym c.if-begin_mark.ensures)
    ∙ (ap (λ q. moved (top_move q b) q) (c.in-Some.ensures.settled.is out)
    ∙ (ap (λ m. moved (top_move (state_of t i m said) b) (state_of t i m said)) (sym c.if-take_plain.ensures) ∙ c.in_err-turned.ensures.turns said)))

pub returns-clause-advances : goal.returns-clause-advances
returns-clause-advances c =
    advanced_both c.args.text.now c.args.i c.args.machine.now c.end_known.new.machine c.turn_top.new.machine c.in-Some.before c.in_ok-turned.turned
    (subst (λ m. Settled c.args.text.now c.args.i (get_or c.args.text.now c.args.i 0) m c.end_known.new.machine c.in-Some.before) c.if-begin_mark.ensures c.in-Some.ensures.settled)
    (subst (λ m. Turned c.args.text.now c.args.i m c.turn_top.new.machine c.in_ok-turned.turned) c.if-take_plain.ensures c.in_ok-turned.ensures.turns)

pub returns-clause-kept : goal.returns-clause-kept
returns-clause-kept c = c.in_ok-turned.ensures.kept (subst (λ m. Hinted c.args.text.now c.args.i m) (sym c.if-take_plain.ensures) c.in-Some.ensures.hinted)
