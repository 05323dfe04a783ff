use Rattle.std.proofs.Common.{◌+◌, get_or, sym, refl, ap, ◌∙◌, subst, arith}
use Rattle.grammar.specs.Moves.{moves}
use Rattle.reader.specs.Names.{part}
use Rattle.reader.specs.Machines.{Turns}
use Rattle.reader.proofs.Settling.{names_of, fit_here, move_empty, move_none, turned_new}
use Rattle.reader.proofs.Noting.{hinted_same, never}
use Rattle.reader.proofs.stepping.moving.turn_top.Goals as goal

pub returns-in_err-symbol-clause-turns : goal.returns-in_err-symbol-clause-turns
returns-in_err-symbol-clause-turns c =
    let m = c.args.machine.now in
    subst (λ r. Turns c.args.text.now c.args.i m m r) (sym c.from_residual.ensures) (λ out. move_empty m c.args.text.now c.args.i (get_or c.args.text.now c.args.i 0) out c.in_err-symbol.ensures)

pub turn_symbol-requires : goal.turn_symbol-requires
turn_symbol-requires c =
    let top = c.in_ok-symbol.ensures in
    record {
      inside = c.requires.inside;
      begun = c.requires.good.begun;
      fit = fit_here c.args.machine.now c.in_ok-symbol.symbol top.there (sym top.is) c.requires.good.fits;
    }

pub returns-in_default-clause-turns : goal.returns-in_default-clause-turns
returns-in_default-clause-turns c out =
    let m = c.args.machine.now in
    let t = c.args.text.now in
    let s = c.in_ok-symbol.symbol in
    let top = c.in_ok-symbol.ensures in
    let b = get_or t c.args.i 0 in
    move_none m s top.there (sym top.is) t c.args.i b out
    c.in_default.ensures

pub replace_top-requires : goal.replace_top-requires
replace_top-requires c = record { there = c.in_ok-symbol.ensures.there; room = omega (arith, c.requires.good.room, c.as_slice.ensures.few) }

pub returns-clause-turns : goal.returns-clause-turns
returns-clause-turns c =
    let m = c.args.machine.now in
    let t = c.args.text.now in
    let w = part t m.word c.args.i in
    let top = c.in_ok-symbol.ensures in
    let b = get_or t c.args.i 0 in
    let placed = rw c.as_slice.ensures.are at c.replace_top.ensures in
    turned_new t c.args.i m _ c.in-Some.turn c.requires.good (omega (arith, top.there, c.requires.good.wide))
    (c.in-Some.ensures ∙ ap (λ y. moves (names_of t m) y w m.value b) (sym top.is))
    placed.names placed.count placed.down
    (ap (λ a. part t a (c.args.i + 1)) placed.begins ∙ c.word_start.ensures.is t) (omega (arith, placed.begins, c.word_start.ensures.begun)) refl

pub returns-clause-kept : goal.returns-clause-kept
returns-clause-kept c hinted =
    let placed = c.replace_top.ensures in
    hinted_same c.args.text.now c.args.i (c.args.i + 1) c.args.machine.now _ hinted placed.names placed.count placed.hints (λ is. never (sym placed.dirty ∙ is))
