use Rattle.std.proofs.Common.{◌≡◌, true, length, take, Some, None, sym, refl, ap, ◌∙◌, subst, arith}
use Rattle.std.proofs.lemmas.List.{length-take}
use Rattle.grammar.specs.Moves.{belongs, ends}
use Rattle.reader.specs.Names.{part}
use Rattle.reader.specs.Machines.{Settles}
use Rattle.reader.proofs.Settling.{names_of, fit_here, settle_empty, settle_none, ended_at, few_used, room_for, settled_same, settled_new}
use Rattle.reader.proofs.Noting.{hinted_new}
use Rattle.reader.proofs.stepping.moving.settle_top.Goals as goal

pub returns-in_err-symbol-clause-settles : goal.returns-in_err-symbol-clause-settles
returns-in_err-symbol-clause-settles c =
    let m = c.args.machine.now in
    subst (λ r. Settles c.args.text.now c.args.i c.args.b m m r) (sym c.from_residual.ensures) (λ out. settle_empty m c.args.text.now c.args.i c.args.b out c.in_err-symbol.ensures)

pub returns-then-goes_on-clause-settles : goal.returns-then-goes_on-clause-settles
returns-then-goes_on-clause-settles c =
    let top = c.in_ok-symbol.ensures in
    settled_same c.args.text.now c.args.i c.args.b c.args.machine.now c.requires.good (omega (arith, top.there, c.requires.good.wide)) (c.if-goes_on.ensures ∙ ap (λ s. belongs s c.args.b) (sym top.is))

pub end_symbol-requires : goal.end_symbol-requires
end_symbol-requires c =
    let m = c.args.machine.now in
    let top = c.in_ok-symbol.ensures in
    record {
      few = omega (arith, length-take m.count m.names, c.requires.good.spans);
      fit = fit_here m c.in_ok-symbol.symbol top.there (sym top.is) c.requires.good.fits;
    }

pub returns-in_default-clause-settles : goal.returns-in_default-clause-settles
returns-in_default-clause-settles c out =
    let m = c.args.machine.now in
    let t = c.args.text.now in
    let s = c.in_ok-symbol.symbol in
    let top = c.in_ok-symbol.ensures in
    settle_none m s top.there (sym top.is) t c.args.i c.args.b out c.if-goes_on.ensures
    (ended_at (names_of t m) (names_of t m) c.part_of-word.result.now (part t m.word c.args.i) s m.value None refl c.part_of-word.ensures c.in_default.ensures)

pub add_name-machine-requires : goal.add_name-machine-requires
add_name-machine-requires c =
    let m = c.args.machine.now in
    let t = c.args.text.now in
    let s = c.in_ok-symbol.symbol in
    let used = few_used t c.args.i 16 m c.requires.good in
    record {
      few = omega (arith, c.requires.good.spans, c.requires.good.few);
      room =
          λ (new : c.in-Some.ending.named ≡ true).
          let low = room_for (names_of t m) s (part t m.word c.args.i) m.value c.in-Some.ending (omega (arith, used, c.requires.good.few))
          (ended_at (names_of t m) (names_of t m) c.part_of-word.result.now (part t m.word c.args.i) s m.value (Some c.in-Some.ending) refl c.part_of-word.ensures c.in-Some.ensures)
          new in
          omega (arith, low, used, c.requires.good.spans);
    }

pub replace_top-requires : goal.replace_top-requires
replace_top-requires c = record { there = c.in_ok-symbol.ensures.there; room = omega (arith, c.requires.good.room, c.as_slice.ensures.few) }

pub returns-clause-settles : goal.returns-clause-settles
returns-clause-settles c =
    let m = c.args.machine.now in
    let t = c.args.text.now in
    let w = part t m.word c.args.i in
    let s = c.in_ok-symbol.symbol in
    let top = c.in_ok-symbol.ensures in
    let new = c.replace_top.new.self in
    let placed = rw c.as_slice.ensures.are at c.replace_top.ensures in
    let ended =
    ended_at (names_of t m) (names_of t m) c.part_of-word.result.now w s m.value (Some c.in-Some.ending) refl c.part_of-word.ensures c.in-Some.ensures in
    settled_new t c.args.i c.args.b m new c.in-Some.ending c.requires.good (omega (arith, top.there, c.requires.good.wide)) (c.if-goes_on.ensures ∙ ap (λ y. belongs y c.args.b) (sym top.is))
    (ended ∙ ap (λ y. ends (names_of t m) y w m.value) (sym top.is))
    (ap (λ n. take n new.names) placed.count ∙ (ap (λ ns. take c.add_name-machine.result ns) placed.names ∙ c.add_name-machine.ensures.0))
    (omega (arith, placed.count, c.add_name-machine.ensures.1, c.add_name-machine.auto.names, c.requires.good.spans))
    (omega (arith, ap length placed.names, c.add_name-machine.auto.names, c.requires.good.spans))
    placed.down placed.begins placed.value

pub returns-clause-kept : goal.returns-clause-kept
returns-clause-kept c hinted =
    let m = c.args.machine.now in
    let t = c.args.text.now in
    let w = part t m.word c.args.i in
    let s = c.in_ok-symbol.symbol in
    let new = c.replace_top.new.self in
    let placed = c.replace_top.ensures in
    hinted_new t c.args.i m new s c.in-Some.ending hinted
    (ended_at (names_of t m) (names_of t m) c.part_of-word.result.now w s m.value (Some c.in-Some.ending) refl c.part_of-word.ensures c.in-Some.ensures)
    (ap (λ n. take n new.names) placed.count ∙ (ap (λ ns. take c.add_name-machine.result ns) placed.names ∙ c.add_name-machine.ensures.0))
    (ap length placed.hints ∙ c.note_name.auto.hints) placed.dirty
