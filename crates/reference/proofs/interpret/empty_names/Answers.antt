use Rattle.std.proofs.Common.{◌≡◌, ◌++◌, map, take, length, vec_items, ap, ◌∙◌, rules, arith}
use Rattle.semantics.specs.Programs.{nothing}
use Rattle.reference.specs.CellsOf.{cell_of}
use Rattle.reference.proofs.Beginning.{nothing_made}
use Rattle.reference.proofs.interpret.empty_names.Goals as goal

pub returns : goal.returns
returns c =
    let e = c.in_ok-resize_with.ensures.items in
    let cells = nothing_made _ (λ p y q k. search rules) e.0 _ e.1 e.3 in
    let whole : vec_items c.resize_with.new.self ≡ e.0 = e.2 ∙ ap (λ l. take 64 l ++ e.0) c.new-names.ensures.items in
    let many : length e.0 ≡ 64 = let ok = c.resize_with.new.self.ok in omega (arith, ap length whole, ok, c.in_ok-resize_with.ensures.len) in
    ap (map cell_of) whole ∙ (cells ∙ ap nothing many)
