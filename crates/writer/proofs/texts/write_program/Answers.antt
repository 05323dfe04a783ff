use Rattle.std.proofs.Common.{◌≡◌, ◌+◌, ◌≤◌, ◌++◌, length, drop, sym, ap, ◌∙◌, arith}
use Rattle.writer.specs.WrittenAs.{text_of}
use Rattle.writer.proofs.Overlays.{overlay_fits}
use Rattle.writer.proofs.texts.write_program.Goals as goal

pub returns : goal.returns
returns c = λ p h.
    let old = c.args.room.now in
    let long = (c.write_lines-len.ensures p h).ends in
    let laid = c.write_lines.ensures p h in
    let all : 0 + length (text_of p) ≡ c.write_lines-len.result = sym long in
    let fits : 0 + length (text_of p) ≤ length old = omega arith in
    (omega arith, omega arith, laid.is ∙ (overlay_fits old 0 (text_of p) fits ∙ ap (λ n. text_of p ++ drop n old) all))
