use Rattle.std.proofs.Common.{◌+◌, ◌-◌, ◌<◌, length, get_or, drop, ap, ◌∙◌, arith, get_or-drop, get_or-take}
use Rattle.views.proofs.copying.copy_run.Goals as goal

pub returns : goal.returns
returns c = λ j l.
    let area = c.args.area.now in
    let from = c.args.from in
    let n = length c.args.out.now in
    let low : j < from + n - from = omega arith in
    ap (λ xs. get_or xs j 0) c.copy_from_slice.ensures.after ∙ (get_or-take (from + n - from) (drop from area) j 0 low ∙ get_or-drop from area j 0)
