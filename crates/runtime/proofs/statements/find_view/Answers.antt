use Rattle.std.proofs.Common.{◌≡◌, ℕ, List, Option, Some, None, get_or, sym, ap, IfSome, arith}
use Rattle.semantics.specs.Shapes.{size}
use Rattle.encoding.specs.Format.{offsets}
use Rattle.encoding.proofs.Formats.{next_at_is}
use Rattle.encoding.proofs.Rows.{good_at_parts}
use Rattle.program.specs.declared.step.Step.{Step}
use Rattle.program.specs.declared.step.Step.TheVariants.{Name}
use Rattle.program.specs.Words.{At}
use Rattle.views.specs.declared.view.View.{View}
use Rattle.memory.specs.Spans.{GoodSlot}
use Rattle.runtime.specs.Statements.{ViewOf}
use Rattle.runtime.proofs.Binding.{name_view_of, input_view_of}
use Rattle.runtime.proofs.statements.find_view.Goals as goal

of_name : (ws : List ℕ) (i : ℕ) (x : Step) → At ws i x → (table : List (Option View)) (bs : List ℕ) (k : ℕ) → x ≡ Name k → GoodSlot (get_or table k None) → (o : Option View) → get_or table k None ≡ o → IfSome o (λ v. ViewOf ws i table bs v)
of_name ws i x at table bs k is good None e = tt
of_name ws i x at table bs k is good (Some v) e = name_view_of ws i x at table bs v is e good

pub returns-in-Name : goal.returns-in-Name
returns-in-Name c =
    of_name c.args.words.now c.args.node c.in_ok-step.step c.in_ok-step.ensures c.args.names.now c.args.inputs.now c.in-Name.k c.in-Name.is (c.requires.good.each c.in-Name.k) _ (sym c.view_of.ensures)

pub of_input-requires : goal.of_input-requires
of_input-requires c =
    let f = c.in_ok-head-in-Input.ensures in
    let bs = c.args.inputs.now in
    let at = get_or (offsets bs) c.in-Input.k 0 in
    omega (arith, (good_at_parts bs at f.heads.good).1, next_at_is bs at, ap size f.heads.shaped)

pub returns-in_ok-head-in-Input : goal.returns-in_ok-head-in-Input
returns-in_ok-head-in-Input c =
    input_view_of c.args.words.now c.args.node c.in_ok-step.step c.in_ok-step.ensures c.args.names.now c.args.inputs.now c.of_input.result c.in_ok-head-in-Input.head c.in-Input.is c.in_ok-head-in-Input.ensures c.of_input.ensures.whole c.of_input.ensures.holds
