use Rattle.reference.proofs.Beginning.{runs_first, small_nothing, stood_begin, ends_as, ends_at_once}
use Rattle.reference.proofs.interpret.interpret.Goals as goal

pub returns-in_default : goal.returns-in_default
returns-in_default c = ends_at_once c.args.words.now c.args.inputs.now c.args.places c.new-shown.result c.new-shown.ensures.items

pub run_lines-requires : goal.run_lines-requires
run_lines-requires c =
    record { runs = runs_first c.args.words.now c.requires.stands; fits = small_nothing c.in-Ok.names c.in-Ok.ensures }

pub returns : goal.returns
returns c =
    ends_as c.args.words.now c.args.inputs.now c.args.places (record { names = c.in-Ok.names; shown = c.new-shown.result }) c.run_lines.new.state (stood_begin c.in-Ok.names c.in-Ok.ensures c.args.places c.new-shown.result c.new-shown.ensures.items) c.run_lines.result c.map-end.result _ c.map-end.ensures.cases c.run_lines.ensures.lines
