use Rattle.program.proofs.Nodes.{let_operand, show_operand, put_slices}
use Rattle.reference.proofs.Lining.{let_line, show_line, put_line, no_other_line}
use Rattle.reference.proofs.task.Task.run_line.Goals as goal

pub run_let-requires : goal.run_let-requires
run_let-requires c =
    record { stands = let_operand c.args.self.now.words.now c.args.node c.args.step c.requires.at c.in-Let.is c.requires.runs; fits = c.requires.fits }

pub run_put-requires : goal.run_put-requires
run_put-requires c =
    record { stands = put_slices c.args.self.now.words.now c.args.node c.args.step c.requires.at c.in-Put.is c.requires.runs; fits = c.requires.fits }

pub run_show-requires : goal.run_show-requires
run_show-requires c =
    record { stands = show_operand c.args.self.now.words.now c.args.node c.args.step c.requires.at c.in-Show.is c.requires.runs; fits = c.requires.fits }

pub unreachable-requires : goal.unreachable-requires
unreachable-requires c =
    no_other_line c.args.self.now.words.now c.args.node c.args.step c.requires.at c.requires.runs c.requires.plain c.in_default.not-Let c.in_default.not-Put c.in_default.not-Show

pub returns-in-Let : goal.returns-in-Let
returns-in-Let c =
    record { fits = c.run_let.ensures.fits; lines = let_line c.args.self.now.words.now c.args.self.now.inputs.now c.args.self.now.places c.args.node c.args.step c.requires.at c.requires.runs c.args.state.now c.run_let.new.state c.run_let.result c.in-Let.is c.run_let.ensures.skips c.run_let.ensures.right }

pub returns-in-Put : goal.returns-in-Put
returns-in-Put c =
    record { fits = c.run_put.ensures.fits; lines = put_line c.args.self.now.words.now c.args.self.now.inputs.now c.args.self.now.places c.args.node c.args.step c.requires.at c.requires.runs c.args.state.now c.run_put.new.state c.run_put.result c.in-Put.is c.run_put.ensures.skips c.run_put.ensures.right }

pub returns-in-Show : goal.returns-in-Show
returns-in-Show c =
    record { fits = c.run_show.ensures.fits; lines = show_line c.args.self.now.words.now c.args.self.now.inputs.now c.args.self.now.places c.args.node c.args.step c.requires.at c.requires.runs c.args.state.now c.run_show.new.state c.run_show.result c.in-Show.is c.run_show.ensures.skips c.run_show.ensures.right }
