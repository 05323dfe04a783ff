use Rattle.std.proofs.Common.{◌≡◌, [], ◌∷◌, sym, ap, ◌∙◌, arith}
use Rattle.grammar.specs.Letters.{begins, opens}
use Rattle.program.specs.declared.step.Step.{Step}
use Rattle.grammar.specs.Moves.{line_move}
use Rattle.reader.proofs.Turnings.{move_by, no_line}
use Rattle.reader.proofs.turns.line_turn.Goals as goal

pub returns-in-108 : goal.returns-in-108
unfolding line_move
returns-in-108 c t e other = c.begin_line.ensures t e other ∙ (move_by begins [] [] 0 c.target_line.ensures ∙ sym (ap (line_move c.args.here other) c.in-108.is))

pub returns-in-112 : goal.returns-in-112
unfolding line_move
returns-in-112 c t e other = c.begin_line-in-112.ensures t e other ∙ (move_by begins [] [] 0 c.target_line-in-112.ensures ∙ sym (ap (line_move c.args.here other) c.in-112.is))

pub returns-in-115 : goal.returns-in-115
unfolding line_move
returns-in-115 c t e other = c.begin_line-in-115.ensures t e other ∙ (move_by begins (Step.Show ∷ []) [] 0 c.show_line.ensures ∙ sym (ap (line_move c.args.here other) c.in-115.is))

pub returns-in-97 : goal.returns-in-97
unfolding line_move
returns-in-97 c t e other = c.begin_line-in-97.ensures t e other ∙ (move_by opens [] [] 0 c.again_line.ensures ∙ sym (ap (line_move c.args.here other) c.in-97.is))

pub returns-in_default : goal.returns-in_default
returns-in_default c t e other = no_line c.args.here other c.args.b (λ (e : c.args.b ≡ 108). omega arith) (λ (e : c.args.b ≡ 112). omega arith) (λ (e : c.args.b ≡ 115). omega arith) (λ (e : c.args.b ≡ 97). omega arith)
