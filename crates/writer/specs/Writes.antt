-- What the functions that write a program do, over all expressions and programs that stand at a node.
use Rattle.std.specs.Prelude.{◌≡◌, ℕ, ◌+◌, ◌*◌, ◌<◌, ◌≤◌, List, [], ◌∷◌, ◌++◌, length, drop, Some, None, codes, Option, ◌==◌}
use Rattle.semantics.specs.Shapes.{pick}
use Rattle.semantics.specs.Values.{Expr, name, input, constant, count, each, both, choose, fold, scan, shape_to, turn, part, join, rows}
use Rattle.semantics.specs.Programs.{Program}
use Rattle.program.specs.declared.step.Step.{Step}
use Rattle.program.specs.declared.step.Step.TheVariants.{End}
use Rattle.program.specs.Spelling.{spell, spell_program}
use Rattle.program.specs.Words.{steps_in}
use Rattle.program.specs.Standing.{steps_from}
use Rattle.grammar.specs.Letters.{Letter, plain, flagged, closes, bytes}
use Rattle.grammar.specs.Written.{write_expr, write_lines}
use Rattle.writer.specs.Overlay.{Laid, Left}
use Rattle.writer.specs.Spellings.{spellings}
use Rattle.writer.specs.WrittenAs.{written_expr, as_written, text_of}
use Rattle.writer.specs.StepTexts.{behind_list, head_text, head_behind}

-- 64 bytes at most for each step that was passed
pub record Passed (ws : List ℕ) (node at next behind : ℕ) : Type 0 where
  pub further : node ≤ next
  pub within : next ≤ length (steps_in ws)
  pub short : behind + 64 * node ≤ at + 64 * next

-- the steps between brackets, from a node on
pub record Lists (text : List Step → List ℕ) (ws : List ℕ) (node : ℕ) (old : List ℕ) (at : ℕ) (new : List ℕ) (next behind : ℕ) : Type 0 where
  pub laid : Laid old at (text (steps_from ws node)) new behind
  pub on : steps_from ws next ≡ behind_list (steps_from ws node)
  pub passed : Passed ws node at next behind

-- a step and its brackets: the step stands before the node
pub record Heads (step : Step) (ws : List ℕ) (node : ℕ) (old : List ℕ) (at : ℕ) (new : List ℕ) (next behind : ℕ) : Type 0 where
  pub laid : Laid old at (head_text step (steps_from ws node)) new behind
  pub on : steps_from ws next ≡ head_behind step (steps_from ws node)
  pub further : node ≤ next
  pub within : next ≤ length (steps_in ws)
  pub short : behind + 64 * node ≤ at + 64 * next + 60

-- expressions one after another
unfoldable pub spell_all : List (Expr ℕ) → List Step → List Step
unfolding spell
spell_all [] r = r
spell_all (e ∷ es) r = spell e (spell_all es r)

pub record StandAll (ws : List ℕ) (node many : ℕ) : Type 0 where
  pub exprs : List (Expr ℕ)
  pub rest : List Step
  pub count : length exprs ≡ many
  pub enc : steps_from ws node ≡ spell_all exprs rest

-- behind the first of several expressions: a comma, or a byte where it is the last
abbrev pub gap_text : ℕ → ℕ → List ℕ
gap_text many close = pick (many == 1) (close ∷ []) (codes ", ")

-- expressions parted by `, `, with a byte behind the last
unfoldable pub gap_onto : {A : Type 0} → List A → ℕ → List Letter → List Letter
gap_onto [] close r = plain close ∷ r
gap_onto (e ∷ es) close r = plain 44 ∷ plain 32 ∷ r

unfoldable pub exprs_onto : List (Expr ℕ) → ℕ → List Letter → List Letter
unfolding gap_onto write_expr spellings written_expr
exprs_onto [] close r = r
exprs_onto (e ∷ es) close r = write_expr spellings (written_expr e) (gap_onto es close (exprs_onto es close r))

unfoldable pub operands : Expr ℕ → List (Expr ℕ)
operands (name k) = []
operands (input k) = []
operands (constant x) = []
operands (count m) = []
operands (each k e) = e ∷ []
operands (both k e f) = e ∷ f ∷ []
operands (choose e f g) = e ∷ f ∷ g ∷ []
operands (fold k x e) = e ∷ []
operands (scan k x e) = e ∷ []
operands (shape_to t e) = e ∷ []
operands (turn os e) = e ∷ []
operands (part ps e) = e ∷ []
operands (join x e f) = e ∷ f ∷ []
operands (rows e f) = e ∷ f ∷ []

pub record Wrote (es : List (Expr ℕ)) (rest : List Step) (close : ℕ) (ws : List ℕ) (old : List ℕ) (at : ℕ) (new : List ℕ) (next behind : ℕ) : Type 0 where
  pub on : steps_from ws next ≡ rest
  pub text : (r : List Letter) → Left old at (bytes (exprs_onto es close r)) new behind (bytes r)

pub record Writes (many close : ℕ) (ws : List ℕ) (node : ℕ) (old : List ℕ) (at : ℕ) (new : List ℕ) (next behind : ℕ) : Type 0 where
  pub passed : Passed ws node at next behind
  pub all : (es : List (Expr ℕ)) (rest : List Step) → length es ≡ many → steps_from ws node ≡ spell_all es rest → Wrote es rest close ws old at new next behind

-- lines, and behind them those of each `again` that is open
unfoldable pub spell_open : List (Program ℕ) → List Step
unfolding spell_program
spell_open [] = []
spell_open (p ∷ ps) = End ∷ spell_program p (spell_open ps)

unfoldable pub open_onto : List (Program ℕ) → List Letter
unfolding flagged write_lines spellings as_written
open_onto [] = []
open_onto (p ∷ ps) = flagged closes (101 ∷ 110 ∷ 100 ∷ []) (plain 10 ∷ write_lines spellings (as_written p) (open_onto ps))

unfoldable pub lines_onto : Program ℕ → List (Program ℕ) → List Letter
unfolding write_lines spellings as_written open_onto
lines_onto p ps = write_lines spellings (as_written p) (open_onto ps)

pub record LinesStand (ws : List ℕ) (node : ℕ) : Type 0 where
  pub lines : Program ℕ
  pub open_lines : List (Program ℕ)
  pub enc : steps_from ws node ≡ spell_program lines (spell_open open_lines)

-- what is still to be written of a text
pub record ToWrite (text : List ℕ) (ws : List ℕ) (node : ℕ) (old : List ℕ) (at : ℕ) (new : List ℕ) (behind : ℕ) : Type 0 where
  pub lines : Program ℕ
  pub open_lines : List (Program ℕ)
  pub enc : steps_from ws node ≡ spell_program lines (spell_open open_lines)
  pub left : Left old at text new behind (bytes (lines_onto lines open_lines))

-- a line, or one end of an `again`
pub record WritesLine (ws : List ℕ) (node : ℕ) (old : List ℕ) (at : ℕ) (new : List ℕ) (next behind : ℕ) : Type 0 where
  pub passed : Passed ws node at next behind
  pub on : node < next
  pub all : (p : Program ℕ) (ps : List (Program ℕ)) → steps_from ws node ≡ spell_program p (spell_open ps) → ToWrite (bytes (lines_onto p ps)) ws next old at new behind

-- the program that the words are
pub record IsProgram (ws : List ℕ) : Type 0 where
  pub program : Program ℕ
  pub steps : steps_in ws ≡ spell_program program []

-- none, and nothing has changed, where the text is longer than the room; else the text, and behind it what was there
abbrev pub WritesProgram : Program ℕ → List ℕ → List ℕ → Option ℕ → Type 0
WritesProgram p old new None = (length old < length (text_of p)) × (new ≡ old)
WritesProgram p old new (Some n) = (n ≡ length (text_of p)) × (n ≤ length old) × (new ≡ text_of p ++ drop n old)
