-- What stands at a node: an expression, the items of brackets with their operand behind them, or lines of a program.
use Rattle.std.specs.Prelude.{◌≡◌, ℕ, List, [], ◌∷◌, drop}
use Rattle.semantics.specs.declared.operation.Unary.{Unary}
use Rattle.semantics.specs.declared.operation.Binary.{Binary}
use Rattle.semantics.specs.Parts.{Part}
use Rattle.semantics.specs.Values.{Expr, name, input, constant, count, each, both, choose, fold, scan, shape_to, turn, part, join, rows}
use Rattle.semantics.specs.Programs.{Program, end, be, put, show, again}
use Rattle.semantics.specs.Slices.{slice_of}
use Rattle.program.specs.declared.step.Step.{Step}
use Rattle.program.specs.declared.step.Step.TheVariants.{End, Let, Put, Show, Again, Name, Input, Constant, Count, Each, Both, Choose, Fold, Scan, Shape, Turn, Part as Cut, Join, Rows, Item, Slice}
use Rattle.program.specs.Spelling.{items, slices, spell, spell_program}
use Rattle.program.specs.Words.{steps_in}

unfoldable pub steps_from : List ℕ → ℕ → List Step
unfolding steps_in
steps_from ws i = drop i (steps_in ws)

pub record Stands (ws : List ℕ) (i : ℕ) : Type 0 where
  pub expr : Expr ℕ
  pub rest : List Step
  pub enc : steps_from ws i ≡ spell expr rest

pub record ItemsStand (ws : List ℕ) (i : ℕ) : Type 0 where
  pub list : List ℕ
  pub expr : Expr ℕ
  pub rest : List Step
  pub enc : steps_from ws i ≡ items list (spell expr rest)

pub record SlicesStand (ws : List ℕ) (i : ℕ) : Type 0 where
  pub parts : List Part
  pub expr : Expr ℕ
  pub rest : List Step
  pub enc : steps_from ws i ≡ slices parts (spell expr rest)

-- what is behind the lines of a program: the end of the steps, or of an `again`
pub data Closed : List Step → Type 0 where
  nothing : Closed []
  closed : {r : List Step} → Closed (End ∷ r)

pub record Runs (ws : List ℕ) (i : ℕ) : Type 0 where
  pub program : Program ℕ
  pub rest : List Step
  pub close : Closed rest
  pub enc : steps_from ws i ≡ spell_program program rest

-- every expression that stands at i is followed by what stands at j
pub record Skips (ws : List ℕ) (i j : ℕ) : Type 0 where
  pub on : (e : Expr ℕ) (r : List Step) → steps_from ws i ≡ spell e r → steps_from ws j ≡ r

-- every list of slices that stands at i is followed by its operand at j
pub record SkipsSlices (ws : List ℕ) (i j : ℕ) : Type 0 where
  pub on : (ps : List Part) (e : Expr ℕ) (r : List Step) → steps_from ws i ≡ slices ps (spell e r) → steps_from ws j ≡ spell e r

-- the lines of an `again` that stand at i are followed, behind their `End`, by what stands at j
pub record Closes (ws : List ℕ) (i j : ℕ) : Type 0 where
  pub on : (b : Program ℕ) (r : List Step) → steps_from ws i ≡ spell_program b (End ∷ r) → steps_from ws j ≡ r

-- an expression by its first step: r is behind it, t behind the step
pub data View (r t : List Step) : Expr ℕ → Step → Type 0 where
  is_name : {k : ℕ} → t ≡ r → View r t (name k) (Name k)
  is_input : {k : ℕ} → t ≡ r → View r t (input k) (Input k)
  is_constant : {x : ℕ} → t ≡ r → View r t (constant x) (Constant x)
  is_count : {m : ℕ} → t ≡ r → View r t (count m) (Count m)
  is_each : {k : Unary} {e : Expr ℕ} → t ≡ spell e r → View r t (each k e) (Each k)
  is_both : {k : Binary} {e f : Expr ℕ} → t ≡ spell e (spell f r) → View r t (both k e f) (Both k)
  is_choose : {e f g : Expr ℕ} → t ≡ spell e (spell f (spell g r)) → View r t (choose e f g) Choose
  is_fold : {k : Binary} {x : ℕ} {e : Expr ℕ} → t ≡ spell e r → View r t (fold k x e) (Fold k x)
  is_scan : {k : Binary} {x : ℕ} {e : Expr ℕ} → t ≡ spell e r → View r t (scan k x e) (Scan k x)
  is_shape : {ks : List ℕ} {e : Expr ℕ} → t ≡ items ks (spell e r) → View r t (shape_to ks e) Shape
  is_turn : {os : List ℕ} {e : Expr ℕ} → t ≡ items os (spell e r) → View r t (turn os e) Turn
  is_part : {ps : List Part} {e : Expr ℕ} → t ≡ slices ps (spell e r) → View r t (part ps e) Cut
  is_join : {x : ℕ} {e f : Expr ℕ} → t ≡ spell e (spell f r) → View r t (join x e f) (Join x)
  is_rows : {e f : Expr ℕ} → t ≡ spell e (spell f r) → View r t (rows e f) Rows

-- the steps that an expression begins with
abbrev pub Opens : Step → Type 0
Opens End = ⊥
Opens (Let k) = ⊥
Opens (Put k) = ⊥
Opens Show = ⊥
Opens (Again n) = ⊥
Opens (Name k) = Unit {0}
Opens (Input k) = Unit {0}
Opens (Constant x) = Unit {0}
Opens (Count m) = Unit {0}
Opens (Each k) = Unit {0}
Opens (Both k) = Unit {0}
Opens Choose = Unit {0}
Opens (Fold k x) = Unit {0}
Opens (Scan k x) = Unit {0}
Opens Shape = Unit {0}
Opens Turn = Unit {0}
Opens Cut = Unit {0}
Opens (Join x) = Unit {0}
Opens Rows = Unit {0}
Opens (Item k) = ⊥
Opens (Slice s) = ⊥

-- items and slices by the first step: q is behind them, t behind the step
pub data ItemsView (q t : List Step) : List ℕ → Step → Type 0 where
  item : {k : ℕ} {ks : List ℕ} → t ≡ items ks q → ItemsView q t (k ∷ ks) (Item k)
  no_item : {s : Step} → Opens s → q ≡ s ∷ t → ItemsView q t [] s

pub data SlicesView (q t : List Step) : List Part → Step → Type 0 where
  slice : {p : Part} {ps : List Part} → t ≡ slices ps q → SlicesView q t (p ∷ ps) (Slice (slice_of p))
  no_slice : {s : Step} → Opens s → q ≡ s ∷ t → SlicesView q t [] s

-- a list with an item or a slice first: q is behind it, t behind its first step
pub record FirstItem (k : ℕ) (ks : List ℕ) (q t : List Step) : Type 0 where
  pub others : List ℕ
  pub list : ks ≡ k ∷ others
  pub enc : t ≡ items others q

pub record FirstSlice (p : Part) (ps : List Part) (q t : List Step) : Type 0 where
  pub others : List Part
  pub list : ps ≡ p ∷ others
  pub enc : t ≡ slices others q

-- lines by their first step: r is behind them, t behind the step
pub data LinesView (r t : List Step) : Program ℕ → Step → Type 0 where
  is_end : r ≡ End ∷ t → LinesView r t end End
  is_let : {k : ℕ} {e : Expr ℕ} {p : Program ℕ} → t ≡ spell e (spell_program p r) → LinesView r t (be k e p) (Let k)
  is_put : {k : ℕ} {ps : List Part} {e : Expr ℕ} {p : Program ℕ} → t ≡ slices ps (spell e (spell_program p r)) → LinesView r t (put k ps e p) (Put k)
  is_show : {e : Expr ℕ} {p : Program ℕ} → t ≡ spell e (spell_program p r) → LinesView r t (show e p) Show
  is_again : {n : ℕ} {b p : Program ℕ} → t ≡ spell_program b (End ∷ spell_program p r) → LinesView r t (again n b p) (Again n)

-- the steps that lines begin with, or end at
abbrev pub OpensLine : Step → Type 0
OpensLine End = Unit {0}
OpensLine (Let k) = Unit {0}
OpensLine (Put k) = Unit {0}
OpensLine Show = Unit {0}
OpensLine (Again n) = Unit {0}
OpensLine (Name k) = ⊥
OpensLine (Input k) = ⊥
OpensLine (Constant x) = ⊥
OpensLine (Count m) = ⊥
OpensLine (Each k) = ⊥
OpensLine (Both k) = ⊥
OpensLine Choose = ⊥
OpensLine (Fold k x) = ⊥
OpensLine (Scan k x) = ⊥
OpensLine Shape = ⊥
OpensLine Turn = ⊥
OpensLine Cut = ⊥
OpensLine (Join x) = ⊥
OpensLine Rows = ⊥
OpensLine (Item k) = ⊥
OpensLine (Slice s) = ⊥
