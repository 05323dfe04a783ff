-- Programs that a text can say: names below 64, constants that are patterns of numbers, all other numbers below 2^32. What is a
-- pattern is a parameter.
use Rattle.std.specs.Prelude.{ℕ, ◌+◌, ◌*◌, ◌^◌, ◌<◌, ◌≤◌, max, List, [], ◌∷◌}
use Rattle.semantics.specs.declared.operation.Unary.{Unary}
use Rattle.semantics.specs.declared.operation.Binary.{Binary}
use Rattle.semantics.specs.Parts.{Part}
use Rattle.semantics.specs.Values.{Expr, name, input, constant, count, each, both, choose, fold, scan, shape_to, turn, part, join, rows}
use Rattle.semantics.specs.Programs.{Program, end, be, put, show, again}
use Rattle.program.specs.declared.step.Step.{Step}
use Rattle.program.specs.declared.step.Step.TheVariants.{End, Let, Put, Show, Again, Name, Input, Constant, Count, Each, Both, Choose, Fold, Scan, Shape, Turn, Part as Cut, Join, Rows, Item, Slice}
use Rattle.program.specs.Spelling.{spell_program}
use Rattle.program.specs.Marks.{long}
use Rattle.program.specs.Words.{words_of}

-- numbers that fit a word
pub data SmallAll : List ℕ → Type 0 where
  small_none : SmallAll []
  small_more : {k : ℕ} {ks : List ℕ} → k < 2 ^ 32 → SmallAll ks → SmallAll (k ∷ ks)

pub record SmallPart (p : Part) : Type 0 where
  pub from : p.from < 2 ^ 32
  pub step : p.step < 2 ^ 32
  pub many : p.many < 2 ^ 32

pub data SmallParts : List Part → Type 0 where
  parts_none : SmallParts []
  parts_more : {p : Part} {ps : List Part} → SmallPart p → SmallParts ps → SmallParts (p ∷ ps)

pub data Sayable (Pattern : ℕ → Type 0) : Expr ℕ → Type 0 where
  say_name : {k : ℕ} → k < 64 → Sayable Pattern (name k)
  say_input : {k : ℕ} → k < 2 ^ 32 → Sayable Pattern (input k)
  say_constant : {x : ℕ} → Pattern x → Sayable Pattern (constant x)
  say_count : {m : ℕ} → m < 2 ^ 32 → Sayable Pattern (count m)
  say_each : {k : Unary} {e : Expr ℕ} → Sayable Pattern e → Sayable Pattern (each k e)
  say_both : {k : Binary} {e f : Expr ℕ} → Sayable Pattern e → Sayable Pattern f → Sayable Pattern (both k e f)
  say_choose : {e f g : Expr ℕ} → Sayable Pattern e → Sayable Pattern f → Sayable Pattern g → Sayable Pattern (choose e f g)
  say_fold : {k : Binary} {x : ℕ} {e : Expr ℕ} → x < 2 ^ 32 → Sayable Pattern e → Sayable Pattern (fold k x e)
  say_scan : {k : Binary} {x : ℕ} {e : Expr ℕ} → x < 2 ^ 32 → Sayable Pattern e → Sayable Pattern (scan k x e)
  say_shape : {t : List ℕ} {e : Expr ℕ} → SmallAll t → Sayable Pattern e → Sayable Pattern (shape_to t e)
  say_turn : {os : List ℕ} {e : Expr ℕ} → SmallAll os → Sayable Pattern e → Sayable Pattern (turn os e)
  say_part : {ps : List Part} {e : Expr ℕ} → SmallParts ps → Sayable Pattern e → Sayable Pattern (part ps e)
  say_join : {x : ℕ} {e f : Expr ℕ} → x < 2 ^ 32 → Sayable Pattern e → Sayable Pattern f → Sayable Pattern (join x e f)
  say_rows : {e f : Expr ℕ} → Sayable Pattern e → Sayable Pattern f → Sayable Pattern (rows e f)

pub data SayableProgram (Pattern : ℕ → Type 0) : Program ℕ → Type 0 where
  say_end : SayableProgram Pattern end
  say_let : {k : ℕ} {e : Expr ℕ} {p : Program ℕ} → k < 64 → Sayable Pattern e → SayableProgram Pattern p → SayableProgram Pattern (be k e p)
  say_put : {k : ℕ} {ps : List Part} {e : Expr ℕ} {p : Program ℕ} → k < 64 → SmallParts ps → Sayable Pattern e → SayableProgram Pattern p → SayableProgram Pattern (put k ps e p)
  say_show : {e : Expr ℕ} {p : Program ℕ} → Sayable Pattern e → SayableProgram Pattern p → SayableProgram Pattern (show e p)
  say_again : {n : ℕ} {b p : Program ℕ} → n < 2 ^ 32 → SayableProgram Pattern b → SayableProgram Pattern p → SayableProgram Pattern (again n b p)

-- how deep `again` stands in `again`
unfoldable pub deep : {Num : Type 0} → Program Num → ℕ
deep end = 0
deep (be k e p) = deep p
deep (put k ps e p) = deep p
deep (show e p) = deep p
deep (again n b p) = max (1 + deep b) (deep p)

-- a step whose numbers fit its words: one word each, and two for a constant
abbrev pub FitsWords : Step → Type 0
FitsWords End = Unit {0}
FitsWords (Let k) = k < 2 ^ 32
FitsWords (Put k) = k < 2 ^ 32
FitsWords Show = Unit {0}
FitsWords (Again n) = n < 2 ^ 32
FitsWords (Name k) = k < 2 ^ 32
FitsWords (Input k) = k < 2 ^ 32
FitsWords (Constant x) = x < 2 ^ 64
FitsWords (Count m) = m < 2 ^ 32
FitsWords (Each k) = Unit {0}
FitsWords (Both k) = Unit {0}
FitsWords Choose = Unit {0}
FitsWords (Fold k x) = x < 2 ^ 32
FitsWords (Scan k x) = x < 2 ^ 32
FitsWords Shape = Unit {0}
FitsWords Turn = Unit {0}
FitsWords Cut = Unit {0}
FitsWords (Join x) = x < 2 ^ 32
FitsWords Rows = Unit {0}
FitsWords (Item k) = k < 2 ^ 32
FitsWords (Slice s) = (s.from < 2 ^ 32) × (s.step < 2 ^ 32) × (s.many < 2 ^ 32)

pub data FitAll : List Step → Type 0 where
  fit_none : FitAll []
  fit_more : {s : Step} {r : List Step} → FitsWords s → FitAll r → FitAll (s ∷ r)

-- the steps of a program that a text can say fit their words, and the words of such a step are words
abbrev pub SayableFits : Type 0
SayableFits =
    ((p : Program ℕ) → SayableProgram (λ x. x < 2 ^ 64) p → FitAll (spell_program p [])) × ((s : Step) (p : ℕ) → FitsWords s → p < 2 ^ 32 → SmallAll (words_of s p))

-- each `again` that is deeper takes two steps
abbrev pub DeepTakesSteps : Type 0
DeepTakesSteps = (p : Program ℕ) → 2 * deep p ≤ long p
