-- The text of a step, up to what comes behind it: its operands, the items of its brackets, or nothing.
use Rattle.std.specs.Prelude.{ℕ, Bool, true, false, List, [], ◌∷◌, ◌++◌, codes, decimal, slice_index_or}
use Rattle.semantics.specs.Shapes.{pick}
use Rattle.program.specs.declared.step.Step.{Step}
use Rattle.program.specs.declared.step.Step.TheVariants.{End, Let, Put, Show, Again, Name, Input, Constant, Count, Each, Both, Choose, Fold, Scan, Shape, Turn, Part as Cut, Join, Rows, Item, Slice}
use Rattle.grammar.specs.Words.{unary_word, binary_word}
use Rattle.writer.specs.Digits.{hex16}
use Rattle.writer.specs.Spellings.{spellings}

unfoldable pub step_text : Step → List ℕ
unfolding unary_word binary_word hex16 spellings
step_text End = codes "end" ++ 10 ∷ []
step_text (Let k) = codes "let " ++ slice_index_or spellings k [] ++ codes " = "
step_text (Put k) = codes "put " ++ slice_index_or spellings k [] ++ codes " ["
step_text Show = codes "show "
step_text (Again n) = codes "again " ++ decimal n ++ 10 ∷ []
step_text (Name k) = slice_index_or spellings k []
step_text (Input k) = codes "in " ++ decimal k ++ []
step_text (Constant x) = codes "#" ++ hex16 x
step_text (Count k) = codes "count " ++ decimal k ++ []
step_text (Each k) = unary_word k ++ codes "("
step_text (Both k) = binary_word k ++ codes "("
step_text Choose = codes "choose("
step_text (Fold k x) = codes "fold " ++ binary_word k ++ (codes " " ++ decimal x ++ codes "(")
step_text (Scan k x) = codes "scan " ++ binary_word k ++ (codes " " ++ decimal x ++ codes "(")
step_text Shape = codes "shape ["
step_text Turn = codes "turn ["
step_text Cut = codes "part ["
step_text (Join x) = codes "join " ++ decimal x ++ codes "("
step_text Rows = codes "rows("
step_text (Item k) = decimal k
step_text (Slice s) = decimal s.from ++ (codes ":" ++ pick s.backward (codes "-") []) ++ (decimal s.step ++ (codes ":" ++ decimal s.many ++ []))

-- how many expressions come behind a step and its brackets
abbrev pub wants : Step → ℕ
wants End = 0
wants (Let k) = 1
wants (Put k) = 1
wants Show = 1
wants (Again n) = 0
wants (Name k) = 0
wants (Input k) = 0
wants (Constant x) = 0
wants (Count m) = 0
wants (Each k) = 1
wants (Both k) = 2
wants Choose = 3
wants (Fold k x) = 1
wants (Scan k x) = 1
wants Shape = 1
wants Turn = 1
wants Cut = 1
wants (Join x) = 2
wants Rows = 2
wants (Item k) = 0
wants (Slice s) = 0

-- what closes the brackets of a step, and nothing where it has none
abbrev pub closer : Step → List ℕ
closer End = []
closer (Let k) = []
closer (Put k) = codes "] = "
closer Show = []
closer (Again n) = []
closer (Name k) = []
closer (Input k) = []
closer (Constant x) = []
closer (Count m) = []
closer (Each k) = []
closer (Both k) = []
closer Choose = []
closer (Fold k x) = []
closer (Scan k x) = []
closer Shape = codes "]("
closer Turn = codes "]("
closer Cut = codes "]("
closer (Join x) = []
closer Rows = []
closer (Item k) = []
closer (Slice s) = []

-- a step that stands between brackets
abbrev pub listed : Step → Bool
listed End = false
listed (Let k) = false
listed (Put k) = false
listed Show = false
listed (Again n) = false
listed (Name k) = false
listed (Input k) = false
listed (Constant x) = false
listed (Count m) = false
listed (Each k) = false
listed (Both k) = false
listed Choose = false
listed (Fold k x) = false
listed (Scan k x) = false
listed Shape = false
listed Turn = false
listed Cut = false
listed (Join x) = false
listed Rows = false
listed (Item k) = true
listed (Slice s) = true

-- the first steps that stand between brackets, parted by `, `; and what is behind them
unfoldable pub more_text : List Step → List ℕ
unfolding step_text
more_text [] = []
more_text (s ∷ t) = pick (listed s) (codes ", " ++ step_text s ++ more_text t) []

unfoldable pub list_text : List Step → List ℕ
unfolding step_text more_text
list_text [] = []
list_text (s ∷ t) = pick (listed s) (step_text s ++ more_text t) []

unfoldable pub behind_list : List Step → List Step
behind_list [] = []
behind_list (s ∷ t) = pick (listed s) (behind_list t) (s ∷ t)

-- a step with its brackets, where something closes them: t is behind the step
unfoldable pub with_list : List ℕ → List ℕ → List Step → List ℕ
unfolding list_text
with_list [] text t = text
with_list (b ∷ bs) text t = text ++ list_text t ++ b ∷ bs

unfoldable pub behind_closed : List ℕ → List Step → List Step
unfolding behind_list
behind_closed [] t = t
behind_closed (b ∷ bs) t = behind_list t

unfoldable pub head_text : Step → List Step → List ℕ
unfolding with_list step_text
head_text s t = with_list (closer s) (step_text s) t

unfoldable pub head_behind : Step → List Step → List Step
unfolding behind_closed
head_behind s t = behind_closed (closer s) t
