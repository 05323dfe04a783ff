-- Words: those of the language, those kept for later, and names.
use Rattle.std.specs.Prelude.{ℕ, Bool, true, false, not, ◌&&◌, ◌||◌, List, [], ◌∷◌, length, Some, None, codes, Option, ◌==◌, nat_le, nat_lt}
use Rattle.semantics.specs.Shapes.{pick}
use Rattle.semantics.specs.declared.operation.Unary.{Unary}
use Rattle.semantics.specs.declared.operation.Unary.TheVariants.{Neg, Abs, Sqrt, Floor, Not}
use Rattle.semantics.specs.declared.operation.Binary.{Binary}
use Rattle.semantics.specs.declared.operation.Binary.TheVariants.{Add, Sub, Mul, Div, Less, Same, Least, Most}
use Rattle.grammar.specs.declared.symbol.Head.{Head}
use Rattle.grammar.specs.declared.symbol.Head.TheVariants.{In, Count, Each, Both, Choose, Fold, Scan, Shape, Turn, Part, Join, Rows}

abbrev pub Word : Type 0
Word = List ℕ

unfoldable pub same_word : Word → Word → Bool
same_word [] [] = true
same_word [] (c ∷ w) = false
same_word (b ∷ u) [] = false
same_word (b ∷ u) (c ∷ w) = b == c && same_word u w

-- u is a beginning of w
unfoldable pub begins_word : Word → Word → Bool
begins_word [] w = true
begins_word (b ∷ u) [] = false
begins_word (b ∷ u) (c ∷ w) = b == c && begins_word u w

-- things that are written as words: which of them a word is, whether it is one, and whether it is the beginning of one
unfoldable pub find : {A : Type 0} → (A → Word) → List A → Word → Option A
unfolding same_word
find spelled [] w = None
find spelled (a ∷ xs) w = pick (same_word w (spelled a)) (Some a) (find spelled xs w)

unfoldable pub is_some : {A : Type 0} → (A → Word) → List A → Word → Bool
unfolding same_word
is_some spelled [] w = false
is_some spelled (a ∷ xs) w = same_word w (spelled a) || is_some spelled xs w

unfoldable pub begins_some : {A : Type 0} → (A → Word) → List A → Word → Bool
unfolding begins_word
begins_some spelled [] w = false
begins_some spelled (a ∷ xs) w = begins_word w (spelled a) || begins_some spelled xs w

unfoldable pub unary_word : Unary → Word
unary_word Neg = codes "neg"
unary_word Abs = codes "abs"
unary_word Sqrt = codes "sqrt"
unary_word Floor = codes "floor"
unary_word Not = codes "not"

unfoldable pub binary_word : Binary → Word
binary_word Add = codes "add"
binary_word Sub = codes "sub"
binary_word Mul = codes "mul"
binary_word Div = codes "div"
binary_word Less = codes "less"
binary_word Same = codes "same"
binary_word Least = codes "least"
binary_word Most = codes "most"

unfoldable pub head_word : Head → Word
unfolding unary_word binary_word
head_word In = codes "in"
head_word Count = codes "count"
head_word (Each k) = unary_word k
head_word (Both k) = binary_word k
head_word Choose = codes "choose"
head_word Fold = codes "fold"
head_word Scan = codes "scan"
head_word Shape = codes "shape"
head_word Turn = codes "turn"
head_word Part = codes "part"
head_word Join = codes "join"
head_word Rows = codes "rows"

unfoldable pub unaries : List Unary
unaries = Neg ∷ Abs ∷ Sqrt ∷ Floor ∷ Not ∷ []

unfoldable pub binaries : List Binary
binaries = Add ∷ Sub ∷ Mul ∷ Div ∷ Less ∷ Same ∷ Least ∷ Most ∷ []

unfoldable pub heads : List Head
heads =
    In ∷ Count ∷ Each Neg ∷ Each Abs ∷ Each Sqrt ∷ Each Floor ∷ Each Not
    ∷ Both Add ∷ Both Sub ∷ Both Mul ∷ Both Div ∷ Both Less ∷ Both Same ∷ Both Least ∷ Both Most
    ∷ Choose ∷ Fold ∷ Scan ∷ Shape ∷ Turn ∷ Part ∷ Join ∷ Rows ∷ []

-- no names: words of statements, and words that later statements and expressions may have
unfoldable pub kept_words : List Word
kept_words =
    codes "let" ∷ codes "put" ∷ codes "show" ∷ codes "again" ∷ codes "end"
    ∷ codes "if" ∷ codes "else" ∷ codes "while" ∷ codes "within" ∷ codes "def" ∷ codes "give" ∷ codes "num" ∷ codes "whole"
    ∷ codes "sort" ∷ codes "order" ∷ codes "total" ∷ codes "dot" ∷ []

-- a word written as itself
abbrev pub itself : Word → Word
itself w = w

unfoldable pub reserved : Word → Bool
unfolding is_some head_word heads kept_words
reserved w = is_some head_word heads w || is_some itself kept_words w

unfoldable pub is_digit : ℕ → Bool
is_digit b = nat_le 48 b && nat_le b 57

unfoldable pub is_letter : ℕ → Bool
is_letter b = nat_le 97 b && nat_le b 122

-- a byte of a word
unfoldable pub in_word : ℕ → Bool
unfolding is_letter is_digit
in_word b = is_letter b || is_digit b

unfoldable pub all_in_word : Word → Bool
unfolding in_word
all_in_word [] = true
all_in_word (b ∷ w) = in_word b && all_in_word w

-- a letter first, then letters and digits, 8 in all at most
unfoldable pub shaped : Word → Bool
unfolding is_letter all_in_word
shaped [] = false
shaped (b ∷ w) = is_letter b && all_in_word w && nat_lt (length w) 8

unfoldable pub is_name : Word → Bool
unfolding shaped reserved
is_name w = shaped w && not (reserved w)

-- spellings of names: each a name, no two alike
unfoldable pub are_names : List Word → Bool
unfolding is_name is_some
are_names [] = true
are_names (w ∷ ws) = is_name w && not (is_some itself ws w) && are_names ws
