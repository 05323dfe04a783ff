-- Names as parts of a text.
use Rattle.std.specs.Prelude.{◌≡◌, ℕ, ◌-◌, ◌<◌, true, false, List, [], ◌∷◌, ◌++◌, map, length, take, drop, Some, None, Option}
use Rattle.semantics.specs.Shapes.{pick}
use Rattle.grammar.specs.Words.{Word, is_some, itself, is_name}
use Rattle.grammar.specs.Moves.{place, with_name, can_name}
use Rattle.reader.specs.declared.names.Span.{Span}
use Rattle.reader.specs.declared.names.Naming.{Naming}

-- the bytes of t from a up to b
abbrev pub part : List ℕ → ℕ → ℕ → Word
part t a b = take (b - a) (drop a t)

unfoldable pub spelling : List ℕ → Span → Word
spelling t s = part t s.from s.to

unfoldable pub spellings : List ℕ → List Span → List Word
unfolding spelling
spellings t ss = map (spelling t) ss

-- where a word stands among names, or that it does not
pub data Sought (ns : List Word) (w : Word) : Option ℕ → Type 0 where
  absent : is_some itself ns w ≡ false → place ns w ≡ length ns → Sought ns w None
  present : {k : ℕ} → is_some itself ns w ≡ true → place ns w ≡ k → k < length ns → Sought ns w (Some k)

-- the name that a word is, or that it is none
pub record NamesAs (ns : List Word) (w : Word) (n : Naming) : Type 0 where
  pub can : can_name ns w ≡ true
  pub is : place ns w ≡ n.place
  pub names : with_name ns w ≡ pick n.new (ns ++ w ∷ []) ns
  pub room : n.new ≡ true → length ns < 64

pub data Named (ns : List Word) (w : Word) : Option Naming → Type 0 where
  unnamed : can_name ns w ≡ false → Named ns w None
  named : {n : Naming} → NamesAs ns w n → Named ns w (Some n)

-- a name that has come
pub record KnownAs (ns : List Word) (w : Word) (k : ℕ) : Type 0 where
  pub named : is_name w ≡ true
  pub there : is_some itself ns w ≡ true
  pub is : place ns w ≡ k
  pub low : k < length ns

abbrev pub Known : List Word → Word → Option ℕ → Type 0
Known ns w None = Unit {0}
Known ns w (Some k) = KnownAs ns w k
