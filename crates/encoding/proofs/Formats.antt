-- Laws of the format: a word more, and where an array starts and ends.
use Rattle.std.proofs.Common.{◌≡◌, ℕ, ◌+◌, ◌*◌, ◌≤◌, true, List, [], ◌∷◌, ◌++◌, length, get_or, take, refl, ap, ◌∙◌, add-one}
use Rattle.std.proofs.lemmas.List.{get_or_past}
use Rattle.std.proofs.lemmas.Bool.{le-leb, and_from}
use Rattle.semantics.specs.Shapes.{size}
use Rattle.encoding.specs.Words.{word4}
use Rattle.encoding.specs.Format.{rank_at, words_at, shape_at, start_at, next_at, good_at}

pub words_at_none : (bs : List ℕ) (i : ℕ) → words_at bs i 0 ≡ []
unfolding words_at
words_at_none bs i = refl

pub words_at_more : (bs : List ℕ) (i k : ℕ) → words_at bs i (k + 1) ≡ words_at bs i k ++ word4 bs (i + 4 * k) ∷ []
unfolding words_at
words_at_more bs i k = rw add-one refl

pub rank_at_is : (bs : List ℕ) (i : ℕ) → rank_at bs i ≡ get_or bs i 0
unfolding rank_at
rank_at_is bs i = refl

pub rank_at_past : (bs : List ℕ) (i : ℕ) → length bs ≤ i → rank_at bs i ≡ 0
unfolding rank_at
rank_at_past bs i h = get_or_past bs i 0 h

pub start_at_is : (bs : List ℕ) (i : ℕ) → start_at bs i ≡ i + 1 + 4 * rank_at bs i
unfolding start_at
start_at_is bs i = refl

pub next_at_is : (bs : List ℕ) (i : ℕ) → next_at bs i ≡ start_at bs i + 8 * size (shape_at bs i)
unfolding next_at
next_at_is bs i = refl

pub good_at_from : (bs : List ℕ) (i : ℕ) → rank_at bs i ≤ 8 → next_at bs i ≤ length bs → good_at bs i ≡ true
unfolding good_at
good_at_from bs i few there = and_from _ _ (le-leb _ _ few) (le-leb _ _ there)

-- the lengths that were read are the shape
pub shape_at_read : (bs lens : List ℕ) (i rank : ℕ) → rank ≡ rank_at bs i → take rank lens ≡ words_at bs (i + 1) rank → take rank lens ≡ shape_at bs i
unfolding shape_at
shape_at_read bs lens i rank few read = read ∙ ap (λ r. words_at bs (i + 1) r) few
