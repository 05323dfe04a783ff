-- The automaton along a number in decimal.
use Rattle.std.proofs.Common.{◌≡◌, ℕ, ◌+◌, ◌-◌, ◌*◌, ◌/◌, ◌%◌, ◌<◌, ◌≤◌, Bool, true, List, [], ◌∷◌, ◌++◌, length, decimal, refl, ap, ◌∙◌, arith, length-append}
use Rattle.std.proofs.lemmas.Fmt.{decimal_by_steps}
use Rattle.std.proofs.lemmas.Bool.{and_from, le-leb, lt-ltb}
use Rattle.program.specs.declared.step.Step.{Step}
use Rattle.grammar.specs.Letters.{Flag, inside, Letter, letter, plain, plains, flagged}
use Rattle.grammar.specs.Words.{Word, is_digit}
use Rattle.grammar.specs.Sayable.{Small}
use Rattle.grammar.specs.Moves.{belongs, Move, move, moves, when, digit_move}
use Rattle.grammar.specs.Automaton.{State, at}
use Rattle.grammar.specs.declared.symbol.Symbol.{Symbol}
use Rattle.grammar.specs.declared.symbol.Number.{Number}
use Rattle.grammar.proofs.Along.{along, along_moves}

pub flagged_snoc : (x : Flag) (w : Word) (b : ℕ) (f : List Letter) → 1 ≤ length w → flagged x (w ++ b ∷ []) f ≡ flagged x w (plain b ∷ f)
unfolding flagged
flagged_snoc x [] b f h = absurd (omega arith)
flagged_snoc x (c ∷ w) b f h = ap {B = List Letter} (λ r. letter x c ∷ r) (plains_snoc w b f)
  where
    plains_snoc : (w : Word) (b : ℕ) (f : List Letter) → plains (w ++ b ∷ []) f ≡ plains w (plain b ∷ f)
    plains_snoc [] b f = refl
    plains_snoc (c ∷ w) b f = ap {B = List Letter} (λ r. plain c ∷ r) (plains_snoc w b f)

pub flagged_inside : (w : Word) (f : List Letter) → flagged inside w f ≡ plains w f
unfolding flagged plains
flagged_inside [] f = refl
flagged_inside (b ∷ w) f = refl

pub is_digit_of : (d : ℕ) → d < 10 → is_digit (48 + d) ≡ true
unfolding is_digit
is_digit_of d h = and_from _ _ (le-leb 48 (48 + d) (omega arith)) (le-leb (48 + d) 57 (omega arith))

pub digit_back : (d : ℕ) → 48 + d - 48 ≡ d
digit_back d = omega arith

pub when_true : (t : Bool) (m : Move) → t ≡ true → when t m ≡ m
unfolding when
when_true t m h = rw h

-- the first digit
pub digit_first : (x : Flag) (p : Number) (rest : List Symbol) (d : ℕ) → d < 10 → digit_move x p rest (48 + d) ≡ move x [] (Symbol.Digits p ∷ rest) [] d
unfolding digit_move
digit_first x p rest d h =
    when_true _ _ (is_digit_of d h) ∙ ap (λ v. move x [] (Symbol.Digits p ∷ rest) [] v) (digit_back d)

digit_more : (ns : List Word) (p : Number) (v d : ℕ) → d < 10 → 1 ≤ v → v * 10 + d < 4294967296 → moves ns (Symbol.Digits p) [] v (48 + d) ≡ move inside [] (Symbol.Digits p ∷ []) [] (v * 10 + d)
unfolding moves
digit_more ns p v d h i j =
    when_true _ _ (and_from _ _ (is_digit_of d h) (and_from _ _ (le-leb 1 v i) (lt-ltb (v * 10 + (48 + d - 48)) 4294967296 (rw (digit_back d) j))))
    ∙ ap (λ k. move inside [] (Symbol.Digits p ∷ []) [] (v * 10 + k)) (digit_back d)

-- from any state that takes a first digit so
module _ (q : State) (x : Flag) (ns : List Word) (out : List Step) (p : Number) (rest : List Symbol)
    (first : (d : ℕ) → d < 10 → (f : List Letter) → along q (letter x (48 + d) ∷ f) ≡ along (at ns out (Symbol.Digits p ∷ rest) [] d) f) where
  Way : ℕ → List ℕ → Type 0
  Way n ds = (1 ≤ length ds) × (n < 4294967296 → (f : List Letter) → along q (flagged x ds f) ≡ along (at ns out (Symbol.Digits p ∷ rest) [] n) f)

  one_digit : (n : ℕ) → n < 10 → Way n ((48 + n) ∷ [])
  unfolding Way flagged
  one_digit n h = (omega arith, λ l f. first n h f)

  more_digits : (n : ℕ) (ds : List ℕ) → 10 ≤ n → Way (n / 10) ds → Way n (ds ++ (48 + n % 10) ∷ [])
  unfolding Way
  more_digits n ds h k =
      let k0 = k.0 in
      let e : n / 10 * 10 + n % 10 ≡ n = omega arith in (
        rw length-append (omega arith),
        λ l f. ap (λ g. along q g) (flagged_snoc x ds (48 + n % 10) f k.0)
            ∙ k.1 (omega arith) (plain (48 + n % 10) ∷ f)
            ∙ along_moves ns out (Symbol.Digits p) rest [] (n / 10) (48 + n % 10) f (unfold belongs in is_digit_of (n % 10) (omega arith)) (digit_more ns p (n / 10) (n % 10) (omega arith) (omega arith) (rw e l))
            ∙ ap (λ v. along (at ns out (Symbol.Digits p ∷ rest) [] v) f) e,
      )

  pub number_along : (n : ℕ) → Small n → (f : List Letter) → along q (flagged x (decimal n) f) ≡ along (at ns out (Symbol.Digits p ∷ rest) [] n) f
  unfolding Way
  number_along n h f = (decimal_by_steps Way one_digit more_digits n (omega arith)).1 h f
