-- The automaton along a name.
use Rattle.std.proofs.Common.{◌≡◌, ℕ, ◌≤◌, Bool, true, not, ◌||◌, ltb, List, [], ◌∷◌, ◌++◌, length, sym, refl, ap, ◌∙◌, subst, ⊎_elim, append_assoc, arith, length-append}
use Rattle.std.proofs.lemmas.Bool.{and_from, and_parts, or_left, or_right, or_cases}
use Rattle.program.specs.declared.step.Step.{Step}
use Rattle.grammar.specs.Letters.{inside, Letter, plains}
use Rattle.grammar.specs.Words.{Word, in_word, all_in_word, is_name, is_some, itself, shaped, reserved}
use Rattle.grammar.specs.Moves.{belongs, move, moves, when, can_name, viable_name, viable}
use Rattle.grammar.specs.Automaton.{at}
use Rattle.grammar.specs.declared.symbol.Symbol.{Symbol}
use Rattle.grammar.proofs.WordLaws.{shaped_front, is_some_is, begins_some_among}
use Rattle.grammar.proofs.Along.{along, along_moves}
use Rattle.grammar.proofs.NumberAlong.{when_true}

-- what a beginning of a name may still become
pub viable_front : (ns : List Word) (w a c : Word) → can_name ns w ≡ true → w ≡ a ++ c → 1 ≤ length a → viable_name ns a ≡ true
unfolding can_name viable_name is_name
viable_front ns w [] c h e l = absurd (omega arith)
viable_front ns w (b ∷ a) c h e l =
    let p = and_parts (is_name w) (is_some itself ns w || ltb (length ns) 64) h in
    let q = and_parts (shaped w) (not (reserved w)) p.0 in
    and_from _ _
    (shaped_front b a c (subst (λ u. shaped u ≡ true) e q.0))
    (⊎_elim
    (λ i. let k = is_some_is itself ns w i in or_left _ _ (begins_some_among itself k.1 (b ∷ a) c (sym k.2 ∙ e)))
    (λ i. or_right _ _ i)
    (or_cases (is_some itself ns w) (ltb (length ns) 64) p.1))

pub viable_from_name : (ns : List Word) (w : Word) → viable_name ns w ≡ true → viable ns w ≡ true
unfolding viable
viable_from_name ns w h = or_right _ _ h

-- the letters of a word behind its first ones
module _ (ns : List Word) (out : List Step) (s : Symbol) (rest : List Symbol) (test : Word → Bool)
    (belongs-is : (b : ℕ) → belongs s b ≡ in_word b)
    (moves-is : (w : Word) (b : ℕ) → moves ns s w 0 b ≡ when (test (w ++ b ∷ [])) (move inside [] (s ∷ []) (w ++ b ∷ []) 0)) where
  pub letters_along : (w u v : Word) (f : List Letter) → w ≡ u ++ v → ((a c : Word) → w ≡ a ++ c → 1 ≤ length a → test a ≡ true) → all_in_word v ≡ true → along (at ns out (s ∷ rest) u 0) (plains v f) ≡ along (at ns out (s ∷ rest) w 0) f
  unfolding plains all_in_word
  letters_along w u [] f e t h = ap (λ y. along (at ns out (s ∷ rest) y 0) f) (sym (e ∙ simp append_nil))
    where
      append_nil : (u : Word) → u ++ [] ≡ u
      append_nil [] = refl
      append_nil (b ∷ u) = ap {B = Word} (λ y. b ∷ y) (append_nil u)
  letters_along w u (b ∷ v) f e t h =
      let p = and_parts (in_word b) (all_in_word v) h in
      let e' : w ≡ (u ++ b ∷ []) ++ v = e ∙ sym (append_assoc u (b ∷ []) v) in
      along_moves ns out s rest u 0 b (plains v f) (belongs-is b ∙ p.0) (moves-is u b ∙ when_true _ _ (t (u ++ b ∷ []) v e' (rw length-append (omega arith))))
      ∙ letters_along w (u ++ b ∷ []) v f e' t p.1
