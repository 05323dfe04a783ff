-- What is read of the first steps, one after another, until one gives nothing.
use Rattle.std.proofs.Common.{◌≡◌, ℕ, ◌+◌, List, [], ◌∷◌, ◌++◌, length, Some, None, Option, MatchOption, sym, refl, ap, ◌∙◌, append_assoc, append-nil, arith}
use Rattle.std.proofs.lemmas.Iterator.{YieldsList}
use Rattle.std.proofs.lemmas.Iterator.Consumers.{YieldsList-from_shown}
use Rattle.std.specs.Fn.{Called}
use Rattle.std.specs.Iterator.Adapters.{map_while_source, map_while_callee, map_while_steps}
use Rattle.std.specs.Option.{option_map}
use Rattle.std.specs.declared.iter.MapWhile.{MapWhile}
use denote.Param.Members.{Mut}
use Rattle.program.specs.declared.step.Step.{Step}
use Rattle.program.specs.declared.steps.Steps.{Steps}
use Rattle.program.specs.Steps.{steps_left, Gives}
use Rattle.program.specs.Standing.{steps_from}
use Rattle.semantics.specs.Parts.{Part}
use Rattle.program.specs.Leading.{one_more, leading, item_in, slice_in}
use Rattle.program.proofs.Leadings.{leading_items, leading_slices}
use Rattle.reference.specs.Brackets.{ReadsItems, ReadsSlices}
use Rattle.program.proofs.Nodes.{length_from, from_at}

nothing_left : (l : List Step) → length l ≡ 0 → l ≡ []
nothing_left [] e = refl
nothing_left (s ∷ t) e = absurd (omega arith)

next_left : (s t : Steps) (x : Step) → Gives s (Some x) t → steps_left s ≡ x ∷ steps_left t
next_left s t x h = from_at s.words.now s.node x h.0 ∙ ap (λ l. x ∷ l) (ap (λ w. steps_from w.now (s.node + 1)) (sym h.1) ∙ ap (λ n. steps_from t.words.now n) (sym h.2))

module _ {F B C : Type 0} (g : Mut F (Step × Unit {0}) (Option B)) (f : Step → Option C) (v : B → C)
    (reads : (p : F) (x : Step) (r : Option B) (q : F) → Called g p (x, tt) r q → option_map v r ≡ f x) where
  -- what is still read
  abbrev left : MapWhile Steps F → List C
  left s = leading f (steps_left (map_while_source s))

  at_end : (s t : MapWhile Steps F) (o : Option Step) → Gives (map_while_source s) o (map_while_source t)
      → MatchOption o ((◌≡◌ {A = Option B} None None) × (map_while_callee t ≡ map_while_callee s)) (λ x. Called g (map_while_callee s) (x, tt) None (map_while_callee t)) → left s ≡ []
  unfolding leading one_more
  at_end s t None h k = ap (leading f) (nothing_left _ (omega (arith, length_from (map_while_source s).words.now (map_while_source s).node, h.0)))
  at_end s t (Some x) h k =
      ap (leading f) (next_left _ _ x h)
      ∙ ap (λ o. one_more o (leading f (steps_left (map_while_source t)))) (sym (reads _ x None _ k))

  one_read : (s t : MapWhile Steps F) (y : B) (o : Option Step) → Gives (map_while_source s) o (map_while_source t)
      → MatchOption o ((Some y ≡ None) × (map_while_callee t ≡ map_while_callee s)) (λ x. Called g (map_while_callee s) (x, tt) (Some y) (map_while_callee t)) → left s ≡ v y ∷ left t
  unfolding leading one_more
  one_read s t y None h k = let e = k.0 in cc
  one_read s t y (Some x) h k =
      ap (leading f) (next_left _ _ x h)
      ∙ ap (λ o. one_more o (leading f (steps_left (map_while_source t)))) (sym (reads _ x (Some y) _ k))

  pub leading_read : (s : MapWhile Steps F) (l : List Step) → steps_left (map_while_source s) ≡ l → YieldsList (map_while_steps Gives g) v s (leading f l)
  leading_read s l e =
      rw (← e)
      (YieldsList-from_shown (map_while_steps Gives g) v left
      (λ s t k. ap length (at_end s t k.0 k.1 k.2))
      (λ s y t k. one_read s t y k.0 k.1 k.2)
      s)

-- and what it is then, where items or slices stand there
pub items_read : (ws : List ℕ) (i : ℕ) (xs : List ℕ) → xs ≡ leading item_in (steps_from ws i) → ReadsItems ws i xs
items_read ws i xs e = record { on = λ ks x r h. e ∙ (ap (leading item_in) h ∙ leading_items ks x r) }

pub slices_read : (ws : List ℕ) (i : ℕ) (xs : List Part) → xs ≡ leading slice_in (steps_from ws i) → ReadsSlices ws i xs
slices_read ws i xs e = record { on = λ ps x r h. e ∙ (ap (leading slice_in) h ∙ leading_slices ps x r) }

pub same_option : {A : Type 0} (r : Option A) → option_map (λ x. x) r ≡ r
same_option None = refl
same_option (Some x) = refl

-- a loop over the steps: what was read, and what is still read of the steps that are left
module _ {C : Type 0} (f : Step → Option C) (ws : List ℕ) (i : ℕ) where
  abbrev pub ReadSoFar : List C → Steps → Type 0
  ReadSoFar xs s = leading f (steps_from ws i) ≡ xs ++ leading f (steps_left s)

  pub read_more : (xs ys : List C) (c : C) (x : Step) (s t : Steps) → Gives s (Some x) t → f x ≡ Some c → ys ≡ xs ++ c ∷ [] → ReadSoFar xs s → ReadSoFar ys t
  unfolding leading one_more
  read_more xs ys c x s t h e p q =
      q
      ∙ (ap (λ l. xs ++ leading f l) (next_left s t x h)
      ∙ (ap (λ o. xs ++ one_more o (leading f (steps_left t))) e ∙ (sym (append_assoc xs (c ∷ []) (leading f (steps_left t))) ∙ ap (λ l. l ++ leading f (steps_left t)) (sym p))))

  pub read_up_to : (xs : List C) (x : Step) (s t : Steps) → Gives s (Some x) t → f x ≡ None → ReadSoFar xs s → xs ≡ leading f (steps_from ws i)
  unfolding leading one_more
  read_up_to xs x s t h e q =
      sym (q ∙ (ap (λ l. xs ++ leading f l) (next_left s t x h) ∙ (ap (λ o. xs ++ one_more o (leading f (steps_left t))) e ∙ append-nil xs)))

  pub read_all : (xs : List C) (s t : Steps) → Gives s None t → ReadSoFar xs s → xs ≡ leading f (steps_from ws i)
  unfolding leading
  read_all xs s t h q = sym (q ∙ (ap (λ l. xs ++ leading f l) (nothing_left _ (omega (arith, length_from s.words.now s.node, h.0))) ∙ append-nil xs))
