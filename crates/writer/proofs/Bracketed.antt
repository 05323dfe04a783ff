-- Steps between brackets: where they go on, and where they end.
use Rattle.std.proofs.Common.{◌≡◌, ℕ, ◌+◌, ◌<◌, ◌≤◌, true, false, List, [], ◌∷◌, ◌++◌, length, codes, sym, refl, ap, ◌∙◌, arith}
use Rattle.semantics.specs.Shapes.{pick}
use Rattle.program.specs.declared.step.Step.{Step}
use Rattle.program.specs.declared.step.Step.TheVariants.{End, Let, Put, Show, Again, Name, Input, Constant, Count, Each, Both, Choose, Fold, Scan, Shape, Turn, Part as Cut, Join, Rows, Item, Slice}
use Rattle.program.specs.Words.{steps_in, At}
use Rattle.program.specs.Standing.{steps_from}
use Rattle.program.proofs.Nodes.{from_at, from_past}
use Rattle.writer.specs.StepTexts.{step_text, closer, listed, more_text, list_text, behind_list, with_list, behind_closed}

-- no step between brackets stands at the node
pub record EndsList (ws : List ℕ) (i : ℕ) : Type 0 where
  pub more : more_text (steps_from ws i) ≡ []
  pub list : list_text (steps_from ws i) ≡ []
  pub on : behind_list (steps_from ws i) ≡ steps_from ws i

-- one does
pub record GoesOnList (ws : List ℕ) (i : ℕ) (s : Step) : Type 0 where
  pub more : more_text (steps_from ws i) ≡ codes ", " ++ step_text s ++ more_text (steps_from ws (i + 1))
  pub list : list_text (steps_from ws i) ≡ step_text s ++ more_text (steps_from ws (i + 1))
  pub on : behind_list (steps_from ws i) ≡ behind_list (steps_from ws (i + 1))

pub list_past : (ws : List ℕ) (i : ℕ) → length (steps_in ws) ≤ i → EndsList ws i
unfolding more_text list_text behind_list
list_past ws i h =
    let none = from_past ws i h in
    record { more = ap more_text none; list = ap list_text none; on = ap behind_list none ∙ sym none }

pub list_ends : (ws : List ℕ) (i : ℕ) (s : Step) → At ws i s → listed s ≡ false → EndsList ws i
unfolding more_text list_text behind_list
list_ends ws i s at h =
    let from = from_at ws i s at in
    let t = steps_from ws (i + 1) in
    record {
      more = ap more_text from ∙ ap (λ b. pick b (codes ", " ++ step_text s ++ more_text t) []) h;
      list = ap list_text from ∙ ap (λ b. pick b (step_text s ++ more_text t) []) h;
      on = ap behind_list from ∙ (ap (λ b. pick b (behind_list t) (s ∷ t)) h ∙ sym from);
    }

pub list_goes_on : (ws : List ℕ) (i : ℕ) (s : Step) → At ws i s → listed s ≡ true → GoesOnList ws i s
unfolding more_text list_text behind_list
list_goes_on ws i s at h =
    let from = from_at ws i s at in
    let t = steps_from ws (i + 1) in
    record {
      more = ap more_text from ∙ ap (λ b. pick b (codes ", " ++ step_text s ++ more_text t) []) h;
      list = ap list_text from ∙ ap (λ b. pick b (step_text s ++ more_text t) []) h;
      on = ap behind_list from ∙ ap (λ b. pick b (behind_list t) (s ∷ t)) h;
    }

-- a step without brackets, and one with some
pub with_none : (cs text : List ℕ) (t : List Step) → length cs ≡ 0 → with_list cs text t ≡ text
unfolding with_list
with_none [] text t h = refl
with_none (b ∷ bs) text t h = absurd (omega arith)

pub with_some : (cs text : List ℕ) (t : List Step) → 0 < length cs → with_list cs text t ≡ text ++ list_text t ++ cs
unfolding with_list
with_some [] text t h = absurd (omega arith)
with_some (b ∷ bs) text t h = refl

pub closed_none : (cs : List ℕ) (t : List Step) → length cs ≡ 0 → behind_closed cs t ≡ t
unfolding behind_closed
closed_none [] t h = refl
closed_none (b ∷ bs) t h = absurd (omega arith)

pub closed_some : (cs : List ℕ) (t : List Step) → 0 < length cs → behind_closed cs t ≡ behind_list t
unfolding behind_closed
closed_some [] t h = absurd (omega arith)
closed_some (b ∷ bs) t h = refl

pub closer_short : (s : Step) → length (closer s) ≤ 4
closer_short End = omega arith
closer_short (Let k) = omega arith
closer_short (Put k) = omega arith
closer_short Show = omega arith
closer_short (Again n) = omega arith
closer_short (Name k) = omega arith
closer_short (Input k) = omega arith
closer_short (Constant x) = omega arith
closer_short (Count m) = omega arith
closer_short (Each k) = omega arith
closer_short (Both k) = omega arith
closer_short Choose = omega arith
closer_short (Fold k x) = omega arith
closer_short (Scan k x) = omega arith
closer_short Shape = omega arith
closer_short Turn = omega arith
closer_short Cut = omega arith
closer_short (Join x) = omega arith
closer_short Rows = omega arith
closer_short (Item k) = omega arith
closer_short (Slice s) = omega arith
