-- Where all steps are built, so are those of every expression and line, and each is a tree.
use Rattle.std.proofs.Common.{◌≡◌, ℕ, zero, suc, ◌+◌, ◌<◌, ◌≤◌, true, false, List, [], ◌∷◌, length, get_or, take, drop, sym, refl, ◌∙◌, subst, add-one, arith}
use Rattle.semantics.specs.Values.{Expr, name, input, constant, count, each, both, choose, fold, scan, shape_to, turn, part, join, rows}
use Rattle.program.specs.declared.step.Step.{Step}
use Rattle.semantics.specs.declared.operation.Unary.{Unary}
use Rattle.semantics.specs.declared.operation.Binary.{Binary}
use Rattle.program.specs.declared.step.Step.TheVariants.{End, Let, Put, Show, Again, Name, Input, Constant, Count, Each, Both, Choose, Fold, Scan, Shape, Turn, Part, Join, Rows, Item, Slice}
use Rattle.program.specs.Spelling.{spell}
use Rattle.program.specs.Words.{steps_in, At}
use Rattle.program.specs.Standing.{steps_from, Opens, OpensLine}
use Rattle.kernels.specs.Trees.{Fusable}
use Rattle.runtime.specs.Built.{built, AllBuilt, none, more}

not_built : {s : Step} {r : List Step} → AllBuilt (s ∷ r) → built s ≡ false → ⊥
not_built (more h t) e = let z : true ≡ false = sym h ∙ e in absurd_bool z
  where
    absurd_bool : true ≡ false → ⊥
    absurd_bool e = let z : ◌≡◌ {A = ℕ} 0 1 = cc in omega arith

pub built_drop : (n : ℕ) {l : List Step} → AllBuilt l → AllBuilt (drop n l)
built_drop zero h = h
built_drop (suc n) none = none
built_drop (suc n) (more h t) = built_drop n t

pub built_from : (ws : List ℕ) (i : ℕ) → AllBuilt (steps_in ws) → AllBuilt (steps_from ws i)
unfolding steps_from
built_from ws i h = built_drop i h

pub record TreeBuilt (e : Expr ℕ) (r : List Step) : Type 0 where
  pub tree : Fusable e
  pub rest : AllBuilt r

pub tree_built : (e : Expr ℕ) (r : List Step) → AllBuilt (spell e r) → TreeBuilt e r
unfolding spell
tree_built (name k) r (more h t) = record { tree = tt; rest = t }
tree_built (input k) r (more h t) = record { tree = tt; rest = t }
tree_built (constant x) r (more h t) = record { tree = tt; rest = t }
tree_built (count m) r (more h t) = record { tree = tt; rest = t }
tree_built (each k e) r (more h t) = let a = tree_built e r t in record { tree = a.tree; rest = a.rest }
tree_built (both k e f) r (more h t) =
    let a = tree_built e (spell f r) t in
    let b = tree_built f r a.rest in
    record { tree = (a.tree, b.tree); rest = b.rest }
tree_built (choose e f g) r h = absurd (not_built h refl)
tree_built (fold k x e) r h = absurd (not_built h refl)
tree_built (scan k x e) r h = absurd (not_built h refl)
tree_built (shape_to t e) r h = absurd (not_built h refl)
tree_built (turn os e) r h = absurd (not_built h refl)
tree_built (part ps e) r h = absurd (not_built h refl)
tree_built (join x e f) r h = absurd (not_built h refl)
tree_built (rows e f) r h = absurd (not_built h refl)

pub take_none : (l : List Step) → AllBuilt (take 0 l)
take_none [] = none
take_none (s ∷ l) = none

-- one step more
built_suc : (l : List Step) (k : ℕ) → k < length l → built (get_or l k End) ≡ true → AllBuilt (take k l) → AllBuilt (take (suc k) l)
built_suc [] k h b t = none
built_suc (s ∷ l) zero h b t = more b (take_none l)
built_suc (s ∷ l) (suc k) h b (more a t) = more a (built_suc l k (omega arith) b t)

pub built_more : (l : List Step) (k : ℕ) → k < length l → built (get_or l k End) ≡ true → AllBuilt (take k l) → AllBuilt (take (k + 1) l)
built_more l k h b t = rw add-one (built_suc l k h b t)

pub built_all : (l : List Step) (k : ℕ) → length l ≤ k → AllBuilt (take k l) → AllBuilt l
built_all [] k h t = none
built_all (s ∷ l) zero h t = absurd (omega arith)
built_all (s ∷ l) (suc k) h (more a t) = more a (built_all l k (omega arith) t)

-- the step that is read is built
pub step_built : (ws : List ℕ) (i : ℕ) (x : Step) → At ws i x → AllBuilt (steps_in ws) → built x ≡ true
step_built ws i x at h = subst (λ s. built s ≡ true) (sym at.is) (go (steps_in ws) i at.there h)
  where
    go : (l : List Step) (k : ℕ) → k < length l → AllBuilt l → built (get_or l k End) ≡ true
    go [] k lt none = absurd (omega arith)
    go (s ∷ l) zero lt (more a t) = a
    go (s ∷ l) (suc k) lt (more a t) = go l k (omega arith) t

no_true : false ≡ true → ⊥
no_true e = let z : ◌≡◌ {A = ℕ} 0 1 = cc in omega arith

-- the steps that expressions begin with, of those that are built
pub built_opens : (x : Step) → built x ≡ true → Opens x → ((k : ℕ) → x ≡ Name k → ⊥) → ((k : ℕ) → x ≡ Input k → ⊥) → ((a : ℕ) → x ≡ Constant a → ⊥) → ((m : ℕ) → x ≡ Count m → ⊥) → ((k : Unary) → x ≡ Each k → ⊥) → ((k : Binary) → x ≡ Both k → ⊥) → ⊥
built_opens End b o n i c m e t = o
built_opens (Let k) b o n i c m e t = o
built_opens (Put k) b o n i c m e t = o
built_opens Show b o n i c m e t = o
built_opens (Again k) b o n i c m e t = o
built_opens (Name k) b o n i c m e t = n k refl
built_opens (Input k) b o n i c m e t = i k refl
built_opens (Constant a) b o n i c m e t = c a refl
built_opens (Count k) b o n i c m e t = m k refl
built_opens (Each k) b o n i c m e t = e k refl
built_opens (Both k) b o n i c m e t = t k refl
built_opens Choose b o n i c m e t = no_true b
built_opens (Fold k x) b o n i c m e t = no_true b
built_opens (Scan k x) b o n i c m e t = no_true b
built_opens Shape b o n i c m e t = no_true b
built_opens Turn b o n i c m e t = no_true b
built_opens Part b o n i c m e t = no_true b
built_opens (Join x) b o n i c m e t = no_true b
built_opens Rows b o n i c m e t = no_true b
built_opens (Item k) b o n i c m e t = o
built_opens (Slice s) b o n i c m e t = o

-- the steps that lines begin with, of those that are built
pub built_lines : (x : Step) → built x ≡ true → OpensLine x → ((k : ℕ) → x ≡ Let k → ⊥) → (x ≡ Show → ⊥) → ⊥
built_lines End b o l s = no_true b
built_lines (Let k) b o l s = l k refl
built_lines (Put k) b o l s = no_true b
built_lines Show b o l s = s refl
built_lines (Again k) b o l s = no_true b
built_lines (Name k) b o l s = o
built_lines (Input k) b o l s = o
built_lines (Constant a) b o l s = o
built_lines (Count k) b o l s = o
built_lines (Each k) b o l s = o
built_lines (Both k) b o l s = o
built_lines Choose b o l s = o
built_lines (Fold k x) b o l s = o
built_lines (Scan k x) b o l s = o
built_lines Shape b o l s = o
built_lines Turn b o l s = o
built_lines Part b o l s = o
built_lines (Join x) b o l s = o
built_lines Rows b o l s = o
built_lines (Item k) b o l s = o
built_lines (Slice t) b o l s = o
