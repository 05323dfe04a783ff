-- Places only bound: with more of them a value is the same or was out of places, and so is a run.
use Rattle.std.proofs.Common.{◌≡◌, ℕ, zero, suc, ◌+◌, ◌-◌, ◌≤◌, Bool, eqb, leb, List, get_or, refl, arith}
use Rattle.std.proofs.lemmas.Bool.{leb-true, le-leb}
use Rattle.semantics.specs.Shapes.{pick, size}
use Rattle.semantics.specs.Parts.{Part}
use Rattle.semantics.specs.Arrays.{Array, Numbers, constant_array, count_array}
use Rattle.semantics.specs.Values.{Expr, name, input, constant, count, each, both, choose, fold, scan, shape_to, turn, part, join, rows, Cell, none, some, Value, fault, val, Sizes, then, made, held, given, value}
use Rattle.semantics.specs.Programs.{Program, end, be, put, show, again, in_names, State, becomes, is_put, is_shown, stopped, times, value_in, run, begin, shows, ends}
use Rattle.semantics.specs.RunLaws.{Begins, resized, PlacesOnlyBound}
use Rattle.semantics.proofs.Picks.{pick_two, pick_told}
use Rattle.semantics.proofs.Runs.{begins_refl, Since, since_becomes, since_is_put, since_is_shown, since_trans, run_since, ended_stays}

-- out of places, or the same
data Sooner {Num : Type 0} : Value Num → Value Num → Type 0 where
  out : (v : Value Num) → Sooner (fault 5) v
  alike : (v : Value Num) → Sooner v v

sooner_pick : {Num : Type 0} (b : Bool) (v w x y : Value Num) → Sooner v x → Sooner w y → Sooner (pick b v w) (pick b x y)
sooner_pick b v w x y h k = pick_two Sooner b h k

sooner_then : {Num : Type 0} {v w : Value Num} (f g : Array Num → ℕ → Value Num) → Sooner v w → ((a : Array Num) (c : ℕ) → Sooner (f a c) (g a c)) → Sooner (then v f) (then w g)
unfolding then
sooner_then f g (out v) k = out _
sooner_then f g (alike (fault e)) k = alike (fault e)
sooner_then f g (alike (val a c)) k = k a c

sooner_made : {Num : Type 0} (n m c : ℕ) (a : Array Num) → n ≤ m → Sooner (made n c a) (made m c a)
unfolding made
sooner_made n m c a h =
    pick_told (λ v. Sooner v (made m c a)) (leb (c + size a.shape) n) (λ e. enough (omega (arith, leb-true (c + size a.shape) n e))) (λ e. out _)
  where
    enough : c + size a.shape ≤ m → Sooner (val a (c + size a.shape)) (made m c a)
    enough k = rw (le-leb (c + size a.shape) m k) (alike _)

sooner_held : {Num : Type 0} (n m : ℕ) (c : Cell Num) → n ≤ m → Sooner (held n c) (held m c)
unfolding held
sooner_held n m none h = alike (fault 6)
sooner_held n m (some a) h = sooner_made n m 0 a h

ruleset sooners = (sooner_pick, sooner_then, sooner_made, sooner_held, alike)

module _ {Num : Type 0} (s : Sizes) (l : ℕ) (z : Numbers Num) (ins : List (Array Num)) where
  value_sooner : (ns : List (Cell Num)) (n m : ℕ) (e : Expr Num) → n ≤ m → Sooner (value s z ins ns n e) (value (resized s l) z ins ns m e)
  unfolding value resized
  value_sooner ns n m (name k) h = sooner_held n m (get_or ns k none) h
  value_sooner ns n m (input k) h = sooner_held n m (given ins k) h
  value_sooner ns n m (constant x) h = sooner_made n m 0 (constant_array x) h
  value_sooner ns n m (count x) h = sooner_made n m 0 (count_array z x) h
  value_sooner ns n m (each k e) h = sooner_then _ _ (value_sooner ns n m e h) (λ a c. search sooners)
  value_sooner ns n m (both k e f) h =
      sooner_then _ _ (value_sooner ns n m e h) (λ a c. sooner_then _ _ (value_sooner ns (n - c) (m - c) f (omega arith)) (λ b d. search sooners))
  value_sooner ns n m (choose e f g) h =
      sooner_then _ _ (value_sooner ns n m e h)
      (λ a c. sooner_then _ _ (value_sooner ns (n - c) (m - c) f (omega arith)) (λ b d. sooner_then _ _ (value_sooner ns (n - c - d) (m - c - d) g (omega arith)) (λ b d. search sooners)))
  value_sooner ns n m (fold k x e) h = sooner_then _ _ (value_sooner ns n m e h) (λ a c. search sooners)
  value_sooner ns n m (scan k x e) h = sooner_then _ _ (value_sooner ns n m e h) (λ a c. search sooners)
  value_sooner ns n m (shape_to t e) h = sooner_then _ _ (value_sooner ns n m e h) (λ a c. search sooners)
  value_sooner ns n m (turn os e) h = sooner_then _ _ (value_sooner ns n m e h) (λ a c. search sooners)
  value_sooner ns n m (part ps e) h = sooner_then _ _ (value_sooner ns n m e h) (λ a c. search sooners)
  value_sooner ns n m (join x e f) h =
      sooner_then _ _ (value_sooner ns n m e h) (λ a c. sooner_then _ _ (value_sooner ns (n - c) (m - c) f (omega arith)) (λ b d. search sooners))
  value_sooner ns n m (rows e f) h =
      sooner_then _ _ (value_sooner ns n m e h) (λ a c. sooner_then _ _ (value_sooner ns (n - c) (m - c) f (omega arith)) (λ b d. search sooners))

-- what came after t came after it is stopped
from_stopped : {Num : Type 0} (t u : State Num) → Since t u → Since (stopped t 5) u
unfolding stopped
from_stopped t u h = record { shown = h.shown }

-- a state out of places, after which u came, or the same state
data Behind {Num : Type 0} : State Num → State Num → Type 0 where
  stuck : (t u : State Num) → t.ended ≡ 5 → Since t u → Behind t u
  level : (t : State Num) → Behind t t

behind_becomes : {Num : Type 0} (s : Sizes) (l : ℕ) (t : State Num) (k : ℕ) {v w : Value Num} → Sooner v w → Behind (becomes s t k v) (becomes (resized s l) t k w)
unfolding becomes resized
behind_becomes s l t k (out w) = stuck _ _ refl (from_stopped t _ (since_becomes (resized s l) t k w))
behind_becomes s l t k (alike (fault e)) = level _
behind_becomes s l t k (alike (val a c)) = level _

behind_is_put : {Num : Type 0} (t : State Num) (k : ℕ) (ps : List Part) (c : Cell Num) {v w : Value Num} → Sooner v w → Behind (is_put t k ps c v) (is_put t k ps c w)
unfolding is_put
behind_is_put t k ps none (out w) = level _
behind_is_put t k ps (some a) (out w) = stuck _ _ refl (from_stopped t _ (since_is_put t k ps (some a) w))
behind_is_put t k ps c (alike v) = level _

behind_is_shown : {Num : Type 0} (t : State Num) {v w : Value Num} → Sooner v w → Behind (is_shown t v) (is_shown t w)
unfolding is_shown
behind_is_shown t (out w) = stuck _ _ refl (from_stopped t _ (since_is_shown t w))
behind_is_shown t (alike v) = level _

behind_times : {Num : Type 0} (n : ℕ) (f g : State Num → State Num) → ((t u : State Num) → Behind t u → Behind (f t) (g u)) → (t u : State Num) → Behind t u → Behind (times n f t) (times n g u)
unfolding times
behind_times zero f g h t u b = b
behind_times (suc n) f g h t u b = behind_times n f g h (f t) (g u) (h t u b)

behind_pick : {Num : Type 0} (b : Bool) (t u v w : State Num) → Behind t v → Behind u w → Behind (pick b t u) (pick b v w)
behind_pick b t u v w h k = pick_two Behind b h k

module _ {Num : Type 0} (s : Sizes) (l : ℕ) (z : Numbers Num) (ins : List (Array Num)) (le : s.places ≤ l) where
  value_in_sooner : (t : State Num) (e : Expr Num) → Sooner (value_in s z ins t e) (value_in (resized s l) z ins t e)
  unfolding value_in resized
  value_in_sooner t e = value_sooner s l z ins t.names (s.places - in_names t.names) (l - in_names t.names) e (omega arith)

  -- a run that is stuck stays so, and the other goes on
  run_stuck : (p : Program Num) (t u : State Num) → t.ended ≡ 5 → Since t u → Behind (run s z ins p t) (run (resized s l) z ins p u)
  run_stuck p t u e h =
      rw (ended_stays Num s z ins p t (omega arith)) (stuck t _ e (since_trans h (run_since (resized s l) z ins p u)))

  -- a statement and what follows, from a state or from one that it is behind
  after : (p : Program Num) → ((t : State Num) → Behind (run s z ins p t) (run (resized s l) z ins p t)) → (t u : State Num) → Behind t u → Behind (run s z ins p t) (run (resized s l) z ins p u)
  after p h t u (stuck _ _ e k) = run_stuck p t u e k
  after p h t u (level _) = h t

  run_level : (p : Program Num) (t : State Num) → Behind (run s z ins p t) (run (resized s l) z ins p t)
  unfolding run
  run_level end t = level t
  run_level (be k e p) t =
      behind_pick (eqb t.ended 0) _ t _ t (after p (run_level p) _ _ (behind_becomes s l t k (value_in_sooner t e))) (level t)
  run_level (put k ps e p) t =
      behind_pick (eqb t.ended 0) _ t _ t
      (after p (run_level p) _ _ (behind_is_put t k ps (get_or t.names k none) (value_in_sooner t e)))
      (level t)
  run_level (show e p) t =
      behind_pick (eqb t.ended 0) _ t _ t (after p (run_level p) _ _ (behind_is_shown t (value_in_sooner t e))) (level t)
  run_level (again n b p) t =
      behind_pick (eqb t.ended 0) _ t _ t
      (after p (run_level p) _ _ (behind_times n (run s z ins b) (run (resized s l) z ins b) (after b (run_level b)) t t (level t)))
      (level t)

from_behind : {Num : Type 0} {t u : State Num} → Behind t u → ((t.ended ≡ 5 → ⊥) → (u.shown ≡ t.shown) × (u.ended ≡ t.ended)) × (t.ended ≡ 5 → Begins t.shown u.shown)
from_behind (stuck t u e h) = (λ n. absurd (n e), λ _. h.shown)
from_behind (level t) = (λ n. (refl, refl), λ _. begins_refl t.shown)

pub places_only_bound : (Num : Type 0) → PlacesOnlyBound Num
unfolding shows ends resized
places_only_bound Num s m z ins p le = from_behind (run_level s m z ins le p (begin s))
