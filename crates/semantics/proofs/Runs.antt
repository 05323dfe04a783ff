-- What names hold stays within the places, what was shown stays, and nothing happens after a fault.
use Rattle.std.proofs.Common.{◌≡◌, ℕ, zero, suc, ◌+◌, ◌-◌, ◌≤◌, Bool, eqb, ltb, leb, List, [], ◌∷◌, ◌++◌, get_or, set, sym, refl, ap, ◌∙◌, append_assoc, append-nil, arith}
use Rattle.std.proofs.lemmas.Bool.{leb-true}
use Rattle.semantics.specs.Shapes.{pick, size}
use Rattle.semantics.specs.Parts.{Part, parts_fit}
use Rattle.semantics.specs.Arrays.{Array, Numbers, can_put, put_array}
use Rattle.semantics.specs.Values.{Expr, name, input, constant, count, each, both, choose, fold, scan, shape_to, turn, part, join, rows, Cell, none, some, Value, fault, val, Sizes, then, made, held, value}
use Rattle.semantics.specs.Programs.{Program, end, be, put, show, again, cell_size, in_names, State, listed, becomes, is_put, is_shown, times, value_in, run}
use Rattle.semantics.specs.RunLaws.{Begins, NamesWithin, ShownStays, EndedStays}
use Rattle.semantics.proofs.Picks.{pick_both, pick_told, pick_other}

-- ---- nothing after a fault
pub ended_stays : (Num : Type 0) → EndedStays Num
unfolding run
ended_stays Num s z ins end t h = refl
ended_stays Num s z ins (be k e p) t h = pick_other t.ended 0 _ t h
ended_stays Num s z ins (put k ps e p) t h = pick_other t.ended 0 _ t h
ended_stays Num s z ins (show e p) t h = pick_other t.ended 0 _ t h
ended_stays Num s z ins (again n b p) t h = pick_other t.ended 0 _ t h

-- ---- what was shown stays
pub begins_refl : {A : Type 0} (xs : List A) → Begins xs xs
begins_refl xs = record { more = []; is = sym (append-nil xs) }

pub begins_trans : {A : Type 0} {xs ys zs : List A} → Begins xs ys → Begins ys zs → Begins xs zs
begins_trans {xs} h k =
    record { more = h.more ++ k.more; is = k.is ∙ ap (λ l. l ++ k.more) h.is ∙ append_assoc xs h.more k.more }

-- state u came after t
pub record Since {Num : Type 0} (t u : State Num) : Type 0 where
  pub shown : Begins t.shown u.shown

pub since_same : {Num : Type 0} (t u : State Num) → u.shown ≡ t.shown → Since t u
since_same t u e = record { shown = record { more = []; is = e ∙ sym (append-nil t.shown) } }

pub since_trans : {Num : Type 0} {t u v : State Num} → Since t u → Since u v → Since t v
since_trans h k = record { shown = begins_trans h.shown k.shown }

since_pick : {Num : Type 0} {t : State Num} (b : Bool) (u v : State Num) → Since t u → Since t v → Since t (pick b u v)
since_pick {t} b u v h k = pick_both (Since t) b h k

pub since_becomes : {Num : Type 0} (s : Sizes) (t : State Num) (k : ℕ) (v : Value Num) → Since t (becomes s t k v)
unfolding becomes
since_becomes s t k (fault e) = since_same t _ refl
since_becomes s t k (val a c) = since_pick (ltb k s.names) _ _ (since_same t _ refl) (since_same t _ refl)

pub since_is_put : {Num : Type 0} (t : State Num) (k : ℕ) (ps : List Part) (c : Cell Num) (v : Value Num) → Since t (is_put t k ps c v)
unfolding is_put
since_is_put t k ps none v = since_same t _ refl
since_is_put t k ps (some a) (fault e) = since_same t _ refl
since_is_put t k ps (some a) (val b c) =
    since_pick (parts_fit ps a.shape) _ _ (since_pick (can_put ps b) _ _ (since_same t _ refl) (since_same t _ refl)) (since_same t _ refl)

pub since_is_shown : {Num : Type 0} (t : State Num) (v : Value Num) → Since t (is_shown t v)
unfolding is_shown
since_is_shown t (fault e) = since_same t _ refl
since_is_shown t (val a c) = record { shown = record { more = listed a ∷ []; is = refl } }

since_times : {Num : Type 0} (n : ℕ) (f : State Num → State Num) → ((t : State Num) → Since t (f t)) → (t : State Num) → Since t (times n f t)
unfolding times
since_times zero f h t = since_same t t refl
since_times (suc n) f h t = since_trans (h t) (since_times n f h (f t))

-- one step, unless a fault came before
since_step : {Num : Type 0} (t u v : State Num) → Since t u → Since u v → Since t (pick (eqb t.ended 0) v t)
since_step t u v h k = since_pick (eqb t.ended 0) v t (since_trans h k) (since_same t t refl)

pub run_since : {Num : Type 0} (s : Sizes) (z : Numbers Num) (ins : List (Array Num)) (p : Program Num) (t : State Num) → Since t (run s z ins p t)
unfolding run
run_since s z ins end t = since_same t t refl
run_since s z ins (be k e p) t = since_step t _ _ (since_becomes s t k (value_in s z ins t e)) (run_since s z ins p _)
run_since s z ins (put k ps e p) t =
    since_step t _ _ (since_is_put t k ps (get_or t.names k none) (value_in s z ins t e)) (run_since s z ins p _)
run_since s z ins (show e p) t = since_step t _ _ (since_is_shown t (value_in s z ins t e)) (run_since s z ins p _)
run_since s z ins (again n b p) t =
    since_step t _ _ (since_times n (run s z ins b) (run_since s z ins b) t) (run_since s z ins p _)

pub shown_stays : (Num : Type 0) → ShownStays Num
shown_stays Num s z ins p t = (run_since s z ins p t).shown

-- ---- names hold no more than the places
-- a value's own places are counted, and the count is within the places there were
pub data Within {Num : Type 0} (n : ℕ) : Value Num → Type 0 where
  faulty : (e : ℕ) → Within n (fault e)
  counted : (a : Array Num) (c : ℕ) → size a.shape ≤ c → c ≤ n → Within n (val a c)

within_made : {Num : Type 0} (n c : ℕ) (a : Array Num) → Within n (made n c a)
unfolding made
within_made n c a =
    pick_told (Within n) (leb (c + size a.shape) n) (λ e. counted a _ (omega arith) (leb-true (c + size a.shape) n e)) (λ e. faulty 5)

within_held : {Num : Type 0} (n : ℕ) (c : Cell Num) → Within n (held n c)
unfolding held
within_held n none = faulty 6
within_held n (some a) = within_made n 0 a

within_then : {Num : Type 0} (n : ℕ) (v : Value Num) (f : Array Num → ℕ → Value Num) → ((a : Array Num) (c : ℕ) → Within n (f a c)) → Within n (then v f)
unfolding then
within_then n (fault e) f h = faulty e
within_then n (val a c) f h = h a c

within_pick : {Num : Type 0} (n : ℕ) (b : Bool) (v w : Value Num) → Within n v → Within n w → Within n (pick b v w)
within_pick n b v w p q = pick_both (Within n) b p q

ruleset withins = (faulty, within_made, within_held, within_then, within_pick)

pub value_within : {Num : Type 0} (s : Sizes) (z : Numbers Num) (ins : List (Array Num)) (ns : List (Cell Num)) (n : ℕ) (e : Expr Num) → Within n (value s z ins ns n e)
unfolding value
value_within s z ins ns n (name k) = search withins
value_within s z ins ns n (input k) = search withins
value_within s z ins ns n (constant x) = search withins
value_within s z ins ns n (count m) = search withins
value_within s z ins ns n (each k e) = search withins
value_within s z ins ns n (both k e f) = search withins
value_within s z ins ns n (choose e f g) = search withins
value_within s z ins ns n (fold k x e) = search withins
value_within s z ins ns n (scan k x e) = search withins
value_within s z ins ns n (shape_to t e) = search withins
value_within s z ins ns n (turn os e) = search withins
value_within s z ins ns n (part ps e) = search withins
value_within s z ins ns n (join x e f) = search withins
value_within s z ins ns n (rows e f) = search withins depth 7

in_names_set : {Num : Type 0} (ns : List (Cell Num)) (k : ℕ) (c : Cell Num) → in_names (set ns k c) ≤ in_names ns + cell_size c
unfolding in_names
in_names_set [] k c = omega arith
in_names_set (x ∷ ns) zero c = omega arith
in_names_set (x ∷ ns) (suc k) c = omega (arith, in_names_set ns k c)

-- an array in place of one with as many places
in_names_set_same : {Num : Type 0} (ns : List (Cell Num)) (k : ℕ) (c : Cell Num) → cell_size (get_or ns k none) ≡ cell_size c → in_names (set ns k c) ≡ in_names ns
unfolding in_names
in_names_set_same [] k c e = refl
in_names_set_same (x ∷ ns) zero c e = omega arith
in_names_set_same (x ∷ ns) (suc k) c e = omega (arith, in_names_set_same ns k c e)

-- the names of a state hold at most n
record Holds {Num : Type 0} (n : ℕ) (t : State Num) : Type 0 where
  within : in_names t.names ≤ n

holds_pick : {Num : Type 0} (n : ℕ) (b : Bool) (t u : State Num) → Holds n t → Holds n u → Holds n (pick b t u)
holds_pick n b t u p q = pick_both (Holds n) b p q

holds_becomes : {Num : Type 0} (s : Sizes) (t : State Num) (k : ℕ) {v : Value Num} → Holds s.places t → Within (s.places - in_names t.names) v → Holds s.places (becomes s t k v)
unfolding becomes cell_size
holds_becomes s t k h (faulty e) = record { within = h.within }
holds_becomes s t k h (counted a c p q) =
    holds_pick s.places (ltb k s.names) _ _
    (record { within = omega (arith, in_names_set t.names k (some a)) })
    (record { within = h.within })

holds_is_put : {Num : Type 0} (n : ℕ) (t : State Num) (k : ℕ) (ps : List Part) (c : Cell Num) (v : Value Num) → get_or t.names k none ≡ c → Holds n t → Holds n (is_put t k ps c v)
unfolding is_put cell_size
holds_is_put n t k ps none v e h = record { within = h.within }
holds_is_put n t k ps (some a) (fault x) e h = record { within = h.within }
holds_is_put n t k ps (some a) (val b x) e h =
    holds_pick n (parts_fit ps a.shape) _ _
    (holds_pick n (can_put ps b) _ _ (record { within = omega (arith, in_names_set_same t.names k (some (put_array ps a b)) (ap cell_size e)) }) (record { within = h.within }))
    (record { within = h.within })

holds_is_shown : {Num : Type 0} (n : ℕ) (t : State Num) (v : Value Num) → Holds n t → Holds n (is_shown t v)
unfolding is_shown
holds_is_shown n t (fault e) h = record { within = h.within }
holds_is_shown n t (val a c) h = record { within = h.within }

holds_times : {Num : Type 0} (m n : ℕ) (f : State Num → State Num) → ((t : State Num) → Holds m t → Holds m (f t)) → (t : State Num) → Holds m t → Holds m (times n f t)
unfolding times
holds_times m zero f h t q = q
holds_times m (suc n) f h t q = holds_times m n f h (f t) (h t q)

run_holds : {Num : Type 0} (s : Sizes) (z : Numbers Num) (ins : List (Array Num)) (p : Program Num) (t : State Num) → Holds s.places t → Holds s.places (run s z ins p t)
unfolding run
run_holds s z ins end t h = h
run_holds s z ins (be k e p) t h =
    holds_pick s.places (eqb t.ended 0) _ t
    (run_holds s z ins p _ (holds_becomes s t k h (value_within s z ins t.names (s.places - in_names t.names) e)))
    h
run_holds s z ins (put k ps e p) t h =
    holds_pick s.places (eqb t.ended 0) _ t
    (run_holds s z ins p _ (holds_is_put s.places t k ps (get_or t.names k none) (value_in s z ins t e) refl h))
    h
run_holds s z ins (show e p) t h =
    holds_pick s.places (eqb t.ended 0) _ t
    (run_holds s z ins p _ (holds_is_shown s.places t (value_in s z ins t e) h))
    h
run_holds s z ins (again n b p) t h =
    holds_pick s.places (eqb t.ended 0) _ t
    (run_holds s z ins p _ (holds_times s.places n (run s z ins b) (run_holds s z ins b) t h))
    h

pub names_within : (Num : Type 0) → NamesWithin Num
names_within Num s z ins p t h = (run_holds s z ins p t (record { within = h })).within
