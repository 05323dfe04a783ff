-- Expressions by their first step: their operands, and what the operation makes of the operands' arrays.
use Rattle.std.proofs.Common.{◌≡◌, ℕ, ◌+◌, ◌-◌, List, [], get_or, Err, Result, refl, arith}
use Rattle.semantics.specs.declared.operation.Unary.{Unary}
use Rattle.semantics.specs.declared.operation.Binary.{Binary}
use Rattle.semantics.specs.Parts.{Part}
use Rattle.semantics.specs.Arrays.{Array, constant_array, count_array}
use Rattle.semantics.specs.Values.{Expr, choose, Cell, none, Value, fault, val, then, made, held, given, value, on_each, on_both, on_choose, on_fold, on_scan, on_shape, on_turn, on_part, on_join, on_rows}
use Rattle.semantics.specs.ValueLaws.{LikeValues, like_fault, like_val}
use Rattle.semantics.proofs.Likes.{Twins, twins_refl, alike_twins, likes_then, likes_on_each, likes_on_both, likes_on_choose, likes_on_fold, likes_on_scan, likes_on_shape, likes_on_turn, likes_on_part, likes_on_join, likes_on_rows}
use Rattle.numbers.specs.Operations.{binary64}
use Rattle.program.specs.declared.step.Step.{Step}
use Rattle.program.specs.declared.step.Step.TheVariants.{End, Let, Put, Show, Again, Name, Input, Constant, Count, Each, Both, Choose, Fold, Scan, Shape, Turn, Part as Cut, Join, Rows, Item, Slice}
use Rattle.program.specs.Spelling.{items, slices, spell}
use Rattle.program.specs.Words.{At}
use Rattle.program.specs.Standing.{steps_from, View, is_name, is_input, is_constant, is_count, is_each, is_both, is_choose, is_fold, is_scan, is_shape, is_turn, is_part, is_join, is_rows}
use Rattle.program.proofs.Nodes.{expr_view}
use Rattle.reference.specs.declared.evaluate.Arity.TheVariants.{Zero, One as Single, Two as Double, Three as Triple}
use Rattle.reference.specs.declared.fault.Stop.{Stop}
use Rattle.reference.specs.declared.made.Made.{Made}
use Rattle.reference.specs.Brackets.{SkipsBrackets}
use Rattle.reference.specs.CellsOf.{sizes}
use Rattle.reference.specs.Operands.{arity_of, Leaf, leaf_name, leaf_input, leaf_constant, leaf_count, One, one_each, one_fold, one_scan, one_shape, one_turn, one_part, Two, two_both, two_join, two_rows}
use Rattle.reference.specs.Right.{Right}
use Rattle.reference.proofs.Rights.{right_is, right_on, right_stopped}

-- numbers of operands are told apart
zero_single : Zero ≡ Single → ⊥
zero_single e = let z : ◌≡◌ {A = ℕ} 0 1 = cc in omega arith

zero_double : Zero ≡ Double → ⊥
zero_double e = let z : ◌≡◌ {A = ℕ} 0 1 = cc in omega arith

zero_triple : Zero ≡ Triple → ⊥
zero_triple e = let z : ◌≡◌ {A = ℕ} 0 1 = cc in omega arith

single_zero : Single ≡ Zero → ⊥
single_zero e = let z : ◌≡◌ {A = ℕ} 0 1 = cc in omega arith

single_double : Single ≡ Double → ⊥
single_double e = let z : ◌≡◌ {A = ℕ} 0 1 = cc in omega arith

single_triple : Single ≡ Triple → ⊥
single_triple e = let z : ◌≡◌ {A = ℕ} 0 1 = cc in omega arith

double_zero : Double ≡ Zero → ⊥
double_zero e = let z : ◌≡◌ {A = ℕ} 0 1 = cc in omega arith

double_single : Double ≡ Single → ⊥
double_single e = let z : ◌≡◌ {A = ℕ} 0 1 = cc in omega arith

double_triple : Double ≡ Triple → ⊥
double_triple e = let z : ◌≡◌ {A = ℕ} 0 1 = cc in omega arith

triple_zero : Triple ≡ Zero → ⊥
triple_zero e = let z : ◌≡◌ {A = ℕ} 0 1 = cc in omega arith

triple_single : Triple ≡ Single → ⊥
triple_single e = let z : ◌≡◌ {A = ℕ} 0 1 = cc in omega arith

triple_double : Triple ≡ Double → ⊥
triple_double e = let z : ◌≡◌ {A = ℕ} 0 1 = cc in omega arith

-- ---- no operands
pub record LeafAt (ws : List ℕ) (j : ℕ) (s : Step) (e : Expr ℕ) (t : List Step) : Type 0 where
  pub leaf : Leaf s e
  pub enc : steps_from ws j ≡ t

leaf_view : {ws : List ℕ} {j : ℕ} {t : List Step} {e : Expr ℕ} (s : Step) → arity_of s ≡ Zero → View t (steps_from ws j) e s → LeafAt ws j s e t
leaf_view s a (is_name q) = record { leaf = leaf_name; enc = q }
leaf_view s a (is_input q) = record { leaf = leaf_input; enc = q }
leaf_view s a (is_constant q) = record { leaf = leaf_constant; enc = q }
leaf_view s a (is_count q) = record { leaf = leaf_count; enc = q }
leaf_view s a (is_each q) = absurd (single_zero a)
leaf_view s a (is_both q) = absurd (double_zero a)
leaf_view s a (is_choose q) = absurd (triple_zero a)
leaf_view s a (is_fold q) = absurd (single_zero a)
leaf_view s a (is_scan q) = absurd (single_zero a)
leaf_view s a (is_shape q) = absurd (single_zero a)
leaf_view s a (is_turn q) = absurd (single_zero a)
leaf_view s a (is_part q) = absurd (single_zero a)
leaf_view s a (is_join q) = absurd (double_zero a)
leaf_view s a (is_rows q) = absurd (double_zero a)

-- ---- one operand, at j behind the brackets
pub record OneAt (ws : List ℕ) (i j n p : ℕ) (s : Step) (e : Expr ℕ) (t : List Step) : Type 0 where
  pub operand : Expr ℕ
  pub make : Array ℕ → ℕ → Value ℕ
  pub one : One ws i n p s e operand make
  pub enc : steps_from ws j ≡ spell operand t

one_view : {ws : List ℕ} {i j : ℕ} (n p : ℕ) {t : List Step} {e : Expr ℕ} (s : Step) → SkipsBrackets ws i j → arity_of s ≡ Single → View t (steps_from ws i) e s → OneAt ws i j n p s e t
unfolding items
one_view n p s k a (is_name q) = absurd (zero_single a)
one_view n p s k a (is_input q) = absurd (zero_single a)
one_view n p s k a (is_constant q) = absurd (zero_single a)
one_view n p s k a (is_count q) = absurd (zero_single a)
one_view n p s k a (is_each q) = record { operand = _; make = _; one = one_each; enc = k.past_items [] _ _ q }
one_view n p s k a (is_both q) = absurd (double_single a)
one_view n p s k a (is_choose q) = absurd (triple_single a)
one_view n p s k a (is_fold q) = record { operand = _; make = _; one = one_fold; enc = k.past_items [] _ _ q }
one_view n p s k a (is_scan q) = record { operand = _; make = _; one = one_scan; enc = k.past_items [] _ _ q }
one_view n p s k a (is_shape q) = record { operand = _; make = _; one = one_shape _ q; enc = k.past_items _ _ _ q }
one_view n p s k a (is_turn q) = record { operand = _; make = _; one = one_turn _ q; enc = k.past_items _ _ _ q }
one_view n p s k a (is_part q) = record { operand = _; make = _; one = one_part _ q; enc = k.past_slices _ _ _ q }
one_view n p s k a (is_join q) = absurd (double_single a)
one_view n p s k a (is_rows q) = absurd (double_single a)

-- ---- two operands
pub record TwoAt (ws : List ℕ) (i n p : ℕ) (s : Step) (e : Expr ℕ) (t : List Step) : Type 0 where
  pub first : Expr ℕ
  pub second : Expr ℕ
  pub make : Array ℕ → Array ℕ → ℕ → Value ℕ
  pub two : Two n p s e first second make
  pub enc : steps_from ws i ≡ spell first (spell second t)

two_view : {ws : List ℕ} {i : ℕ} (n p : ℕ) {t : List Step} {e : Expr ℕ} (s : Step) → arity_of s ≡ Double → View t (steps_from ws i) e s → TwoAt ws i n p s e t
two_view n p s a (is_name q) = absurd (zero_double a)
two_view n p s a (is_input q) = absurd (zero_double a)
two_view n p s a (is_constant q) = absurd (zero_double a)
two_view n p s a (is_count q) = absurd (zero_double a)
two_view n p s a (is_each q) = absurd (single_double a)
two_view n p s a (is_both q) = record { first = _; second = _; make = _; two = two_both; enc = q }
two_view n p s a (is_choose q) = absurd (triple_double a)
two_view n p s a (is_fold q) = absurd (single_double a)
two_view n p s a (is_scan q) = absurd (single_double a)
two_view n p s a (is_shape q) = absurd (single_double a)
two_view n p s a (is_turn q) = absurd (single_double a)
two_view n p s a (is_part q) = absurd (single_double a)
two_view n p s a (is_join q) = record { first = _; second = _; make = _; two = two_join; enc = q }
two_view n p s a (is_rows q) = record { first = _; second = _; make = _; two = two_rows; enc = q }

-- ---- three operands
pub record ThreeAt (ws : List ℕ) (i : ℕ) (e : Expr ℕ) (t : List Step) : Type 0 where
  pub first : Expr ℕ
  pub second : Expr ℕ
  pub third : Expr ℕ
  pub is : e ≡ choose first second third
  pub enc : steps_from ws i ≡ spell first (spell second (spell third t))

three_view : {ws : List ℕ} {i : ℕ} {t : List Step} {e : Expr ℕ} (s : Step) → arity_of s ≡ Triple → View t (steps_from ws i) e s → ThreeAt ws i e t
three_view s a (is_name q) = absurd (zero_triple a)
three_view s a (is_input q) = absurd (zero_triple a)
three_view s a (is_constant q) = absurd (zero_triple a)
three_view s a (is_count q) = absurd (zero_triple a)
three_view s a (is_each q) = absurd (single_triple a)
three_view s a (is_both q) = absurd (double_triple a)
three_view s a (is_choose q) = record { first = _; second = _; third = _; is = refl; enc = q }
three_view s a (is_fold q) = absurd (single_triple a)
three_view s a (is_scan q) = absurd (single_triple a)
three_view s a (is_shape q) = absurd (single_triple a)
three_view s a (is_turn q) = absurd (single_triple a)
three_view s a (is_part q) = absurd (single_triple a)
three_view s a (is_join q) = absurd (double_triple a)
three_view s a (is_rows q) = absurd (double_triple a)

-- the step s is read at node i, and e stands there
module _ (ws : List ℕ) (i : ℕ) (s : Step) (at : At ws i s) (e : Expr ℕ) (t : List Step) (h : steps_from ws i ≡ spell e t) where
  pub leaf_at : arity_of s ≡ Zero → LeafAt ws (i + 1) s e t
  leaf_at a = leaf_view s a (expr_view ws i s at s refl e t h)

  pub one_at : (j n p : ℕ) → SkipsBrackets ws (i + 1) j → arity_of s ≡ Single → OneAt ws (i + 1) j n p s e t
  one_at j n p k a = one_view n p s k a (expr_view ws i s at s refl e t h)

  pub two_at : (n p : ℕ) → arity_of s ≡ Double → TwoAt ws (i + 1) n p s e t
  two_at n p a = two_view n p s a (expr_view ws i s at s refl e t h)

  pub three_at : arity_of s ≡ Triple → ThreeAt ws (i + 1) e t
  three_at a = three_view s a (expr_view ws i s at s refl e t h)

-- ---- what the operations make of like arrays
likes_one : {ws : List ℕ} {i n p : ℕ} {s : Step} {e o : Expr ℕ} {f : Array ℕ → ℕ → Value ℕ} → One ws i n p s e o f → {a b : Array ℕ} → Twins a b → (c : ℕ) → LikeValues (f a c) (f b c)
likes_one {n = n} one_each h c = likes_on_each binary64 n c _ h
likes_one {n = n} one_fold h c = likes_on_fold binary64 n c _ _ h
likes_one {n = n} one_scan h c = likes_on_scan binary64 n c _ _ h
likes_one {n = n} {p = p} (one_shape r q) h c = likes_on_shape binary64 n c (sizes p) _ h
likes_one {n = n} (one_turn r q) h c = likes_on_turn binary64 n c _ h
likes_one {n = n} (one_part r q) h c = likes_on_part binary64 n c _ h

likes_two : {n p : ℕ} {s : Step} {e o q : Expr ℕ} {f : Array ℕ → Array ℕ → ℕ → Value ℕ} → Two n p s e o q f → {a b u v : Array ℕ} → Twins a b → Twins u v → (c : ℕ) → LikeValues (f a u c) (f b v c)
likes_two {n = n} two_both h k c = likes_on_both binary64 n c _ h k
likes_two {n = n} two_join h k c = likes_on_join binary64 n c _ h k
likes_two {n = n} {p = p} two_rows h k c = likes_on_rows binary64 n c (sizes p) h k

like_refl : (v : Value ℕ) → LikeValues v v
like_refl (fault e) = like_fault e
like_refl (val a c) = like_val a a c (alike_twins (twins_refl a))

-- ---- the value of an expression by its operands' values
module _ (p : ℕ) (ins : List (Array ℕ)) (ns : List (Cell ℕ)) where
  -- without operands
  pub at_name : (n : ℕ) {k : ℕ} {e : Expr ℕ} {r : Result Made Stop} → Leaf (Name k) e → Right (held n (get_or ns k none)) r → Right (value (sizes p) binary64 ins ns n e) r
  unfolding value
  at_name n leaf_name h = h

  pub at_input : (n : ℕ) {k : ℕ} {e : Expr ℕ} {r : Result Made Stop} → Leaf (Input k) e → Right (held n (given ins k)) r → Right (value (sizes p) binary64 ins ns n e) r
  unfolding value
  at_input n leaf_input h = h

  pub at_constant : (n : ℕ) {x : ℕ} {e : Expr ℕ} {r : Result Made Stop} → Leaf (Constant x) e → Right (made n 0 (constant_array x)) r → Right (value (sizes p) binary64 ins ns n e) r
  unfolding value
  at_constant n leaf_constant h = h

  pub at_count : (n : ℕ) {m : ℕ} {e : Expr ℕ} {r : Result Made Stop} → Leaf (Count m) e → Right (made n 0 (count_array binary64 m)) r → Right (value (sizes p) binary64 ins ns n e) r
  unfolding value
  at_count n leaf_count h = h

  -- with one
  value_one : {ws : List ℕ} {i n : ℕ} {s : Step} {e o : Expr ℕ} {f : Array ℕ → ℕ → Value ℕ} → One ws i n p s e o f → value (sizes p) binary64 ins ns n e ≡ then (value (sizes p) binary64 ins ns n o) f
  unfolding value
  value_one one_each = refl
  value_one one_fold = refl
  value_one one_scan = refl
  value_one (one_shape r q) = refl
  value_one (one_turn r q) = refl
  value_one (one_part r q) = refl

  pub stop_one : {ws : List ℕ} {i n : ℕ} {s : Step} {e o : Expr ℕ} {f : Array ℕ → ℕ → Value ℕ} {x : Stop} → One ws i n p s e o f → Right (value (sizes p) binary64 ins ns n o) (Err x) → Right (value (sizes p) binary64 ins ns n e) (Err x)
  stop_one {f = f} one h = right_is (value_one one) (right_stopped f h)

  pub right_one : {ws : List ℕ} {i n : ℕ} {s : Step} {e o : Expr ℕ} {f : Array ℕ → ℕ → Value ℕ} {a : Array ℕ} {c : ℕ} {r : Result Made Stop} → One ws i n p s e o f → LikeValues (value (sizes p) binary64 ins ns n o) (val a c) → Right (f a c) r → Right (value (sizes p) binary64 ins ns n e) r
  right_one {f = f} {c = c} one l h = right_is (value_one one) (right_on f l (λ b k. likes_one one k c) h)

  -- with two
  value_two : {n : ℕ} {s : Step} {e o q : Expr ℕ} {f : Array ℕ → Array ℕ → ℕ → Value ℕ} → Two n p s e o q f → value (sizes p) binary64 ins ns n e ≡ then (value (sizes p) binary64 ins ns n o) (λ a c. then (value (sizes p) binary64 ins ns (n - c) q) (λ b d. f a b (c + d)))
  unfolding value
  value_two two_both = refl
  value_two two_join = refl
  value_two two_rows = refl

  pub stop_two : {n : ℕ} {s : Step} {e o q : Expr ℕ} {f : Array ℕ → Array ℕ → ℕ → Value ℕ} {x : Stop} → Two n p s e o q f → Right (value (sizes p) binary64 ins ns n o) (Err x) → Right (value (sizes p) binary64 ins ns n e) (Err x)
  stop_two two h = right_is (value_two two) (right_stopped _ h)

  on_two : {n : ℕ} {s : Step} {e o q : Expr ℕ} {f : Array ℕ → Array ℕ → ℕ → Value ℕ} {a : Array ℕ} {c : ℕ} {r : Result Made Stop} → Two n p s e o q f → LikeValues (value (sizes p) binary64 ins ns n o) (val a c) → Right (then (value (sizes p) binary64 ins ns (n - c) q) (λ b d. f a b (c + d))) r → Right (value (sizes p) binary64 ins ns n e) r
  on_two {n} {q = q} {f} {a} {c} two l h =
      right_is (value_two two)
      (right_on (λ a c. then (value (sizes p) binary64 ins ns (n - c) q) (λ b d. f a b (c + d))) l
      (λ b k. likes_then (λ u d. f b u (c + d)) (λ u d. f a u (c + d)) (like_refl (value (sizes p) binary64 ins ns (n - c) q)) (λ u v m d. likes_two two k m (c + d)))
      h)

  pub stop_two_second : {n : ℕ} {s : Step} {e o q : Expr ℕ} {f : Array ℕ → Array ℕ → ℕ → Value ℕ} {a : Array ℕ} {c : ℕ} {x : Stop} → Two n p s e o q f → LikeValues (value (sizes p) binary64 ins ns n o) (val a c) → Right (value (sizes p) binary64 ins ns (n - c) q) (Err x) → Right (value (sizes p) binary64 ins ns n e) (Err x)
  stop_two_second two l h = on_two two l (right_stopped _ h)

  pub right_two : {n : ℕ} {s : Step} {e o q : Expr ℕ} {f : Array ℕ → Array ℕ → ℕ → Value ℕ} {a b : Array ℕ} {c d : ℕ} {r : Result Made Stop} → Two n p s e o q f → LikeValues (value (sizes p) binary64 ins ns n o) (val a c) → LikeValues (value (sizes p) binary64 ins ns (n - c) q) (val b d) → Right (f a b (c + d)) r → Right (value (sizes p) binary64 ins ns n e) r
  right_two {f = f} {a} {b} {c} {d} two l m h = on_two two l (right_on (λ b d. f a b (c + d)) m (λ u k. likes_two two (twins_refl a) k (c + d)) h)

  -- with three
  module _ (n : ℕ) (e f g : Expr ℕ) where
    pub stop_three : {x : Stop} → Right (value (sizes p) binary64 ins ns n e) (Err x) → Right (value (sizes p) binary64 ins ns n (choose e f g)) (Err x)
    unfolding value
    stop_three h = right_stopped _ h

    -- behind the first, and behind the second
    third : Array ℕ → Array ℕ → ℕ → ℕ → Value ℕ
    third a b c d = then (value (sizes p) binary64 ins ns (n - c - d) g) (λ h i. on_choose binary64 n a b h (c + d + i))

    second : Array ℕ → ℕ → Value ℕ
    second a c = then (value (sizes p) binary64 ins ns (n - c) f) (λ b d. third a b c d)

    likes_third : {a a' b b' : Array ℕ} → Twins a a' → Twins b b' → (c d : ℕ) → LikeValues (third a b c d) (third a' b' c d)
    unfolding third
    likes_third h k c d = likes_then _ _ (like_refl (value (sizes p) binary64 ins ns (n - c - d) g)) (λ u v m i. likes_on_choose binary64 n (c + d + i) h k m)

    on_first : {a : Array ℕ} {c : ℕ} {r : Result Made Stop} → LikeValues (value (sizes p) binary64 ins ns n e) (val a c) → Right (second a c) r → Right (value (sizes p) binary64 ins ns n (choose e f g)) r
    unfolding value second third
    on_first {c = c} l h = right_on second l (λ b k. likes_then _ _ (like_refl (value (sizes p) binary64 ins ns (n - c) f)) (λ u v m d. likes_third k m c d)) h

    on_second : (a : Array ℕ) (c : ℕ) {b : Array ℕ} {d : ℕ} {r : Result Made Stop} → LikeValues (value (sizes p) binary64 ins ns (n - c) f) (val b d) → Right (third a b c d) r → Right (second a c) r
    unfolding second
    on_second a c {d = d} m h = right_on (λ b d. third a b c d) m (λ u k. likes_third (twins_refl a) k c d) h

    pub stop_three_second : {a : Array ℕ} {c : ℕ} {x : Stop} → LikeValues (value (sizes p) binary64 ins ns n e) (val a c) → Right (value (sizes p) binary64 ins ns (n - c) f) (Err x) → Right (value (sizes p) binary64 ins ns n (choose e f g)) (Err x)
    unfolding second
    stop_three_second l h = on_first l (right_stopped _ h)

    pub stop_three_third : {a b : Array ℕ} {c d : ℕ} {x : Stop} → LikeValues (value (sizes p) binary64 ins ns n e) (val a c) → LikeValues (value (sizes p) binary64 ins ns (n - c) f) (val b d) → Right (value (sizes p) binary64 ins ns (n - c - d) g) (Err x) → Right (value (sizes p) binary64 ins ns n (choose e f g)) (Err x)
    unfolding third
    stop_three_third {a} {c = c} l m h = on_first l (on_second a c m (right_stopped _ h))

    pub right_three : {a b h : Array ℕ} {c d i : ℕ} {r : Result Made Stop} → LikeValues (value (sizes p) binary64 ins ns n e) (val a c) → LikeValues (value (sizes p) binary64 ins ns (n - c) f) (val b d) → LikeValues (value (sizes p) binary64 ins ns (n - c - d) g) (val h i) → Right (on_choose binary64 n a b h (c + d + i)) r → Right (value (sizes p) binary64 ins ns n (choose e f g)) r
    unfolding third
    right_three {a} {b} {c = c} {d} {i} l m o h = on_first l (on_second a c m (right_on (λ h i. on_choose binary64 n a b h (c + d + i)) o (λ u k. likes_on_choose binary64 n (c + d + i) (twins_refl a) (twins_refl b) k) h))

-- ---- an operation by its step
pub at_each : {ws : List ℕ} {i n p : ℕ} {e o : Expr ℕ} {f : Array ℕ → ℕ → Value ℕ} {a : Array ℕ} {c : ℕ} {r : Result Made Stop} {k : Unary} → One ws i n p (Each k) e o f → Right (on_each binary64 k n a c) r → Right (f a c) r
at_each one_each h = h

pub at_fold : {ws : List ℕ} {i n p : ℕ} {e o : Expr ℕ} {f : Array ℕ → ℕ → Value ℕ} {a : Array ℕ} {c : ℕ} {r : Result Made Stop} {k : Binary} {x : ℕ} → One ws i n p (Fold k x) e o f → Right (on_fold binary64 k x n a c) r → Right (f a c) r
at_fold one_fold h = h

pub at_scan : {ws : List ℕ} {i n p : ℕ} {e o : Expr ℕ} {f : Array ℕ → ℕ → Value ℕ} {a : Array ℕ} {c : ℕ} {r : Result Made Stop} {k : Binary} {x : ℕ} → One ws i n p (Scan k x) e o f → Right (on_scan binary64 k x n a c) r → Right (f a c) r
at_scan one_scan h = h

pub at_shape : {ws : List ℕ} {i n p : ℕ} {e o : Expr ℕ} {f : Array ℕ → ℕ → Value ℕ} {a : Array ℕ} {c : ℕ} {r : Result Made Stop} → One ws i n p Shape e o f → ((t : List ℕ) (e : Expr ℕ) (s : List Step) → steps_from ws i ≡ items t (spell e s) → Right (on_shape (sizes p) t n a c) r) → Right (f a c) r
at_shape (one_shape s q) h = h _ _ s q

pub at_turn : {ws : List ℕ} {i n p : ℕ} {e o : Expr ℕ} {f : Array ℕ → ℕ → Value ℕ} {a : Array ℕ} {c : ℕ} {r : Result Made Stop} → One ws i n p Turn e o f → ((os : List ℕ) (e : Expr ℕ) (s : List Step) → steps_from ws i ≡ items os (spell e s) → Right (on_turn os n a c) r) → Right (f a c) r
at_turn (one_turn s q) h = h _ _ s q

pub at_part : {ws : List ℕ} {i n p : ℕ} {e o : Expr ℕ} {f : Array ℕ → ℕ → Value ℕ} {a : Array ℕ} {c : ℕ} {r : Result Made Stop} → One ws i n p Cut e o f → ((ps : List Part) (e : Expr ℕ) (s : List Step) → steps_from ws i ≡ slices ps (spell e s) → Right (on_part ps n a c) r) → Right (f a c) r
at_part (one_part s q) h = h _ _ s q

pub at_both : {n p : ℕ} {e o q : Expr ℕ} {f : Array ℕ → Array ℕ → ℕ → Value ℕ} {a b : Array ℕ} {c : ℕ} {r : Result Made Stop} {k : Binary} → Two n p (Both k) e o q f → Right (on_both binary64 k n a b c) r → Right (f a b c) r
at_both two_both h = h

pub at_join : {n p : ℕ} {e o q : Expr ℕ} {f : Array ℕ → Array ℕ → ℕ → Value ℕ} {a b : Array ℕ} {c : ℕ} {r : Result Made Stop} {x : ℕ} → Two n p (Join x) e o q f → Right (on_join x n a b c) r → Right (f a b c) r
at_join two_join h = h

pub at_rows : {n p : ℕ} {e o q : Expr ℕ} {f : Array ℕ → Array ℕ → ℕ → Value ℕ} {a b : Array ℕ} {c : ℕ} {r : Result Made Stop} → Two n p Rows e o q f → Right (on_rows (sizes p) binary64 n a b c) r → Right (f a b c) r
at_rows two_rows h = h

-- no other steps are without operands
pub no_other_leaf : {s : Step} {e : Expr ℕ} → Leaf s e → ((k : ℕ) → s ≡ Name k → ⊥) → ((k : ℕ) → s ≡ Input k → ⊥) → ((x : ℕ) → s ≡ Constant x → ⊥) → ((m : ℕ) → s ≡ Count m → ⊥) → ⊥
no_other_leaf leaf_name a b c d = a _ refl
no_other_leaf leaf_input a b c d = b _ refl
no_other_leaf leaf_constant a b c d = c _ refl
no_other_leaf leaf_count a b c d = d _ refl

-- no other steps have one operand, or two
pub no_other_single : (s : Step) → arity_of s ≡ Single → ((k : Unary) → s ≡ Each k → ⊥) → ((k : Binary) (x : ℕ) → s ≡ Fold k x → ⊥) → ((k : Binary) (x : ℕ) → s ≡ Scan k x → ⊥) → (s ≡ Shape → ⊥) → (s ≡ Turn → ⊥) → (s ≡ Cut → ⊥) → ⊥
no_other_single End a ea fo sc sh tu cu = zero_single a
no_other_single (Let k) a ea fo sc sh tu cu = zero_single a
no_other_single (Put k) a ea fo sc sh tu cu = zero_single a
no_other_single Show a ea fo sc sh tu cu = zero_single a
no_other_single (Again n) a ea fo sc sh tu cu = zero_single a
no_other_single (Name k) a ea fo sc sh tu cu = zero_single a
no_other_single (Input k) a ea fo sc sh tu cu = zero_single a
no_other_single (Constant x) a ea fo sc sh tu cu = zero_single a
no_other_single (Count m) a ea fo sc sh tu cu = zero_single a
no_other_single (Each k) a ea fo sc sh tu cu = ea k refl
no_other_single (Both k) a ea fo sc sh tu cu = double_single a
no_other_single Choose a ea fo sc sh tu cu = triple_single a
no_other_single (Fold k x) a ea fo sc sh tu cu = fo k x refl
no_other_single (Scan k x) a ea fo sc sh tu cu = sc k x refl
no_other_single Shape a ea fo sc sh tu cu = sh refl
no_other_single Turn a ea fo sc sh tu cu = tu refl
no_other_single Cut a ea fo sc sh tu cu = cu refl
no_other_single (Join x) a ea fo sc sh tu cu = double_single a
no_other_single Rows a ea fo sc sh tu cu = double_single a
no_other_single (Item k) a ea fo sc sh tu cu = zero_single a
no_other_single (Slice s) a ea fo sc sh tu cu = zero_single a

pub no_other_double : (s : Step) → arity_of s ≡ Double → ((k : Binary) → s ≡ Both k → ⊥) → ((x : ℕ) → s ≡ Join x → ⊥) → (s ≡ Rows → ⊥) → ⊥
no_other_double End a bo jo ro = zero_double a
no_other_double (Let k) a bo jo ro = zero_double a
no_other_double (Put k) a bo jo ro = zero_double a
no_other_double Show a bo jo ro = zero_double a
no_other_double (Again n) a bo jo ro = zero_double a
no_other_double (Name k) a bo jo ro = zero_double a
no_other_double (Input k) a bo jo ro = zero_double a
no_other_double (Constant x) a bo jo ro = zero_double a
no_other_double (Count m) a bo jo ro = zero_double a
no_other_double (Each k) a bo jo ro = single_double a
no_other_double (Both k) a bo jo ro = bo k refl
no_other_double Choose a bo jo ro = triple_double a
no_other_double (Fold k x) a bo jo ro = single_double a
no_other_double (Scan k x) a bo jo ro = single_double a
no_other_double Shape a bo jo ro = single_double a
no_other_double Turn a bo jo ro = single_double a
no_other_double Cut a bo jo ro = single_double a
no_other_double (Join x) a bo jo ro = jo x refl
no_other_double Rows a bo jo ro = ro refl
no_other_double (Item k) a bo jo ro = zero_double a
no_other_double (Slice s) a bo jo ro = zero_double a
