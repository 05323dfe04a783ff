-- What an expression comes to: an array, with how many places all arrays on its way had; or a fault.
-- Faults: 1 shapes that cannot be broadcast or joined, 2 an axis that is not there, an order that is none or too many axes,
-- 3 shape with another number of places, 4 a part or a row out of range, 5 places, 6 a name or input that has nothing.
use Rattle.std.specs.Prelude.{ℕ, zero, suc, ◌+◌, ◌-◌, ◌&&◌, List, [], ◌∷◌, length, ◌==◌, nat_le, nat_lt, slice_index_or}
use Rattle.semantics.specs.declared.operation.Unary.{Unary}
use Rattle.semantics.specs.declared.operation.Binary.{Binary}
use Rattle.semantics.specs.Shapes.{pick, size}
use Rattle.semantics.specs.Broadcast.{fit, wide}
use Rattle.semantics.specs.Parts.{Part, parts_fit}
use Rattle.semantics.specs.Orders.{is_order}
use Rattle.semantics.specs.Arrays.{Array, Numbers, constant_array, count_array, each_array, both_array, choose_array, fold_array, scan_array, shape_array, turn_array, part_array, can_join, join_array, rows_there, rows_array}

pub data Expr (Num : Type 0) : Type 0 where
  name : ℕ → Expr Num
  input : ℕ → Expr Num
  constant : Num → Expr Num
  count : ℕ → Expr Num
  each : Unary → Expr Num → Expr Num
  both : Binary → Expr Num → Expr Num → Expr Num
  choose : Expr Num → Expr Num → Expr Num → Expr Num
  fold : Binary → ℕ → Expr Num → Expr Num
  scan : Binary → ℕ → Expr Num → Expr Num
  shape_to : List ℕ → Expr Num → Expr Num
  turn : List ℕ → Expr Num → Expr Num
  part : List Part → Expr Num → Expr Num
  join : ℕ → Expr Num → Expr Num → Expr Num
  rows : Expr Num → Expr Num → Expr Num

-- a name has nothing, or an array
pub data Cell (Num : Type 0) : Type 0 where
  none : Cell Num
  some : Array Num → Cell Num

pub data Value (Num : Type 0) : Type 0 where
  fault : ℕ → Value Num
  val : Array Num → ℕ → Value Num

-- how many names there may be, how many axes an array may have, and how many places there are
pub record Sizes : Type 0 where
  pub names : ℕ
  pub axes : ℕ
  pub places : ℕ

-- on with the array and the count, or the fault
unfoldable pub then : {Num : Type 0} → Value Num → (Array Num → ℕ → Value Num) → Value Num
then (fault e) f = fault e
then (val a c) f = f a c

-- one more array after c places, of the n that are left: 5 where the count passes them
unfoldable pub made : {Num : Type 0} → ℕ → ℕ → Array Num → Value Num
unfolding size
made n c a = pick (nat_le (c + size a.shape) n) (val a (c + size a.shape)) (fault 5)

-- using a name or an input counts as a copy
unfoldable pub held : {Num : Type 0} → ℕ → Cell Num → Value Num
unfolding made
held n none = fault 6
held n (some a) = made n 0 a

unfoldable pub given : {Num : Type 0} → List (Array Num) → ℕ → Cell Num
given [] k = none
given (a ∷ xs) zero = some a
given (a ∷ xs) (suc k) = given xs k

-- each operation on arrays that are there, after c places of n: its own faults, then places
unfoldable pub on_each : {Num : Type 0} → Numbers Num → Unary → ℕ → Array Num → ℕ → Value Num
unfolding made each_array
on_each z k n a c = made n c (each_array z k a)

unfoldable pub on_both : {Num : Type 0} → Numbers Num → Binary → ℕ → Array Num → Array Num → ℕ → Value Num
unfolding fit made both_array
on_both z k n a b c = pick (fit a.shape b.shape) (made n c (both_array z k a b)) (fault 1)

unfoldable pub on_choose : {Num : Type 0} → Numbers Num → ℕ → Array Num → Array Num → Array Num → ℕ → Value Num
unfolding fit wide made choose_array
on_choose z n a b d c =
    pick (fit a.shape b.shape && fit (wide a.shape b.shape) d.shape) (made n c (choose_array z a b d)) (fault 1)

unfoldable pub on_fold : {Num : Type 0} → Numbers Num → Binary → ℕ → ℕ → Array Num → ℕ → Value Num
unfolding made fold_array
on_fold z k x n a c = pick (nat_lt x (length a.shape)) (made n c (fold_array z k x a)) (fault 2)

unfoldable pub on_scan : {Num : Type 0} → Numbers Num → Binary → ℕ → ℕ → Array Num → ℕ → Value Num
unfolding made scan_array
on_scan z k x n a c = pick (nat_lt x (length a.shape)) (made n c (scan_array z k x a)) (fault 2)

-- lengths whose product passes 2^53 are 3 too
unfoldable pub on_shape : {Num : Type 0} → Sizes → List ℕ → ℕ → Array Num → ℕ → Value Num
unfolding size made shape_array
on_shape s t n a c =
    pick (size t == size a.shape && nat_le (size t) 9007199254740992)
    (pick (nat_le (length t) s.axes) (made n c (shape_array t a)) (fault 2))
    (fault 3)

unfoldable pub on_turn : {Num : Type 0} → List ℕ → ℕ → Array Num → ℕ → Value Num
unfolding is_order made turn_array
on_turn os n a c = pick (is_order os (length a.shape)) (made n c (turn_array os a)) (fault 2)

unfoldable pub on_part : {Num : Type 0} → List Part → ℕ → Array Num → ℕ → Value Num
unfolding parts_fit made part_array
on_part ps n a c = pick (parts_fit ps a.shape) (made n c (part_array ps a)) (fault 4)

unfoldable pub on_join : {Num : Type 0} → ℕ → ℕ → Array Num → Array Num → ℕ → Value Num
unfolding can_join made join_array
on_join x n a b c = pick (nat_lt x (length a.shape)) (pick (can_join x a b) (made n c (join_array x a b)) (fault 1)) (fault 2)

unfoldable pub on_rows : {Num : Type 0} → Sizes → Numbers Num → ℕ → Array Num → Array Num → ℕ → Value Num
unfolding rows_there made rows_array
on_rows s z n a b c =
    pick (nat_le 1 (length a.shape))
    (pick (rows_there z a b) (pick (nat_le (length (rows_array z a b).shape) s.axes) (made n c (rows_array z a b)) (fault 2)) (fault 4))
    (fault 2)

-- operands before their operation, left before right, each with the places that those before it left
unfoldable pub value : {Num : Type 0} → Sizes → Numbers Num → List (Array Num) → List (Cell Num) → ℕ → Expr Num → Value Num
unfolding then made held given on_each on_both on_choose on_fold on_scan on_shape on_turn on_part on_join on_rows constant_array count_array
value s z ins ns n (name k) = held n (slice_index_or ns k none)
value s z ins ns n (input k) = held n (given ins k)
value s z ins ns n (constant x) = made n 0 (constant_array x)
value s z ins ns n (count m) = made n 0 (count_array z m)
value s z ins ns n (each k e) = then (value s z ins ns n e) (λ a c. on_each z k n a c)
value s z ins ns n (both k e f) = then (value s z ins ns n e) (λ a c. then (value s z ins ns (n - c) f) (λ b d. on_both z k n a b (c + d)))
value s z ins ns n (choose e f g) =
    then (value s z ins ns n e) (λ a c. then (value s z ins ns (n - c) f) (λ b d. then (value s z ins ns (n - c - d) g) (λ h i. on_choose z n a b h (c + d + i))))
value s z ins ns n (fold k x e) = then (value s z ins ns n e) (λ a c. on_fold z k x n a c)
value s z ins ns n (scan k x e) = then (value s z ins ns n e) (λ a c. on_scan z k x n a c)
value s z ins ns n (shape_to t e) = then (value s z ins ns n e) (λ a c. on_shape s t n a c)
value s z ins ns n (turn os e) = then (value s z ins ns n e) (λ a c. on_turn os n a c)
value s z ins ns n (part ps e) = then (value s z ins ns n e) (λ a c. on_part ps n a c)
value s z ins ns n (join x e f) = then (value s z ins ns n e) (λ a c. then (value s z ins ns (n - c) f) (λ b d. on_join x n a b (c + d)))
value s z ins ns n (rows e f) = then (value s z ins ns n e) (λ a c. then (value s z ins ns (n - c) f) (λ b d. on_rows s z n a b (c + d)))
