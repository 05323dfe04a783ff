-- What each operation does to arrays: always a new array, a shape and a function from places to numbers. No buffers, strides or views here.
-- Nothing is said of numbers: sums in another order are other sums.
use Rattle.std.specs.Prelude.{◌≡◌, ℕ, zero, suc, ◌+◌, ◌-◌, Bool, true, ◌&&◌, List, [], ◌∷◌, ◌++◌, length, take, drop, ◌==◌, nat_lt, slice_index, slice_set}
use Rattle.semantics.specs.declared.operation.Unary.{Unary}
use Rattle.semantics.specs.declared.operation.Binary.{Binary}
use Rattle.semantics.specs.Shapes.{pick, size, In, flat, unflat, up_to, same, without, put_in}
use Rattle.semantics.specs.Broadcast.{fit, wide, narrow}
use Rattle.semantics.specs.Parts.{Part, part_shape, places_of, in_parts, which_one}
use Rattle.semantics.specs.Orders.{turned, turned_back}

pub record Array (Num : Type 0) : Type 0 where
  pub shape : List ℕ
  pub at : List ℕ → Num

-- operations on numbers: on one, on two, whether a number counts as true, a number as an index, an index as a number, and what a fold of nothing gives
pub record Numbers (Num : Type 0) : Type 0 where
  pub one : Unary → Num → Num
  pub two : Binary → Num → Num → Num
  pub truth : Num → Bool
  pub index : Num → ℕ
  pub of : ℕ → Num
  pub empty : Binary → Num

-- two arrays that are alike at all their places
unfoldable pub Alike : {Num : Type 0} → Array Num → Array Num → Type 0
unfolding In
Alike a b = (a.shape ≡ b.shape) × ((is : List ℕ) → In a.shape is → a.at is ≡ b.at is)

-- first to last: g 0, then with g 1, and so on; e of nothing
unfoldable pub folded : {Num : Type 0} → (Num → Num → Num) → Num → (ℕ → Num) → ℕ → Num
folded f e g zero = e
folded f e g (suc zero) = g 0
folded f e g (suc (suc n)) = f (folded f e g (suc n)) (g (suc n))

unfoldable pub constant_array : {Num : Type 0} → Num → Array Num
constant_array x = record { shape = []; at = λ is. x }

unfoldable pub count_array : {Num : Type 0} → Numbers Num → ℕ → Array Num
count_array z m = record { shape = m ∷ []; at = λ is. z.of (slice_index is 0) }

unfoldable pub each_array : {Num : Type 0} → Numbers Num → Unary → Array Num → Array Num
each_array z k a = record { shape = a.shape; at = λ is. z.one k (a.at is) }

unfoldable pub both_array : {Num : Type 0} → Numbers Num → Binary → Array Num → Array Num → Array Num
unfolding wide narrow
both_array z k a b =
    record { shape = wide a.shape b.shape; at = λ is. z.two k (a.at (narrow a.shape is)) (b.at (narrow b.shape is)) }

unfoldable pub choose_array : {Num : Type 0} → Numbers Num → Array Num → Array Num → Array Num → Array Num
unfolding wide narrow
choose_array z a b c =
    record {
      shape = wide (wide a.shape b.shape) c.shape;
      at = λ is. pick (z.truth (a.at (narrow a.shape is))) (b.at (narrow b.shape is)) (c.at (narrow c.shape is));
    }

unfoldable pub fold_array : {Num : Type 0} → Numbers Num → Binary → ℕ → Array Num → Array Num
unfolding folded without put_in
fold_array z k x a =
    record { shape = without x a.shape; at = λ is. folded (z.two k) (z.empty k) (λ j. a.at (put_in x j is)) (slice_index a.shape x) }

unfoldable pub scan_array : {Num : Type 0} → Numbers Num → Binary → ℕ → Array Num → Array Num
unfolding folded
scan_array z k x a =
    record { shape = a.shape; at = λ is. folded (z.two k) (z.empty k) (λ j. a.at (slice_set is x j)) (suc (slice_index is x)) }

unfoldable pub shape_array : {Num : Type 0} → List ℕ → Array Num → Array Num
unfolding flat unflat
shape_array s a = record { shape = s; at = λ is. a.at (unflat a.shape (flat s is)) }

unfoldable pub turn_array : {Num : Type 0} → List ℕ → Array Num → Array Num
unfolding turned turned_back
turn_array os a = record { shape = turned os a.shape; at = λ is. a.at (turned_back os is) }

unfoldable pub part_array : {Num : Type 0} → List Part → Array Num → Array Num
unfolding part_shape places_of
part_array ps a = record { shape = part_shape ps; at = λ is. a.at (places_of ps is) }

-- b behind a along axis x: they are alike but for that axis, and a length stays below 2^32
unfoldable pub join_length : {Num : Type 0} → ℕ → Array Num → Array Num → ℕ
join_length x a b = slice_index a.shape x + slice_index b.shape x

unfoldable pub can_join : {Num : Type 0} → ℕ → Array Num → Array Num → Bool
unfolding join_length same without
can_join x a b =
    (length a.shape == length b.shape) && (same (without x a.shape) (without x b.shape) && nat_lt (join_length x a b) 4294967296)

unfoldable pub join_array : {Num : Type 0} → ℕ → Array Num → Array Num → Array Num
unfolding join_length
join_array x a b =
    record {
      shape = slice_set a.shape x (join_length x a b);
      at = λ is. pick (nat_lt (slice_index is x) (slice_index a.shape x)) (a.at is) (b.at (slice_set is x (slice_index is x - slice_index a.shape x)));
    }

-- the first axis of a, looked up by the numbers of b, each of which must be an index below that axis's length
unfoldable pub all_below : {Num : Type 0} → Numbers Num → Array Num → ℕ → List ℕ → Bool
unfolding unflat
all_below z a d [] = true
all_below z a d (n ∷ ns) = nat_lt (z.index (a.at (unflat a.shape n))) d && all_below z a d ns

unfoldable pub rows_there : {Num : Type 0} → Numbers Num → Array Num → Array Num → Bool
unfolding all_below up_to size
rows_there z a b = all_below z b (slice_index a.shape 0) (up_to 0 (size b.shape))

unfoldable pub rows_array : {Num : Type 0} → Numbers Num → Array Num → Array Num → Array Num
rows_array z a b =
    record {
      shape = b.shape ++ drop 1 a.shape;
      at = λ is. a.at (z.index (b.at (take (length b.shape) is)) ∷ drop (length b.shape) is);
    }

-- the numbers of b in the part ps of a: b is broadcast to the part's shape, which stays as it is
unfoldable pub can_put : {Num : Type 0} → List Part → Array Num → Bool
unfolding fit same wide part_shape
can_put ps b = fit (part_shape ps) b.shape && same (wide (part_shape ps) b.shape) (part_shape ps)

unfoldable pub put_array : {Num : Type 0} → List Part → Array Num → Array Num → Array Num
unfolding in_parts narrow which_one
put_array ps a b =
    record { shape = a.shape; at = λ is. pick (in_parts ps is) (b.at (narrow b.shape (which_one ps is))) (a.at is) }
