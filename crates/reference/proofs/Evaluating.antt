-- Evaluation, operand after operand.
use Rattle.std.proofs.Common.{◌≡◌, ℕ, ◌+◌, ◌-◌, ◌<◌, ◌≤◌, List, length, IsErrAnd, Ok, Err, Result, Vec, sym, ap, subst, arith, Option}
use Rattle.std.specs.declared.alloc.Global.{Global}
use Rattle.std.proofs.lemmas.Result.{err_from_is_err_and}
use Rattle.semantics.specs.Shapes.{size}
use Rattle.semantics.specs.Arrays.{Array, Alike}
use Rattle.semantics.specs.Values.{Expr, choose, Value, val, value, on_choose}
use Rattle.semantics.specs.ValueLaws.{LikeValues, like_val}
use Rattle.semantics.proofs.Runs.{Within, faulty, counted, value_within}
use Rattle.numbers.specs.Operations.{binary64}
use Rattle.encoding.specs.Format.{inputs_of}
use Rattle.program.specs.declared.step.Step.{Step}
use Rattle.program.specs.Spelling.{spell}
use Rattle.program.specs.Words.{steps_in, At}
use Rattle.program.specs.Standing.{steps_from, Stands, Skips}
use Rattle.program.proofs.Nodes.{stands_there, expr_further}
use Rattle.reference.specs.declared.evaluate.Arity.TheVariants.{Zero, One as Single, Two as Double, Three as Triple}
use Rattle.reference.specs.declared.evaluate.Valued.{Valued}
use Rattle.reference.specs.declared.fault.Stop.{Stop}
use Rattle.reference.specs.declared.made.Made.{Made}
use Rattle.reference.specs.declared.array.Array as owned
use Rattle.reference.specs.ArrayOf.{array_of}
use Rattle.reference.specs.Brackets.{SkipsBrackets}
use Rattle.reference.specs.CellsOf.{cells_of, sizes}
use Rattle.reference.specs.Operands.{arity_of, Leaf, One, Two}
use Rattle.reference.specs.Right.{Right}
use Rattle.reference.specs.Evaluation.{Evaluates}
use Rattle.reference.proofs.Rights.{right_is, right_ok}
use Rattle.reference.proofs.Operating.{leaf_at, OneAt, one_at, TwoAt, two_at, ThreeAt, three_at, stop_one, right_one, stop_two, stop_two_second, right_two, stop_three, stop_three_second, stop_three_third, right_three}

-- right for every expression that stands at i
pub record Rightly (ws bs : List ℕ) (names : Vec (Option owned.Array) Global) (i n : ℕ) (out : Result Made Stop) : Type 0 where
  pub on : (p : ℕ) (e : Expr ℕ) (t : List Step) → steps_from ws i ≡ spell e t → Right (value (sizes p) binary64 (inputs_of bs) (cells_of names) n e) out

-- a value counts its places, and what is like it has the same count
count_like : {n c : ℕ} {v : Value ℕ} {a : Array ℕ} → Within n v → LikeValues v (val a c) → (c ≤ n) × (size a.shape ≤ c)
unfolding Alike
count_like (faulty e) x = elim x [ ]
count_like (counted a c l m) (like_val _ b _ h) = (m, omega (arith, l, ap size h.0))

module _ (ws bs : List ℕ) (names : Vec (Option owned.Array) Global) (i n : ℕ) where
  -- the two ways to return
  pub evaluated : (v : Valued) → Stands ws i → Skips ws i v.next → Rightly ws bs names i n (Ok v.made) → Evaluates ws bs names i n (Ok v)
  evaluated v st k r =
      record {
        within = count_like (value_within (sizes 0) binary64 (inputs_of bs) (cells_of names) n st.expr) (right_ok (r.on 0 st.expr st.rest st.enc));
        skips = k;
        right = r.on;
      }

  stopped_at : (x : Stop) → Rightly ws bs names i n (Err x) → Evaluates ws bs names i n (Err x)
  stopped_at x h = record { within = tt; skips = tt; right = h.on }

  pub exited : (r : Result Valued Stop) (x : Stop) → IsErrAnd r (λ y. y ≡ x) → Rightly ws bs names i n (Err x) → Evaluates ws bs names i n r
  exited r x b h =
      let q = err_from_is_err_and r b in
      subst (λ z. Evaluates ws bs names i n z) (sym q.1) (subst (λ y. Evaluates ws bs names i n (Err y)) (sym q.2) (stopped_at x h))

  module _ (st : Stands ws i) (s : Step) (at : At ws i s) where
    -- no operands
    pub zero_leaf : arity_of s ≡ Zero → (e : Expr ℕ) × Leaf s e
    zero_leaf a = (st.expr, (leaf_at ws i s at st.expr st.rest st.enc a).leaf)

    pub zero_skips : arity_of s ≡ Zero → Skips ws i (i + 1)
    zero_skips a = record { on = λ e t h. (leaf_at ws i s at e t h a).enc }

    pub zero_right : arity_of s ≡ Zero → (out : Result Made Stop) → ((p : ℕ) (e : Expr ℕ) → Leaf s e → Right (value (sizes p) binary64 (inputs_of bs) (cells_of names) n e) out) → Rightly ws bs names i n out
    zero_right a out r = record { on = λ p e t h. r p e (leaf_at ws i s at e t h a).leaf }

    -- one operand, at j
    module _ (j : ℕ) (k : SkipsBrackets ws (i + 1) j) (a : arity_of s ≡ Single) where
      o : (p : ℕ) (e : Expr ℕ) (t : List Step) → steps_from ws i ≡ spell e t → OneAt ws (i + 1) j n p s e t
      o p e t h = one_at ws i s at e t h j n p k a

      pub one_stands : Stands ws j
      one_stands = let x = o 0 st.expr st.rest st.enc in record { expr = x.operand; rest = st.rest; enc = x.enc }

      pub one_falls : length (steps_in ws) - j < length (steps_in ws) - i
      one_falls = omega (arith, k.further, stands_there ws j one_stands)

      pub one_stop : {x : Stop} → Evaluates ws bs names j n (Err x) → Rightly ws bs names i n (Err x)
      one_stop r =
          record { on = λ p e t h. let x = o p e t h in stop_one p (inputs_of bs) (cells_of names) x.one (r.right p x.operand t x.enc) }

      module _ (v : Valued) (r : Evaluates ws bs names j n (Ok v)) where
        pub one_skips : Skips ws i v.next
        one_skips = record { on = λ e t h. let x = o 0 e t h in r.skips.on x.operand t x.enc }

        pub one_right : (out : Result Made Stop) → ((p : ℕ) (e q : Expr ℕ) (f : Array ℕ → ℕ → Value ℕ) → One ws (i + 1) n p s e q f → Right (f (array_of v.made.array) v.made.count) out) → Rightly ws bs names i n out
        one_right out m =
            record {
              on = λ p e t h.
                  let x = o p e t h in
                  right_one p (inputs_of bs) (cells_of names) x.one (right_ok (r.right p x.operand t x.enc)) (m p e x.operand x.make x.one);
            }

    -- two operands
    module _ (a : arity_of s ≡ Double) where
      w : (p : ℕ) (e : Expr ℕ) (t : List Step) → steps_from ws i ≡ spell e t → TwoAt ws (i + 1) n p s e t
      w p e t h = two_at ws i s at e t h n p a

      pub two_stands : Stands ws (i + 1)
      two_stands = let x = w 0 st.expr st.rest st.enc in record { expr = x.first; rest = spell x.second st.rest; enc = x.enc }

      pub two_falls : length (steps_in ws) - (i + 1) < length (steps_in ws) - i
      two_falls = omega (arith, stands_there ws (i + 1) two_stands)

      pub two_stop : {x : Stop} → Evaluates ws bs names (i + 1) n (Err x) → Rightly ws bs names i n (Err x)
      two_stop r =
          record { on = λ p e t h. let x = w p e t h in stop_two p (inputs_of bs) (cells_of names) x.two (r.right p x.first (spell x.second t) x.enc) }

      module _ (v : Valued) (r : Evaluates ws bs names (i + 1) n (Ok v)) where
        at_second : (e : Expr ℕ) (t : List Step) (h : steps_from ws i ≡ spell e t) (p : ℕ) → steps_from ws v.next ≡ spell (w p e t h).second t
        at_second e t h p = let x = w p e t h in r.skips.on x.first (spell x.second t) x.enc

        pub two_stands_second : Stands ws v.next
        two_stands_second = record { expr = (w 0 st.expr st.rest st.enc).second; rest = st.rest; enc = at_second st.expr st.rest st.enc 0 }

        pub two_falls_second : length (steps_in ws) - v.next < length (steps_in ws) - i
        two_falls_second =
            let x = w 0 st.expr st.rest st.enc in
            omega (arith, stands_there ws v.next two_stands_second, expr_further ws (i + 1) v.next x.first (spell x.second st.rest) x.enc (at_second st.expr st.rest st.enc 0))

        pub two_stop_second : {x : Stop} → Evaluates ws bs names v.next (n - v.made.count) (Err x) → Rightly ws bs names i n (Err x)
        two_stop_second q =
            record {
              on = λ p e t h.
                  let x = w p e t h in
                  stop_two_second p (inputs_of bs) (cells_of names) x.two (right_ok (r.right p x.first (spell x.second t) x.enc)) (q.right p x.second t (at_second e t h p));
            }

        module _ (u : Valued) (q : Evaluates ws bs names v.next (n - v.made.count) (Ok u)) where
          pub two_skips : Skips ws i u.next
          two_skips = record { on = λ e t h. q.skips.on (w 0 e t h).second t (at_second e t h 0) }

          pub two_right : (out : Result Made Stop) → ((p : ℕ) (e x y : Expr ℕ) (f : Array ℕ → Array ℕ → ℕ → Value ℕ) → Two n p s e x y f → Right (f (array_of v.made.array) (array_of u.made.array) (v.made.count + u.made.count)) out) → Rightly ws bs names i n out
          two_right out m =
              record {
                on = λ p e t h.
                    let x = w p e t h in
                    right_two p (inputs_of bs) (cells_of names) x.two (right_ok (r.right p x.first (spell x.second t) x.enc)) (right_ok (q.right p x.second t (at_second e t h p))) (m p e x.first x.second x.make x.two);
              }

    -- three operands
    module _ (a : arity_of s ≡ Triple) where
      y : (e : Expr ℕ) (t : List Step) → steps_from ws i ≡ spell e t → ThreeAt ws (i + 1) e t
      y e t h = three_at ws i s at e t h a

      pub three_stands : Stands ws (i + 1)
      three_stands = let x = y st.expr st.rest st.enc in record { expr = x.first; rest = spell x.second (spell x.third st.rest); enc = x.enc }

      pub three_falls : length (steps_in ws) - (i + 1) < length (steps_in ws) - i
      three_falls = omega (arith, stands_there ws (i + 1) three_stands)

      chosen : (p : ℕ) (e : Expr ℕ) (t : List Step) (h : steps_from ws i ≡ spell e t) {out : Result Made Stop} → Right (value (sizes p) binary64 (inputs_of bs) (cells_of names) n (choose (y e t h).first (y e t h).second (y e t h).third)) out → Right (value (sizes p) binary64 (inputs_of bs) (cells_of names) n e) out
      chosen p e t h r = right_is (ap (value (sizes p) binary64 (inputs_of bs) (cells_of names) n) (y e t h).is) r

      pub three_stop : {x : Stop} → Evaluates ws bs names (i + 1) n (Err x) → Rightly ws bs names i n (Err x)
      three_stop r =
          record { on = λ p e t h. let x = y e t h in chosen p e t h (stop_three p (inputs_of bs) (cells_of names) n x.first x.second x.third (r.right p x.first (spell x.second (spell x.third t)) x.enc)) }

      module _ (v : Valued) (r : Evaluates ws bs names (i + 1) n (Ok v)) where
        at_two : (e : Expr ℕ) (t : List Step) (h : steps_from ws i ≡ spell e t) → steps_from ws v.next ≡ spell (y e t h).second (spell (y e t h).third t)
        at_two e t h = let x = y e t h in r.skips.on x.first (spell x.second (spell x.third t)) x.enc

        like_one : (p : ℕ) (e : Expr ℕ) (t : List Step) (h : steps_from ws i ≡ spell e t) → LikeValues (value (sizes p) binary64 (inputs_of bs) (cells_of names) n (y e t h).first) (val (array_of v.made.array) v.made.count)
        like_one p e t h = let x = y e t h in right_ok (r.right p x.first (spell x.second (spell x.third t)) x.enc)

        pub three_stands_second : Stands ws v.next
        three_stands_second =
            let x = y st.expr st.rest st.enc in record { expr = x.second; rest = spell x.third st.rest; enc = at_two st.expr st.rest st.enc }

        pub three_falls_second : length (steps_in ws) - v.next < length (steps_in ws) - i
        three_falls_second =
            let x = y st.expr st.rest st.enc in
            omega (arith, stands_there ws v.next three_stands_second, expr_further ws (i + 1) v.next x.first (spell x.second (spell x.third st.rest)) x.enc (at_two st.expr st.rest st.enc))

        pub three_stop_second : {x : Stop} → Evaluates ws bs names v.next (n - v.made.count) (Err x) → Rightly ws bs names i n (Err x)
        three_stop_second q =
            record {
              on = λ p e t h.
                  let x = y e t h in
                  chosen p e t h (stop_three_second p (inputs_of bs) (cells_of names) n x.first x.second x.third (like_one p e t h) (q.right p x.second (spell x.third t) (at_two e t h)));
            }

        module _ (u : Valued) (q : Evaluates ws bs names v.next (n - v.made.count) (Ok u)) where
          at_three : (e : Expr ℕ) (t : List Step) (h : steps_from ws i ≡ spell e t) → steps_from ws u.next ≡ spell (y e t h).third t
          at_three e t h = let x = y e t h in q.skips.on x.second (spell x.third t) (at_two e t h)

          like_two : (p : ℕ) (e : Expr ℕ) (t : List Step) (h : steps_from ws i ≡ spell e t) → LikeValues (value (sizes p) binary64 (inputs_of bs) (cells_of names) (n - v.made.count) (y e t h).second) (val (array_of u.made.array) u.made.count)
          like_two p e t h = let x = y e t h in right_ok (q.right p x.second (spell x.third t) (at_two e t h))

          pub three_stands_third : Stands ws u.next
          three_stands_third =
              let x = y st.expr st.rest st.enc in record { expr = x.third; rest = st.rest; enc = at_three st.expr st.rest st.enc }

          pub three_falls_third : length (steps_in ws) - u.next < length (steps_in ws) - i
          three_falls_third =
              let x = y st.expr st.rest st.enc in
              let second : v.next < u.next = expr_further ws v.next u.next x.second (spell x.third st.rest) (at_two st.expr st.rest st.enc) (at_three st.expr st.rest st.enc) in
              let first : i + 1 < v.next = expr_further ws (i + 1) v.next x.first (spell x.second (spell x.third st.rest)) x.enc (at_two st.expr st.rest st.enc) in
              omega (arith, stands_there ws u.next three_stands_third)

          pub three_stop_third : {x : Stop} → Evaluates ws bs names u.next (n - v.made.count - u.made.count) (Err x) → Rightly ws bs names i n (Err x)
          three_stop_third z =
              record {
                on = λ p e t h.
                    let x = y e t h in
                    chosen p e t h (stop_three_third p (inputs_of bs) (cells_of names) n x.first x.second x.third (like_one p e t h) (like_two p e t h) (z.right p x.third t (at_three e t h)));
              }

          module _ (d : Valued) (z : Evaluates ws bs names u.next (n - v.made.count - u.made.count) (Ok d)) where
            pub three_skips : Skips ws i d.next
            three_skips = record { on = λ e t h. z.skips.on (y e t h).third t (at_three e t h) }

            pub three_right : (out : Result Made Stop) → Right (on_choose binary64 n (array_of v.made.array) (array_of u.made.array) (array_of d.made.array) (v.made.count + u.made.count + d.made.count)) out → Rightly ws bs names i n out
            three_right out m =
                record {
                  on = λ p e t h.
                      let x = y e t h in
                      chosen p e t h (right_three p (inputs_of bs) (cells_of names) n x.first x.second x.third (like_one p e t h) (like_two p e t h) (right_ok (z.right p x.third t (at_three e t h))) m);
                }
