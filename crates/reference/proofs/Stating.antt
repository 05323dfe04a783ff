-- Statements, against the meaning's states.
use Rattle.std.proofs.Common.{◌≡◌, ℕ, zero, suc, ◌-◌, ◌^◌, ◌<◌, ◌≤◌, true, false, List, [], ◌∷◌, ◌++◌, map, length, get_or, set, IsErrAnd, Ok, Err, vec_items, Result, Vec, sym, refl, ap, ◌∙◌, subst, arith, length-set, Option, Some}
use Rattle.std.specs.declared.alloc.Global.{Global}
use Rattle.std.proofs.lemmas.Result.{err_from_is_err_and}
use Rattle.std.proofs.lemmas.List.{length-map, map-set, flat_map_more}
use Rattle.std.proofs.lemmas.Bool.{lt-ltb, le-ltb}
use Rattle.semantics.specs.Shapes.{pick, size}
use Rattle.semantics.specs.Parts.{Part, parts_fit}
use Rattle.semantics.specs.Arrays.{Array, Alike, can_put, put_array}
use Rattle.semantics.specs.Values.{Expr, Value, fault, val, none, some, value}
use Rattle.semantics.specs.Values as values
use Rattle.semantics.specs.Programs as meaning
use Rattle.semantics.specs.Programs.{Shown, cell_size, in_names, numbers_at, listed, stopped, with_name, becomes, is_put, is_shown, value_in}
use Rattle.semantics.specs.ValueLaws.{LikeCells, like_none, like_some, LikeValues, like_val, LikeNames}
use Rattle.semantics.proofs.Likes.{alike_twins, twins_alike, value_likes}
use Rattle.semantics.proofs.LikeRuns.{in_names_like, like_set, listed_same, put_twins, like_cell}
use Rattle.semantics.proofs.Runs.{Since, since_becomes, since_is_shown}
use Rattle.semantics.proofs.Listings.{numbers_at_is}
use Rattle.semantics.proofs.Places.{flat_unflat}
use Rattle.numbers.specs.Operations.{binary64}
use Rattle.encoding.specs.ShapeOf.{shape_of}
use Rattle.encoding.specs.Writing.{array_bytes}
use Rattle.encoding.specs.ReadBack.{shown_bytes}
use Rattle.reference.specs.declared.array.Array as owned
use Rattle.reference.specs.declared.fault.Fault.{Fault}
use Rattle.reference.specs.declared.fault.Fault.TheVariants.{Shapes, Range, Nothing}
use Rattle.reference.specs.declared.fault.Stop.{Stop}
use Rattle.reference.specs.declared.fault.Stop.TheVariants.{Fault as Faulty, Memory}
use Rattle.reference.specs.declared.evaluate.Valued.{Valued}
use Rattle.reference.specs.declared.made.Made.{Made}
use Rattle.reference.specs.declared.state.State.{State}
use Rattle.reference.specs.ArrayOf.{array_of}
use Rattle.reference.specs.CellsOf.{cell_of, cells_of, sizes}
use Rattle.reference.specs.Right.{Right, right_fault, right_memory}
use Rattle.reference.specs.Running.{Stood, Went, went, faulted, wanting, SmallNames, Replaces, replaces, replaces_not, replaces_wanting, ReplacesIn, ReplacesAt}
use Rattle.reference.proofs.Cells.{cell_there}
use Rattle.reference.proofs.Rights.{right_ok, twins_trans, alike_back}

-- ---- an expression of a statement
pub value_in_like : (p n : ℕ) (ins : List (Array ℕ)) (t : meaning.State ℕ) (ns : List (values.Cell ℕ)) (e : Expr ℕ) → LikeNames t.names ns → n ≡ p - in_names ns → LikeValues (value_in (sizes p) binary64 ins t e) (value (sizes p) binary64 ins ns n e)
unfolding value_in
value_in_like p n ins t ns e l h =
    let same : p - in_names t.names ≡ n = omega (arith, in_names_like t.names ns l, h) in
    subst (λ m. LikeValues (value (sizes p) binary64 ins t.names (p - in_names t.names) e) (value (sizes p) binary64 ins ns m e)) same
    (value_likes (sizes p) binary64 ins ins t.names ns (λ k. like_cell _) l (p - in_names t.names) e)

-- ---- a name gets an array
get_d_set_either : {A : Type 0} (P : A → Type 0) (xs : List A) (k j : ℕ) (x d : A) → P x → P (get_or xs j d) → P (get_or (set xs k x) j d)
get_d_set_either P [] k j x d p q = q
get_d_set_either P (y ∷ xs) zero zero x d p q = p
get_d_set_either P (y ∷ xs) zero (suc j) x d p q = q
get_d_set_either P (y ∷ xs) (suc k) zero x d p q = q
get_d_set_either P (y ∷ xs) (suc k) (suc j) x d p q = get_d_set_either P xs k j x d p q

pub small_set : (old new : Vec (Option owned.Array) Global) (k : ℕ) (a : owned.Array) → size (shape_of a.shape) ≤ 2 ^ 26 → vec_items new ≡ set (vec_items old) k (Some a) → SmallNames old → SmallNames new
unfolding cell_size
small_set old new k a l e h =
    record {
      on = λ j.
          subst (λ cs. cell_size (get_or cs j none) ≤ 2 ^ 26) (sym (ap (map cell_of) e ∙ map-set cell_of (vec_items old) k (Some a)))
          (get_d_set_either (λ c. cell_size c ≤ 2 ^ 26) (cells_of old) k j (some (array_of a)) none l (h.on j));
    }

module _ (t : meaning.State ℕ) (st : State) (h : Stood t st) where
  pub stood_set : (k : ℕ) (x : Array ℕ) (a : owned.Array) (new : Vec (Option owned.Array) Global) → vec_items new ≡ set (vec_items st.names) k (Some a) → Alike x (array_of a) → Stood (with_name t k x) (record { names = new; shown = st.shown })
  unfolding with_name
  stood_set k x a new e l =
      record {
        many = length-set t.names k _ ∙ h.many;
        full = ap length e ∙ (length-set (vec_items st.names) k _ ∙ h.full);
        names = subst (λ cs. LikeNames (set t.names k (some x)) cs) (sym (ap (map cell_of) e ∙ map-set cell_of (vec_items st.names) k (Some a)))
            (like_set t.names (cells_of st.names) k (omega (arith, h.many, h.full, length-map (vec_items st.names) cell_of)) h.names (like_some _ _ l));
        shown = h.shown;
        ended = refl;
      }

-- ---- let
module _ (p : ℕ) (t : meaning.State ℕ) (st : State) (h : Stood t st) (k : ℕ) where
  pub let_stop : {v : Value ℕ} {x : Stop} → Right v (Err x) → Went (becomes (sizes p) t k v) st (Err x)
  unfolding becomes stopped
  let_stop (right_fault {f = f} e) = subst (λ w. Went (becomes (sizes p) t k w) st (Err (Faulty f))) (sym e) (faulted refl h.shown)
  let_stop {v = v} right_memory = wanting t.shown (since_becomes (sizes p) t k v).shown h.shown

  pub let_nowhere : {v : Value ℕ} {m : Made} (new : Vec (Option owned.Array) Global) → Right v (Ok m) → length (vec_items st.names) ≤ k → Went (becomes (sizes p) t k v) (record { names = new; shown = st.shown }) (Err (Faulty Nothing))
  unfolding becomes stopped
  let_nowhere new r l = go (right_ok r)
    where
      go : {v : Value ℕ} {a : Array ℕ} {c : ℕ} → LikeValues v (val a c) → Went (becomes (sizes p) t k v) (record { names = new; shown = st.shown }) (Err (Faulty Nothing))
      go (like_val a b c e) =
          subst (λ y. Went (pick y (with_name t k a) (stopped t 6)) (record { names = new; shown = st.shown }) (Err (Faulty Nothing))) (sym (le-ltb k 64 (omega (arith, l, h.full)))) (faulted refl h.shown)

  pub let_done : {x : ℕ} {v : Value ℕ} {m : Made} (new : Vec (Option owned.Array) Global) → Right v (Ok m) → k < length (vec_items st.names) → vec_items new ≡ set (vec_items st.names) k (Some m.array) → Went (becomes (sizes p) t k v) (record { names = new; shown = st.shown }) (Ok x)
  unfolding becomes
  let_done {x} {m = m} new r l s = go (right_ok r)
    where
      go : {v : Value ℕ} {c : ℕ} → LikeValues v (val (array_of m.array) c) → Went (becomes (sizes p) t k v) (record { names = new; shown = st.shown }) (Ok x)
      go (like_val a _ c e) =
          subst (λ y. Went (pick y (with_name t k a) (stopped t 6)) (record { names = new; shown = st.shown }) (Ok x)) (sym (lt-ltb k 64 (omega (arith, l, h.full)))) (went (stood_set t st h k a m.array new s e))

-- ---- show
-- the numbers of an owned array are listed as they stand
listed_owned : (a : owned.Array) → ◌≡◌ {A = Shown ℕ} (listed (array_of a)) (record { shape = shape_of a.shape; numbers = vec_items a.numbers })
unfolding listed
listed_owned a =
    let s = shape_of a.shape in
    let many : length (vec_items a.numbers) ≡ size s = sym a.numbers.ok.0 ∙ a.full in
    ap (λ (l : List ℕ). record { shape = s; numbers = l })
    (numbers_at_is (array_of a) (vec_items a.numbers) 0 many (λ k l. ap (λ m. get_or (vec_items a.numbers) m 0) (sym (flat_unflat s k (omega (arith, many, l))))))

shown_push : (hs : List (Shown ℕ)) (x : Shown ℕ) → shown_bytes (hs ++ x ∷ []) ≡ shown_bytes hs ++ array_bytes x.shape x.numbers
unfolding shown_bytes
shown_push hs x = sym (flat_map_more (λ (h : Shown ℕ). array_bytes h.shape h.numbers) [] hs x)

module _ (t : meaning.State ℕ) (st : State) (h : Stood t st) where
  pub show_stop : {v : Value ℕ} {x : Stop} → Right v (Err x) → Went (is_shown t v) st (Err x)
  unfolding is_shown stopped
  show_stop (right_fault {f = f} e) = subst (λ w. Went (is_shown t w) st (Err (Faulty f))) (sym e) (faulted refl h.shown)
  show_stop {v = v} right_memory = wanting t.shown (since_is_shown t v).shown h.shown

  pub show_wanting : (v : Value ℕ) (new : Vec ℕ Global) → vec_items new ≡ vec_items st.shown → Went (is_shown t v) (record { names = st.names; shown = new }) (Err Memory)
  show_wanting v new e = wanting t.shown (since_is_shown t v).shown (h.shown ∙ sym e)

  pub show_done : {x : ℕ} {v : Value ℕ} {m : Made} (new : Vec ℕ Global) → Right v (Ok m) → vec_items new ≡ vec_items st.shown ++ array_bytes (shape_of m.array.shape) (vec_items m.array.numbers) → Went (is_shown t v) (record { names = st.names; shown = new }) (Ok x)
  unfolding is_shown
  show_done {x} {m = m} new r s = go (right_ok r)
    where
      go : {v : Value ℕ} {c : ℕ} → LikeValues v (val (array_of m.array) c) → Went (is_shown t v) (record { names = st.names; shown = new }) (Ok x)
      go (like_val a _ c e) =
          let same : listed a ≡ record { shape = shape_of m.array.shape; numbers = vec_items m.array.numbers } = listed_same (twins_alike a _ e) ∙ listed_owned m.array in
          went
          (record {
            many = h.many;
            full = h.full;
            names = h.names;
            shown = shown_push t.shown (listed a) ∙ (ap (λ l. l ++ array_bytes (listed a).shape (listed a).numbers) h.shown ∙ (ap (λ (y : Shown ℕ). vec_items st.shown ++ array_bytes y.shape y.numbers) same ∙ sym s));
            ended = refl;
          })

-- the exit of a `?`
pub went_exit : (u : meaning.State ℕ) (st : State) (r : Result ℕ Stop) (x : Stop) → IsErrAnd r (λ y. y ≡ x) → Went u st (Err x) → Went u st r
went_exit u st r x b h =
    let q = err_from_is_err_and r b in
    subst (λ z. Went u st z) (sym q.1) (subst (λ y. Went u st (Err y)) (sym q.2) h)

pub went_fault : (u : meaning.State ℕ) (st : State) (r : Result ℕ Stop) (x f : Fault) → IsErrAnd r (λ y. y ≡ Faulty x) → x ≡ f → Went u st (Err (Faulty f)) → Went u st r
went_fault u st r x f b e h = went_exit u st r (Faulty x) b (subst (λ y. Went u st (Err (Faulty y))) (sym e) h)

-- ---- put
module _ (t : meaning.State ℕ) (st : State) (h : Stood t st) (k : ℕ) where
  pub put_stop : {u : meaning.State ℕ} {x : Stop} → Since t u → Replaces t u k (Err x) → Went u st (Err x)
  unfolding stopped
  put_stop n (replaces_not {f} e) = subst (λ w. Went w st (Err (Faulty f))) (sym e) (faulted refl h.shown)
  put_stop n replaces_wanting = wanting t.shown n.shown h.shown

  pub put_done : {u : meaning.State ℕ} {x : ℕ} {v : Valued} (new : Vec (Option owned.Array) Global) → Replaces t u k (Ok v) → vec_items new ≡ set (vec_items st.names) k (Some v.made.array) → Went u (record { names = new; shown = st.shown }) (Ok x)
  put_done {x = x} {v = v} new (replaces a e l) s =
      subst (λ w. Went w (record { names = new; shown = st.shown }) (Ok x)) (sym e) (went (stood_set t st h k a v.made.array new s l))

-- the array that was there, and the value
module _ (t : meaning.State ℕ) (k : ℕ) (ps : List Part) (old : owned.Array) where
  pub replace_stop : {c : values.Cell ℕ} {v : Value ℕ} {x : Stop} → LikeCells c (some (array_of old)) → Right v (Err x) → Replaces t (is_put t k ps c v) k (Err x)
  unfolding is_put
  replace_stop (like_some a b e) (right_fault {f = f} q) = replaces_not (ap (is_put t k ps (some a)) q)
  replace_stop l right_memory = replaces_wanting

  pub replace_unfit : {c : values.Cell ℕ} {v : Value ℕ} {m : Made} → LikeCells c (some (array_of old)) → Right v (Ok m) → parts_fit ps (shape_of old.shape) ≡ false → Replaces t (is_put t k ps c v) k (Err (Faulty Range))
  unfolding is_put Alike
  replace_unfit l r b = go l (right_ok r)
    where
      go : {c : values.Cell ℕ} {v : Value ℕ} {x : Array ℕ} {n : ℕ} → LikeCells c (some (array_of old)) → LikeValues v (val x n) → Replaces t (is_put t k ps c v) k (Err (Faulty Range))
      go (like_some a _ e) (like_val d _ n f) =
          replaces_not (ap (λ y. pick y (pick (can_put ps d) (with_name t k (put_array ps a d)) (stopped t 1)) (stopped t 4)) (ap (parts_fit ps) e.0 ∙ b))

  -- the parts fit
  fit_put : (a d : Array ℕ) → Alike a (array_of old) → parts_fit ps (shape_of old.shape) ≡ true → pick (parts_fit ps a.shape) (pick (can_put ps d) (with_name t k (put_array ps a d)) (stopped t 1)) (stopped t 4) ≡ pick (can_put ps d) (with_name t k (put_array ps a d)) (stopped t 1)
  unfolding Alike
  fit_put a d e b = ap (λ y. pick y (pick (can_put ps d) (with_name t k (put_array ps a d)) (stopped t 1)) (stopped t 4)) (ap (parts_fit ps) e.0 ∙ b)

  can_like : (d x : Array ℕ) → Alike d x → can_put ps d ≡ can_put ps x
  unfolding can_put Alike
  can_like d x e = ap (λ s. can_put ps (record { shape = s; at = d.at })) e.0

  pub replace_apart : {c : values.Cell ℕ} {v : Value ℕ} {m : Made} → LikeCells c (some (array_of old)) → Right v (Ok m) → parts_fit ps (shape_of old.shape) ≡ true → can_put ps (array_of m.array) ≡ false → Replaces t (is_put t k ps c v) k (Err (Faulty Shapes))
  unfolding is_put
  replace_apart {m = m} l r b q = go l (right_ok r)
    where
      go : {c : values.Cell ℕ} {v : Value ℕ} {n : ℕ} → LikeCells c (some (array_of old)) → LikeValues v (val (array_of m.array) n) → Replaces t (is_put t k ps c v) k (Err (Faulty Shapes))
      go (like_some a _ e) (like_val d _ n f) =
          replaces_not (fit_put a d e b ∙ ap (λ y. pick y (with_name t k (put_array ps a d)) (stopped t 1)) (can_like d _ f ∙ q))

  pub replace_done : {c : values.Cell ℕ} {v : Value ℕ} {m : Made} {w : Valued} → LikeCells c (some (array_of old)) → Right v (Ok m) → parts_fit ps (shape_of old.shape) ≡ true → can_put ps (array_of m.array) ≡ true → Alike (array_of w.made.array) (put_array ps (array_of old) (array_of m.array)) → Replaces t (is_put t k ps c v) k (Ok w)
  unfolding is_put
  replace_done {m = m} {w = w} l r b q z = go l (right_ok r)
    where
      go : {c : values.Cell ℕ} {v : Value ℕ} {n : ℕ} → LikeCells c (some (array_of old)) → LikeValues v (val (array_of m.array) n) → Replaces t (is_put t k ps c v) k (Ok w)
      go (like_some a _ e) (like_val d _ n f) =
          replaces (put_array ps a d)
          (fit_put a d e b ∙ ap (λ y. pick y (with_name t k (put_array ps a d)) (stopped t 1)) (can_like d _ f ∙ q))
          (alike_twins (twins_trans (put_twins ps (twins_alike a _ e) (twins_alike d _ f) (can_like d _ f ∙ q)) (twins_alike _ _ (alike_back _ _ z))))

-- nothing was there
pub replace_nothing : (t : meaning.State ℕ) (k : ℕ) (ps : List Part) {c d : values.Cell ℕ} (v : Value ℕ) → LikeCells c d → d ≡ none → Replaces t (is_put t k ps c v) k (Err (Faulty Nothing))
unfolding is_put
replace_nothing t k ps v like_none e = replaces_not refl
replace_nothing t k ps v (like_some a b l) e = absurd (let z : ◌≡◌ {A = ℕ} 0 1 = cc in omega arith)

-- an array put has the places of the old one
pub size_put : (ps : List Part) (x y : Array ℕ) (a : owned.Array) → Alike (array_of a) (put_array ps x y) → size x.shape ≤ 2 ^ 26 → size (shape_of a.shape) ≤ 2 ^ 26
unfolding Alike put_array
size_put ps x y a h l = omega (arith, ap size h.0, l)

-- the exit of a `?`, where an array is replaced
pub replaces_exit : (ws bs : List ℕ) (names : Vec (Option owned.Array) Global) (i p : ℕ) (ps : List Part) (r : Result Valued Stop) (k : ℕ) (old : Option owned.Array) (x : Stop) → IsErrAnd r (λ y. y ≡ x) → ReplacesIn ws bs names i p ps (Err x) k old → ReplacesIn ws bs names i p ps r k old
replaces_exit ws bs names i p ps r k old x b h =
    let q = err_from_is_err_and r b in
    subst (λ z. ReplacesIn ws bs names i p ps z k old) (sym q.1) (subst (λ y. ReplacesIn ws bs names i p ps (Err y) k old) (sym q.2) h)

-- the cell that was read, in a state
pub cell_like : (t : meaning.State ℕ) (names : Vec (Option owned.Array) Global) (k : ℕ) (x : Option owned.Array) → LikeNames t.names (cells_of names) → k < length (vec_items names) → x ≡ get_or (vec_items names) k x → LikeCells (get_or t.names k none) (cell_of x)
cell_like t names k x l h e = subst (λ c. LikeCells (get_or t.names k none) c) (cell_there (vec_items names) k x h e) (l k)

-- what a name has, in a state
pub small_found : (names : Vec (Option owned.Array) Global) (k : ℕ) (a : owned.Array) → SmallNames names → get_or (cells_of names) k none ≡ some (array_of a) → size (shape_of a.shape) ≤ 2 ^ 26
unfolding cell_size
small_found names k a s is = subst (λ c. cell_size c ≤ 2 ^ 26) is (s.on k)

-- the exit of a `?`, where a name has nothing
pub nothing_exit : (ws bs : List ℕ) (names : Vec (Option owned.Array) Global) (i p : ℕ) (ps : List Part) (k : ℕ) (r : Result Valued Stop) (x : Fault) → IsErrAnd r (λ y. y ≡ Faulty x) → x ≡ Nothing → get_or (cells_of names) k none ≡ none → ReplacesAt ws bs names i p ps k r
nothing_exit ws bs names i p ps k r x b e n =
    let q = err_from_is_err_and r b in
    subst (λ z. ReplacesAt ws bs names i p ps k z) (sym (q.1 ∙ ap Err (q.2 ∙ ap Faulty e)))
    (record { there = tt; small = tt; skips = tt; right = λ e s t h l. replace_nothing t k ps _ (l k) n })
