-- Steps in words: how many, which one stands at a node, and what storing one leaves.
use Rattle.std.proofs.Common.{◌≡◌, ℕ, ◌+◌, ◌-◌, ◌*◌, ◌/◌, ◌<◌, ◌≤◌, Bool, true, false, ◌≢◌, List, [], ◌∷◌, ◌++◌, length, get_or, take, drop, set, Some, sym, refl, ap, ◌∙◌, inl, inr, add-zero, zero-add, arith, length-append, length-drop, length-set}
use native.Mathlib.Nat.{div-add-mod}
use borrow.Rule.Slice.PartMut.{put_mid}
use Rattle.std.proofs.lemmas.List.FromFn.{length-map-range_with_len, get_or-map-range_with_len}
use Rattle.std.proofs.lemmas.List.{get_or-take, get_or-drop, get_or-set_same, get_or-set_other, get_or-append-add, get_or_append_left, ext_get_or, take_at, drop_at, take_all, append_assoc, length-take-le, take_more_set, take-set-le}
use Rattle.std.proofs.lemmas.Slice.{put_mid-paste}
use Rattle.std.proofs.lemmas.Bool.{cases_eq, cases_order}
use Rattle.program.specs.declared.step.Step.{Step}
use Rattle.program.specs.declared.step.Step.TheVariants.{End, Let, Put, Show, Again, Name, Input, Constant, Count, Each, Both, Choose, Fold, Scan, Shape, Turn, Part, Join, Rows, Item, Slice}
use Rattle.semantics.specs.declared.operation.Unary.{Unary}
use Rattle.semantics.specs.declared.operation.Unary.TheVariants.{Neg, Abs, Sqrt, Floor, Not}
use Rattle.semantics.specs.declared.operation.Binary.{Binary}
use Rattle.semantics.specs.declared.operation.Binary.TheVariants.{Add, Sub, Mul, Div, Less, Same, Least, Most}
use Rattle.program.specs.Words.{sliced, slice_tag, words_of, step_of, unary_of, unary_code, binary_of, binary_code, step_in, place_in, steps_in, places_in, Stored}

-- as many as the words have fifths
pub length_steps_in : (ws : List ℕ) → length (steps_in ws) ≡ length ws / 5
unfolding steps_in
length_steps_in ws = length-map-range_with_len (step_in ws) 0 (length ws / 5)

pub length_places_in : (ws : List ℕ) → length (places_in ws) ≡ length ws / 5
unfolding places_in
length_places_in ws = length-map-range_with_len (place_in ws) 0 (length ws / 5)

pub steps_in_at : (ws : List ℕ) (k : ℕ) → k < length ws / 5 → get_or (steps_in ws) k End ≡ step_in ws k
unfolding steps_in
steps_in_at ws k h = get_or-map-range_with_len (step_in ws) 0 (length ws / 5) k k End h (zero-add k)

pub places_in_at : (ws : List ℕ) (k : ℕ) → k < length ws / 5 → get_or (places_in ws) k 0 ≡ place_in ws k
unfolding places_in
places_in_at ws k h = get_or-map-range_with_len (place_in ws) 0 (length ws / 5) k k 0 h (zero-add k)

-- the codes of operations, there and back
unary_back : (k : Unary) → unary_of (unary_code k) ≡ Some k
unary_back Neg = refl
unary_back Abs = refl
unary_back Sqrt = refl
unary_back Floor = refl
unary_back Not = refl

binary_back : (k : Binary) → binary_of (binary_code k) ≡ Some k
binary_back Add = refl
binary_back Sub = refl
binary_back Mul = refl
binary_back Div = refl
binary_back Less = refl
binary_back Same = refl
binary_back Least = refl
binary_back Most = refl

slice_back : (b : Bool) (f s m : ℕ) → step_of (slice_tag b) f s m ≡ sliced f b s m
slice_back false f s m = refl
slice_back true f s m = refl

-- the step of its own words is the step
step_back : (s : Step) (p : ℕ) → step_of (get_or (words_of s p) 0 0) (get_or (words_of s p) 2 0) (get_or (words_of s p) 3 0) (get_or (words_of s p) 4 0) ≡ s
step_back End p = refl
step_back (Let k) p = refl
step_back (Put k) p = refl
step_back Show p = refl
step_back (Again n) p = refl
step_back (Name k) p = refl
step_back (Input k) p = refl
step_back (Constant x) p = ap Constant (omega (arith, div-add-mod x 4294967296))
step_back (Count n) p = refl
step_back (Each k) p = rw (unary_back k)
step_back (Both k) p = rw (binary_back k)
step_back Choose p = refl
step_back (Fold k x) p = rw (binary_back k)
step_back (Scan k x) p = rw (binary_back k)
step_back Shape p = refl
step_back Turn p = refl
step_back Part p = refl
step_back (Join x) p = refl
step_back Rows p = refl
step_back (Item k) p = refl
step_back (Slice s) p = slice_back s.backward s.from s.step s.many

-- read from its own words, a step is itself
pub step_of_words : (s : Step) (p : ℕ) → step_in (words_of s p) 0 ≡ s
unfolding step_in
step_of_words s p = step_back s p

pub place_of_words : (s : Step) (p : ℕ) → get_or (words_of s p) 1 0 ≡ p
place_of_words End p = refl
place_of_words (Let k) p = refl
place_of_words (Put k) p = refl
place_of_words Show p = refl
place_of_words (Again n) p = refl
place_of_words (Name k) p = refl
place_of_words (Input k) p = refl
place_of_words (Constant x) p = refl
place_of_words (Count n) p = refl
place_of_words (Each k) p = refl
place_of_words (Both k) p = refl
place_of_words Choose p = refl
place_of_words (Fold k x) p = refl
place_of_words (Scan k x) p = refl
place_of_words Shape p = refl
place_of_words Turn p = refl
place_of_words Part p = refl
place_of_words (Join x) p = refl
place_of_words Rows p = refl
place_of_words (Item k) p = refl
place_of_words (Slice s) p = refl

pub length_words_of : (s : Step) (p : ℕ) → length (words_of s p) ≡ 5
length_words_of End p = refl
length_words_of (Let k) p = refl
length_words_of (Put k) p = refl
length_words_of Show p = refl
length_words_of (Again n) p = refl
length_words_of (Name k) p = refl
length_words_of (Input k) p = refl
length_words_of (Constant x) p = refl
length_words_of (Count n) p = refl
length_words_of (Each k) p = refl
length_words_of (Both k) p = refl
length_words_of Choose p = refl
length_words_of (Fold k x) p = refl
length_words_of (Scan k x) p = refl
length_words_of Shape p = refl
length_words_of Turn p = refl
length_words_of Part p = refl
length_words_of (Join x) p = refl
length_words_of Rows p = refl
length_words_of (Item k) p = refl
length_words_of (Slice s) p = refl

step_of_same : {t u a d b e c f : ℕ} → t ≡ u → a ≡ d → b ≡ e → c ≡ f → step_of t a b c ≡ step_of u d e f
step_of_same {t} {u} {a} {d} {b} {e} {c} {f} p q r s =
    ap (λ x. step_of x a b c) p ∙ (ap (λ x. step_of u x b c) q ∙ (ap (λ x. step_of u d x c) r ∙ ap (λ x. step_of u d e x) s))

-- five words in the place of five others
module _ (old new ws : List ℕ) (node : ℕ) (five : length ws ≡ 5) (there : node < length old / 5) (is : new ≡ take (5 * node) old ++ (ws ++ drop (5 * node + 5) old)) where
  front : length (take (5 * node) old) ≡ 5 * node
  front = length-take-le (5 * node) old (omega arith)

  same_length : length new ≡ length old
  same_length =
      omega (arith, ap length is, length-append (take (5 * node) old) (ws ++ drop (5 * node + 5) old), length-append ws (drop (5 * node + 5) old), length-drop (5 * node + 5) old, front)

  below : take (5 * node) new ≡ take (5 * node) old
  below = ap (take (5 * node)) is ∙ take_at (take (5 * node) old) (ws ++ drop (5 * node + 5) old) (5 * node) front

  above : drop (5 * node + 5) new ≡ drop (5 * node + 5) old
  above =
      let size : length (take (5 * node) old ++ ws) ≡ 5 * node + 5 = omega (arith, length-append (take (5 * node) old) ws, front) in
      ap (drop (5 * node + 5)) (is ∙ sym (append_assoc (take (5 * node) old) ws (drop (5 * node + 5) old)))
      ∙ drop_at (take (5 * node) old ++ ws) (drop (5 * node + 5) old) (5 * node + 5) size

  -- the words of the node are the new ones, the others the old ones
  inside : (j n : ℕ) → j < 5 → n ≡ 5 * node + j → get_or new n 0 ≡ get_or ws j 0
  inside j n h e =
      let low : j < length ws = omega arith in
      ap (λ i. get_or new i 0) (e ∙ ap (λ m. m + j) (sym front))
      ∙ (ap (λ xs. get_or xs (length (take (5 * node) old) + j) 0) is
      ∙ (get_or-append-add (take (5 * node) old) (ws ++ drop (5 * node + 5) old) j 0 ∙ get_or_append_left ws (drop (5 * node + 5) old) 0 j low))

  kept_below : (i : ℕ) → i < 5 * node → get_or new i 0 ≡ get_or old i 0
  kept_below i h = sym (get_or-take (5 * node) new i 0 h) ∙ (ap (λ xs. get_or xs i 0) below ∙ get_or-take (5 * node) old i 0 h)

  kept_above : (i : ℕ) → 5 * node + 5 ≤ i → get_or new i 0 ≡ get_or old i 0
  kept_above i h =
      let e : 5 * node + 5 + (i - (5 * node + 5)) ≡ i = omega arith in
      ap (λ n. get_or new n 0) (sym e)
      ∙ (sym (get_or-drop (5 * node + 5) new (i - (5 * node + 5)) 0)
      ∙ (ap (λ xs. get_or xs (i - (5 * node + 5)) 0) above ∙ (get_or-drop (5 * node + 5) old (i - (5 * node + 5)) 0 ∙ ap (λ n. get_or old n 0) e)))

  kept_other : (k j : ℕ) → k ≢ node → j < 5 → get_or new (5 * k + j) 0 ≡ get_or old (5 * k + j) 0
  kept_other k j ne h =
      elim (cases_order k node) [
        | inl e ↦ absurd (ne e)
        | inr (inl l) ↦ kept_below (5 * k + j) (omega arith)
        | inr (inr l) ↦ kept_above (5 * k + j) (omega arith)
      ]

  kept_other_first : (k : ℕ) → k ≢ node → get_or new (5 * k) 0 ≡ get_or old (5 * k) 0
  kept_other_first k ne = ap (λ n. get_or new n 0) (sym (add-zero (5 * k))) ∙ (kept_other k 0 ne (omega arith) ∙ ap (λ n. get_or old n 0) (add-zero (5 * k)))

  step_other : (k : ℕ) → k ≢ node → step_in new k ≡ step_in old k
  unfolding step_in
  step_other k ne = step_of_same (kept_other_first k ne) (kept_other k 2 ne (omega arith)) (kept_other k 3 ne (omega arith)) (kept_other k 4 ne (omega arith))

  step_here : step_in new node ≡ step_of (get_or ws 0 0) (get_or ws 2 0) (get_or ws 3 0) (get_or ws 4 0)
  unfolding step_in
  step_here =
      step_of_same (inside 0 (5 * node) (omega arith) (sym (add-zero (5 * node)))) (inside 2 _ (omega arith) refl) (inside 3 _ (omega arith) refl) (inside 4 _ (omega arith) refl)

  place_other : (k : ℕ) → k ≢ node → place_in new k ≡ place_in old k
  unfolding place_in
  place_other k ne = kept_other k 1 ne (omega arith)

  place_here : place_in new node ≡ get_or ws 1 0
  unfolding place_in
  place_here = inside 1 _ (omega arith) refl

  steps_set : (s : Step) → step_of (get_or ws 0 0) (get_or ws 2 0) (get_or ws 3 0) (get_or ws 4 0) ≡ s → steps_in new ≡ set (steps_in old) node s
  steps_set s e =
      ext_get_or End (steps_in new) (set (steps_in old) node s) (omega (arith, same_length, length_steps_in new, length_steps_in old, length-set (steps_in old) node s))
      (λ k h.
      let in-new : k < length new / 5 = omega (arith, length_steps_in new) in
      let in-old : k < length old / 5 = omega (arith, same_length) in
      steps_in_at new k in-new
      ∙ elim (cases_eq k node) [
        | inl at ↦
            ap (step_in new) at
            ∙ (step_here
            ∙ (e ∙ (sym (get_or-set_same (steps_in old) node s End (omega (arith, length_steps_in old))) ∙ ap (λ n. get_or (set (steps_in old) node s) n End) (sym at))))
        | inr ne ↦ step_other k ne ∙ (sym (steps_in_at old k in-old) ∙ sym (get_or-set_other (steps_in old) node k s End ne))
      ])

  places_set : (p : ℕ) → get_or ws 1 0 ≡ p → places_in new ≡ set (places_in old) node p
  places_set p e =
      ext_get_or 0 (places_in new) (set (places_in old) node p) (omega (arith, same_length, length_places_in new, length_places_in old, length-set (places_in old) node p))
      (λ k h.
      let in-new : k < length new / 5 = omega (arith, length_places_in new) in
      let in-old : k < length old / 5 = omega (arith, same_length) in
      places_in_at new k in-new
      ∙ elim (cases_eq k node) [
        | inl at ↦
            ap (place_in new) at
            ∙ (place_here
            ∙ (e ∙ (sym (get_or-set_same (places_in old) node p 0 (omega (arith, length_places_in old))) ∙ ap (λ n. get_or (set (places_in old) node p) n 0) (sym at))))
        | inr ne ↦ place_other k ne ∙ (sym (places_in_at old k in-old) ∙ sym (get_or-set_other (places_in old) node k p 0 ne))
      ])

-- a step's words written over five others store it
pub stored_by : (old new ws : List ℕ) (node width : ℕ) (s : Step) (p : ℕ) → ws ≡ words_of s p → width ≡ 5 → node < length old / 5 → new ≡ put_mid (5 * node) width old ws → Stored old new node s p
stored_by old new ws node width s p e wide there is =
    let five : length ws ≡ 5 = ap length e ∙ length_words_of s p in
    let size : 5 ≡ width = sym wide in
    let so : new ≡ take (5 * node) old ++ (ws ++ drop (5 * node + 5) old) =
    is
    ∙ (put_mid-paste (5 * node) width old ws ws 5 refl size (sym five)
    ∙ (ap (λ xs. take (5 * node) old ++ xs ++ drop (5 * node + 5) old) (take_all 5 ws (omega arith)) ∙ append_assoc (take (5 * node) old) ws (drop (5 * node + 5) old))) in
    record {
      there = omega (arith, length_steps_in old);
      steps = steps_set old new ws node five there so s (ap (λ xs. step_of (get_or xs 0 0) (get_or xs 2 0) (get_or xs 3 0) (get_or xs 4 0)) e ∙ step_back s p);
      places = places_set old new ws node five there so p (ap (λ xs. get_or xs 1 0) e ∙ place_of_words s p);
      before = below old new ws node five there so;
      behind = above old new ws node five there so;
    }

-- steps stored one after another: one more, as many as before
module _ (old new : List ℕ) (node : ℕ) (s : Step) (p : ℕ) (st : Stored old new node s p) where
  pub stored_length : length (steps_in new) ≡ length (steps_in old)
  stored_length = ap length st.steps ∙ length-set (steps_in old) node s

  pub stored_more : take (node + 1) (steps_in new) ≡ take node (steps_in old) ++ s ∷ []
  stored_more = ap (take (node + 1)) st.steps ∙ take_more_set (steps_in old) node s st.there

  pub stored_places_more : take (node + 1) (places_in new) ≡ take node (places_in old) ++ p ∷ []
  stored_places_more =
      ap (take (node + 1)) st.places ∙ take_more_set (places_in old) node p (omega (arith, st.there, length_steps_in old, length_places_in old))

  -- those before stay
  pub stored_before : (n : ℕ) → n ≤ node → take n (steps_in new) ≡ take n (steps_in old)
  stored_before n h = ap (take n) st.steps ∙ take-set-le n (steps_in old) node s h

  pub stored_places_before : (n : ℕ) → n ≤ node → take n (places_in new) ≡ take n (places_in old)
  stored_places_before n h = ap (take n) st.places ∙ take-set-le n (places_in old) node p h

-- the words of the first n steps are those steps
module _ (ws : List ℕ) (n : ℕ) (there : 5 * n ≤ length ws) where
  front_length : length (take (5 * n) ws) ≡ 5 * n
  front_length = length-take-le (5 * n) ws there

  step_in_take : (k : ℕ) → k < n → step_in (take (5 * n) ws) k ≡ step_in ws k
  unfolding step_in
  step_in_take k h =
      step_of_same (get_or-take (5 * n) ws (5 * k) 0 (omega arith)) (get_or-take (5 * n) ws (5 * k + 2) 0 (omega arith)) (get_or-take (5 * n) ws (5 * k + 3) 0 (omega arith)) (get_or-take (5 * n) ws (5 * k + 4) 0 (omega arith))

  place_in_take : (k : ℕ) → k < n → place_in (take (5 * n) ws) k ≡ place_in ws k
  unfolding place_in
  place_in_take k h = get_or-take (5 * n) ws (5 * k + 1) 0 (omega arith)

  pub steps_in_take : steps_in (take (5 * n) ws) ≡ take n (steps_in ws)
  steps_in_take =
      ext_get_or End (steps_in (take (5 * n) ws)) (take n (steps_in ws))
      (omega (arith, front_length, length_steps_in (take (5 * n) ws), length_steps_in ws, length-take-le n (steps_in ws) (omega (arith, length_steps_in ws))))
      (λ k h.
      let low : k < n = omega (arith, front_length, length_steps_in (take (5 * n) ws)) in
      let in-front : k < length (take (5 * n) ws) / 5 = omega (arith, front_length) in
      let in_all : k < length ws / 5 = omega arith in
      steps_in_at (take (5 * n) ws) k in-front ∙ (step_in_take k low ∙ (sym (steps_in_at ws k in_all) ∙ sym (get_or-take n (steps_in ws) k End low))))

  pub places_in_take : places_in (take (5 * n) ws) ≡ take n (places_in ws)
  places_in_take =
      ext_get_or 0 (places_in (take (5 * n) ws)) (take n (places_in ws))
      (omega (arith, front_length, length_places_in (take (5 * n) ws), length_places_in ws, length-take-le n (places_in ws) (omega (arith, length_places_in ws))))
      (λ k h.
      let low : k < n = omega (arith, front_length, length_places_in (take (5 * n) ws)) in
      let in-front : k < length (take (5 * n) ws) / 5 = omega (arith, front_length) in
      let in_all : k < length ws / 5 = omega arith in
      places_in_at (take (5 * n) ws) k in-front ∙ (place_in_take k low ∙ (sym (places_in_at ws k in_all) ∙ sym (get_or-take n (places_in ws) k 0 low))))

-- the five words of a step, as they are read
pub word_at : (ws : List ℕ) (k j : ℕ) → j < 5 → get_or (take 5 (drop (5 * k) ws)) j 0 ≡ get_or ws (5 * k + j) 0
word_at ws k j h = get_or-take 5 (drop (5 * k) ws) j 0 h ∙ get_or-drop (5 * k) ws j 0

pub step_of_five : (ws : List ℕ) (k : ℕ) (five : List ℕ) → five ≡ take 5 (drop (5 * k) ws) → step_of (get_or five 0 0) (get_or five 2 0) (get_or five 3 0) (get_or five 4 0) ≡ step_in ws k
unfolding step_in
step_of_five ws k five e =
    ap (λ xs. step_of (get_or xs 0 0) (get_or xs 2 0) (get_or xs 3 0) (get_or xs 4 0)) e
    ∙ step_of_same (word_at ws k 0 (omega arith) ∙ ap (λ n. get_or ws n 0) (add-zero (5 * k))) (word_at ws k 2 (omega arith)) (word_at ws k 3 (omega arith)) (word_at ws k 4 (omega arith))

pub place_of_five : (ws : List ℕ) (k : ℕ) (five : List ℕ) → five ≡ take 5 (drop (5 * k) ws) → get_or five 1 0 ≡ place_in ws k
unfolding place_in
place_of_five ws k five e = ap (λ xs. get_or xs 1 0) e ∙ word_at ws k 1 (omega arith)
