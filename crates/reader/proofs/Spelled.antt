-- Names, looked for one after the other.
use Rattle.std.proofs.Common.{◌≡◌, ℕ, suc, ◌+◌, ◌-◌, ◌<◌, ◌≤◌, Bool, true, false, ◌&&◌, ◌||◌, cond, ltb, ◌⊎◌, List, [], ◌∷◌, ◌++◌, length, get_or, position, take, drop, Some, None, Option, sym, refl, ap, ◌∙◌, subst, inl, inr, add-zero, arith}
use lib.Seq.{take-nil}
use Rattle.std.proofs.lemmas.List.{at_drop_more, at_drop_all, drop_all, take_all, length-map, length-drop, get_or-map}
use Rattle.std.specs.List.{list_any, position_from}
use Rattle.std.proofs.lemmas.Iterator.Adapters.{position_from-zero}
use Rattle.std.proofs.lemmas.Bool.{le-ltb, lt-ltb, or_right, false≢true}
use Rattle.semantics.specs.Shapes.{pick}
use Rattle.grammar.specs.Words.{Word, same_word, begins_word, is_some, begins_some, itself, is_name, shaped, head_word, heads}
use Rattle.grammar.specs.Moves.{place, with_name, can_name, viable_name, viable}
use Rattle.reader.specs.declared.names.Span.{Span}
use Rattle.reader.specs.Names.{part, spelling, spellings, Sought, absent, present, Named, unnamed, named}

-- bounds past the text's end give the same part
pub part_within : (t : List ℕ) (a b c d : ℕ) → ((b ≡ d) × (d < length t)) ⊎ ((b ≡ length t) × (length t ≤ d)) → ((a ≡ c) × (c < b)) ⊎ ((a ≡ b) × (b ≤ c)) → part t a b ≡ part t c d
part_within t a b c d (inl (p, q)) (inl (r, s)) = ap (λ n. take (n - a) (drop a t)) p ∙ ap (λ n. take (d - n) (drop n t)) r
part_within t a b c d (inl (p, q)) (inr (r, s)) =
    let left : b - a ≡ 0 = omega arith in
    let right : d - c ≡ 0 = omega arith in
    ap (λ n. take n (drop a t)) left ∙ sym (ap (λ n. take n (drop c t)) right)
part_within t a b c d (inr (p, q)) (inl (r, s)) =
    let left : take (b - a) (drop a t) ≡ drop a t = take_all (b - a) (drop a t) (simp length-drop (omega arith)) in
    let right : take (d - c) (drop c t) ≡ drop c t = take_all (d - c) (drop c t) (simp length-drop (omega arith)) in
    left ∙ (ap (λ n. drop n t) r ∙ sym right)
part_within t a b c d (inr (p, q)) (inr (r, s)) =
    let left : b - a ≡ 0 = omega arith in
    let right : drop c t ≡ [] = drop_all c t (omega arith) in
    ap (λ n. take n (drop a t)) left ∙ sym (ap (take (d - c)) right ∙ take-nil (d - c))

pub length_spellings : (t : List ℕ) (ss : List Span) → length (spellings t ss) ≡ length ss
unfolding spellings
length_spellings t ss = length-map ss (spelling t)

pub spelling_at : (t : List ℕ) (ss : List Span) (k : ℕ) (d : Span) → k < length ss → get_or (spellings t ss) k [] ≡ spelling t (get_or ss k d)
unfolding spellings
spelling_at t ss k d low = get_or-map (spelling t) ss k d [] low

-- the chains over the names' parts are the searches among the names
pub begins_listed : (t : List ℕ) (ss : List Span) (w : Word) → list_any (λ s. begins_word w (spelling t s)) ss ≡ begins_some itself (spellings t ss) w
unfolding spellings begins_some
begins_listed t [] w = refl
begins_listed t (s ∷ ss) w = ap (λ x. begins_word w (spelling t s) || x) (begins_listed t ss w)

abbrev Found : List Word → Word → ℕ → Option ℕ → Type 0
Found ns w i None = (is_some itself ns w ≡ false) × (place ns w ≡ length ns)
Found ns w i (Some k) = (is_some itself ns w ≡ true) × (i + place ns w ≡ k) × (k < i + length ns)

found_more : (u : Word) (ns : List Word) (w : Word) (i : ℕ) (x : Bool) (r : Option ℕ) → same_word w u ≡ x → Found ns w (i + 1) r → Found (u ∷ ns) w i (cond x (Some i) r)
unfolding is_some place
found_more u ns w i true r e h =
    (ap (λ x. x || is_some itself ns w) e, ap (λ x. i + pick x 0 (suc (place ns w))) e ∙ add-zero i, omega arith)
found_more u ns w i false None e h =
    (ap (λ x. x || is_some itself ns w) e ∙ h.0, ap (λ x. pick x 0 (suc (place ns w))) e ∙ ap suc h.1)
found_more u ns w i false (Some k) e h =
    (ap (λ x. x || is_some itself ns w) e ∙ h.0, ap (λ x. i + pick x 0 (suc (place ns w))) e ∙ omega (arith, h.1), omega (arith, h.2))

found_from : (t : List ℕ) (ss : List Span) (w : Word) (i : ℕ) → Found (spellings t ss) w i (position_from (λ s. same_word w (spelling t s)) i ss)
unfolding spellings is_some place
found_from t [] w i = (refl, refl)
found_from t (s ∷ ss) w i = found_more (spelling t s) (spellings t ss) w i (same_word w (spelling t s)) (position_from (λ x. same_word w (spelling t x)) (i + 1) ss) refl (found_from t ss w (i + 1))

from_found : (ns : List Word) (w : Word) (r : Option ℕ) → Found ns w 0 r → Sought ns w r
from_found ns w None h = absent h.0 h.1
from_found ns w (Some k) h = present h.0 (omega (arith, h.1)) (omega (arith, h.2))

pub sought_at : (t : List ℕ) (ss : List Span) (w : Word) (r : Option ℕ) → r ≡ position (λ s. same_word w (spelling t s)) ss → Sought (spellings t ss) w r
sought_at t ss w r e =
    let p : Span → Bool = λ s. same_word w (spelling t s) in
    from_found (spellings t ss) w r (subst (λ x. Found (spellings t ss) w 0 x) (sym (e ∙ position_from-zero p ss)) (found_from t ss w 0))

or_false : (t : Bool) → (t || false) ≡ t
or_false true = refl
or_false false = refl

module _ (ns : List Word) (w : Word) where
  pub place_here : (k : ℕ) → k < length ns → same_word w (get_or ns k []) ≡ true → place (drop k ns) w ≡ 0
  unfolding place
  place_here k low same =
      let here : place (drop k ns) w ≡ pick (same_word w (get_or ns k [])) 0 (suc (place (drop (k + 1) ns) w)) = at_drop_more (λ ys. place ys w) ns k [] low in
      here ∙ ap (λ t. pick t 0 (suc (place (drop (k + 1) ns) w))) same

  pub place_on : (k : ℕ) → k < length ns → same_word w (get_or ns k []) ≡ false → place (drop k ns) w ≡ suc (place (drop (k + 1) ns) w)
  unfolding place
  place_on k low same =
      let here : place (drop k ns) w ≡ pick (same_word w (get_or ns k [])) 0 (suc (place (drop (k + 1) ns) w)) = at_drop_more (λ ys. place ys w) ns k [] low in
      here ∙ ap (λ t. pick t 0 (suc (place (drop (k + 1) ns) w))) same

  pub place_none : (k : ℕ) → length ns ≤ k → place (drop k ns) w ≡ 0
  unfolding place
  place_none k past = at_drop_all (λ ys. place ys w) ns k past

  pub sought_below : (k : ℕ) → Sought ns w (Some k) → k < length ns
  sought_below k (present is at low) = low

  -- the ways to a name
  pub no_name : is_name w ≡ false → Named ns w None
  unfolding can_name
  no_name e = unnamed (ap (λ t. t && (is_some itself ns w || ltb (length ns) 64)) e)

  pub old_name : (k : ℕ) → is_name w ≡ true → Sought ns w (Some k) → Named ns w (Some (record { place = k; new = false }))
  unfolding can_name with_name
  old_name k e (present is at low) =
      named (record {
        can = ap (λ t. t && (is_some itself ns w || ltb (length ns) 64)) e ∙ ap (λ t. t || ltb (length ns) 64) is;
        is = at;
        names = ap (λ t. pick t ns (ns ++ w ∷ [])) is;
        room = λ (no : false ≡ true). absurd (false≢true no);
      })

  pub no_room : is_name w ≡ true → Sought ns w None → 64 ≤ length ns → Named ns w None
  unfolding can_name
  no_room e (absent is at) many =
      unnamed (ap (λ t. t && (is_some itself ns w || ltb (length ns) 64)) e ∙ (ap (λ t. t || ltb (length ns) 64) is ∙ le-ltb (length ns) 64 many))

  pub new_name : (n : ℕ) → n ≡ length ns → is_name w ≡ true → Sought ns w None → n < 64 → Named ns w (Some (record { place = n; new = true }))
  unfolding can_name with_name
  new_name n same e (absent is at) few =
      named (record {
        can = ap (λ t. t && (is_some itself ns w || ltb (length ns) 64)) e ∙ (ap (λ t. t || ltb (length ns) 64) is ∙ lt-ltb (length ns) 64 (omega arith));
        is = at ∙ sym same;
        names = ap (λ t. pick t ns (ns ++ w ∷ [])) is;
        room = λ _. omega arith;
      })

  pub viable_unshaped : false ≡ shaped w → false ≡ viable_name ns w
  unfolding viable_name
  viable_unshaped e = ap (λ t. t && (begins_some itself ns w || ltb (length ns) 64)) e

  pub viable_room : true ≡ shaped w → length ns < 64 → true ≡ viable_name ns w
  unfolding viable_name
  viable_room e few =
      sym (ap (λ t. t && (begins_some itself ns w || ltb (length ns) 64)) (sym e) ∙ or_right (begins_some itself ns w) (ltb (length ns) 64) (lt-ltb (length ns) 64 few))

  pub viable_old : true ≡ shaped w → 64 ≤ length ns → begins_some itself ns w ≡ viable_name ns w
  unfolding viable_name
  viable_old e many =
      sym (ap (λ t. t && (begins_some itself ns w || ltb (length ns) 64)) (sym e) ∙ (ap (λ t. begins_some itself ns w || t) (le-ltb (length ns) 64 many) ∙ or_false (begins_some itself ns w)))

  pub viable_head : true ≡ begins_some head_word heads w → true ≡ viable ns w
  unfolding viable
  viable_head e = ap (λ t. t || viable_name ns w) e

  pub viable_other : false ≡ begins_some head_word heads w → viable_name ns w ≡ viable ns w
  unfolding viable
  viable_other e = ap (λ t. t || viable_name ns w) e
