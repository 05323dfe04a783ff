-- Looking for a word in a table, one entry after the other.
use Rattle.std.proofs.Common.{◌≡◌, ℕ, suc, ◌+◌, ◌-◌, ◌<◌, ◌≤◌, Bool, true, false, ◌&&◌, ◌||◌, eqb, ltb, cond, Option, List, [], ◌∷◌, length, get_or, take, drop, Some, None, sym, refl, ap, ◌∙◌, arith}
use lib.Pointwise.{pointwise}
use Rattle.std.specs.Option.{is_some as option_is_some}
use Rattle.std.specs.List.{list_any, list_all, find as first_of}
use Rattle.std.proofs.lemmas.List.{at_drop_more, at_drop_all, take_all}
use Rattle.std.proofs.lemmas.Bool.{le-ltb, lt-ltb, ne_eqb, and_right}
use Rattle.std.proofs.lemmas.Bool.Decides.{same_from_decides, Decides-eqb}
use Rattle.std.proofs.lemmas.Slice.Eq.{slice_eq-Decides, IsBytesEq, compares_Decides}
use Rattle.semantics.specs.Shapes.{pick}
use Rattle.grammar.specs.Words.{Word, same_word, begins_word, find, is_some, begins_some, is_letter, in_word, all_in_word, shaped, head_word, heads, unary_word, binary_word}

compares : IsBytesEq same_word
unfolding same_word
compares = record { empty = refl; shorter = λ y ys. refl; longer = λ x xs. refl; heads = λ x y xs ys. refl }

-- `==` on bytes
pub same_is : (xs ys : Word) (r : Bool) → r ≡ pointwise eqb xs ys → r ≡ same_word xs ys
same_is xs ys r h = same_from_decides r (same_word xs ys) (slice_eq-Decides Decides-eqb xs ys r h) (compares_Decides same_word compares xs ys)

begins_by_same : (u w : Word) → begins_word u w ≡ same_word u (take (length u) w)
unfolding begins_word same_word
begins_by_same [] w = refl
begins_by_same (b ∷ u) [] = refl
begins_by_same (b ∷ u) (c ∷ w) = ap (λ t. eqb b c && t) (begins_by_same u w)

pub begins_is : (u w : Word) (r : Bool) → r ≡ pointwise eqb u (take (length u) w) → r ≡ begins_word u w
begins_is u w r h = same_is u (take (length u) w) r h ∙ sym (begins_by_same u w)

module _ {A : Type 0} (spelled : A → Word) (xs : List A) (w : Word) where
  pub find_here : (k : ℕ) (d : A) → k < length xs → same_word w (spelled (get_or xs k d)) ≡ true → find spelled (drop k xs) w ≡ Some (get_or xs k d)
  unfolding find
  find_here k d low same =
      let here : find spelled (drop k xs) w ≡ pick (same_word w (spelled (get_or xs k d))) (Some (get_or xs k d)) (find spelled (drop (k + 1) xs) w) =
      at_drop_more (λ ys. find spelled ys w) xs k d low in
      here ∙ ap (λ t. pick t (Some (get_or xs k d)) (find spelled (drop (k + 1) xs) w)) same

  pub find_on : (k : ℕ) (d : A) → k < length xs → same_word w (spelled (get_or xs k d)) ≡ false → find spelled (drop k xs) w ≡ find spelled (drop (k + 1) xs) w
  unfolding find
  find_on k d low same =
      let here : find spelled (drop k xs) w ≡ pick (same_word w (spelled (get_or xs k d))) (Some (get_or xs k d)) (find spelled (drop (k + 1) xs) w) =
      at_drop_more (λ ys. find spelled ys w) xs k d low in
      here ∙ ap (λ t. pick t (Some (get_or xs k d)) (find spelled (drop (k + 1) xs) w)) same

  pub find_none : (k : ℕ) → length xs ≤ k → find spelled (drop k xs) w ≡ None
  unfolding find
  find_none k past = at_drop_all (λ ys. find spelled ys w) xs k past

  pub some_here : (k : ℕ) (d : A) → k < length xs → same_word w (spelled (get_or xs k d)) ≡ true → is_some spelled (drop k xs) w ≡ true
  unfolding is_some
  some_here k d low same =
      let here : is_some spelled (drop k xs) w ≡ (same_word w (spelled (get_or xs k d)) || is_some spelled (drop (k + 1) xs) w) =
      at_drop_more (λ ys. is_some spelled ys w) xs k d low in
      here ∙ ap (λ t. t || is_some spelled (drop (k + 1) xs) w) same

  pub some_on : (k : ℕ) (d : A) → k < length xs → same_word w (spelled (get_or xs k d)) ≡ false → is_some spelled (drop k xs) w ≡ is_some spelled (drop (k + 1) xs) w
  unfolding is_some
  some_on k d low same =
      let here : is_some spelled (drop k xs) w ≡ (same_word w (spelled (get_or xs k d)) || is_some spelled (drop (k + 1) xs) w) =
      at_drop_more (λ ys. is_some spelled ys w) xs k d low in
      here ∙ ap (λ t. t || is_some spelled (drop (k + 1) xs) w) same

  pub some_none : (k : ℕ) → length xs ≤ k → is_some spelled (drop k xs) w ≡ false
  unfolding is_some
  some_none k past = at_drop_all (λ ys. is_some spelled ys w) xs k past

  pub begins_here : (k : ℕ) (d : A) → k < length xs → begins_word w (spelled (get_or xs k d)) ≡ true → begins_some spelled (drop k xs) w ≡ true
  unfolding begins_some
  begins_here k d low same =
      let here : begins_some spelled (drop k xs) w ≡ (begins_word w (spelled (get_or xs k d)) || begins_some spelled (drop (k + 1) xs) w) =
      at_drop_more (λ ys. begins_some spelled ys w) xs k d low in
      here ∙ ap (λ t. t || begins_some spelled (drop (k + 1) xs) w) same

  pub begins_on : (k : ℕ) (d : A) → k < length xs → begins_word w (spelled (get_or xs k d)) ≡ false → begins_some spelled (drop k xs) w ≡ begins_some spelled (drop (k + 1) xs) w
  unfolding begins_some
  begins_on k d low same =
      let here : begins_some spelled (drop k xs) w ≡ (begins_word w (spelled (get_or xs k d)) || begins_some spelled (drop (k + 1) xs) w) =
      at_drop_more (λ ys. begins_some spelled ys w) xs k d low in
      here ∙ ap (λ t. t || begins_some spelled (drop (k + 1) xs) w) same

  pub begins_none : (k : ℕ) → length xs ≤ k → begins_some spelled (drop k xs) w ≡ false
  unfolding begins_some
  begins_none k past = at_drop_all (λ ys. begins_some spelled ys w) xs k past

-- the same in the words of the library
pub any_is : {A : Type 0} (spelled : A → Word) (xs : List A) (w : Word) → list_any (λ a. same_word w (spelled a)) xs ≡ is_some spelled xs w
unfolding is_some
any_is spelled [] w = refl
any_is spelled (a ∷ xs) w = ap (λ t. same_word w (spelled a) || t) (any_is spelled xs w)

pub any_begins : {A : Type 0} (spelled : A → Word) (xs : List A) (w : Word) → list_any (λ a. begins_word w (spelled a)) xs ≡ begins_some spelled xs w
unfolding begins_some
any_begins spelled [] w = refl
any_begins spelled (a ∷ xs) w = ap (λ t. begins_word w (spelled a) || t) (any_begins spelled xs w)

first_on : {A : Type 0} (b : Bool) (a : A) (o p : Option A) → o ≡ p → cond b (Some a) o ≡ pick b (Some a) p
first_on true a o p e = refl
first_on false a o p e = e

pub first_is : {A : Type 0} (spelled : A → Word) (xs : List A) (w : Word) → first_of (λ a. same_word w (spelled a)) xs ≡ find spelled xs w
unfolding find
first_is spelled [] w = refl
first_is spelled (a ∷ xs) w = first_on (same_word w (spelled a)) a _ _ (first_is spelled xs w)

found_on : {A : Type 0} (b : Bool) (a : A) (o : Option A) → option_is_some (pick b (Some a) o) ≡ (b || option_is_some o)
found_on true a o = refl
found_on false a o = refl

-- found, it is one of them
pub found_is : {A : Type 0} (spelled : A → Word) (xs : List A) (w : Word) → option_is_some (find spelled xs w) ≡ is_some spelled xs w
unfolding find is_some
found_is spelled [] w = refl
found_is spelled (a ∷ xs) w =
    found_on (same_word w (spelled a)) a (find spelled xs w) ∙ ap (λ t. same_word w (spelled a) || t) (found_is spelled xs w)

pub all_is : (w : Word) → list_all in_word w ≡ all_in_word w
unfolding all_in_word
all_is [] = refl
all_is (b ∷ w) = ap (λ t. in_word b && t) (all_is w)

and_true : (t : Bool) → (t && true) ≡ t
and_true true = refl
and_true false = refl

-- the shape of names, from the first byte, the length and the other bytes
pub shaped_none : (w : Word) → length w ≡ 0 → false ≡ shaped w
unfolding shaped
shaped_none [] e = refl
shaped_none (b ∷ w) e = absurd (omega arith)

pub shaped_first : (w : Word) → false ≡ is_letter (get_or w 0 0) → false ≡ shaped w
unfolding shaped
shaped_first [] e = refl
shaped_first (b ∷ w) e = ap (λ t. t && all_in_word w && ltb (length w) 8) e

pub shaped_long : (w : Word) → 9 ≤ length w → false ≡ shaped w
unfolding shaped
shaped_long [] e = refl
shaped_long (b ∷ w) e =
    let long : ltb (length w) 8 ≡ false = le-ltb (length w) 8 (omega arith) in
    sym (and_right (is_letter b && all_in_word w) (ltb (length w) 8) long)

pub shaped_rest : (w : Word) → true ≡ is_letter (get_or w 0 0) → 0 < length w → length w < 9 → all_in_word (take (length w - 1) (drop 1 w)) ≡ shaped w
unfolding shaped
shaped_rest [] e some few = absurd (omega arith)
shaped_rest (b ∷ w) e some few =
    let short : ltb (length w) 8 ≡ true = lt-ltb (length w) 8 (omega arith) in
    let all : take (suc (length w) - 1) w ≡ w = take_all (suc (length w) - 1) w (omega arith) in
    ap all_in_word all ∙ sym (ap (λ t. t && all_in_word w && ltb (length w) 8) (sym e) ∙ (ap (λ t. true && all_in_word w && t) short ∙ and_true (all_in_word w)))

-- BY THE FIRST BYTE

pub first_split : (w : Word) (c : ℕ) → (length w ≡ 0 → ⊥) → get_or w 0 0 ≡ c → c ∷ take (length w - 1) (drop 1 w) ≡ w
first_split [] c some e = absurd (some refl)
first_split (b ∷ w) c some e =
    let all : take (suc (length w) - 1) w ≡ w = take_all (suc (length w) - 1) w (omega arith) in
    ap (λ u. c ∷ u) all ∙ ap (λ x. x ∷ w) (sym e)

pub none_empty : (w : Word) → length w ≡ 0 → None ≡ find head_word heads w
unfolding find same_word head_word heads unary_word binary_word
none_empty [] e = refl
none_empty (b ∷ w) e = absurd (omega arith)

pub no_head : (w : Word) → (length w ≡ 0 → ⊥) → (get_or w 0 0 ≡ 97 → ⊥) → (get_or w 0 0 ≡ 99 → ⊥) → (get_or w 0 0 ≡ 100 → ⊥) → (get_or w 0 0 ≡ 102 → ⊥) → (get_or w 0 0 ≡ 105 → ⊥) → (get_or w 0 0 ≡ 106 → ⊥) → (get_or w 0 0 ≡ 108 → ⊥) → (get_or w 0 0 ≡ 109 → ⊥) → (get_or w 0 0 ≡ 110 → ⊥) → (get_or w 0 0 ≡ 112 → ⊥) → (get_or w 0 0 ≡ 114 → ⊥) → (get_or w 0 0 ≡ 115 → ⊥) → (get_or w 0 0 ≡ 116 → ⊥) → None ≡ find head_word heads w
unfolding find same_word head_word heads unary_word binary_word
no_head [] some n97 n99 n100 n102 n105 n106 n108 n109 n110 n112 n114 n115 n116 = absurd (some refl)
no_head (b ∷ w) some n97 n99 n100 n102 n105 n106 n108 n109 n110 n112 n114 n115 n116 = rw (ne_eqb b 97 n97, ne_eqb b 99 n99, ne_eqb b 100 n100, ne_eqb b 102 n102, ne_eqb b 105 n105, ne_eqb b 106 n106, ne_eqb b 108 n108, ne_eqb b 109 n109, ne_eqb b 110 n110, ne_eqb b 112 n112, ne_eqb b 114 n114, ne_eqb b 115 n115, ne_eqb b 116 n116)
