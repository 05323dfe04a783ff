-- One turn of a loop that goes over a list and sets element k: what held below k and now of k, and what is as it was behind it.
use Rattle.std.proofs.Common.{◌≡◌, ℕ, zero, suc, ◌+◌, ◌-◌, ◌<◌, ◌≤◌, ◌≢◌, List, [], ◌∷◌, ◌++◌, length, get_or, take, drop, set, sym, refl, ap, ◌∙◌, subst, ⊎_elim, arith, length-append, length-drop, length-take, get_or-set_other, get_or-set_same, below_more}
use borrow.Rule.Slice.PartMut.{put_mid, post_of}
use Rattle.std.proofs.lemmas.List.{drop-drop, get_or-take, get_or_append_left, get_or-append_right, length-take-le}
use Rattle.std.proofs.lemmas.Bool.{cases_lt}

module _ {A : Type 0} (d : A) where
  pub set_below : (P : ℕ → A → Type 0) (xs : List A) (k : ℕ) (x : A) → k < length xs → ((j : ℕ) → j < k → P j (get_or xs j d)) → P k x → (j : ℕ) → j < k + 1 → P j (get_or (set xs k x) j d)
  set_below P xs k x l below here =
      below_more (λ j. P j (get_or (set xs k x) j d)) k
      (λ j h. let ne : j ≢ k = omega arith in rw get_or-set_other (below j h))
      (rw get_or-set_same here)

  pub set_behind : (xs ys : List A) (k : ℕ) (x : A) → ((j : ℕ) → k ≤ j → get_or xs j d ≡ get_or ys j d) → (j : ℕ) → k + 1 ≤ j → get_or (set xs k x) j d ≡ get_or ys j d
  set_behind xs ys k x h j l = let ne : j ≢ k = omega arith in rw get_or-set_other (h j (omega arith))

  -- a part that is written at a, behind what holds below a
  pub part_below : (P : ℕ → A → Type 0) (a k : ℕ) (xs ys : List A) → a ≤ length xs → ((j : ℕ) → j < a → P j (get_or xs j d)) → ((j : ℕ) → j < length ys → P (a + j) (get_or ys j d)) →
      (j : ℕ) → j < a + length ys → P j (get_or (put_mid a k xs ys) j d)
  part_below P a k xs ys few below here j l =
      ⊎_elim
      (λ h. let long = length-take-le a xs few in subst (P j) (sym (get_or_append_left (take a xs) (ys ++ post_of a k xs) d j (omega arith) ∙ get_or-take a xs j d h)) (below j h))
      (λ h.
      let long = length-take-le a xs few in
      let low : j - a < length ys = omega arith in
      let same : a + (j - a) ≡ j = omega arith in
      subst (P j) (sym (get_or-append_right (take a xs) (ys ++ post_of a k xs) a j d long h ∙ get_or_append_left ys (post_of a k xs) d (j - a) low))
      (subst (λ i. P i (get_or ys (j - a) d)) same (here (j - a) low)))
      (cases_lt j a)

  pub part_long : (a k : ℕ) (xs ys : List A) → a ≤ length xs → a + length ys ≤ length (put_mid a k xs ys)
  part_long a k xs ys few =
      omega (arith, length-append (take a xs) (ys ++ post_of a k xs), length-append ys (post_of a k xs), length-take-le a xs few)

  -- a part that is lent
  pub length_part : (a n : ℕ) (xs : List A) → a + n ≤ length xs → length (take (a + n - a) (drop a xs)) ≡ n
  length_part a n xs l = omega (arith, length-take (a + n - a) (drop a xs), length-drop a xs)

  -- an element of a part that was written
  pub part_at : (a k : ℕ) (xs ys : List A) (n : ℕ) → a ≤ length xs → n < length ys → get_or (put_mid a k xs ys) (a + n) d ≡ get_or ys n d
  part_at a k xs ys n few l =
      let long = length-take-le a xs few in
      let more : a ≤ a + n = omega arith in
      let same : a + n - a ≡ n = omega arith in
      get_or-append_right (take a xs) (ys ++ post_of a k xs) a (a + n) d long more ∙ (ap (λ i. get_or (ys ++ post_of a k xs) i d) same ∙ get_or_append_left ys (post_of a k xs) d n l)

-- lists with the same front, or the same rest
pub take_fewer : {A : Type 0} (n m : ℕ) (xs ys : List A) → n ≤ m → take m xs ≡ take m ys → take n xs ≡ take n ys
take_fewer n m xs ys l e = sym (take_take n m xs l) ∙ (ap (take n) e ∙ take_take n m ys l)
  where
    take_take : {A : Type 0} (n m : ℕ) (xs : List A) → n ≤ m → take n (take m xs) ≡ take n xs
    take_take zero m xs l = refl
    take_take (suc n) zero xs l = absurd (omega arith)
    take_take (suc n) (suc m) [] l = refl
    take_take (suc n) (suc m) (x ∷ xs) l = ap (λ v. x ∷ v) (take_take n m xs (omega arith))

pub drop_more_same : {A : Type 0} (n m : ℕ) (xs ys : List A) → n ≤ m → drop n xs ≡ drop n ys → drop m xs ≡ drop m ys
drop_more_same n m xs ys l e =
    let same : n + (m - n) ≡ m = omega arith in
    ap (λ k. drop k xs) (sym same) ∙ (sym (drop-drop (m - n) n xs) ∙ (ap (drop (m - n)) e ∙ (drop-drop (m - n) n ys ∙ ap (λ k. drop k ys) same)))

pub get_d_front : (m : ℕ) (xs ys : List ℕ) → take m xs ≡ take m ys → (i : ℕ) → i < m → get_or xs i 0 ≡ get_or ys i 0
get_d_front m xs ys e i l = sym (get_or-take m xs i 0 l) ∙ (ap (λ v. get_or v i 0) e ∙ get_or-take m ys i 0 l)
