-- Bytes written into a slice: by a copy into a part of it, and one piece after another.
use Rattle.std.proofs.Common.{◌≡◌, ℕ, ◌+◌, ◌*◌, ◌<◌, ◌≤◌, List, [], ◌∷◌, ◌++◌, length, Option, Some, None, get_or, take, drop, set, sym, refl, ap, subst, ◌∙◌, add-zero, add_assoc, mul-zero, mul-suc, add-one, arith, length-append, length-drop}
use borrow.Rule.Slice.PartMut.{put_mid}
use Rattle.std.proofs.lemmas.List.{append_assoc, take_all, take_at, drop_at, drop-drop, length-take-le, take-append-drop, set_split, flat_map_more, take_more}
use Rattle.std.proofs.lemmas.Slice.{put_mid-paste}
use Rattle.std.specs.List.{flat_map}
use Rattle.encoding.specs.Words.{bytes4, bytes8, written}
use Rattle.encoding.specs.Writing.{Writes, head_bytes, number_bytes, array_bytes}

written_is : (bs ws : List ℕ) (at : ℕ) → written bs at ws ≡ take at bs ++ (ws ++ drop (at + length ws) bs)
unfolding written
written_is bs ws at = refl

pub put_mid_written : (bs ws : List ℕ) (at k : ℕ) → length ws ≡ k → put_mid at k bs ws ≡ written bs at ws
unfolding written
put_mid_written bs ws at k e =
    put_mid-paste at k bs ws ws (length ws) refl e refl
    ∙ (ap (λ xs. take at bs ++ xs ++ drop (at + length ws) bs) (take_all (length ws) ws (omega arith)) ∙ append_assoc (take at bs) ws (drop (at + length ws) bs))

pub set_written : (bs : List ℕ) (at b : ℕ) → at < length bs → set bs at b ≡ written bs at (b ∷ [])
unfolding written
set_written bs at b h = set_split bs at b h ∙ ap (λ n. take at bs ++ b ∷ drop n bs) (sym (add-one at))

pub written_none : (bs : List ℕ) (at : ℕ) → written bs at [] ≡ bs
unfolding written
written_none bs at = ap (λ n. take at bs ++ drop n bs) (add-zero at) ∙ take-append-drop at bs

module _ (bs ws : List ℕ) (at : ℕ) (there : at ≤ length bs) where
  front : written bs at ws ≡ (take at bs ++ ws) ++ drop (at + length ws) bs
  unfolding written
  front = sym (append_assoc (take at bs) ws (drop (at + length ws) bs))

  front_length : length (take at bs ++ ws) ≡ at + length ws
  front_length = length-append (take at bs) ws ∙ ap (λ n. n + length ws) (length-take-le at bs there)

  pub length_written : at + length ws ≤ length bs → length (written bs at ws) ≡ length bs
  length_written fits =
      omega (arith, ap length front, length-append (take at bs ++ ws) (drop (at + length ws) bs), front_length, length-drop (at + length ws) bs)

  take_front : take (at + length ws) (written bs at ws) ≡ take at bs ++ ws
  take_front = ap (take (at + length ws)) front ∙ take_at (take at bs ++ ws) (drop (at + length ws) bs) (at + length ws) front_length

  drop_front : (m : ℕ) → drop (at + length ws + m) (written bs at ws) ≡ drop (at + length ws + m) bs
  drop_front m =
      sym (drop-drop m (at + length ws) (written bs at ws))
      ∙ (ap (λ xs. drop m (drop (at + length ws) xs)) front
      ∙ (ap (drop m) (drop_at (take at bs ++ ws) (drop (at + length ws) bs) (at + length ws) front_length) ∙ drop-drop m (at + length ws) bs))

  -- a second piece right behind the first
  pub written_written : (vs : List ℕ) (n : ℕ) → n ≡ at + length ws → written (written bs at ws) n vs ≡ written bs at (ws ++ vs)
  written_written vs n e =
      ap (λ m. written (written bs at ws) m vs) e
      ∙ (written_is (written bs at ws) vs (at + length ws)
      ∙ (ap (λ xs. xs ++ (vs ++ drop (at + length ws + length vs) (written bs at ws))) take_front
      ∙ (ap (λ xs. (take at bs ++ ws) ++ (vs ++ xs)) (drop_front (length vs))
      ∙ (append_assoc (take at bs) ws (vs ++ drop (at + length ws + length vs) bs)
      ∙ (ap (λ xs. take at bs ++ xs) (sym (append_assoc ws vs (drop (at + length ws + length vs) bs)))
      ∙ (ap (λ m. take at bs ++ ((ws ++ vs) ++ drop m bs)) (add_assoc at (length ws) (length vs) ∙ ap (λ m. at + m) (sym (length-append ws vs)))
      ∙ sym (written_is bs (ws ++ vs) at)))))))

-- where words do not fit, nothing was written
pub writes_none : {r : Option ℕ} (old ws : List ℕ) (at : ℕ) → r ≡ None → length old < at + length ws → Writes old old at ws r
writes_none old ws at e small = subst (Writes old old at ws) (sym e) (small, refl)

-- a second piece right behind the first, where both fit
pub writes_behind : (old mid new ws vs : List ℕ) (at start : ℕ) (r : Option ℕ) → Writes old mid at ws (Some start) → Writes mid new start vs r → at + length (ws ++ vs) ≤ length old → Writes old new at (ws ++ vs) r
writes_behind old mid new ws vs at start (Some e) first second fits =
    let size = length-append ws vs in
    let there : at ≤ length old = omega arith in (
      omega (arith, first.0, second.0),
      omega (arith, first.0, second.0),
      second.2 ∙ (ap (λ m. written m start vs) first.2 ∙ written_written old ws at there vs start first.0),
    )
writes_behind old mid new ws vs at start None first second fits =
    let size = length-append ws vs in
    let kept = length_written old ws at (omega arith) (omega (arith, first.0)) in
    absurd (omega (arith, first.0, second.0, ap length first.2))

-- how many bytes words take
pub length_bytes4 : (x : ℕ) → length (bytes4 x) ≡ 4
unfolding bytes4
length_bytes4 x = refl

pub length_bytes8 : (x : ℕ) → length (bytes8 x) ≡ 8
unfolding bytes8
length_bytes8 x = refl

pub length_joined : (f : ℕ → List ℕ) (w : ℕ) → ((x : ℕ) → length (f x) ≡ w) → (xs : List ℕ) → length (flat_map f xs) ≡ w * length xs
length_joined f w e [] = sym (mul-zero w)
length_joined f w e (x ∷ xs) = length-append (f x) (flat_map f xs) ∙ simp (e x, length_joined f w e xs, mul-suc) (omega arith)

-- one word more
pub joined_push : (f : ℕ → List ℕ) (xs : List ℕ) (k : ℕ) → k < length xs → flat_map f (take k xs) ++ f (get_or xs k 0) ≡ flat_map f (take (k + 1) xs)
joined_push f xs k h = flat_map_more f [] (take k xs) (get_or xs k 0) ∙ ap (flat_map f) (sym (take_more xs k 0 h))

-- a loop that writes one word after another: one turn more
module _ (f : ℕ → List ℕ) (w : ℕ) (wide : (x : ℕ) → length (f x) ≡ w) (old xs : List ℕ) (at k : ℕ) (there : at ≤ length old) (more : k < length xs) where
  pub written_more : (room new : List ℕ) → room ≡ written old at (flat_map f (take k xs)) → new ≡ written room (at + w * k) (f (get_or xs k 0)) → new ≡ written old at (flat_map f (take (k + 1) xs))
  written_more room new so_far one =
      let taken : length (take k xs) ≡ k = length-take-le k xs (omega arith) in
      let size = length_joined f w wide (take k xs) ∙ ap (λ n. w * n) taken in
      one
      ∙ (ap (λ r. written r (at + w * k) (f (get_or xs k 0))) so_far
      ∙ (written_written old (flat_map f (take k xs)) at there (f (get_or xs k 0)) (at + w * k) (ap (λ n. at + n) (sym size)) ∙ ap (written old at) (joined_push f xs k more)))

pub length_head_bytes : (s : List ℕ) → length (head_bytes s) ≡ 1 + 4 * length s
unfolding head_bytes
length_head_bytes s = omega (arith, length_joined bytes4 4 length_bytes4 s)

pub length_number_bytes : (ns : List ℕ) → length (number_bytes ns) ≡ 8 * length ns
unfolding number_bytes
length_number_bytes ns = length_joined bytes8 8 length_bytes8 ns

pub length_array_bytes : (s ns : List ℕ) → length (array_bytes s ns) ≡ 1 + 4 * length s + 8 * length ns
unfolding array_bytes
length_array_bytes s ns = omega (arith, length-append (head_bytes s) (number_bytes ns), length_head_bytes s, length_number_bytes ns)

-- the head: the rank, and the lengths behind it
pub written_head : (room lens : List ℕ) (at rank : ℕ) → at < length room → rank ≤ length lens → written (set room at rank) (at + 1) (flat_map bytes4 (take rank lens)) ≡ written room at (head_bytes (take rank lens))
unfolding head_bytes
written_head room lens at rank there few =
    let taken : length (take rank lens) ≡ rank = length-take-le rank lens few in
    let low : at ≤ length room = omega arith in
    ap (λ r. written r (at + 1) (flat_map bytes4 (take rank lens))) (set_written room at rank there)
    ∙ (written_written room (rank ∷ []) at low (flat_map bytes4 (take rank lens)) (at + 1) refl ∙ ap (λ n. written room at (n ∷ flat_map bytes4 (take rank lens))) (sym taken))
