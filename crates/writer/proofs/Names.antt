-- The spellings of names: which there are, and that they are names.
use Rattle.std.proofs.Common.{◌≡◌, ℕ, zero, suc, ◌+◌, ◌/◌, ◌%◌, ◌<◌, ◌≤◌, true, false, not, ◌&&◌, List, [], ◌∷◌, map, length, get_or, take, refl, ap, ◌∙◌, zero-add, arith}
use Rattle.std.specs.List.{range_with_len}
use Rattle.std.proofs.lemmas.List.{get_or-map, get_or_past}
use Rattle.std.proofs.lemmas.List.FromFn.{get_or-range_with_len}
use Rattle.std.proofs.lemmas.Bool.{lt-ltb, le-ltb, or_parts, or_from, and_parts, and_from, not-true, not_from_false}
use Rattle.semantics.specs.Shapes.{pick}
use Rattle.grammar.specs.Words.{Word, same_word, is_some, itself, is_name, shaped, reserved, heads, head_word, kept_words, is_letter, is_digit, in_word, all_in_word, are_names, unary_word, binary_word}
use Rattle.writer.specs.Spellings.{spelled, spellings, SpellingsAreNames}

pub spelled_at : (k : ℕ) → k < 64 → get_or spellings k [] ≡ spelled k
unfolding spellings
spelled_at k h =
    get_or-map spelled (range_with_len 0 64) k 0 [] h ∙ ap spelled (get_or-range_with_len 0 64 k 0 h ∙ zero-add k)

pub spelled_past : (k : ℕ) → 64 ≤ k → get_or spellings k [] ≡ []
unfolding spellings
spelled_past k h = get_or_past (map spelled (range_with_len 0 64)) k [] h

pub all_are_names : are_names spellings ≡ true
unfolding spellings spelled are_names is_name shaped reserved is_some same_word heads head_word kept_words is_letter is_digit in_word all_in_word unary_word binary_word
all_are_names = refl

pub spelled_low : (k : ℕ) → k < 26 → get_or spellings k [] ≡ (97 + k % 26) ∷ []
unfolding spelled
spelled_low k h = spelled_at k (omega arith) ∙ ap (λ b. (97 + k % 26) ∷ pick b [] ((48 + k / 26) ∷ [])) (lt-ltb k 26 h)

pub spelled_high : (k : ℕ) → 26 ≤ k → k < 64 → get_or spellings k [] ≡ (97 + k % 26) ∷ (48 + k / 26) ∷ []
unfolding spelled
spelled_high k l h = spelled_at k h ∙ ap (λ b. (97 + k % 26) ∷ pick b [] ((48 + k / 26) ∷ [])) (le-ltb k 26 l)

-- the first of some names are names
none_of_fewer : (ws : List Word) (w : Word) (n : ℕ) → is_some itself ws w ≡ false → is_some itself (take n ws) w ≡ false
unfolding is_some
none_of_fewer [] w zero h = refl
none_of_fewer [] w (suc n) h = refl
none_of_fewer (v ∷ ws) w zero h = refl
none_of_fewer (v ∷ ws) w (suc n) h =
    let both = or_parts (same_word w v) (is_some itself ws w) h in
    or_from (same_word w v) (is_some itself (take n ws) w) both.0 (none_of_fewer ws w n both.1)

names_of_fewer : (ws : List Word) (n : ℕ) → are_names ws ≡ true → are_names (take n ws) ≡ true
unfolding are_names
names_of_fewer [] zero h = refl
names_of_fewer [] (suc n) h = refl
names_of_fewer (w ∷ ws) zero h = refl
names_of_fewer (w ∷ ws) (suc n) h =
    let all = and_parts (is_name w && not (is_some itself ws w)) (are_names ws) h in
    let one = and_parts (is_name w) (not (is_some itself ws w)) all.0 in
    let other = none_of_fewer ws w n (not-true (is_some itself ws w) one.1) in
    and_from (is_name w && not (is_some itself (take n ws) w)) (are_names (take n ws)) (and_from (is_name w) (not (is_some itself (take n ws) w)) one.0 (not_from_false (is_some itself (take n ws) w) other)) (names_of_fewer ws n all.1)

pub first_are_names : SpellingsAreNames
first_are_names n = names_of_fewer spellings n all_are_names

pub spellings_many : length spellings ≡ 64
unfolding spellings
spellings_many = refl
