use Rattle.std.proofs.Common.{◌≡◌, ℕ, zero, suc, ◌*◌, ◌/◌, ◌<◌, ◌≤◌, List, [], length, get_or, take, drop, Some, None, Option, MatchOption, Bor, refl, ap, ◌∙◌, arith}
use Rattle.std.proofs.lemmas.List.{drop-drop}
use Rattle.std.specs.Simd.{first_chunks}
use Rattle.std.specs.List.{HoldsAt}
use Rattle.std.specs.Option.{option_copied}
use Rattle.program.specs.Words.{steps_in}
use Rattle.program.proofs.Storing.{length_steps_in}
use Rattle.program.proofs.words.words_at.Goals as goal

chunk_at : (k i : ℕ) (ws : List ℕ) → i < k → get_or (first_chunks 5 k ws) i [] ≡ take 5 (drop (5 * i) ws)
chunk_at zero i ws h = absurd (omega arith)
chunk_at (suc k) zero ws h = refl
chunk_at (suc k) (suc i) ws h =
    chunk_at k i (drop 5 ws) (omega arith) ∙ ap (take 5) (drop-drop (5 * i) 5 ws ∙ ap (λ n. drop n ws) (omega arith))

-- what is found among the chunks of five are the words of a step
found_words : (ws : List ℕ) (node : ℕ) (cs : List (List ℕ)) → cs ≡ first_chunks 5 (length ws / 5) ws → length cs ≡ length ws / 5 → (found : Option (Bor (List ℕ))) → MatchOption found (length cs ≤ node) (λ x. (node < length cs) × HoldsAt (λ y. x.now ≡ y) cs node) → MatchOption (option_copied found) (length (steps_in ws) ≤ node) (λ five. (node < length (steps_in ws)) × (five ≡ take 5 (drop (5 * node) ws)))
found_words ws node cs is many None past = omega (arith, length_steps_in ws)
found_words ws node cs is many (Some x) (there, here) =
    (omega (arith, length_steps_in ws), here [] ∙ ap (λ l. get_or l node []) is ∙ chunk_at (length ws / 5) node ws (omega arith))

pub returns : goal.returns
returns c =
    rw c.copied.ensures (found_words c.args.words.now c.args.node c.as_chunks.result.0.now c.as_chunks.ensures.front c.as_chunks.ensures.front_len c.get.result c.get.ensures.lookup.3)
