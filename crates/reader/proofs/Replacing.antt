-- A stack with symbols in the place of its topmost one.
use Rattle.std.proofs.Common.{◌≡◌, ℕ, ◌+◌, ◌-◌, ◌<◌, ◌≤◌, List, ◌++◌, length, take, drop, ap, ◌∙◌, arith}
use borrow.Rule.Slice.PartMut.{put_mid}
use Rattle.std.proofs.lemmas.List.{length-take-le, length-append, length-drop, drop_at, drop-drop}
use Rattle.grammar.specs.declared.symbol.Symbol.{Symbol}
use Rattle.reader.specs.Machines.{Replaced}

pub replaced_is : (xs ys s : List Symbol) (top len : ℕ) → len ≤ top + 1 → top < length xs → ys ≡ s → length s ≡ len → Replaced xs top (put_mid (top + 1 - len) (top + 1 - (top + 1 - len)) xs ys) (top + 1 - len) s
replaced_is xs ys s top len room there same long =
    let low = top + 1 - len in
    let k = top + 1 - (top + 1 - len) in
    let front : length (take low xs) ≡ low = length-take-le low xs (omega arith) in
    let up : low + k ≡ top + 1 = omega arith in
    record {
      is = drop_at (take low xs) (ys ++ drop k (drop low xs)) low front ∙ (ap (λ zs. zs ++ drop k (drop low xs)) same ∙ ap (λ zs. s ++ zs) (drop-drop k low xs ∙ ap (λ n. drop n xs) up));
      down = omega arith;
      long =
          omega (arith, length-append (take low xs) (ys ++ drop k (drop low xs)), length-append ys (drop k (drop low xs)), front, ap length same, ap length (drop-drop k low xs), length-drop (low + k) xs);
    }
