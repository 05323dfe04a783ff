-- Digits that say no step yet, read in place.
use Rattle.std.proofs.Common.{◌≡◌, ℕ, ◌+◌, ◌-◌, ◌*◌, ◌<◌, ◌≤◌, true, false, List, [], ◌∷◌, get_or, sym, refl, ap, ◌∙◌, arith}
use Rattle.grammar.specs.declared.symbol.Symbol.{Symbol}
use Rattle.grammar.specs.declared.symbol.Number.{Number}
use Rattle.grammar.specs.Letters.{inside}
use Rattle.grammar.specs.Words.{is_digit}
use Rattle.grammar.specs.Moves.{belongs, move, when, is_hex, hex_of, digit_move, moves}
use Rattle.reader.specs.declared.machine.Machine.{Machine}
use Rattle.reader.specs.declared.turn.Mark.{Mark}
use Rattle.reader.specs.Names.{part}
use Rattle.reader.specs.Turning.{Fit}
use Rattle.reader.specs.Machines.{TopIs, Placed, Reading, ReadOn}
use Rattle.reader.proofs.Turnings.{part_none, hex_more, digits_more}
use Rattle.reader.proofs.Settling.{names_of, fit_here}
use Rattle.reader.proofs.Noting.{never}
use Rattle.reader.proofs.Skimming.{kept, read_on}

module _ (t : List ℕ) (i : ℕ) (m : Machine) (on : Reading t i m) where
  -- the number so far is below its limit
  pub fits_top : (s : Symbol) → TopIs m s → Fit s m.value
  fits_top s top = fit_here m s top.there (sym top.is) on.good.fits

  -- another symbol on top, and this number
  number_on : (mid : Machine) (v : ℕ) (s u : Symbol) → TopIs m s → belongs s (get_or t i 0) ≡ true
      → move inside [] (u ∷ []) [] v ≡ moves (names_of t m) s (part t m.word i) m.value (get_or t i 0)
      → Placed m mid (u ∷ []) (i + 1)
      → ReadOn t i m (record { stack = mid.stack; top = mid.top; names = mid.names; count = mid.count; word = mid.word; value = v; hints = mid.hints; clean = mid.clean }) Mark.Inside
  number_on mid v s u top fits k placed =
      read_on t i m on _ Mark.Inside s (u ∷ []) [] top fits k placed.names placed.count placed.hints placed.down
      (ap (λ a. part t a (i + 1)) placed.begins ∙ part_none t (i + 1)) (omega (arith, placed.begins)) (λ is. never (sym placed.dirty ∙ is))

  pub hex_read : (n x : ℕ) (mid : Machine) → TopIs m (Symbol.Hex n) → 2 ≤ n → true ≡ is_hex (get_or t i 0) → x ≡ hex_of (get_or t i 0) → Placed m mid (Symbol.Hex (n - 1) ∷ []) (i + 1)
      → ReadOn t i m (record { stack = mid.stack; top = mid.top; names = mid.names; count = mid.count; word = mid.word; value = m.value * 16 + x; hints = mid.hints; clean = mid.clean }) Mark.Inside
  unfolding belongs
  hex_read n x mid top many digit same placed =
      number_on mid (m.value * 16 + x) (Symbol.Hex n) (Symbol.Hex (n - 1)) top refl
      (ap (λ y. move inside [] (Symbol.Hex (n - 1) ∷ []) [] (m.value * 16 + y)) same ∙ hex_more (names_of t m) (part t m.word i) n m.value (get_or t i 0) digit many) placed

  pub digit_read : (p : Number) → TopIs m (Symbol.Digits p) → true ≡ is_digit (get_or t i 0) → 1 ≤ m.value → m.value * 10 + (get_or t i 0 - 48) < 4294967296
      → ReadOn t i m (record { stack = m.stack; top = m.top; names = m.names; count = m.count; word = i + 1; value = m.value * 10 + (get_or t i 0 - 48); hints = m.hints; clean = false }) Mark.Inside
  unfolding belongs
  digit_read p top digit some low =
      read_on t i m on _ Mark.Inside (Symbol.Digits p) (Symbol.Digits p ∷ []) [] top (sym digit)
      (digits_more (names_of t m) (part t m.word i) p m.value (get_or t i 0) digit some low) refl refl refl
      (kept m (Symbol.Digits p) top) (part_none t (i + 1)) (omega arith) never

  pub first_read : (p : Number) (mid : Machine) → TopIs m (Symbol.Number p) → true ≡ is_digit (get_or t i 0) → Placed m mid (Symbol.Digits p ∷ []) (i + 1)
      → ReadOn t i m (record { stack = mid.stack; top = mid.top; names = mid.names; count = mid.count; word = mid.word; value = get_or t i 0 - 48; hints = mid.hints; clean = mid.clean }) Mark.Inside
  unfolding belongs moves digit_move when
  first_read p mid top digit placed =
      number_on mid (get_or t i 0 - 48) (Symbol.Number p) (Symbol.Digits p) top refl
      (ap (λ x. when x (move inside [] (Symbol.Digits p ∷ []) [] (get_or t i 0 - 48))) digit) placed
