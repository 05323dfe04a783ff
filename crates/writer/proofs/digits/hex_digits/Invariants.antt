use Rattle.std.proofs.Common.{◌≡◌, ◌-◌, ◌/◌, ◌^◌, length, drop}
use Rattle.writer.specs.Digits.{hex_last}
use Rattle.writer.proofs.digits.hex_digits.Given as goal

abbrev pub invariant-loop-k : goal.invariant-loop-k
invariant-loop-k l = (length l.digits ≡ 16) × (drop (16 - l.k) l.digits ≡ hex_last l.k l.word) × (l.rest ≡ l.word / 16 ^ l.k)
