use Rattle.std.proofs.Common.{◌≡◌, ◌+◌, ◌-◌, ◌/◌, ◌%◌, ◌^◌, ◌<◌, ◌∷◌, length, drop, set, sym, refl, ap, ◌∙◌, pow-suc, div-one, add-one, arith, length-set}
use native.Mathlib.Nat.{div-div-eq-div-mul}
use Rattle.std.proofs.lemmas.List.{drop-set}
use Rattle.writer.specs.Digits.{hex_digit, hex_last, hex16}
use Rattle.writer.proofs.digits.hex_digits.Goals as goal

pub loop-k-init : goal.loop-k-init
unfolding hex_last
loop-k-init c = (refl, refl, sym (div-one c.args.word))

pub loop-k-preserved : goal.loop-k-preserved
unfolding hex_last
loop-k-preserved c =
    let k = c.loop-k.k in
    let inside : 15 - k < length c.loop-k.digits = omega arith in
    let here : 16 - (k + 1) ≡ 15 - k = omega arith in
    let behind : 15 - k + 1 ≡ 16 - k = omega arith in
    let digit = c.hex_digit.ensures ∙ ap (λ n. hex_digit (n % 16)) c.loop-k.invariant.2 in (
      simp length-set c.loop-k.invariant.0,
      ap (λ n. drop n (set c.loop-k.digits (15 - k) c.hex_digit.result)) here
          ∙ (drop-set c.loop-k.digits (15 - k) c.hex_digit.result inside
          ∙ (ap (λ n. c.hex_digit.result ∷ drop n c.loop-k.digits) behind
          ∙ (ap (λ ds. c.hex_digit.result ∷ ds) c.loop-k.invariant.1 ∙ (ap (λ d. d ∷ hex_last k c.args.word) digit ∙ ap (λ n. hex_last n c.args.word) (sym (add-one k)))))),
      ap (λ n. n / 16) c.loop-k.invariant.2 ∙ (div-div-eq-div-mul c.args.word (16 ^ k) 16 ∙ ap (λ n. c.args.word / n) (sym (pow-suc 16 k) ∙ ap (λ n. 16 ^ n) (sym (add-one k)))),
    )

pub returns : goal.returns
unfolding hex16
returns c =
    let all : c.loop-k.k ≡ 16 = omega arith in
    let none : 16 - c.loop-k.k ≡ 0 = omega arith in
    sym (ap (λ n. drop n c.loop-k.digits) none) ∙ (c.loop-k.invariant.1 ∙ ap (λ n. hex_last n c.args.word) all)
