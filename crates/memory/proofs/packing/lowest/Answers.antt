use Rattle.std.proofs.Common.{◌≡◌, ℕ, ◌+◌, ◌<◌, length, get_or, sym, ap, ◌∙◌, subst, arith, rules, Option, None, MatchOption}
use Rattle.kernels.proofs.Feeding.{get_d_any}
use Rattle.memory.specs.Spans.{high_of}
use Rattle.memory.proofs.Finding.{Under, First, best_takes, best_keeps, best_told}
use Rattle.memory.proofs.packing.lowest.Goals as goal
use Rattle.memory.proofs.packing.lowest.Goals.{then-to-high+then-is_none_or, else-to-high, else-to-high-via-then-to-high+else-is_none_or, else-to-high-via-else-to-high}

pub loop-k-preserved : goal.loop-k-preserved
loop-k-preserved c =
    let t = c.args.names.now in
    let to = c.args.to in
    let k = c.loop-k.k in
    let x = c.high_of-high.result in
    let there : k < length t = omega arith in
    let is : x ≡ high_of (get_or t k None) = c.high_of-high.ensures ∙ ap high_of (get_d_any t k c.index-names-k.result None there) in
    let takes = best_takes t to k x is c.loop-k.best c.loop-k.invariant in
    let keeps = best_keeps t to k x is c.loop-k.best c.loop-k.invariant in
    let Next = λ (b : Option (ℕ × ℕ)). MatchOption b (Under t to (k + 1)) (First t to (k + 1)) in
    elim c.if-to-high.branch [
      | then-to-high+then-is_none_or w ↦ subst Next (sym w.best-is) (takes (λ p e. search rules) w.if-to-high.true)
      | else-to-high w ↦ elim w.else-to-high.branch [
        | else-to-high-via-then-to-high+else-is_none_or v ↦ subst Next (sym w.best-is) (keeps (λ l e. search rules) (λ l p e. search rules))
        | else-to-high-via-else-to-high v ↦ subst Next (sym w.best-is) (keeps (λ l e. omega (arith, v.if-to-high.false)) (λ l p e. absurd (omega (arith, v.if-to-high.false))))
      ]
    ]

pub returns : goal.returns
returns c = best_told c.args.names.now c.args.to c.loop-k.k (omega arith) (omega arith) c.loop-k.best c.map.result c.loop-k.invariant (λ e. search rules) (λ p e. search rules)
