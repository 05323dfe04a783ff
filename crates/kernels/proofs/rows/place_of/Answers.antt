use Rattle.std.proofs.Common.{◌≡◌, ℕ, suc, ◌+◌, ◌-◌, ◌/◌, ◌%◌, ◌<◌, List, [], ◌∷◌, ◌++◌, length, get_or, take, drop, sym, refl, ap, ◌∙◌, subst, ap₂, append_assoc, arith, length-set, length-take, get_or-take}
use Rattle.std.proofs.lemmas.Nat.{mod_below}
use Rattle.std.proofs.lemmas.List.{drop_all, take_all, take_more, length-take-le, append-nil}
use Rattle.semantics.specs.Shapes.{size, unflat}
use Rattle.encoding.specs.ShapeOf.{shape_of}
use Rattle.views.proofs.Rows.{drop_take_set}
use Rattle.kernels.proofs.Numbering.{last_some, unflat_last, rest_below}
use Rattle.kernels.proofs.rows.place_of.Goals as goal

pub loop-k-init : goal.loop-k-init
loop-k-init c =
    let w = shape_of c.args.shape in
    let r = c.args.shape.rank in
    let n = c.args.number in
    let zeros : List ℕ = 0 ∷ 0 ∷ 0 ∷ 0 ∷ 0 ∷ 0 ∷ 0 ∷ 0 ∷ [] in
    let all : take r w ≡ w = take_all r w (omega (arith, length-take r c.args.shape.lens)) in
    let none : drop r (take r zeros) ≡ [] = drop_all r (take r zeros) (omega (arith, length-take r zeros)) in
    (subst (λ s. n < size s) (sym all) c.requires, sym (ap₂ (λ s v. unflat s n ++ v) all none ∙ append-nil (unflat w n)), refl)

-- the last of the axes that are left
axes : (c : goal.After-len-1) → take c.loop-k.k (shape_of c.args.shape) ≡ take (c.loop-k.k - 1) (shape_of c.args.shape) ++ get_or c.args.shape.lens (c.loop-k.k - 1) 0 ∷ []
axes c =
    let w = shape_of c.args.shape in
    let p = c.loop-k.k - 1 in
    let r = c.args.shape.rank in
    let next : p + 1 ≡ c.loop-k.k = omega arith in
    let low : p < r = omega arith in
    let long = length-take-le r c.args.shape.lens (omega arith) in
    ap (λ k. take k w) (sym next) ∙ (take_more w p 0 (omega arith) ∙ ap (λ d. take p w ++ d ∷ []) (get_or-take r c.args.shape.lens p 0 low))

below : (c : goal.After-len-1) → c.loop-k.rest < size (take (c.loop-k.k - 1) (shape_of c.args.shape) ++ get_or c.args.shape.lens (c.loop-k.k - 1) 0 ∷ [])
below c = subst (λ s. c.loop-k.rest < size s) (axes c) c.loop-k.invariant.0

pub nonzero_rem-place : goal.nonzero_rem-place
nonzero_rem-place c = last_some _ _ _ (below c)

pub overflow_cast-place : goal.overflow_cast-place
overflow_cast-place c =
    let some = last_some _ _ _ (below c) in
    record { fits = omega (arith, mod_below c.loop-k.rest (get_or c.args.shape.lens (c.loop-k.k - 1) 0) some) }

pub nonzero_div-rest : goal.nonzero_div-rest
nonzero_div-rest c = last_some _ _ _ (below c)

pub loop-k-preserved : goal.loop-k-preserved
loop-k-preserved c =
    let w = shape_of c.args.shape in
    let p = c.loop-k.k - 1 in
    let r = c.args.shape.rank in
    let d = get_or c.args.shape.lens p 0 in
    let rest = c.loop-k.rest in
    let place = c.loop-k.place in
    let t = take p w in
    let next : c.loop-k.k ≡ suc p = omega arith in
    let low : p < r = omega arith in
    let there : p < length place = omega arith in (
      rest_below t d rest (below c),
      c.loop-k.invariant.1
          ∙ (ap₂ (λ s k. unflat s rest ++ drop k (take r place)) (axes c) next
          ∙ (ap (λ is. is ++ drop (suc p) (take r place)) (unflat_last t d rest (below c))
          ∙ (append_assoc (unflat t (rest / d)) (rest % d ∷ []) (drop (suc p) (take r place)) ∙ ap (λ v. unflat t (rest / d) ++ v) (sym (drop_take_set r p place (rest % d) low there))))),
      simp length-set c.loop-k.invariant.2,
    )

pub returns : goal.returns
unfolding unflat
returns c =
    let w = shape_of c.args.shape in
    let none : c.loop-k.k ≡ 0 = omega arith in
    sym (c.loop-k.invariant.1 ∙ ap (λ k. unflat (take k w) c.loop-k.rest ++ drop k (take c.args.shape.rank c.loop-k.place)) none)
