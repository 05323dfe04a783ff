use Rattle.std.proofs.Common.{◌≡◌, ℕ, ◌+◌, ◌<◌, ◌≤◌, Bool, true, false, ◌&&◌, List, length, get_or, drop, sym, ap, ◌∙◌, arith}
use Rattle.std.proofs.lemmas.List.{length-take-le, get_or-take}
use Rattle.semantics.specs.Parts.{in_part, in_parts}
use Rattle.reference.specs.declared.place.Place.{Place}
use Rattle.semantics.specs.declared.slice.Slice.{Slice}
use Rattle.reference.specs.IndicesOf.{indices_of}
use Rattle.semantics.specs.Slices.{part_of, parts_of}
use Rattle.reference.proofs.Slicing.{stepping_at, in_drop, in_end}
use Rattle.reference.proofs.slices.in_slices.Goals as goal

-- what a read of no slice would give
abbrev none : Slice
none = record { from = 0; backward = false; step = 0; many = 0 }

module _ (xs : List Slice) (p : Place) (k : ℕ) (b : Bool) (long : p.rank ≤ length p.indices) (axes : length xs ≤ length (indices_of p)) (more : k < length xs) (e : b ≡ in_part (part_of (get_or xs k none)) (get_or p.indices k 0)) where
  one_more : in_parts (parts_of (drop k xs)) (drop k (indices_of p)) ≡ (b && in_parts (parts_of (drop (k + 1) xs)) (drop (k + 1) (indices_of p)))
  one_more =
      let l : length (indices_of p) ≡ p.rank = length-take-le p.rank p.indices long in
      let f = ap (λ i. in_part (part_of (get_or xs k none)) i) (get_or-take p.rank p.indices k 0 (omega arith)) ∙ sym e in
      in_drop none xs (indices_of p) k more (omega arith) ∙ ap (λ c. c && in_parts (parts_of (drop (k + 1) xs)) (drop (k + 1) (indices_of p))) f

pub in_slice-requires : goal.in_slice-requires
in_slice-requires c = record { step = stepping_at none c.args.slices.now c.loop-k.k c.requires.steps c.loop-k-test.true }

pub loop-k-preserved : goal.loop-k-preserved
loop-k-preserved c =
    sym (one_more c.args.slices.now c.args.place.now c.loop-k.k true (omega arith) c.requires.axes c.loop-k-test.true c.if-not-in_slice.ensures) ∙ c.loop-k.invariant

pub returns-then-not-in_slice : goal.returns-then-not-in_slice
returns-then-not-in_slice c =
    sym (one_more c.args.slices.now c.args.place.now c.loop-k.k false (omega arith) c.requires.axes c.loop-k-test.true c.if-not-in_slice.ensures) ∙ c.loop-k.invariant

pub returns : goal.returns
returns c = sym (in_end none c.args.slices.now (indices_of c.args.place.now) c.loop-k.k c.loop-k-test.false) ∙ c.loop-k.invariant
