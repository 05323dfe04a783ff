-- How long shapes and places by value are.
use Rattle.std.proofs.Common.{◌≤◌, length, arith, length-take}
use Rattle.encoding.specs.declared.shape.Shape.{Shape}
use Rattle.encoding.specs.ShapeOf.{shape_of}
use Rattle.reference.specs.declared.place.Place.{Place}
use Rattle.reference.specs.IndicesOf.{indices_of}

pub shape_few : (s : Shape) → length (shape_of s) ≤ 8
shape_few s = let few = s.few in omega (arith, length-take s.rank s.lens)

pub indices_few : (p : Place) → length (indices_of p) ≤ 8
indices_few p = let few = p.few in omega (arith, length-take p.rank p.indices)
