-- A place by value stands for its first `rank` indices.
use Rattle.std.specs.Prelude.{ℕ, List, take}
use Rattle.reference.specs.declared.place.Place.{Place}

abbrev pub indices_of : Place → List ℕ
indices_of p = take p.rank p.indices
