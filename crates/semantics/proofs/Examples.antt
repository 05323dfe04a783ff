-- The examples come out as written: they compute.
use Rattle.std.proofs.Common.{refl}
use Rattle.semantics.specs.Examples.{examples, AllComeOut, ExamplesComeOut}

pub examples_come_out : ExamplesComeOut
unfolding examples AllComeOut
examples_come_out =
    ((refl, refl), ((refl, refl), ((refl, refl), ((refl, refl), ((refl, refl), ((refl, refl), ((refl, refl), ((refl, refl), tt))))))))
