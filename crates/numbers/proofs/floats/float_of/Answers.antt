use Rattle.numbers.proofs.floats.float_of.Goals as goal

pub returns : goal.returns
returns c = record { is = c.f64_from_bits_with_nan.ensures }
