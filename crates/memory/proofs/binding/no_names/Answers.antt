use Rattle.std.proofs.Common.{sym, refl}
use Rattle.memory.proofs.Starting.{empty_neat, empty_fill, empty_held, empty_loose, empty_tabled}
use Rattle.memory.proofs.binding.no_names.Goals as goal

pub returns : goal.returns
returns c =
    record {
      neat = empty_neat 64;
      counted = record { many = refl; held = sym (empty_held 64); loose = sym (empty_loose 64) };
      fills = empty_fill 64;
      zero = (refl, refl, refl);
      tabled = λ area bs. empty_tabled area bs 64;
    }
