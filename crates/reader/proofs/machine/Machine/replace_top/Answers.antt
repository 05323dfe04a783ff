use Rattle.std.proofs.Common.{length, refl}
use Rattle.reader.proofs.Replacing.{replaced_is}
use Rattle.reader.proofs.machine.Machine.replace_top.Goals as goal

pub returns : goal.returns
returns c =
    let m = c.args.self.now in
    record {
      down = replaced_is m.stack c.copy_from_slice.new.self c.args.symbols.now m.top (length c.args.symbols.now) c.requires.room c.requires.there c.copy_from_slice.ensures.after refl;
      names = refl;
      count = refl;
      hints = refl;
      begins = refl;
      value = refl;
      dirty = refl;
    }
