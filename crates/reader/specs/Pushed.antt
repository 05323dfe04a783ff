-- What a list by value of symbols is.
use Rattle.std.specs.Prelude.{List, take}
use Rattle.grammar.specs.declared.symbol.Symbol.{Symbol}
use Rattle.reader.specs.declared.pushes.Pushes.{Pushes}

abbrev pub symbols_of : Pushes → List Symbol
symbols_of p = take p.len p.at
