use Rattle.std.proofs.Common.{◌≡◌, ℕ, [], ◌∷◌, drop, replicate, sym, refl, ap, subst, arith}
use Rattle.std.proofs.lemmas.List.{length-replicate, drop-replicate}
use Rattle.std.proofs.lemmas.Bool.{false≢true}
use Rattle.grammar.specs.declared.symbol.Symbol.{Symbol}
use Rattle.grammar.specs.Words.{are_names}
use Rattle.grammar.specs.Automaton.{at, start}
use Rattle.reader.specs.declared.names.Span.{Span}
use Rattle.reader.specs.Names.{spellings}
use Rattle.reader.specs.Machines.{state_of, none, Fits, over}
use Rattle.reader.proofs.judging.reading.fresh_machine.Goals as goal

pub returns : goal.returns
unfolding state_of spellings start are_names
returns c =
    let last : drop 2111 (replicate 2112 Symbol.Lines) ≡ Symbol.Lines ∷ [] = drop-replicate 2111 2112 Symbol.Lines in
    record {
      good =
          record {
            few = omega arith;
            wide = length-replicate 2112 Symbol.Lines;
            spans = length-replicate {A = Span} 64 (record { from = 0; to = 0 });
            begun = omega arith;
            deep = omega arith;
            room = omega arith;
            fits = subst (λ ss. Fits ss 0) (sym last) (over tt none);
          };
      is = λ t. ap (λ ss. at [] [] ss [] 0) last;
      hinted = λ t. record { slots = length-replicate {A = ℕ} 256 0; named = refl; shape = λ e. absurd (false≢true e) };
    }
