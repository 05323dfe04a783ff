-- Texts and what the automaton answers.
use Rattle.std.specs.Prelude.{◌≡◌, [], ◌∷◌, codes}
use Rattle.program.specs.declared.step.Step.{Step}
use Rattle.grammar.specs.Automaton.{answer_to, took, refused_7, refused_8}

pub record TextExamples : Type 0 where
  -- no statements; a newline is no line
  pub empty : answer_to [] ≡ took []
  pub newline : answer_to (codes "\n") ≡ refused_7 0
  -- an again without lines; the last newline may be left out, and is not there twice
  pub hollow : answer_to (codes "again 3\nend") ≡ took (Step.Again 3 ∷ Step.End ∷ [])
  pub twice : answer_to (codes "show a\n\n") ≡ refused_7 7
  pub stray : answer_to (codes "show a\nend") ≡ refused_7 7
  -- brackets with and without items
  pub brackets : answer_to (codes "show shape [](turn [0, 1](in 0))\n") ≡ took (Step.Show ∷ Step.Shape ∷ Step.Turn ∷ Step.Item 0 ∷ Step.Item 1 ∷ Step.Input 0 ∷ [])
  -- names: a reserved word goes on as a name, the ninth byte does not, a reserved word is none
  pub longer : answer_to (codes "show iff") ≡ took (Step.Show ∷ Step.Name 0 ∷ [])
  pub ninth : answer_to (codes "show abcdefghi") ≡ refused_7 13
  pub reserved_name : answer_to (codes "put in [] = a") ≡ refused_7 6
  -- numbers: below 2^32, no leading zero; a text that stops too soon
  pub large : answer_to (codes "show in 4294967296") ≡ refused_7 17
  pub leading : answer_to (codes "show in 00") ≡ refused_7 9
  pub soon : answer_to (codes "show neg") ≡ refused_7 8
  -- patterns of no number are one
  pub patterns : answer_to (codes "show #7ff0000000000000\nshow #fff000000000000a") ≡ took (Step.Show ∷ Step.Constant 0x7ff0000000000000 ∷ Step.Show ∷ Step.Constant 0x7ff8000000000000 ∷ [])
  -- the ninth again in another is too much at its first byte
  pub ninth_again : answer_to (codes "again 1\nagain 1\nagain 1\nagain 1\nagain 1\nagain 1\nagain 1\nagain 1\nagxx") ≡ refused_8 64
