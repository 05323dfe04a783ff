-- What is noted beside the state stays true: hints have their slots, and names are names.
use Rattle.std.proofs.Common.{◌≡◌, ℕ, Bool, true, false, ◌||◌, ltb, List, [], ◌∷◌, ◌++◌, length, take, Some, None, Option, sym, refl, ap, ◌∙◌, subst}
use Rattle.std.proofs.lemmas.Bool.{and_parts, false≢true}
use Rattle.semantics.specs.Shapes.{pick}
use Rattle.semantics.specs.declared.operation.Binary.{Binary as Two}
use Rattle.program.specs.declared.step.Step.{Step}
use Rattle.grammar.specs.declared.symbol.Symbol.{Symbol}
use Rattle.grammar.specs.declared.symbol.Head.{Head}
use Rattle.grammar.specs.declared.symbol.Along.{Along}
use Rattle.grammar.specs.Words.{Word, find, is_some, itself, is_name, are_names, shaped, head_word, heads, binary_word, binaries}
use Rattle.grammar.specs.Moves.{place, with_name, can_name, target_step, target_rest, Ended, no, ended, name_ends, word_ends, binary_ends, ends}
use Rattle.grammar.proofs.NameLaws.{are_names_snoc}
use Rattle.reader.specs.declared.machine.Machine.{Machine}
use Rattle.reader.specs.declared.turn.Ending.{Ending}
use Rattle.reader.specs.Names.{part, spellings}
use Rattle.reader.specs.Turning.{ended_as}
use Rattle.reader.specs.Machines.{Hinted}
use Rattle.reader.proofs.Settling.{names_of, names_more}

-- NAMES STAY NAMES

data NamedEnd : Ended → Type 0 where
  unended : NamedEnd no
  ending : {ns : List Word} {es : List Step} {t : List Symbol} → are_names ns ≡ true → NamedEnd (ended ns es t)

picked_named : (x : Bool) (e : Ended) → (x ≡ true → NamedEnd e) → NamedEnd (pick x e no)
picked_named true e h = h refl
picked_named false e h = unended

module _ (ns : List Word) (named : are_names ns ≡ true) where
  named_with : (x : Bool) (w : Word) → is_some itself ns w ≡ x → is_name w ≡ true → are_names (pick x ns (ns ++ w ∷ [])) ≡ true
  named_with true w e is = named
  named_with false w e is = are_names_snoc ns w named is e

  named_names : (w : Word) → can_name ns w ≡ true → are_names (with_name ns w) ≡ true
  unfolding can_name with_name
  named_names w e = named_with (is_some itself ns w) w refl (and_parts (is_name w) (is_some itself ns w || ltb (length ns) 64) e).0

  name_named : (w : Word) (step : ℕ → Step) (t : List Symbol) → NamedEnd (name_ends ns w step t)
  unfolding name_ends
  name_named w step t = picked_named (can_name ns w) (ended (with_name ns w) (step (place ns w) ∷ []) t) (λ e. ending (named_names w e))

  word_named : (w : Word) (o : Option Head) → NamedEnd (word_ends ns w o)
  unfolding word_ends
  word_named w (Some h) = ending named
  word_named w None = name_named w (λ k. Step.Name k) []

  binary_named : (a : Along) (o : Option Two) → NamedEnd (binary_ends ns a o)
  unfolding binary_ends
  binary_named a (Some k) = ending named
  binary_named a None = unended

  ends_named : (s : Symbol) (w : Word) (v : ℕ) → NamedEnd (ends ns s w v)
  unfolding ends
  ends_named Symbol.Lines w v = unended
  ends_named Symbol.Body w v = unended
  ends_named (Symbol.Byte c) w v = unended
  ends_named (Symbol.Target x) w v = name_named w (λ k. target_step x k) (target_rest x)
  ends_named Symbol.Expr w v = unended
  ends_named Symbol.Word w v = word_named w (find head_word heads w)
  ends_named (Symbol.Binary a) w v = binary_named a (find binary_word binaries w)
  ends_named (Symbol.Number p) w v = unended
  ends_named (Symbol.Digits p) w v = ending named
  ends_named (Symbol.Hex n) w v = unended
  ends_named (Symbol.Operands n) w v = unended
  ends_named (Symbol.First k) w v = unended
  ends_named (Symbol.More k) w v = unended
  ends_named (Symbol.Item k) w v = unended
  ends_named (Symbol.Step f) w v = unended

named_after : {ns : List Word} {es : List Step} {p : List Symbol} → NamedEnd (ended ns es p) → are_names ns ≡ true
named_after (ending named) = named

-- THE MACHINE'S NOTES

-- where names and hints are as they were
pub hinted_same : (t : List ℕ) (i j : ℕ) (m new : Machine) → Hinted t i m → new.names ≡ m.names → new.count ≡ m.count → new.hints ≡ m.hints → (new.clean ≡ true → shaped (part t new.word j) ≡ true) → Hinted t j new
hinted_same t i j m new hinted names count hints shape =
    let same : names_of t new ≡ names_of t m = ap (λ n. spellings t (take n new.names)) count ∙ ap (λ ns. spellings t (take m.count ns)) names in
    record { slots = ap length hints ∙ hinted.slots; named = ap are_names same ∙ hinted.named; shape = shape }

pub never : {A : Type 0} → false ≡ true → A
never e = absurd (false≢true e)

-- where a word or number has ended
pub hinted_new : (t : List ℕ) (i : ℕ) (m new : Machine) (s : Symbol) (x : Ending) → Hinted t i m
    → ended_as (names_of t m) (part t m.word i) x ≡ ends (names_of t m) s (part t m.word i) m.value
    → take new.count new.names ≡ pick x.named (take m.count m.names ++ record { from = m.word; to = i } ∷ []) (take m.count m.names)
    → length new.hints ≡ length m.hints → new.clean ≡ false → Hinted t i new
hinted_new t i m new s x hinted e names long dirty =
    let all : are_names (pick x.named (names_of t m ++ part t m.word i ∷ []) (names_of t m)) ≡ true = named_after (subst NamedEnd (sym e) (ends_named (names_of t m) hinted.named s (part t m.word i) m.value)) in
    record {
      slots = long ∙ hinted.slots;
      named = ap are_names (names_more t m new i x.named (record { from = m.word; to = i }) refl refl names) ∙ all;
      shape = λ is. never (sym dirty ∙ is);
    }
