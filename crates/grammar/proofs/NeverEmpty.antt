-- A sound state always tells something: whatever has begun can be ended.
use Rattle.std.proofs.Common.{◌≡◌, ℕ, zero, suc, ◌≤◌, false, List, [], ◌∷◌, ◌++◌, length, get_or, decimal, sym, refl, ap, ◌∙◌, subst, ⊎_elim, arith}
use Rattle.std.proofs.lemmas.Bool.{or_cases}
use Rattle.semantics.specs.Values.{input}
use Rattle.semantics.specs.declared.operation.Binary.TheVariants.{Add}
use Rattle.program.specs.declared.step.Step.{Step}
use Rattle.grammar.specs.Letters.{Letter, letter, begins, plain, plains, flagged}
use Rattle.grammar.specs.Words.{Word, are_names, begins_some, head_word, heads, binary_word, binaries}
use Rattle.grammar.specs.Sayable.{Comes, known, new, Fits, fit_name, fit_input, fit_count, fit_each, fit_both, fit_choose, fit_fold, fit_scan, fit_shape, fit_turn, fit_part, fit_join, fit_rows, fit_end, Sixteen, Digits, none, more}
use Rattle.grammar.specs.Written.{write_expr, write_items}
use Rattle.grammar.specs.Moves.{viable, viable_name}
use Rattle.grammar.specs.Automaton.{State, at}
use Rattle.grammar.specs.declared.symbol.Head.{Head}
use Rattle.grammar.specs.declared.symbol.Target.{Target}
use Rattle.grammar.specs.declared.symbol.Bracket.{Bracket}
use Rattle.grammar.specs.declared.symbol.Number.{Number}
use Rattle.grammar.specs.declared.symbol.Symbol.{Symbol}
use Rattle.grammar.specs.Automaton.{onto}
use Rattle.grammar.proofs.WordLaws.{begins_some_is}
use Rattle.grammar.proofs.ExprAlong.{Spellings}
use Rattle.grammar.proofs.EndsBack.{Front, append_nil}
use Rattle.grammar.proofs.Says.{Says, SaysAll, says_none, says_next, Follows, an_input, a_count, an_axis, a_join, an_again, an_item, a_from, a_step, a_many, says_lines, says_body, says_byte, says_let, says_put, says_expr, says_word, says_binary, says_number, says_digits, says_hex, says_close, says_more, says_first_items, says_first_parts, says_more_items, says_more_parts, says_item, says_part, says_step, W}
use Rattle.grammar.proofs.Sound.{Fresh, fresh_lines, fresh_body, fresh_byte, fresh_target, fresh_expr, fresh_binary, fresh_number, fresh_hex, fresh_operands, fresh_first, fresh_more, fresh_item, fresh_step, AllFresh, Sound, sound_fresh, sound_target, sound_word, sound_binary, sound_digits, sound_hex, SoundAll, sound_none, sound_more, SoundState, sound_stuck, sound_at}
use Rattle.grammar.proofs.Fuller.{name_for}
use Rattle.grammar.proofs.Tells.{Tells, tells}

-- what a symbol may say, before any letters and steps
record Said (ms : List Word) (s : Symbol) (w : Word) (v n m : ℕ) (g : List Letter) (b : List Step) : Type 0 where
  letters : List Letter
  steps : List Step
  says : Says ms s w v n m letters g steps b

record Can (ms : List Word) (s : Symbol) (w : Word) (v n : ℕ) : Type 0 where
  after : ℕ
  within : after ≤ length ms
  said : (g : List Letter) (b : List Step) → Said ms s w v n after g b

-- any expression can be `in 0`
nought : W
nought = input 0

nought_fits : {n : ℕ} → Fits Sixteen nought n n
unfolding nought
nought_fits = fit_input (omega arith)

-- what may follow a number
record Followed (ms : List Word) (p : Number) (k n : ℕ) (g : List Letter) (b : List Step) : Type 0 where
  letters : List Letter
  steps : List Step
  follows : Follows ms p k n n letters g steps b

followed : (ms : List Word) (p : Number) (k n : ℕ) (g : List Letter) (b : List Step) → Followed ms p k n g b
followed ms Number.Input k n g b = record { letters = _; steps = _; follows = an_input }
followed ms Number.Count k n g b = record { letters = _; steps = _; follows = a_count }
followed ms (Number.Along a t) k n g b = record { letters = _; steps = _; follows = an_axis nought_fits }
followed ms Number.Join k n g b = record { letters = _; steps = _; follows = a_join nought_fits nought_fits }
followed ms Number.Again k n g b = record { letters = _; steps = _; follows = an_again fit_end }
followed ms Number.Item k n g b = record { letters = _; steps = _; follows = an_item }
followed ms Number.From k n g b = record { letters = _; steps = _; follows = a_from {s = 0} {m = 0} {c = false} (omega arith) (omega arith) }
followed ms (Number.Step f c) k n g b = record { letters = _; steps = _; follows = a_step {m = 0} (omega arith) }
followed ms (Number.Many f c s) k n g b = record { letters = _; steps = _; follows = a_many }

zeros : ℕ → List ℕ
zeros zero = []
zeros (suc n) = 0 ∷ zeros n

zeros_digits : (n : ℕ) → Digits (zeros n)
unfolding zeros
zeros_digits zero = none
zeros_digits (suc n) = more (omega arith) (zeros_digits n)

length_zeros : (n : ℕ) → length (zeros n) ≡ n
unfolding zeros
length_zeros zero = refl
length_zeros (suc n) = ap suc (length_zeros n)

hex_can : (ms : List Word) (i : ℕ) (w : Word) (v n : ℕ) → n ≤ length ms → Can ms (Symbol.Hex i) w v n
hex_can ms i w v n l = record { after = n; within = l; said = λ g b. subst (λ k. Said ms (Symbol.Hex k) w v n n g b) (length_zeros i) (record { letters = _; steps = _; says = says_hex (zeros_digits i) }) }

operands_said : (ms : List Word) (i : ℕ) (n : ℕ) (g : List Letter) (b : List Step) → Said ms (Symbol.Operands i) [] 0 n n g b
operands_said ms zero n g b = record { letters = _; steps = _; says = says_close }
operands_said ms (suc i) n g b = let k = operands_said ms i n g b in record { letters = _; steps = _; says = says_more nought_fits k.says }

-- a name that comes anyhow
some_name : (ms : List Word) (n : ℕ) → 1 ≤ length ms → n ≤ length ms → (m : ℕ) × (m ≤ length ms) × Comes 0 n m
some_name ms zero l h = (1, l, new)
some_name ms (suc n) l h = (suc n, h, known (omega arith))

target_can : (ms : List Word) (x : Target) (w u : Word) (k n m : ℕ) → m ≤ length ms → Comes k n m → get_or ms k [] ≡ w ++ u → Can ms (Symbol.Target x) w 0 n
target_can ms Target.Let w u k n m l c e = record { after = m; within = l; said = λ g b. record { letters = _; steps = _; says = says_let u c e nought_fits } }
target_can ms Target.Put w u k n m l c e = record { after = m; within = l; said = λ g b. record { letters = _; steps = _; says = says_put u c e none nought_fits } }

fresh_can : (ms : List Word) (n : ℕ) {s : Symbol} → 1 ≤ length ms → n ≤ length ms → Fresh s → Can ms s [] 0 n
fresh_can ms n l h fresh_lines = record { after = n; within = h; said = λ g b. record { letters = _; steps = _; says = says_lines fit_end } }
fresh_can ms n l h fresh_body = record { after = n; within = h; said = λ g b. record { letters = _; steps = _; says = says_body fit_end } }
fresh_can ms n l h fresh_byte = record { after = n; within = h; said = λ g b. record { letters = _; steps = _; says = says_byte } }
fresh_can ms n l h (fresh_target {x}) = let k = some_name ms n l h in target_can ms x [] (get_or ms 0 []) 0 n k.0 k.1 k.2 refl
fresh_can ms n l h fresh_expr = record { after = n; within = h; said = λ g b. record { letters = _; steps = _; says = says_expr nought_fits } }
fresh_can ms n l h fresh_binary = record { after = n; within = h; said = λ g b. record { letters = _; steps = _; says = says_binary (binary_word Add) {k = 0} Add refl (omega arith) nought_fits } }
fresh_can ms n l h (fresh_number {p}) = record { after = n; within = h; said = λ g b. let k = followed ms p 0 n g b in record { letters = _; steps = _; says = says_number (omega arith) k.follows } }
fresh_can ms n l h (fresh_hex {n = i} j) = hex_can ms i [] 0 n h
fresh_can ms n l h (fresh_operands {n = i}) = record { after = n; within = h; said = λ g b. operands_said ms i n g b }
fresh_can ms n l h (fresh_first {k = Bracket.Numbers}) = record { after = n; within = h; said = λ g b. record { letters = _; steps = _; says = says_first_items none } }
fresh_can ms n l h (fresh_first {k = Bracket.Parts}) = record { after = n; within = h; said = λ g b. record { letters = _; steps = _; says = says_first_parts none } }
fresh_can ms n l h (fresh_more {k = Bracket.Numbers}) = record { after = n; within = h; said = λ g b. record { letters = _; steps = _; says = says_more_items none } }
fresh_can ms n l h (fresh_more {k = Bracket.Parts}) = record { after = n; within = h; said = λ g b. record { letters = _; steps = _; says = says_more_parts none } }
fresh_can ms n l h (fresh_item {k = Bracket.Numbers}) = record { after = n; within = h; said = λ g b. record { letters = _; steps = _; says = says_item {k = 0} (omega arith) } }
fresh_can ms n l h (fresh_item {k = Bracket.Parts}) = record { after = n; within = h; said = λ g b. record { letters = _; steps = _; says = says_part {p = record { from = 0; backward = false; step = 0; many = 0 }} (record { from_small = omega arith; step_small = omega arith; many_small = omega arith }) } }
fresh_can ms n l h fresh_step = record { after = n; within = h; said = λ g b. record { letters = _; steps = _; says = says_step {s = 0} {m = 0} {c = false} (omega arith) (omega arith) } }

-- a stack
record AllSaid (ms : List Word) (s : List Symbol) (w : Word) (v n : ℕ) : Type 0 where
  used : ℕ
  within : used ≤ length ms
  letters : List Letter
  steps : List Step
  says : SaysAll ms s w v n used letters steps

all_said : (ms : List Word) (n : ℕ) {s : List Symbol} → 1 ≤ length ms → n ≤ length ms → AllFresh s → AllSaid ms s [] 0 n
all_said ms n l h Rattle.grammar.proofs.Sound.none = record { used = n; within = h; letters = []; steps = []; says = says_none }
all_said ms n l h (Rattle.grammar.proofs.Sound.more f r) =
    let c = fresh_can ms n l h f in
    let k = all_said ms c.after l c.within r in
    let d = c.said k.letters k.steps in
    record { used = k.used; within = k.within; letters = d.letters; steps = d.steps; says = says_next d.says k.says }

-- the topmost symbol, with spellings chosen for it
record Chosen (ns : List Word) (s : Symbol) (w : Word) (v : ℕ) : Type 0 where
  names : List Word
  spellings : Spellings names
  front : Front ns names
  some : 1 ≤ length names
  can : Can names s w v (length ns)

-- the names that have come, or one if there are none
record Room (ns : List Word) : Type 0 where
  names : List Word
  spellings : Spellings names
  front : Front ns names
  some : 1 ≤ length names
  enough : length ns ≤ length names

room : (ns : List Word) → Spellings ns → Room ns
unfolding are_names
room [] sp = record { names = (97 ∷ []) ∷ []; spellings = record { are = refl; few = omega arith }; front = record { behind = (97 ∷ []) ∷ []; is = refl }; some = omega arith; enough = omega arith }
room (n ∷ ns) sp = record { names = n ∷ ns; spellings = sp; front = record { behind = []; is = sym (append_nil (n ∷ ns)) }; some = omega arith; enough = omega arith }

-- an expression that begins with a word of the language
record Headed (ms : List Word) (h : Head) (n : ℕ) (g : List Letter) : Type 0 where
  expr : W
  fits : Fits Sixteen expr n n
  rest : List Letter
  is : write_expr ms expr g ≡ flagged begins (head_word h) rest

headed : (ms : List Word) (h : Head) (n : ℕ) (g : List Letter) → Headed ms h n g
unfolding write_expr head_word flagged plains write_items
headed ms Head.In n g = record { expr = _; fits = fit_input {k = 0} (omega arith); rest = _; is = refl }
headed ms Head.Count n g = record { expr = _; fits = fit_count {k = 0} (omega arith); rest = _; is = refl }
headed ms (Head.Each k) n g = record { expr = _; fits = fit_each {k = k} nought_fits; rest = _; is = refl }
headed ms (Head.Both k) n g = record { expr = _; fits = fit_both {k = k} nought_fits nought_fits; rest = _; is = refl }
headed ms Head.Choose n g = record { expr = _; fits = fit_choose nought_fits nought_fits nought_fits; rest = _; is = refl }
headed ms Head.Fold n g = record { expr = _; fits = fit_fold {k = Add} {x = 0} (omega arith) nought_fits; rest = _; is = refl }
headed ms Head.Scan n g = record { expr = _; fits = fit_scan {k = Add} {x = 0} (omega arith) nought_fits; rest = _; is = refl }
headed ms Head.Shape n g = record { expr = _; fits = fit_shape none nought_fits; rest = _; is = refl }
headed ms Head.Turn n g = record { expr = _; fits = fit_turn none nought_fits; rest = _; is = refl }
headed ms Head.Part n g = record { expr = _; fits = fit_part none nought_fits; rest = _; is = refl }
headed ms Head.Join n g = record { expr = _; fits = fit_join {x = 0} (omega arith) nought_fits nought_fits; rest = _; is = refl }
headed ms Head.Rows n g = record { expr = _; fits = fit_rows nought_fits nought_fits; rest = _; is = refl }

flagged_append : (w u : Word) (r : List Letter) → 1 ≤ length w → flagged begins (w ++ u) r ≡ flagged begins w (plains u r)
unfolding flagged
flagged_append [] u r l = absurd (omega arith)
flagged_append (b ∷ w) u r l = ap {B = List Letter} (λ y. letter begins b ∷ y) (plains_append w)
  where
    plains_append : (w : Word) → plains (w ++ u) r ≡ plains w (plains u r)
    plains_append [] = refl
    plains_append (c ∷ w) = ap {B = List Letter} (λ y. plain c ∷ y) (plains_append w)

head_can : (ms : List Word) (w u : Word) (h : Head) (n : ℕ) → 1 ≤ length w → n ≤ length ms → head_word h ≡ w ++ u → Can ms Symbol.Word w 0 n
head_can ms w u h n l i e =
    record {
      after = n;
      within = i;
      said = λ g b.
          let k = headed ms h n g in
          record { letters = plains u k.rest; steps = _; says = says_word k.fits (k.is ∙ ap (λ y. flagged begins y k.rest) e ∙ flagged_append w u k.rest l) };
    }

name_can : (ms : List Word) (w u : Word) (k n m : ℕ) → 1 ≤ length w → m ≤ length ms → Comes k n m → get_or ms k [] ≡ w ++ u → Can ms Symbol.Word w 0 n
unfolding write_expr
name_can ms w u k n m l i c e =
    record { after = m; within = i; said = λ g b. record { letters = plains u g; steps = _; says = says_word (fit_name c) (ap (λ y. flagged begins y g) e ∙ flagged_append w u g l) } }

comes_some : {k n m : ℕ} (l : ℕ) → Comes k n m → m ≤ l → 1 ≤ l
comes_some l (known h) i = omega arith
comes_some l new i = omega arith

chosen : {ns : List Word} {s : Symbol} {w : Word} {v : ℕ} → Spellings ns → Sound ns s w v → Chosen ns s w v
unfolding viable
chosen {ns} sp (sound_fresh h) =
    let r = room ns sp in
    record { names = r.names; spellings = r.spellings; front = r.front; some = r.some; can = fresh_can r.names (length ns) r.some r.enough h }
chosen {ns} {w = w} sp (sound_target {x = x} h) =
    let r = name_for w sp h in
    record { names = r.names; spellings = r.spellings; front = r.front; some = comes_some _ r.comes r.within; can = target_can r.names x w r.rest r.number (length ns) r.after r.within r.comes r.spelled }
chosen {ns} {w = w} sp (sound_word l h) =
    ⊎_elim
    (λ e.
    let r = room ns sp in
    let k = begins_some_is head_word heads w e in
    record { names = r.names; spellings = r.spellings; front = r.front; some = r.some; can = head_can r.names w k.2 k.0 (length ns) l r.enough k.3 })
    (λ e.
    let r = name_for w sp e in
    record { names = r.names; spellings = r.spellings; front = r.front; some = comes_some _ r.comes r.within; can = name_can r.names w r.rest r.number (length ns) r.after l r.within r.comes r.spelled })
    (or_cases (begins_some head_word heads w) (viable_name ns w) h)
chosen {ns} {w = w} sp (sound_binary h) =
    let r = room ns sp in
    let k = begins_some_is binary_word binaries w h in
    record { names = r.names; spellings = r.spellings; front = r.front; some = r.some; can = record { after = length ns; within = r.enough; said = λ g b. record { letters = _; steps = _; says = says_binary k.2 {k = 0} k.0 k.3 (omega arith) nought_fits } } }
chosen {ns} {v = v} sp (sound_digits {p = p} h) =
    let r = room ns sp in
    record { names = r.names; spellings = r.spellings; front = r.front; some = r.some; can = record { after = length ns; within = r.enough; said = λ g b. let k = followed r.names p v (length ns) g b in record { letters = _; steps = _; says = says_digits [] h (sym (append_nil (decimal v))) k.follows } } }
chosen {ns} {v = v} sp (sound_hex {n = i} h) =
    let r = room ns sp in
    record { names = r.names; spellings = r.spellings; front = r.front; some = r.some; can = hex_can r.names i [] v (length ns) r.enough }

-- what a state tells
pub record Told (q : State) : Type 0 where
  pub letters : List Letter
  pub steps : List Step
  pub told : Tells q letters steps

pub never_empty : (ns : List Word) (o : List Step) (s : List Symbol) (w : Word) (v : ℕ) → Spellings ns → SoundAll ns s w v → Told (at ns o s w v)
never_empty ns o [] w v sp sound_none =
    let r = room ns sp in
    record { letters = []; steps = onto o []; told = tells r.spellings r.front says_none r.enough refl }
never_empty ns o (s ∷ rest) w v sp (sound_more h r) =
    let c = chosen sp h in
    let k = all_said c.names c.can.after c.some c.can.within r in
    let d = c.can.said k.letters k.steps in
    record { letters = d.letters; steps = onto o d.steps; told = tells c.spellings c.front (says_next d.says k.says) k.within refl }
