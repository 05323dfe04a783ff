-- What a stack can hold: how deep it can be, and how many steps are still to come for the marks that were read. A symbol weighs what
-- it keeps on the stack below its operands; the others are light, and of these there are always few.
use Rattle.std.proofs.Common.{◌≡◌, ℕ, zero, suc, ◌+◌, ◌*◌, ◌≤◌, Bool, true, false, ◌&&◌, eqb, leb, List, [], ◌∷◌, ◌++◌, length, arith}
use Rattle.std.proofs.lemmas.List.{length-append}
use Rattle.std.proofs.lemmas.Bool.{and_parts, leb-true, eqb-true}
use Rattle.semantics.specs.Shapes.{pick}
use Rattle.program.specs.declared.step.Step.{Step}
use Rattle.grammar.specs.declared.symbol.Symbol.{Symbol}
use Rattle.grammar.specs.declared.symbol.Number.{Number}
use Rattle.grammar.specs.Letters.{Flag, inside, begins, opens, closes, Tally, tally_flag}

abbrev pub number_weight : Number → ℕ
number_weight Number.Input = 1
number_weight Number.Count = 1
number_weight (Number.Along a k) = 1
number_weight Number.Join = 1
number_weight Number.Again = 2
number_weight Number.Item = 0
number_weight Number.From = 0
number_weight (Number.Step f b) = 0
number_weight (Number.Many f b s) = 0

abbrev pub weight : Symbol → ℕ
weight Symbol.Lines = 1
weight Symbol.Body = 1
weight (Symbol.Byte c) = pick (eqb c 10) 1 0
weight (Symbol.Target x) = 0
weight Symbol.Expr = 0
weight Symbol.Word = 1
weight (Symbol.Binary a) = 1
weight (Symbol.Number p) = number_weight p
weight (Symbol.Digits p) = number_weight p
weight (Symbol.Hex n) = 1
weight (Symbol.Operands n) = 1
weight (Symbol.First k) = 0
weight (Symbol.More k) = 0
weight (Symbol.Item k) = 0
weight (Symbol.Step f) = 0

-- a symbol without weight
abbrev pub light : ℕ → ℕ
light zero = 1
light (suc n) = 0

-- how many light symbols may stand below a symbol
abbrev pub number_below : Number → ℕ
number_below Number.Input = 0
number_below Number.Count = 0
number_below (Number.Along a k) = 0
number_below Number.Join = 0
number_below Number.Again = 0
number_below Number.Item = 5
number_below Number.From = 5
number_below (Number.Step f b) = 5
number_below (Number.Many f b s) = 5

abbrev pub below : Symbol → ℕ
below Symbol.Lines = 0
below Symbol.Body = 0
below (Symbol.Byte c) = pick (eqb c 10) 0 7
below (Symbol.Target x) = 0
below Symbol.Expr = 0
below Symbol.Word = 0
below (Symbol.Binary a) = 0
below (Symbol.Number p) = number_below p
below (Symbol.Digits p) = number_below p
below (Symbol.Hex n) = 0
below (Symbol.Operands n) = 0
below (Symbol.First k) = 4
below (Symbol.More k) = 4
below (Symbol.Item k) = 5
below (Symbol.Step f) = 5

-- a step that is still to come for a mark that was read
abbrev pub pending : Symbol → ℕ
pending Symbol.Lines = 0
pending Symbol.Body = 0
pending (Symbol.Byte c) = 0
pending (Symbol.Target x) = 1
pending Symbol.Expr = 0
pending Symbol.Word = 1
pending (Symbol.Binary a) = 1
pending (Symbol.Number p) = 1
pending (Symbol.Digits p) = 1
pending (Symbol.Hex n) = 1
pending (Symbol.Operands n) = 0
pending (Symbol.First k) = 0
pending (Symbol.More k) = 0
pending (Symbol.Item k) = 0
pending (Symbol.Step f) = 1

unfoldable pub weights : List Symbol → ℕ
weights [] = 0
weights (s ∷ ss) = weight s + weights ss

unfoldable pub lights : List Symbol → ℕ
lights [] = 0
lights (s ∷ ss) = light (weight s) + lights ss

unfoldable pub pendings : List Symbol → ℕ
pendings [] = 0
pendings (s ∷ ss) = pending s + pendings ss

unfoldable pub Tidy : List Symbol → Type 0
Tidy [] = Unit {0}
Tidy (s ∷ ss) = (lights ss ≤ below s) × Tidy ss

-- symbols that may stand over a stack with so many light ones
unfoldable pub tidy_over : ℕ → List Symbol → Bool
unfolding lights
tidy_over n [] = true
tidy_over n (s ∷ ss) = leb (lights ss + n) (below s) && tidy_over n ss

abbrev pub credit : Flag → ℕ
credit inside = 0
credit begins = 1
credit opens = 3
credit closes = 0

abbrev pub debit : Flag → ℕ
debit inside = 0
debit begins = 0
debit opens = 0
debit closes = 1

abbrev pub marked : Flag → ℕ
marked inside = 0
marked begins = 1
marked opens = 1
marked closes = 1

-- in place of a symbol these steps are said and these symbols come
unfoldable pub legal : Symbol → Flag → List Step → List Symbol → Bool
unfolding tidy_over weights pendings
legal s x es t =
    tidy_over (below s) t && (leb (weights t + debit x) (weight s + credit x) && eqb (length es + pendings t) (pending s + marked x))

pub record Sound (ss : List Symbol) (out : List Step) (c : Tally) : Type 0 where
  pub tidy : Tidy ss
  pub weigh : weights ss ≤ c.marks + 2 * c.level + 1
  pub pend : length out + pendings ss ≡ c.marks

weights_append : (s t : List Symbol) → weights (s ++ t) ≡ weights s + weights t
unfolding weights
weights_append [] t = omega arith
weights_append (x ∷ s) t = let rest = weights_append s t in omega arith

lights_append : (s t : List Symbol) → lights (s ++ t) ≡ lights s + lights t
unfolding lights
lights_append [] t = omega arith
lights_append (x ∷ s) t = let rest = lights_append s t in omega arith

pendings_append : (s t : List Symbol) → pendings (s ++ t) ≡ pendings s + pendings t
unfolding pendings
pendings_append [] t = omega arith
pendings_append (x ∷ s) t = let rest = pendings_append s t in omega arith

tidy_append : (n : ℕ) (s t : List Symbol) → tidy_over n s ≡ true → lights t ≤ n → Tidy t → Tidy (s ++ t)
unfolding Tidy tidy_over
tidy_append n [] t e few ok = ok
tidy_append n (x ∷ s) t e few ok =
    let both = and_parts (leb (lights s + n) (below x)) (tidy_over n s) e in
    let fits = leb-true (lights s + n) (below x) both.0 in
    (omega (arith, lights_append s t), tidy_append n s t both.1 few ok)

tallied : (x : Flag) (c : Tally) (w w' : ℕ) → w ≤ c.marks + 2 * c.level + 1 → w' + debit x ≤ w + credit x → w' ≤ (tally_flag x c).marks + 2 * (tally_flag x c).level + 1
unfolding tally_flag
tallied inside c w w' h k = omega arith
tallied begins c w w' h k = omega arith
tallied opens c w w' h k = omega arith
tallied closes c w w' h k = omega arith

counted : (x : Flag) (c : Tally) → c.marks + marked x ≡ (tally_flag x c).marks
unfolding tally_flag
counted inside c = omega arith
counted begins c = omega arith
counted opens c = omega arith
counted closes c = omega arith

pub sound_replace : (s : Symbol) (x : Flag) (es : List Step) (t rest : List Symbol) (out : List Step) (c : Tally) → legal s x es t ≡ true → Sound (s ∷ rest) out c → Sound (t ++ rest) (es ++ out) (tally_flag x c)
unfolding legal Tidy weights pendings
sound_replace s x es t rest out c e sound =
    let parts = and_parts (tidy_over (below s) t) (leb (weights t + debit x) (weight s + credit x) && eqb (length es + pendings t) (pending s + marked x)) e in
    let more = and_parts (leb (weights t + debit x) (weight s + credit x)) (eqb (length es + pendings t) (pending s + marked x)) parts.1 in
    let weighed = leb-true (weights t + debit x) (weight s + credit x) more.0 in
    let said = eqb-true (length es + pendings t) (pending s + marked x) more.1 in
    record {
      tidy = tidy_append (below s) t rest parts.0 sound.tidy.0 sound.tidy.1;
      weigh = tallied x c (weight s + weights rest) (weights (t ++ rest)) sound.weigh (omega (arith, weights_append t rest));
      pend = omega (arith, sound.pend, pendings_append t rest, length-append es out, counted x c);
    }

-- how deep a sound stack is
some : (n : ℕ) → 1 ≤ n + light n
some zero = omega arith
some (suc n) = omega arith

most_numbers : (p : Number) → number_below p ≤ 7
most_numbers Number.Input = omega arith
most_numbers Number.Count = omega arith
most_numbers (Number.Along a k) = omega arith
most_numbers Number.Join = omega arith
most_numbers Number.Again = omega arith
most_numbers Number.Item = omega arith
most_numbers Number.From = omega arith
most_numbers (Number.Step f b) = omega arith
most_numbers (Number.Many f b s) = omega arith

picked : (t : Bool) → pick t 0 7 ≤ 7
picked true = omega arith
picked false = omega arith

most : (s : Symbol) → below s ≤ 7
most Symbol.Lines = omega arith
most Symbol.Body = omega arith
most (Symbol.Byte c) = picked (eqb c 10)
most (Symbol.Target x) = omega arith
most Symbol.Expr = omega arith
most Symbol.Word = omega arith
most (Symbol.Binary a) = omega arith
most (Symbol.Number p) = most_numbers p
most (Symbol.Digits p) = most_numbers p
most (Symbol.Hex n) = omega arith
most (Symbol.Operands n) = omega arith
most (Symbol.First k) = omega arith
most (Symbol.More k) = omega arith
most (Symbol.Item k) = omega arith
most (Symbol.Step f) = omega arith

few_light : (n : ℕ) → light n ≤ 1
few_light zero = omega arith
few_light (suc n) = omega arith

few_lights : (ss : List Symbol) → Tidy ss → lights ss ≤ 8
unfolding Tidy lights
few_lights [] ok = omega arith
few_lights (s ∷ ss) ok = let here = most s in let one = few_light (weight s) in omega (arith, ok.0)

length_by : (ss : List Symbol) → length ss ≤ weights ss + lights ss
unfolding weights lights
length_by [] = omega arith
length_by (s ∷ ss) = let rest = length_by ss in let one = some (weight s) in omega arith

pub deep : (ss : List Symbol) (out : List Step) (c : Tally) → Sound ss out c → length ss ≤ c.marks + 2 * c.level + 9
deep ss out c sound = omega (arith, length_by ss, few_lights ss sound.tidy, sound.weigh)
