-- What a text can say fits its words.
use Rattle.std.proofs.Common.{ℕ, zero, suc, ◌*◌, ◌^◌, ◌<◌, ◌≤◌, Bool, true, false, List, [], ◌∷◌, get_or, arith}
use Rattle.semantics.specs.declared.operation.Unary.{Unary}
use Rattle.semantics.specs.declared.operation.Unary.TheVariants.{Neg, Abs, Sqrt, Floor, Not}
use Rattle.semantics.specs.declared.operation.Binary.{Binary}
use Rattle.semantics.specs.declared.operation.Binary.TheVariants.{Add, Sub, Mul, Div, Less, Same, Least, Most}
use Rattle.semantics.specs.Parts.{Part}
use Rattle.semantics.specs.Values.{Expr}
use Rattle.semantics.specs.Programs.{Program, end, be, put, show, again}
use Rattle.program.specs.declared.step.Step.{Step}
use Rattle.program.specs.declared.step.Step.TheVariants.{End, Let, Put, Show, Again, Name, Input, Constant, Count, Each, Both, Choose, Fold, Scan, Shape, Turn, Part as Cut, Join, Rows, Item, Slice}
use Rattle.program.specs.Spelling.{items, slices, spell, spell_program}
use Rattle.program.specs.Marks.{long}
use Rattle.program.specs.Words.{slice_tag, words_of, unary_code, binary_code}
use Rattle.program.specs.Sayable.{SmallAll, small_none, small_more, SmallParts, parts_none, parts_more, Sayable, say_name, say_input, say_constant, say_count, say_each, say_both, say_choose, say_fold, say_scan, say_shape, say_turn, say_part, say_join, say_rows, SayableProgram, say_end, say_let, say_put, say_show, say_again, deep, FitsWords, FitAll, fit_more}

fit_items : {ks : List ℕ} {r : List Step} → SmallAll ks → FitAll r → FitAll (items ks r)
unfolding items
fit_items small_none h = h
fit_items (small_more k ks) h = fit_more k (fit_items ks h)

fit_slices : {ps : List Part} {r : List Step} → SmallParts ps → FitAll r → FitAll (slices ps r)
unfolding slices
fit_slices parts_none h = h
fit_slices (parts_more p ps) h = fit_more (p.from, p.step, p.many) (fit_slices ps h)

module _ (Pattern : ℕ → Type 0) (wide : (x : ℕ) → Pattern x → x < 2 ^ 64) where
  pub fit_spell : {e : Expr ℕ} → Sayable Pattern e → {r : List Step} → FitAll r → FitAll (spell e r)
  unfolding spell
  fit_spell (say_name k) h = fit_more (omega arith) h
  fit_spell (say_input k) h = fit_more k h
  fit_spell (say_constant x) h = fit_more (wide _ x) h
  fit_spell (say_count m) h = fit_more m h
  fit_spell (say_each e) h = fit_more tt (fit_spell e h)
  fit_spell (say_both e f) h = fit_more tt (fit_spell e (fit_spell f h))
  fit_spell (say_choose e f g) h = fit_more tt (fit_spell e (fit_spell f (fit_spell g h)))
  fit_spell (say_fold x e) h = fit_more x (fit_spell e h)
  fit_spell (say_scan x e) h = fit_more x (fit_spell e h)
  fit_spell (say_shape t e) h = fit_more tt (fit_items t (fit_spell e h))
  fit_spell (say_turn os e) h = fit_more tt (fit_items os (fit_spell e h))
  fit_spell (say_part ps e) h = fit_more tt (fit_slices ps (fit_spell e h))
  fit_spell (say_join x e f) h = fit_more x (fit_spell e (fit_spell f h))
  fit_spell (say_rows e f) h = fit_more tt (fit_spell e (fit_spell f h))

  pub fit_program : {p : Program ℕ} → SayableProgram Pattern p → {r : List Step} → FitAll r → FitAll (spell_program p r)
  unfolding spell_program
  fit_program say_end h = h
  fit_program (say_let k e p) h = fit_more (omega arith) (fit_spell e (fit_program p h))
  fit_program (say_put k ps e p) h = fit_more (omega arith) (fit_slices ps (fit_spell e (fit_program p h)))
  fit_program (say_show e p) h = fit_more tt (fit_spell e (fit_program p h))
  fit_program (say_again n b p) h = fit_more n (fit_program b (fit_more tt (fit_program p h)))

tag_small : (b : Bool) → slice_tag b < 2 ^ 32
tag_small false = omega arith
tag_small true = omega arith

-- five words
five : {t p a b c : ℕ} → t < 2 ^ 32 → p < 2 ^ 32 → a < 2 ^ 32 → b < 2 ^ 32 → c < 2 ^ 32 → SmallAll (t ∷ p ∷ a ∷ b ∷ c ∷ [])
five t p a b c = small_more t (small_more p (small_more a (small_more b (small_more c small_none))))

unary_small : (k : Unary) → unary_code k < 2 ^ 32
unary_small Neg = omega arith
unary_small Abs = omega arith
unary_small Sqrt = omega arith
unary_small Floor = omega arith
unary_small Not = omega arith

binary_small : (k : Binary) → binary_code k < 2 ^ 32
binary_small Add = omega arith
binary_small Sub = omega arith
binary_small Mul = omega arith
binary_small Div = omega arith
binary_small Less = omega arith
binary_small Same = omega arith
binary_small Least = omega arith
binary_small Most = omega arith

zero_small : 0 < 2 ^ 32
zero_small = omega arith

pub words_fit : (s : Step) (p : ℕ) → FitsWords s → p < 2 ^ 32 → SmallAll (words_of s p)
words_fit End p h l = five (omega arith) l zero_small zero_small zero_small
words_fit (Let k) p h l = five (omega arith) l h zero_small zero_small
words_fit (Put k) p h l = five (omega arith) l h zero_small zero_small
words_fit Show p h l = five (omega arith) l zero_small zero_small zero_small
words_fit (Again n) p h l = five (omega arith) l h zero_small zero_small
words_fit (Name k) p h l = five (omega arith) l h zero_small zero_small
words_fit (Input k) p h l = five (omega arith) l h zero_small zero_small
words_fit (Constant x) p h l = five (omega arith) l (omega arith) (omega arith) zero_small
words_fit (Count m) p h l = five (omega arith) l h zero_small zero_small
words_fit (Each k) p h l = five (omega arith) l (unary_small k) zero_small zero_small
words_fit (Both k) p h l = five (omega arith) l (binary_small k) zero_small zero_small
words_fit Choose p h l = five (omega arith) l zero_small zero_small zero_small
words_fit (Fold k x) p h l = five (omega arith) l (binary_small k) h zero_small
words_fit (Scan k x) p h l = five (omega arith) l (binary_small k) h zero_small
words_fit Shape p h l = five (omega arith) l zero_small zero_small zero_small
words_fit Turn p h l = five (omega arith) l zero_small zero_small zero_small
words_fit Cut p h l = five (omega arith) l zero_small zero_small zero_small
words_fit (Join x) p h l = five (omega arith) l h zero_small zero_small
words_fit Rows p h l = five (omega arith) l zero_small zero_small zero_small
words_fit (Item k) p h l = five (omega arith) l h zero_small zero_small
words_fit (Slice s) p h l = five (tag_small s.backward) l h.0 h.1 h.2

pub small_at : {ks : List ℕ} → SmallAll ks → (i : ℕ) → get_or ks i 0 < 2 ^ 32
small_at small_none i = zero_small
small_at (small_more k ks) zero = k
small_at (small_more k ks) (suc i) = small_at ks i

-- each `again` that is deeper takes two steps
pub deep_long : (p : Program ℕ) → 2 * deep p ≤ long p
unfolding deep long
deep_long end = omega arith
deep_long (be k e p) = omega (arith, deep_long p)
deep_long (put k ps e p) = omega (arith, deep_long p)
deep_long (show e p) = omega (arith, deep_long p)
deep_long (again n b p) = omega (arith, deep_long b, deep_long p)
