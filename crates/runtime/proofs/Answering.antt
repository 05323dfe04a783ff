-- A text that is taken, and what follows for its steps.
use Rattle.std.proofs.Common.{◌≡◌, ℕ, ◌-◌, ◌*◌, ◌<◌, ◌≤◌, Bool, true, false, cond, List, [], ◌∷◌, length, get_or, take, drop, Ok, Err, sym, refl, ap, ◌∙◌, subst, arith, get_or-take}
use lib.Ieee.{nan_bits, binary64}
use lib.Ieee.Bits.{nan_bits_above}
use Rattle.std.proofs.lemmas.List.{length-take-le}
use Rattle.semantics.specs.Shapes.{pick}
use Rattle.semantics.specs.Parts.{Part}
use Rattle.semantics.specs.Values.{Expr}
use Rattle.semantics.specs.Programs.{Program}
use Rattle.numbers.specs.Binary64.{canonical_bits, bits_nan}
use Rattle.numbers.specs.Patterns.{Pattern}
use Rattle.program.specs.declared.step.Step.{Step}
use Rattle.encoding.specs.Format.{stop}
use Rattle.program.specs.Words.{steps_in}
use Rattle.program.specs.Spelling.{items, slices, spell, spell_program}
use Rattle.grammar.specs.Constants.{canonical}
use Rattle.grammar.specs.Sayable.{Fits, fit_name, fit_input, fit_constant, fit_count, fit_each, fit_both, fit_choose, fit_fold, fit_scan, fit_shape, fit_turn, fit_part, fit_join, fit_rows, FitLines, fit_end, fit_be, fit_put, fit_show, fit_again, Canonical}
use Rattle.grammar.specs.Texts.{Reads, Verdict, taken, no_program, too_much, Judged, is_taken}
use Rattle.grammar.specs.Automaton.{took, refused_7, refused_8, answer_to, answer_of}
use Rattle.grammar.proofs.TextLaws.{answers_verdict}
use Rattle.grammar.proofs.Canonicals.{lines_canonical}
use Rattle.reader.specs.Judging.{mark_places, ReadsText}
use Rattle.reader.specs.Reading.{Written}
use Rattle.runtime.specs.declared.run.Ran.{Ran}
use Rattle.runtime.specs.Built.{AllBuilt, UnbuiltAt}
use Rattle.runtime.specs.States.{AllPlain, plain_none, plain_more, Runnable}
use Rattle.runtime.specs.Running.{ProgramStands, RunsAs}
use Rattle.reader.specs.declared.judging.Flaw.{Flaw}
use Rattle.runtime.specs.Answering.{for_flaw, Taken, NotBuilt, Enough, RunsText, Refuses, for_text, for_size}

-- ---- constants are patterns
canonical_plain : (x : ℕ) → Canonical x → Pattern x
unfolding canonical_bits canonical
canonical_plain x c = record { below = c.below; plain = go (nan_bits binary64 x) refl }
  where
    go : (b : Bool) → nan_bits binary64 x ≡ b → cond b bits_nan x ≡ x
    go true e = sym (ap (λ b. pick b 0x7FF8000000000000 x) (sym (nan_bits_above binary64 x) ∙ e)) ∙ c.itself
    go false e = refl

items_plain : (ks : List ℕ) {r : List Step} → AllPlain r → AllPlain (items ks r)
unfolding items
items_plain [] h = h
items_plain (k ∷ ks) h = plain_more tt (items_plain ks h)

slices_plain : (ps : List Part) {r : List Step} → AllPlain r → AllPlain (slices ps r)
unfolding slices
slices_plain [] h = h
slices_plain (p ∷ ps) h = plain_more tt (slices_plain ps h)

expr_plain : {e : Expr ℕ} {n m : ℕ} {r : List Step} → Fits Canonical e n m → AllPlain r → AllPlain (spell e r)
unfolding spell
expr_plain (fit_name c) h = plain_more tt h
expr_plain (fit_input s) h = plain_more tt h
expr_plain (fit_constant {x = x} s) h = plain_more (canonical_plain x s) h
expr_plain (fit_count s) h = plain_more tt h
expr_plain (fit_each f) h = plain_more tt (expr_plain f h)
expr_plain (fit_both f g) h = plain_more tt (expr_plain f (expr_plain g h))
expr_plain (fit_choose f g k) h = plain_more tt (expr_plain f (expr_plain g (expr_plain k h)))
expr_plain (fit_fold s f) h = plain_more tt (expr_plain f h)
expr_plain (fit_scan s f) h = plain_more tt (expr_plain f h)
expr_plain (fit_shape {t = t} s f) h = plain_more tt (items_plain t (expr_plain f h))
expr_plain (fit_turn {os = os} s f) h = plain_more tt (items_plain os (expr_plain f h))
expr_plain (fit_part {ps = ps} s f) h = plain_more tt (slices_plain ps (expr_plain f h))
expr_plain (fit_join s f g) h = plain_more tt (expr_plain f (expr_plain g h))
expr_plain (fit_rows f g) h = plain_more tt (expr_plain f (expr_plain g h))

lines_plain : {p : Program ℕ} {n m : ℕ} {r : List Step} → FitLines Canonical p n m → AllPlain r → AllPlain (spell_program p r)
unfolding spell_program
lines_plain fit_end h = h
lines_plain (fit_be c f g) h = plain_more tt (expr_plain f (lines_plain g h))
lines_plain (fit_put {ps = ps} c s f g) h = plain_more tt (slices_plain ps (expr_plain f (lines_plain g h)))
lines_plain (fit_show f g) h = plain_more tt (expr_plain f (lines_plain g h))
lines_plain (fit_again s f g) h = plain_more tt (lines_plain f (plain_more tt (lines_plain g h)))

pub reads_plain : (t : List ℕ) (p : Program ℕ) → Reads t p → AllPlain (spell_program p [])
reads_plain t p r = subst (λ q. AllPlain (spell_program q [])) r.is (lines_plain (lines_canonical r.writing.fits) plain_none)

-- ---- verdicts
pub record Took (t : List ℕ) (es : List Step) : Type 0 where
  pub program : Program ℕ
  pub judged : Judged t (taken program)
  pub is : es ≡ spell_program program []

no_answer : {i : ℕ} {es : List Step} → refused_7 i ≡ took es → ⊥
no_answer e = let z : ◌≡◌ {A = ℕ} 0 1 = cc in omega arith

no_answer_8 : {i : ℕ} {es : List Step} → refused_8 i ≡ took es → ⊥
no_answer_8 e = let z : ◌≡◌ {A = ℕ} 0 1 = cc in omega arith

pub took_as : (t : List ℕ) (es : List Step) → answer_to t ≡ took es → Took t es
unfolding answer_of
took_as t es e = let a = answers_verdict t in go a.verdict a.judged (sym a.is ∙ e)
  where
    go : (v : Verdict) → Judged t v → answer_of v ≡ took es → Took t es
    go (taken p) j h = record { program = p; judged = j; is = cc }
    go (no_program i) j h = absurd (no_answer h)
    go (too_much i) j h = absurd (no_answer_8 h)

pub judged_7 : (t : List ℕ) (i : ℕ) → answer_to t ≡ refused_7 i → Judged t (no_program i)
unfolding answer_of
judged_7 t i e = let a = answers_verdict t in go a.verdict a.judged (sym a.is ∙ e)
  where
    go : (v : Verdict) → Judged t v → answer_of v ≡ refused_7 i → Judged t (no_program i)
    go (taken p) j h = absurd (let z : ◌≡◌ {A = ℕ} 0 1 = cc in omega arith)
    go (no_program k) j h = let same : k ≡ i = cc in subst (λ n. Judged t (no_program n)) same j
    go (too_much k) j h = absurd (let z : ◌≡◌ {A = ℕ} 0 1 = cc in omega arith)

pub judged_8 : (t : List ℕ) (i : ℕ) → answer_to t ≡ refused_8 i → Judged t (too_much i)
unfolding answer_of
judged_8 t i e = let a = answers_verdict t in go a.verdict a.judged (sym a.is ∙ e)
  where
    go : (v : Verdict) → Judged t v → answer_of v ≡ refused_8 i → Judged t (too_much i)
    go (taken p) j h = absurd (let z : ◌≡◌ {A = ℕ} 0 1 = cc in omega arith)
    go (no_program k) j h = absurd (let z : ◌≡◌ {A = ℕ} 0 1 = cc in omega arith)
    go (too_much k) j h = let same : k ≡ i = cc in subst (λ n. Judged t (too_much n)) same j

-- a text with a flaw is refused for it
pub refuses_flaw : (t bs : List ℕ) (p steps work : ℕ) (read : List Step) (places : List ℕ) (f : Flaw) → ReadsText t read places (Err f) → Refuses t bs p steps work (for_flaw f)
refuses_flaw t bs p steps work read places (Flaw.NoProgram i) h = for_text (judged_7 t i h)
refuses_flaw t bs p steps work read places (Flaw.TooMuch i) h = for_size (judged_8 t i h)

judged_reads : {t : List ℕ} {p : Program ℕ} → Judged t (taken p) → Reads t p
judged_reads (is_taken r h) = r

pub took_plain : {t : List ℕ} {es : List Step} (k : Took t es) → AllPlain es
took_plain {t} k = subst AllPlain (sym k.is) (reads_plain t k.program (judged_reads k.judged))

-- ---- what reading a text gave
module _ (t : List ℕ) (steps : List Step) (places : List ℕ) (n : ℕ) (read : ReadsText t steps places (Ok n)) where
  pub text_took : Took t (take n steps)
  text_took = took_as t (take n steps) read.0

  pub text_taken : AllBuilt (take n steps) → Taken t
  text_taken b =
      let k = text_took in
      record { program = k.program; judged = k.judged; built = subst AllBuilt k.is b }

  -- the first step that is not built, and its place
  pub text_unbuilt : (k : ℕ) → n ≤ length steps → UnbuiltAt (take n steps) k → NotBuilt t (get_or places k 0)
  text_unbuilt k long u =
      let w = text_took in
      let is : take n steps ≡ spell_program w.program [] = w.is in
      let low : k < n = omega (arith, u.there, length-take-le n steps (omega arith)) in
      record {
        program = w.program;
        judged = w.judged;
        step = k;
        unbuilt = subst (λ l. UnbuiltAt l k) is u;
        place = sym (get_or-take n places k 0 low) ∙ ap (λ l. get_or l k 0) read.1;
      }

  -- the steps, written to lent words
  module _ (long : n ≤ length steps) (built : AllBuilt (take n steps)) (old new : List ℕ) (w : Written old new n (take n steps) (take n places)) where
    steps_are : steps_in (take (5 * n) new) ≡ take n steps
    steps_are = w.are

    pub text_stands : ProgramStands (take (5 * n) new)
    text_stands = record { program = text_took.program; enc = steps_are ∙ text_took.is }

    pub text_runnable : Runnable (take (5 * n) new)
    text_runnable =
        record {
          built = subst AllBuilt (sym steps_are) built;
          plain = subst AllPlain (sym steps_are) (took_plain text_took);
          few = omega (arith, ap length steps_are, length-take-le n steps long, read.2);
        }

    length_program : length (spell_program text_took.program []) ≡ n
    length_program = sym (ap length text_took.is) ∙ length-take-le n steps long

    pub text_runs : (bs : List ℕ) (p : ℕ) (old-work new-work old-room new-room : List ℕ) (r : Ran) → stop bs ≡ length bs → 16 * n ≤ length old → Enough p (length old-work) → RunsAs (take (5 * n) new) bs p old-room new-room r → drop p new-work ≡ drop p old-work → RunsText t bs p old new old-work new-work old-room new-room r
    unfolding text_taken
    text_runs bs p old-work new-work old-room new-room r whole-inputs enough_steps enough run work =
        let k = text_took in
        record {
          taken = text_taken built;
          inputs = whole-inputs;
          enough_steps = omega (arith, length_program);
          enough = enough;
          shows = run.on k.program (steps_are ∙ k.is);
          steps = subst (λ m. Written old new m (spell_program k.program []) (mark_places t)) (sym length_program)
              (subst (λ ss. Written old new n ss (mark_places t)) k.is (subst (λ ps. Written old new n (take n steps) ps) read.1 w));
          work = work;
        }

-- a text that is taken has as many steps as were read
pub length_taken : (t : List ℕ) (steps : List Step) (places : List ℕ) (n : ℕ) (read : ReadsText t steps places (Ok n)) → n ≤ length steps → (built : AllBuilt (take n steps)) → length (spell_program (text_taken t steps places n read built).program []) ≡ n
unfolding text_taken
length_taken t steps places n read long built = sym (ap length (text_took t steps places n read).is) ∙ length-take-le n steps long
