-- The automaton takes just the texts of programs, with their steps, and is stuck just where no program goes on so.
use Rattle.std.proofs.Common.{◌≡◌, ℕ, Bool, true, false, eqb, List, [], ◌∷◌, ◌++◌, take, sym, refl, ap, ◌∙◌, subst, inl, inr, ⊎_elim, true≢false, append_assoc, arith}
use mathlib.Core.Bool.{false≢true}
use Rattle.std.proofs.lemmas.Bool.{cases_Bool, both_ways}
use Rattle.semantics.specs.Shapes.{pick}
use Rattle.semantics.specs.Programs.{Program}
use Rattle.program.specs.declared.step.Step.{Step}
use Rattle.program.specs.Spelling.{spell_program}
use Rattle.grammar.specs.Letters.{Flag, inside, begins, opens, closes, Letter, letter, bytes, Tally, nothing, tally_flag, tally_from, tally}
use Rattle.grammar.specs.Words.{Word, are_names}
use Rattle.grammar.specs.Constants.{read_program}
use Rattle.grammar.specs.Sayable.{fit_end}
use Rattle.grammar.specs.Written.{write_lines}
use Rattle.grammar.specs.Texts.{Writing, letters, Reads, GoesOn}
use Rattle.grammar.specs.Automaton.{State, stuck, at, start, next, next_flag, run, run_tally, is_stuck, is_lines, between, last, onto, steps_of}
use Rattle.grammar.specs.declared.symbol.Symbol.{Symbol}
use Rattle.grammar.proofs.Along.{along, next_letter, checked, flag_code}
use Rattle.grammar.proofs.Emits.{emit_program, onto_spell_program}
use Rattle.grammar.proofs.EndsBack.{append_nil}
use Rattle.grammar.proofs.LinesAlong.{outside, lines_along}
use Rattle.grammar.proofs.Says.{says_next, says_none, says_lines}
use Rattle.grammar.proofs.Sound.{SoundState, sound_stuck, sound_at, sound_more, sound_none, sound_fresh, fresh_lines, SoundAll, AllFresh}
use Rattle.grammar.proofs.Tells.{Tells, tells, run_keep, run_back}
use Rattle.grammar.proofs.NeverEmpty.{Told, never_empty}
use Rattle.grammar.proofs.Unspell.{same_from_spelled}

-- RUNS

pub next_stuck : (b : ℕ) → next stuck b ≡ stuck
unfolding next
next_stuck b = refl

pub run_stuck : (t : List ℕ) → run stuck t ≡ stuck
unfolding run next
run_stuck [] = refl
run_stuck (b ∷ t) = run_stuck t

pub run_append : (u : List ℕ) (q : State) (t : List ℕ) → run q (u ++ t) ≡ run (run q u) t
unfolding run
run_append [] q t = refl
run_append (b ∷ u) q t = run_append u (next q b) t

pub tally_append : (u : List ℕ) (q : State) (c : Tally) (t : List ℕ) → run_tally q c (u ++ t) ≡ run_tally (run q u) (run_tally q c u) t
unfolding run run_tally
tally_append [] q c t = refl
tally_append (b ∷ u) q c t = tally_append u (next q b) _ t

-- what is not stuck behind more bytes was not stuck before them
pub stuck_before : (u : List ℕ) (q : State) (t : List ℕ) → is_stuck (run q (u ++ t)) ≡ false → is_stuck (run q u) ≡ false
unfolding is_stuck
stuck_before u q t h = go (run q u) (subst (λ s. is_stuck s ≡ false) (run_append u q t) h)
  where
    go : (s : State) → is_stuck (run s t) ≡ false → is_stuck s ≡ false
    go stuck k = subst (λ s. is_stuck s ≡ false) (run_stuck t) k
    go (at ns o s w v) k = refl

-- ALONG LETTERS

along_stuck : (f : List Letter) → along stuck f ≡ stuck
unfolding along next_letter checked next
along_stuck [] = refl
along_stuck (letter x b ∷ f) = ap (λ q. along q f) (either (eqb (flag_code x) (flag_code (next_flag stuck b)))) ∙ along_stuck f
  where
    either : (t : Bool) → pick t stuck stuck ≡ stuck
    either true = refl
    either false = refl

same_code : (x y : Flag) → eqb (flag_code x) (flag_code y) ≡ true → x ≡ y
unfolding flag_code
same_code inside inside e = refl
same_code inside begins e = absurd (false≢true e)
same_code inside opens e = absurd (false≢true e)
same_code inside closes e = absurd (false≢true e)
same_code begins inside e = absurd (false≢true e)
same_code begins begins e = refl
same_code begins opens e = absurd (false≢true e)
same_code begins closes e = absurd (false≢true e)
same_code opens inside e = absurd (false≢true e)
same_code opens begins e = absurd (false≢true e)
same_code opens opens e = refl
same_code opens closes e = absurd (false≢true e)
same_code closes inside e = absurd (false≢true e)
same_code closes begins e = absurd (false≢true e)
same_code closes opens e = absurd (false≢true e)
same_code closes closes e = refl

-- where it does not get stuck along letters it does along their bytes what it does along them, and counts as they say
pub record Alike (q : State) (c : Tally) (f : List Letter) : Type 0 where
  pub same_run : run q (bytes f) ≡ along q f
  pub same_tally : run_tally q c (bytes f) ≡ tally_from c f

alike : (f : List Letter) (q : State) (c : Tally) → is_stuck (along q f) ≡ false → Alike q c f
unfolding along next_letter checked run run_tally tally_from bytes is_stuck
alike [] q c h = record { same_run = refl; same_tally = refl }
alike (letter x b ∷ f) q c h = go (eqb (flag_code x) (flag_code (next_flag q b))) refl h (λ k. alike f (next q b) (tally_flag (next_flag q b) c) k)
  where
    go : (t : Bool) → eqb (flag_code x) (flag_code (next_flag q b)) ≡ t → is_stuck (along (pick t (next q b) stuck) f) ≡ false → (is_stuck (along (next q b) f) ≡ false → Alike (next q b) (tally_flag (next_flag q b) c) f) → Alike q c (letter x b ∷ f)
    go true e k i =
        let r = i k in
        let s = same_code x (next_flag q b) e in
        record {
          same_run = r.same_run ∙ ap (λ t. along (pick t (next q b) stuck) f) (sym e);
          same_tally = r.same_tally ∙ ap (λ y. tally_from (tally_flag y c) f) (sym s);
        }
    go false e k i = absurd (both_ways true (sym (sym k ∙ ap is_stuck (along_stuck f))) refl)

-- TEXTS ARE TAKEN

-- the state behind all lines of a writing
pub finished : Writing → State
finished w = at (take w.used w.names) (emit_program (read_program w.written) []) (Symbol.Lines ∷ []) [] 0

writing_along : (w : Writing) → along start (letters w) ≡ finished w
unfolding start letters finished along
writing_along w = lines_along w.names (record { are = w.are; few = w.few }) w.fits w.enough outside [] [] []

writing_alike : (w : Writing) → Alike start nothing (letters w)
unfolding is_stuck finished
writing_alike w = alike (letters w) start nothing (ap is_stuck (writing_along w))

pub writing_run : (w : Writing) → run start (bytes (letters w)) ≡ finished w
writing_run w = (writing_alike w).same_run ∙ writing_along w

along_append : (f : List Letter) (q : State) (g : List Letter) → along q (f ++ g) ≡ along (along q f) g
unfolding along
along_append [] q g = refl
along_append (x ∷ f) q g = along_append f (next_letter q x) g

along_before : (f : List Letter) (q : State) (g : List Letter) → is_stuck (along q (f ++ g)) ≡ false → is_stuck (along q f) ≡ false
unfolding is_stuck
along_before f q g h = go (along q f) (subst (λ s. is_stuck s ≡ false) (along_append f q g) h)
  where
    go : (s : State) → is_stuck (along s g) ≡ false → is_stuck s ≡ false
    go stuck k = subst (λ s. is_stuck s ≡ false) (along_stuck g) k
    go (at ns o s w v) k = refl

-- the marks of a writing are counted as they come
pub writing_tally : (w : Writing) (f g : List Letter) → letters w ≡ f ++ g → run_tally start nothing (bytes f) ≡ tally f
unfolding is_stuck finished tally
writing_tally w f g e =
    (alike f start nothing (along_before f start g (subst (λ h. is_stuck (along start h) ≡ false) e (ap is_stuck (writing_along w))))).same_tally

pub record Accepted (t : List ℕ) (p : Program ℕ) : Type 0 where
  pub whole : between (last (run start t)) ≡ true
  pub steps : steps_of (last (run start t)) ≡ spell_program p []

onto_onto : (a b c : List Step) → onto (onto a b) c ≡ onto b (a ++ c)
onto_onto [] b c = refl
onto_onto (x ∷ a) b c = onto_onto a (x ∷ b) c

emitted : (p : Program ℕ) → onto (emit_program p []) [] ≡ spell_program p []
emitted p =
    ap (λ o. onto o []) (sym (onto_spell_program p [] [])) ∙ onto_onto (spell_program p []) [] [] ∙ append_nil (spell_program p [])

finished_steps : (w : Writing) → steps_of (finished w) ≡ spell_program (read_program w.written) []
unfolding steps_of finished
finished_steps w = emitted (read_program w.written)

finished_between : (w : Writing) → between (finished w) ≡ true
unfolding between is_lines finished
finished_between w = refl

-- between lines just the lines are still to come
data Between : State → Type 0 where
  is_between : {ns : List Word} {o : List Step} {w : Word} {v : ℕ} → Between (at ns o (Symbol.Lines ∷ []) w v)

between_is : (q : State) → between q ≡ true → Between q
unfolding between is_lines
between_is stuck h = absurd (false≢true h)
between_is (at ns o [] w v) h = absurd (false≢true h)
between_is (at ns o (Symbol.Lines ∷ []) w v) h = is_between
between_is (at ns o (Symbol.Body ∷ []) w v) h = absurd (false≢true h)
between_is (at ns o (Symbol.Byte c ∷ []) w v) h = absurd (false≢true h)
between_is (at ns o (Symbol.Target x ∷ []) w v) h = absurd (false≢true h)
between_is (at ns o (Symbol.Expr ∷ []) w v) h = absurd (false≢true h)
between_is (at ns o (Symbol.Word ∷ []) w v) h = absurd (false≢true h)
between_is (at ns o (Symbol.Binary x ∷ []) w v) h = absurd (false≢true h)
between_is (at ns o (Symbol.Number p ∷ []) w v) h = absurd (false≢true h)
between_is (at ns o (Symbol.Digits p ∷ []) w v) h = absurd (false≢true h)
between_is (at ns o (Symbol.Hex n ∷ []) w v) h = absurd (false≢true h)
between_is (at ns o (Symbol.Operands n ∷ []) w v) h = absurd (false≢true h)
between_is (at ns o (Symbol.First k ∷ []) w v) h = absurd (false≢true h)
between_is (at ns o (Symbol.More k ∷ []) w v) h = absurd (false≢true h)
between_is (at ns o (Symbol.Item k ∷ []) w v) h = absurd (false≢true h)
between_is (at ns o (Symbol.Step f ∷ []) w v) h = absurd (false≢true h)
between_is (at ns o (s ∷ t ∷ r) w v) h = absurd (false≢true h)

-- there a newline is no beginning
lines_newline : {q : State} → Between q → next q 10 ≡ stuck
unfolding next
lines_newline is_between = refl

last_between : (q : State) → between q ≡ true → last q ≡ q
unfolding last
last_between q h = ap (λ t. pick t q (next q 10)) h

last_not : (q : State) → between q ≡ false → last q ≡ next q 10
unfolding last
last_not q h = ap (λ t. pick t q (next q 10)) h

last_newline : (q : State) → between (next q 10) ≡ true → last q ≡ next q 10
unfolding between
last_newline q h =
    ⊎_elim
    (λ e. absurd (both_ways true (sym h ∙ ap between (lines_newline (between_is q e))) refl))
    (λ e. last_not q e)
    (cases_Bool (between q))

run_newline : (t : List ℕ) → run start (t ++ 10 ∷ []) ≡ next (run start t) 10
unfolding run
run_newline t = run_append t start (10 ∷ [])

pub reads_accepted : (t : List ℕ) (p : Program ℕ) → Reads t p → Accepted t p
reads_accepted t p r = ⊎_elim now later r.lines
  where
    w : Writing
    w = r.writing

    from : last (run start t) ≡ finished w → Accepted t p
    from e =
        record {
          whole = ap between e ∙ finished_between w;
          steps = ap steps_of e ∙ finished_steps w ∙ ap (λ x. spell_program x []) r.is;
        }

    now : bytes (letters w) ≡ t → Accepted t p
    now e =
        let f : run start t ≡ finished w = ap (run start) (sym e) ∙ writing_run w in
        from (last_between (run start t) (ap between f ∙ finished_between w) ∙ f)

    later : bytes (letters w) ≡ t ++ 10 ∷ [] → Accepted t p
    later e =
        let f : next (run start t) 10 ≡ finished w = sym (run_newline t) ∙ ap (run start) (sym e) ∙ writing_run w in
        from (last_newline (run start t) (ap between f ∙ finished_between w) ∙ f)

-- WHAT IS TAKEN IS A TEXT

start_sound : SoundState start
unfolding start are_names
start_sound = sound_at (record { are = refl; few = omega arith }) (sound_more (sound_fresh fresh_lines) Rattle.grammar.proofs.Sound.none)

bytes_append : (f g : List Letter) → bytes (f ++ g) ≡ bytes f ++ bytes g
unfolding bytes
bytes_append [] g = refl
bytes_append (letter x b ∷ f) g = ap {B = List ℕ} (λ y. b ∷ y) (bytes_append f g)

-- what the first state tells is a writing
pub record Written (f : List Letter) (s : List Step) : Type 0 where
  pub writing : Writing
  pub are : letters writing ≡ f
  pub steps : spell_program (read_program writing.written) [] ≡ s

start_tells : {f : List Letter} {s : List Step} → Tells start f s → Written f s
unfolding start letters
start_tells (tells {ms = ms} {used = used} sp fr (says_next (says_lines {p = p} h) says_none) en e) =
    record { writing = record { names = ms; are = sp.are; few = sp.few; written = p; used = used; fits = h; enough = en }; are = refl; steps = e }

-- a state that is not stuck: some writing begins so
pub record Begun (u : List ℕ) : Type 0 where
  pub writing : Writing
  pub more : List ℕ
  pub is : bytes (letters writing) ≡ u ++ more

told_begun : (u : List ℕ) {q : State} → SoundState q → is_stuck q ≡ false → Told q
unfolding is_stuck
told_begun u sound_stuck h = absurd (true≢false h)
told_begun u (sound_at {ns = ns} {o = o} {s = s} {w = w} {v = v} sp h) _ = never_empty ns o s w v sp h

pub run_begun : (u : List ℕ) → is_stuck (run start u) ≡ false → Begun u
run_begun u h =
    let k = told_begun u (run_keep u start_sound) h in
    let b = run_back u start_sound k.told in
    let w = start_tells b.told in
    record {
      writing = w.writing;
      more = bytes k.letters;
      is = ap bytes w.are ∙ bytes_append b.before k.letters ∙ ap (λ x. x ++ bytes k.letters) b.are;
    }

-- a state between lines: some writing is this
pub record EndedSo (u : List ℕ) (s : List Step) : Type 0 where
  pub writing : Writing
  pub is : bytes (letters writing) ≡ u
  pub steps : spell_program (read_program writing.written) [] ≡ s

between_tells : {q : State} → Between q → SoundState q → Tells q [] (steps_of q)
unfolding steps_of write_lines spell_program read_program
between_tells (is_between {ns = ns}) (sound_at sp h) =
    tells sp (record { behind = []; is = sym (append_nil ns) }) (says_next (says_lines fit_end) says_none) (omega arith) refl

pub between_ended : (u : List ℕ) → between (run start u) ≡ true → EndedSo u (steps_of (run start u))
between_ended u h =
    let b = run_back u start_sound (between_tells (between_is (run start u) h) (run_keep u start_sound)) in
    let w = start_tells b.told in
    record { writing = w.writing; is = ap bytes w.are ∙ ap bytes (append_nil b.before) ∙ b.are; steps = w.steps }

-- a text that is taken is a program's
pub record Taken (t : List ℕ) : Type 0 where
  pub program : Program ℕ
  pub reads : Reads t program
  pub steps : steps_of (last (run start t)) ≡ spell_program program []

pub accepted_reads : (t : List ℕ) → between (last (run start t)) ≡ true → Taken t
accepted_reads t h = ⊎_elim now later (cases_Bool (between (run start t)))
  where
    now : between (run start t) ≡ true → Taken t
    now e =
        let w = between_ended t e in
        record {
          program = read_program w.writing.written;
          reads = record { writing = w.writing; is = refl; lines = inl w.is };
          steps = ap steps_of (last_between (run start t) e) ∙ sym w.steps;
        }

    later : between (run start t) ≡ false → Taken t
    later e =
        let l : last (run start t) ≡ run start (t ++ 10 ∷ []) = last_not (run start t) e ∙ sym (run_newline t) in
        let w = between_ended (t ++ 10 ∷ []) (sym (ap between l) ∙ h) in
        record {
          program = read_program w.writing.written;
          reads = record { writing = w.writing; is = refl; lines = inr w.is };
          steps = ap steps_of l ∙ sym w.steps;
        }

-- a text is one program at most
pub one_program : (t : List ℕ) (p q : Program ℕ) → Reads t p → Reads t q → p ≡ q
one_program t p q r s = same_from_spelled p q (sym (reads_accepted t p r).steps ∙ (reads_accepted t q s).steps)

-- GOING ON

pub reads_begun : (u more : List ℕ) (p : Program ℕ) → Reads (u ++ more) p → is_stuck (run start u) ≡ false
unfolding is_stuck finished
reads_begun u more p r = ⊎_elim now later r.lines
  where
    free : is_stuck (run start (bytes (letters r.writing))) ≡ false
    free = ap is_stuck (writing_run r.writing)

    now : bytes (letters r.writing) ≡ u ++ more → is_stuck (run start u) ≡ false
    now e = stuck_before u start more (subst (λ x. is_stuck (run start x) ≡ false) e free)

    later : bytes (letters r.writing) ≡ (u ++ more) ++ 10 ∷ [] → is_stuck (run start u) ≡ false
    later e = stuck_before u start (more ++ 10 ∷ []) (subst (λ x. is_stuck (run start x) ≡ false) (e ∙ append_assoc u more (10 ∷ [])) free)

pub begun_reads : {u : List ℕ} → (b : Begun u) → Reads (u ++ b.more) (read_program b.writing.written)
begun_reads b = record { writing = b.writing; is = refl; lines = inl b.is }

pub goes_on_run : (t : List ℕ) (i : ℕ) → GoesOn t i → is_stuck (run start (take i t)) ≡ false
goes_on_run t i g = reads_begun (take i t) g.more g.program g.reads

pub run_goes_on : (t : List ℕ) (i : ℕ) → is_stuck (run start (take i t)) ≡ false → GoesOn t i
run_goes_on t i h = let b = run_begun (take i t) h in record { program = read_program b.writing.written; more = b.more; reads = begun_reads b }
