-- A machine settles and moves as the state that it stands for.
use Rattle.std.proofs.Common.{◌≡◌, ℕ, ◌+◌, ◌-◌, ◌<◌, ◌≤◌, Bool, true, false, List, [], ◌∷◌, ◌++◌, length, get_or, take, drop, None, Option, sym, refl, ap, ◌∙◌, subst, arith}
use Rattle.std.specs.Option.{option_to_list}
use Rattle.std.proofs.lemmas.List.{drop_all, drop_more, length-take, length-take-le, length_push, map_push}
use Rattle.semantics.specs.Shapes.{pick}
use Rattle.program.specs.declared.step.Step.{Step}
use Rattle.grammar.specs.declared.symbol.Symbol.{Symbol}
use Rattle.grammar.specs.Words.{Word}
use Rattle.grammar.specs.Letters.{Flag}
use Rattle.grammar.specs.Moves.{belongs, no, ended, ends, stop, move, moves}
use Rattle.grammar.specs.Automaton.{stuck, at, settled, settle, top_move, moved, next, move_flag, next_flag}
use Rattle.reader.specs.declared.names.Span.{Span}
use Rattle.reader.specs.declared.machine.Machine.{Machine}
use Rattle.reader.specs.declared.stepping.Said.{Said}
use Rattle.reader.specs.declared.stepping.Advance.{Advance}
use Rattle.reader.specs.declared.pushes.Pushes.{Pushes}
use Rattle.reader.specs.declared.turn.Ending.{Ending}
use Rattle.reader.specs.declared.turn.Turn.{Turn}
use Rattle.reader.specs.declared.turn.Mark.{Mark}
use Rattle.reader.specs.Pushed.{symbols_of}
use Rattle.reader.specs.Names.{part, spelling, spellings}
use Rattle.reader.specs.Turning.{ended_as, ended_of, move_as, move_of, flag_of, word_from, Fit}
use Rattle.reader.specs.Machines.{state_of, Good, Fits, over, Replaced, Settled, Turned, Advanced, ReadOn}
use Rattle.reader.proofs.Turnings.{part_none}
use Rattle.reader.proofs.Spelled.{length_spellings}
use Rattle.reader.proofs.Legal.{LegalEnd, ending, ends_legal}
use Rattle.reader.proofs.Keeping.{Well, well, well_settle, well_moved}

-- the names so far
abbrev pub names_of : List ℕ → Machine → List Word
names_of t m = spellings t (take m.count m.names)

-- what a state stands for is well
pub well_of : (t : List ℕ) (i spare : ℕ) (m : Machine) (out : List Step) → Good i spare m → Well (state_of t i m out)
unfolding state_of
well_of t i spare m out good =
    well (omega (arith, good.few, good.spans, length_spellings t (take m.count m.names), length-take m.count m.names)) good.fits

fits_of_well : {ns : List Word} {out : List Step} {ss : List Symbol} {w : Word} {v : ℕ} → Well (at ns out ss w v) → Fits ss v
fits_of_well (well few fits) = fits

pub fits_back : (t : List ℕ) (i : ℕ) (m : Machine) (out : List Step) → Well (state_of t i m out) → Fits (drop m.top m.stack) m.value
unfolding state_of
fits_back t i m out h = fits_of_well h

fit_top : {s : Symbol} {ss : List Symbol} {v : ℕ} → Fits (s ∷ ss) v → Fit s v
fit_top (over fit ps) = fit

module _ (m : Machine) (s : Symbol) (there : m.top < length m.stack) (is : s ≡ get_or m.stack m.top Symbol.Lines) where
  pub top_is : drop m.top m.stack ≡ s ∷ drop (m.top + 1) m.stack
  top_is = drop_more m.stack m.top Symbol.Lines there ∙ ap (λ x. x ∷ drop (m.top + 1) m.stack) (sym is)

  pub fit_here : Fits (drop m.top m.stack) m.value → Fit s m.value
  fit_here h = fit_top (subst (λ ss. Fits ss m.value) top_is h)

  -- SETTLING

  module _ (t : List ℕ) (i b : ℕ) (out : List Step) where
    settle_here : settle (state_of t i m out) b ≡ pick (belongs s b) (at (names_of t m) out (s ∷ drop (m.top + 1) m.stack) (part t m.word i) m.value) (settled (ends (names_of t m) s (part t m.word i) m.value) out (drop (m.top + 1) m.stack))
    unfolding state_of settle
    settle_here = ap (λ ss. settle (at (names_of t m) out ss (part t m.word i) m.value) b) top_is

    pub settle_goes : true ≡ belongs s b → settle (state_of t i m out) b ≡ state_of t i m out
    unfolding state_of
    settle_goes e =
        settle_here
        ∙ (ap (λ x. pick x (at (names_of t m) out (s ∷ drop (m.top + 1) m.stack) (part t m.word i) m.value) (settled (ends (names_of t m) s (part t m.word i) m.value) out (drop (m.top + 1) m.stack))) (sym e)
        ∙ ap (λ ss. at (names_of t m) out ss (part t m.word i) m.value) (sym top_is))

    settle_ends : false ≡ belongs s b → settle (state_of t i m out) b ≡ settled (ends (names_of t m) s (part t m.word i) m.value) out (drop (m.top + 1) m.stack)
    settle_ends e =
        settle_here
        ∙ ap (λ x. pick x (at (names_of t m) out (s ∷ drop (m.top + 1) m.stack) (part t m.word i) m.value) (settled (ends (names_of t m) s (part t m.word i) m.value) out (drop (m.top + 1) m.stack))) (sym e)

    pub settle_none : false ≡ belongs s b → no ≡ ends (names_of t m) s (part t m.word i) m.value → settle (state_of t i m out) b ≡ stuck
    unfolding settled
    settle_none e k = settle_ends e ∙ ap (λ x. settled x out (drop (m.top + 1) m.stack)) (sym k)

    pub settle_some : (ns : List Word) (es : List Step) (p : List Symbol) (new : Machine) → false ≡ belongs s b → ended ns es p ≡ ends (names_of t m) s (part t m.word i) m.value → names_of t new ≡ ns
        → Replaced m.stack m.top new.stack new.top p → new.word ≡ i → new.value ≡ 0 → settle (state_of t i m out) b ≡ state_of t i new (es ++ out)
    unfolding settled state_of
    settle_some ns es p new e k names down word value =
        settle_ends e
        ∙ (ap (λ y. settled y out (drop (m.top + 1) m.stack)) (sym k)
        ∙ (ap (λ ms. at ms (es ++ out) (p ++ drop (m.top + 1) m.stack) [] 0) (sym names)
        ∙ (ap (λ ss. at (names_of t new) (es ++ out) ss [] 0) (sym down.is)
        ∙ (ap (λ u. at (names_of t new) (es ++ out) (drop new.top new.stack) u 0) (sym (ap (λ n. part t n i) word ∙ part_none t i))
        ∙ ap (λ v. at (names_of t new) (es ++ out) (drop new.top new.stack) (part t new.word i) v) (sym value)))))

  -- MOVING

  module _ (t : List ℕ) (i b : ℕ) (out : List Step) where
    top_move_here : top_move (state_of t i m out) b ≡ moves (names_of t m) s (part t m.word i) m.value b
    unfolding state_of top_move
    top_move_here = ap (λ ss. top_move (at (names_of t m) out ss (part t m.word i) m.value) b) top_is

    pub move_none : stop ≡ moves (names_of t m) s (part t m.word i) m.value b → moved (top_move (state_of t i m out) b) (state_of t i m out) ≡ stuck
    unfolding state_of moved
    move_none e =
        ap (λ x. moved x (state_of t i m out)) (top_move_here ∙ sym e) ∙ ap (λ ss. moved stop (at (names_of t m) out ss (part t m.word i) m.value)) top_is

    pub move_some : (f : Flag) (es : List Step) (p : List Symbol) (u : Word) (new : Machine) → move f es p u new.value ≡ moves (names_of t m) s (part t m.word i) m.value b
        → names_of t new ≡ names_of t m → Replaced m.stack m.top new.stack new.top p → part t new.word (i + 1) ≡ u
        → moved (top_move (state_of t i m out) b) (state_of t i m out) ≡ state_of t (i + 1) new (es ++ out)
    unfolding state_of moved
    move_some f es p u new e names down word =
        ap (λ y. moved y (state_of t i m out)) (top_move_here ∙ sym e)
        ∙ (ap (λ ss. moved (move f es p u new.value) (at (names_of t m) out ss (part t m.word i) m.value)) top_is
        ∙ (ap (λ ns. at ns (es ++ out) (p ++ drop (m.top + 1) m.stack) u new.value) (sym names)
        ∙ (ap (λ ss. at (names_of t new) (es ++ out) ss u new.value) (sym down.is)
        ∙ ap (λ w. at (names_of t new) (es ++ out) (drop new.top new.stack) w new.value) (sym word))))

    pub flag_here : (f : Flag) (es : List Step) (p : List Symbol) (u : Word) (n : ℕ) → move f es p u n ≡ moves (names_of t m) s (part t m.word i) m.value b → move_flag (top_move (state_of t i m out) b) ≡ f
    unfolding move_flag
    flag_here f es p u n e = ap move_flag (top_move_here ∙ sym e)

-- an empty stack
pub settle_empty : (m : Machine) (t : List ℕ) (i b : ℕ) (out : List Step) → length m.stack ≤ m.top → settle (state_of t i m out) b ≡ stuck
unfolding state_of settle
settle_empty m t i b out past = ap (λ ss. settle (at (names_of t m) out ss (part t m.word i) m.value) b) (drop_all m.top m.stack past)

pub move_empty : (m : Machine) (t : List ℕ) (i b : ℕ) (out : List Step) → length m.stack ≤ m.top → moved (top_move (state_of t i m out) b) (state_of t i m out) ≡ stuck
unfolding state_of moved
move_empty m t i b out past =
    ap (λ ss. moved (top_move (state_of t i m out) b) (at (names_of t m) out ss (part t m.word i) m.value)) (drop_all m.top m.stack past)

-- the names with a new one, where it is new
pub names_more : (t : List ℕ) (m new : Machine) (i : ℕ) (x : Bool) (s : Span) → s.from ≡ m.word → s.to ≡ i → take new.count new.names ≡ pick x (take m.count m.names ++ s ∷ []) (take m.count m.names) → names_of t new ≡ pick x (names_of t m ++ part t m.word i ∷ []) (names_of t m)
unfolding spellings spelling
names_more t m new i true s p q e =
    ap (spellings t) e ∙ (map_push (spelling t) (take m.count m.names) s ∙ (ap (λ n. names_of t m ++ part t n s.to ∷ []) p ∙ ap (λ n. names_of t m ++ part t m.word n ∷ []) q))
names_more t m new i false s p q e = ap (spellings t) e

-- there is room for a new name
few_after : {s : Symbol} {ns : List Word} {es : List Step} {p : List Symbol} → LegalEnd s (ended ns es p) → length ns ≤ 64
few_after (ending l q few) = few

pub room_for : (ns : List Word) (s : Symbol) (w : Word) (v : ℕ) (x : Ending) → length ns ≤ 64 → ended_as ns w x ≡ ends ns s w v → x.named ≡ true → length ns < 64
room_for ns s w v x few e new =
    let all : length (pick x.named (ns ++ w ∷ []) ns) ≤ 64 = few_after (subst (λ y. LegalEnd s y) (sym e) (ends_legal ns few s w v)) in
    omega (arith, sym (ap (λ y. length (pick y (ns ++ w ∷ []) ns)) new), length_push ns w)

-- THE MACHINE'S WAYS

pub ended_at : (ns ns' : List Word) (w w' : Word) (s : Symbol) (v : ℕ) (x : Option Ending) → ns ≡ ns' → w ≡ w' → ended_of ns w x ≡ ends ns s w v → ended_of ns' w' x ≡ ends ns' s w' v
ended_at ns ns' w w' s v x p q e = subst (λ u. ended_of ns' u x ≡ ends ns' s u v) q (subst (λ m. ended_of m w x ≡ ends m s w v) p e)

pub used_names : (t : List ℕ) (m : Machine) → spellings t (take (m.count - 0) m.names) ≡ names_of t m
used_names t m = let same : m.count - 0 ≡ m.count = omega arith in ap (λ n. spellings t (take n m.names)) same

pub few_used : (t : List ℕ) (i spare : ℕ) (m : Machine) → Good i spare m → length (names_of t m) ≡ m.count
few_used t i spare m good = length_spellings t (take m.count m.names) ∙ length-take-le m.count m.names (omega (arith, good.few, good.spans))

few_symbols : (p : Pushes) → length (symbols_of p) ≤ 8
few_symbols p = omega (arith, length-take p.len p.at, p.few)

pub less_room : (i : ℕ) (m : Machine) → Good i 16 m → Good i 8 m
less_room i m good =
    record {
      few = good.few;
      wide = good.wide;
      spans = good.spans;
      begun = good.begun;
      deep = good.deep;
      room = omega (arith, good.room);
      fits = good.fits;
    }

pub settled_same : (t : List ℕ) (i b : ℕ) (m : Machine) → Good i 16 m → m.top < 2112 → true ≡ belongs (get_or m.stack m.top Symbol.Lines) b → Settled t i b m m (record { step = None })
settled_same t i b m good there e =
    record {
      is = λ out. settle_goes m (get_or m.stack m.top Symbol.Lines) (omega (arith, good.wide)) refl t i b out e;
      good = less_room i m good;
    }

pub settled_by : (t : List ℕ) (i b : ℕ) (m new : Machine) (ns : List Word) (step : Option Step) (p : List Symbol) → Good i 16 m → m.top < 2112 → false ≡ belongs (get_or m.stack m.top Symbol.Lines) b
    → ended ns (option_to_list step) p ≡ ends (names_of t m) (get_or m.stack m.top Symbol.Lines) (part t m.word i) m.value
    → names_of t new ≡ ns → new.count ≤ 64 → length new.names ≡ 64
    → Replaced m.stack m.top new.stack new.top p → length p ≤ 8 → new.word ≡ i → new.value ≡ 0 → Settled t i b m new (record { step = step })
settled_by t i b m new ns step p good there e k names few long down short word value =
    let is : (out : List Step) → settle (state_of t i m out) b ≡ state_of t i new (option_to_list step ++ out) =
    λ out. settle_some m (get_or m.stack m.top Symbol.Lines) (omega (arith, good.wide)) refl t i b out ns (option_to_list step) p new e k names down word value in
    let after : Well (state_of t i new (option_to_list step ++ [])) = subst Well (is []) (well_settle (state_of t i m []) b (well_of t i 16 m [] good)) in
    record {
      is = is;
      good =
          record {
            few = few;
            wide = down.long ∙ good.wide;
            spans = long;
            begun = omega arith;
            deep = omega (arith, down.down);
            room = omega (arith, down.down, good.room);
            fits = fits_back t i new (option_to_list step ++ []) after;
          };
    }

pub settled_new : (t : List ℕ) (i b : ℕ) (m new : Machine) (x : Ending) → Good i 16 m → m.top < 2112 → false ≡ belongs (get_or m.stack m.top Symbol.Lines) b
    → ended_as (names_of t m) (part t m.word i) x ≡ ends (names_of t m) (get_or m.stack m.top Symbol.Lines) (part t m.word i) m.value
    → take new.count new.names ≡ pick x.named (take m.count m.names ++ record { from = m.word; to = i } ∷ []) (take m.count m.names) → new.count ≤ 64 → length new.names ≡ 64
    → Replaced m.stack m.top new.stack new.top (symbols_of x.pushes) → new.word ≡ i → new.value ≡ 0 → Settled t i b m new (record { step = x.step })
settled_new t i b m new x good there e k names few long down word value =
    settled_by t i b m new (pick x.named (names_of t m ++ part t m.word i ∷ []) (names_of t m)) x.step (symbols_of x.pushes) good there e k
    (names_more t m new i x.named (record { from = m.word; to = i }) refl refl names) few long down (few_symbols x.pushes) word value

pub moves_at : (ns ns' : List Word) (t : List ℕ) (e : ℕ) (s : Symbol) (w : Word) (v b : ℕ) (x : Option Turn) → ns ≡ ns' → move_of t e x ≡ moves ns s w v b → move_of t e x ≡ moves ns' s w v b
moves_at ns ns' t e s w v b x p h = h ∙ ap (λ m. moves m s w v b) p

pub turned_by : (t : List ℕ) (i : ℕ) (m new : Machine) (x : Mark) (step : Option Step) (p : List Symbol) (u : Word) → Good i 8 m → m.top < 2112
    → move (flag_of x) (option_to_list step) p u new.value ≡ moves (names_of t m) (get_or m.stack m.top Symbol.Lines) (part t m.word i) m.value (get_or t i 0)
    → new.names ≡ m.names → new.count ≡ m.count
    → Replaced m.stack m.top new.stack new.top p → part t new.word (i + 1) ≡ u → new.word ≤ i + 1
    → Turned t i m new (record { before = None; step = step; mark = x })
turned_by t i m new x step p u good there k names count down word begun =
    let s = get_or m.stack m.top Symbol.Lines in
    let same : names_of t new ≡ names_of t m = ap (λ n. spellings t (take n new.names)) count ∙ ap (λ ns. spellings t (take m.count ns)) names in
    let is : (out : List Step) → moved (top_move (state_of t i m out) (get_or t i 0)) (state_of t i m out) ≡ state_of t (i + 1) new (option_to_list step ++ out) =
    λ out. move_some m s (omega (arith, good.wide)) refl t i (get_or t i 0) out (flag_of x) (option_to_list step) p u new k same down word in
    record {
      is = is;
      flag = λ out. flag_here m s (omega (arith, good.wide)) refl t i (get_or t i 0) out (flag_of x) (option_to_list step) p u new.value k;
      good =
          record {
            few = omega (arith, good.few);
            wide = down.long ∙ good.wide;
            spans = ap length names ∙ good.spans;
            begun = begun;
            deep = omega (arith, down.down);
            room = omega arith;
            fits = fits_back t (i + 1) new (option_to_list step ++ []) (subst Well (is []) (well_moved (state_of t i m []) (get_or t i 0) (well_of t i 8 m [] good)));
          };
    }

pub turned_new : (t : List ℕ) (i : ℕ) (m new : Machine) (x : Turn) → Good i 8 m → m.top < 2112
    → move_as t (i + 1) x ≡ moves (names_of t m) (get_or m.stack m.top Symbol.Lines) (part t m.word i) m.value (get_or t i 0)
    → new.names ≡ m.names → new.count ≡ m.count
    → Replaced m.stack m.top new.stack new.top (symbols_of x.pushes) → part t new.word (i + 1) ≡ word_from t (i + 1) x.word → new.word ≤ i + 1 → new.value ≡ x.value
    → Turned t i m new (record { before = None; step = x.step; mark = x.mark })
turned_new t i m new x good there k names count down word begun value =
    turned_by t i m new x.mark x.step (symbols_of x.pushes) (word_from t (i + 1) x.word) good there
    (ap (λ v. move (flag_of x.mark) (option_to_list x.step) (symbols_of x.pushes) (word_from t (i + 1) x.word) v) value ∙ k) names count down word begun

-- one byte: what ended before it, and then the byte
pub advanced_both : (t : List ℕ) (i : ℕ) (m mid new : Machine) (s : Said) (x : Advance) → Settled t i (get_or t i 0) m mid s → Turned t i mid new x → Advanced t i m new (record { before = s.step; step = x.step; mark = x.mark })
unfolding next next_flag
advanced_both t i m mid new s x first second =
    record {
      is = λ out. ap (λ q. moved (top_move q (get_or t i 0)) q) (first.is out) ∙ second.is (option_to_list s.step ++ out);
      flag = λ out. ap (λ q. move_flag (top_move q (get_or t i 0))) (first.is out) ∙ second.flag (option_to_list s.step ++ out);
      good = second.good;
    }

-- a byte before which nothing ends
pub advanced_on : (t : List ℕ) (i : ℕ) (m new : Machine) (x : Mark) → Good i 16 m → ReadOn t i m new x → Advanced t i m new (record { before = None; step = None; mark = x })
advanced_on t i m new x good on =
    advanced_both t i m m new (record { step = None }) (record { before = None; step = None; mark = x }) (record { is = on.still; good = less_room i m good }) on.turned
