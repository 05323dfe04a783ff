-- Words that end in the common ways.
use Rattle.std.proofs.Common.{◌≡◌, ℕ, ◌<◌, ◌≤◌, true, false, not, ◌&&◌, ◌||◌, ltb, List, [], ◌∷◌, ◌++◌, length, get_or, take, Some, None, Option, sym, ap, ◌∙◌, subst, arith}
use Rattle.std.specs.Option.{option_to_list}
use Rattle.std.proofs.lemmas.List.{take_all, length-take-le, get_or-take}
use Rattle.std.proofs.lemmas.Bool.{and_parts, or_parts, not-true}
use Rattle.semantics.specs.Shapes.{pick}
use Rattle.program.specs.declared.step.Step.{Step}
use Rattle.grammar.specs.declared.symbol.Symbol.{Symbol}
use Rattle.grammar.specs.declared.symbol.Head.{Head}
use Rattle.grammar.specs.declared.symbol.Target.{Target}
use Rattle.grammar.specs.Words.{Word, same_word, find, is_some, itself, head_word, heads, kept_words, reserved, shaped, is_name, are_names, in_word}
use Rattle.grammar.specs.Moves.{belongs, place, with_name, can_name, operands, head_step, head_rest, target_step, target_rest, no, ended, name_ends, word_ends, ends, spelled}
use Rattle.grammar.proofs.WordLaws.{same_word_is, find_none}
use Rattle.grammar.proofs.NameLaws.{names_at, place_known}
use Rattle.reader.specs.declared.machine.Machine.{Machine}
use Rattle.reader.specs.declared.names.Span.{Span}
use Rattle.reader.specs.Names.{part, spelling, spellings, KnownAs}
use Rattle.reader.specs.Machines.{TopIs, Placed, Standing, EndedNow}
use Rattle.reader.proofs.Spelled.{length_spellings, spelling_at}
use Rattle.reader.proofs.Settling.{names_of, settled_by}
use Rattle.reader.proofs.Noting.{hinted_same, never}

-- KNOWN NAMES

pub known_at : (ns : List Word) (w : Word) (k : ℕ) → are_names ns ≡ true → k < length ns → same_word w (get_or ns k []) ≡ true → KnownAs ns w k
known_at ns w k are low same =
    let known = place_known ns (length ns) k are (omega arith) low in
    let all : take (length ns) ns ≡ ns = take_all (length ns) ns (omega arith) in
    subst (λ u. KnownAs ns u k) (sym (same_word_is w (get_or ns k []) same))
    (record {
      named = names_at ns k are low;
      there = subst (λ xs. is_some itself xs (get_or ns k []) ≡ true) all known.1;
      is = subst (λ xs. place xs (get_or ns k []) ≡ k) all known.0;
      low = low;
    })

-- the word is the name at k, where it is spelled as that
pub known_by : (t : List ℕ) (ss : List Span) (n k : ℕ) (d : Span) (w u : Word) → are_names (spellings t (take n ss)) ≡ true → n ≤ length ss → k < n → u ≡ spelling t (get_or ss k d) → same_word w u ≡ true → KnownAs (spellings t (take n ss)) w k
known_by t ss n k d w u are many low is same =
    let long : length (spellings t (take n ss)) ≡ n = length_spellings t (take n ss) ∙ length-take-le n ss many in
    let at : get_or (spellings t (take n ss)) k [] ≡ spelling t (get_or ss k d) = spelling_at t (take n ss) k d (omega (arith, length-take-le n ss many)) ∙ ap (spelling t) (get_or-take n ss k d low) in
    known_at (spellings t (take n ss)) w k are (omega arith) (subst (λ v. same_word w v ≡ true) (is ∙ sym at) same)

-- no head is a name
not_head : (w : Word) → is_name w ≡ true → find head_word heads w ≡ None
unfolding is_name reserved
not_head w e =
    let parts = and_parts (shaped w) (not (reserved w)) e in
    find_none head_word heads w (or_parts (is_some head_word heads w) (is_some itself kept_words w) (not-true (reserved w) parts.1)).0

module _ (ns : List Word) (w : Word) (k : ℕ) (known : KnownAs ns w k) where
  can : can_name ns w ≡ true
  unfolding can_name
  can = ap (λ t. t && (is_some itself ns w || ltb (length ns) 64)) known.named ∙ ap (λ t. t || ltb (length ns) 64) known.there

  pub known_ends : (step : ℕ → Step) (rest : List Symbol) → ended ns (step k ∷ []) rest ≡ name_ends ns w step rest
  unfolding name_ends with_name
  known_ends step rest =
      sym
      (ap (λ x. pick x (ended (with_name ns w) (step (place ns w) ∷ []) rest) no) can
      ∙ (ap (λ x. ended (pick x ns (ns ++ w ∷ [])) (step (place ns w) ∷ []) rest) known.there ∙ ap (λ n. ended ns (step n ∷ []) rest) known.is))

  pub known_word_ends : (v : ℕ) → ended ns (Step.Name k ∷ []) [] ≡ ends ns Symbol.Word w v
  unfolding ends word_ends
  known_word_ends v = known_ends (λ n. Step.Name n) [] ∙ sym (ap (word_ends ns w) (not_head w known.named))

-- SETTLED BY THEM

module _ (t : List ℕ) (i b : ℕ) (m : Machine) (on : Standing t i m) (other : in_word b ≡ false) where
  settled_old : (new : Machine) (s : Symbol) (step : Option Step) (p : List Symbol) → TopIs m s → belongs s b ≡ false
      → ended (names_of t m) (option_to_list step) p ≡ ends (names_of t m) s (part t m.word i) m.value
      → length p ≤ 8 → Placed m new p i → EndedNow t i b m new (record { step = step })
  settled_old new s step p top ending k short placed =
      record {
        settled =
            settled_by t i b m new (names_of t m) step p on.good (omega (arith, top.there, on.good.wide)) (sym (ap (λ y. belongs y b) top.is ∙ ending)) (k ∙ sym (ap (λ y. ends (names_of t m) y (part t m.word i) m.value) top.is))
            (ap (λ n. spellings t (take n new.names)) placed.count ∙ ap (λ ns. spellings t (take m.count ns)) placed.names) (omega (arith, on.good.few, placed.count)) (ap length placed.names ∙ on.good.spans) placed.down short placed.begins placed.value;
        hinted = hinted_same t i i m new on.hinted placed.names placed.count placed.hints (λ is. never (sym placed.dirty ∙ is));
      }

  pub name_settled : (k : ℕ) (new : Machine) → TopIs m Symbol.Word → KnownAs (names_of t m) (part t m.word i) k → Placed m new [] i → EndedNow t i b m new (record { step = Some (Step.Name k) })
  unfolding belongs
  name_settled k new top known placed =
      settled_old new Symbol.Word (Some (Step.Name k)) [] top other (known_word_ends (names_of t m) (part t m.word i) k known m.value) (omega arith) placed

  pub head_settled : (h : Head) (n : ℕ) (step : Option Step) (new : Machine) → TopIs m Symbol.Word → Some h ≡ find head_word heads (part t m.word i)
      → head_rest h ≡ operands n → option_to_list step ≡ head_step h → Placed m new (Symbol.Byte 40 ∷ Symbol.Expr ∷ Symbol.Operands n ∷ []) i
      → EndedNow t i b m new (record { step = step })
  unfolding belongs ends word_ends operands
  head_settled h n step new top found rest says placed =
      settled_old new Symbol.Word step (Symbol.Byte 40 ∷ Symbol.Expr ∷ Symbol.Operands n ∷ []) top other
      (ap (λ es. ended (names_of t m) es (Symbol.Byte 40 ∷ Symbol.Expr ∷ Symbol.Operands n ∷ [])) says
      ∙ (ap (λ p. ended (names_of t m) (head_step h) p) (sym rest) ∙ ap (word_ends (names_of t m) (part t m.word i)) found))
      (omega arith) placed

  pub let_settled : (k : ℕ) (new : Machine) → TopIs m (Symbol.Target Target.Let) → KnownAs (names_of t m) (part t m.word i) k → Placed m new (target_rest Target.Let) i
      → EndedNow t i b m new (record { step = Some (Step.Let k) })
  unfolding belongs ends target_step target_rest spelled
  let_settled k new top known placed =
      settled_old new (Symbol.Target Target.Let) (Some (Step.Let k)) (target_rest Target.Let) top other
      (known_ends (names_of t m) (part t m.word i) k known (λ n. target_step Target.Let n) (target_rest Target.Let)) (omega arith) placed
