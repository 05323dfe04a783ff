-- A word or number that ends says what its rest then says.
use Rattle.std.proofs.Common.{◌≡◌, ℕ, zero, suc, ◌<◌, Bool, true, false, List, [], ◌∷◌, ◌++◌, length, get_or, Some, None, decimal, Option, sym, refl, ap, ◌∙◌, subst, append_assoc, arith, length-append}
use Rattle.semantics.specs.Shapes.{pick}
use Rattle.semantics.specs.declared.operation.Binary.{Binary as Two}
use Rattle.program.specs.declared.step.Step.{Step}
use Rattle.program.specs.Spelling.{spell}
use Rattle.grammar.specs.Letters.{Letter, begins, plains, flagged}
use Rattle.grammar.specs.Words.{Word, is_some, itself, find, head_word, heads, binary_word, binaries}
use Rattle.grammar.specs.Constants.{read_expr}
use Rattle.grammar.specs.Sayable.{Small, Comes, known, new, fit_name, fit_input, fit_count, fit_each, fit_both, fit_choose, fit_fold, fit_scan, fit_shape, fit_turn, fit_part, fit_join, fit_rows}
use Rattle.grammar.specs.Written.{write_expr}
use Rattle.grammar.specs.Moves.{place, with_name, can_name, operands, bracket, spelled, head_step, head_rest, target_step, target_rest, along_step, number_step, number_rest, Ended, no, ended, name_ends, word_ends, binary_ends, ends}
use Rattle.grammar.specs.declared.symbol.Head.{Head}
use Rattle.grammar.specs.declared.symbol.Along.{Along}
use Rattle.grammar.specs.declared.symbol.Target.{Target}
use Rattle.grammar.specs.declared.symbol.Number.{Number}
use Rattle.grammar.specs.declared.symbol.Symbol.{Symbol}
use Rattle.grammar.specs.Automaton.{onto}
use Rattle.grammar.proofs.WordLaws.{find_some}
use Rattle.grammar.proofs.NameLaws.{place_there, place_absent}
use Rattle.grammar.proofs.Back.{pick_told}
use Rattle.grammar.proofs.Says.{SaysAll, says_next, an_input, a_count, an_axis, a_join, an_again, an_item, a_from, a_step, a_many, says_body, says_byte, says_let, says_put, says_expr, says_word, says_binary, says_number, says_digits, says_close, says_more, says_first_items, says_first_parts, says_step}

-- ms begins with ns
pub record Front (ns ms : List Word) : Type 0 where
  pub behind : List Word
  pub is : ms ≡ ns ++ behind

pub append_nil : {A : Type 0} (u : List A) → u ++ [] ≡ u
append_nil [] = refl
append_nil {A} (b ∷ u) = ap {B = List A} (λ y. b ∷ y) (append_nil u)

get_d_front : (ns more : List Word) (k : ℕ) → k < length ns → get_or (ns ++ more) k [] ≡ get_or ns k []
get_d_front [] more k h = absurd (omega arith)
get_d_front (n ∷ ns) more zero h = refl
get_d_front (n ∷ ns) more (suc k) h = get_d_front ns more k (omega arith)

get_d_behind : (ns : List Word) (w : Word) (more : List Word) → get_or (ns ++ w ∷ more) (length ns) [] ≡ w
get_d_behind [] w more = refl
get_d_behind (n ∷ ns) w more = get_d_behind ns w more

-- a name that has come is name k of the spellings
pub record Came (ns : List Word) (w : Word) (ms ns' : List Word) : Type 0 where
  pub front : Front ns ms
  pub comes : Comes (place ns w) (length ns) (length ns')
  pub spelling : get_or ms (place ns w) [] ≡ w

pub came : (ns : List Word) (w : Word) (ms : List Word) → Front (with_name ns w) ms → Came ns w ms (with_name ns w)
unfolding with_name
came ns w ms = go (is_some itself ns w) refl
  where
    go : (t : Bool) → is_some itself ns w ≡ t → Front (pick t ns (ns ++ w ∷ [])) ms → Came ns w ms (pick t ns (ns ++ w ∷ []))
    go true e f =
        let p = place_there ns w e in
        record { front = f; comes = known p.0; spelling = ap (λ x. get_or x (place ns w) []) f.is ∙ get_d_front ns f.behind (place ns w) p.0 ∙ p.1 }
    go false e f =
        let i : ms ≡ ns ++ w ∷ f.behind = f.is ∙ append_assoc ns (w ∷ []) f.behind in
        let p = place_absent ns w e in
        let l : length (ns ++ w ∷ []) ≡ suc (length ns) = length-append ns (w ∷ []) ∙ omega arith in
        record {
          front = record { behind = w ∷ f.behind; is = i };
          comes = subst (λ x. Comes x (length ns) (length (ns ++ w ∷ []))) (sym p) (subst (λ x. Comes (length ns) (length ns) x) (sym l) new);
          spelling = ap (λ x. get_or ms x []) p ∙ ap (λ x. get_or x (length ns) []) i ∙ get_d_behind ns w f.behind;
        }

pub data EndsBack (ms ns : List Word) (s : Symbol) (w : Word) (v : ℕ) : Ended → Type 0 where
  ends_no : EndsBack ms ns s w v no
  ends_so : {ns' : List Word} {es : List Step} {s' : List Symbol} → ((rest : List Symbol) (o : ℕ) (f : List Letter) (a : List Step) → Front ns' ms → SaysAll ms (s' ++ rest) [] 0 (length ns') o f a → Front ns ms × SaysAll ms (s ∷ rest) w v (length ns) o f (onto es a)) → EndsBack ms ns s w v (ended ns' es s')

-- a word that begins an expression
head_back : {ms : List Word} {v n o : ℕ} {f : List Letter} {a : List Step} (h : Head) (rest : List Symbol) → SaysAll ms (head_rest h ++ rest) [] 0 n o f a → SaysAll ms (Symbol.Word ∷ rest) (head_word h) v n o f (onto (head_step h) a)
unfolding head_rest head_step head_word operands bracket write_expr read_expr spell flagged plains along_step
head_back Head.In rest (says_next says_byte (says_next (says_number k an_input) r)) = says_next (says_word (fit_input k) refl) r
head_back Head.Count rest (says_next says_byte (says_next (says_number k a_count) r)) = says_next (says_word (fit_count k) refl) r
head_back (Head.Each k) rest (says_next says_byte (says_next (says_expr x) (says_next says_close r))) = says_next (says_word (fit_each x) refl) r
head_back (Head.Both k) rest (says_next says_byte (says_next (says_expr x) (says_next (says_more y says_close) r))) = says_next (says_word (fit_both x y) refl) r
head_back Head.Choose rest (says_next says_byte (says_next (says_expr x) (says_next (says_more y (says_more z says_close)) r))) = says_next (says_word (fit_choose x y z) refl) r
head_back Head.Fold rest (says_next says_byte (says_next (says_binary u t q k x) r)) = says_next (says_word (fit_fold k x) (rw q)) r
head_back Head.Scan rest (says_next says_byte (says_next (says_binary u t q k x) r)) = says_next (says_word (fit_scan k x) (rw q)) r
head_back Head.Shape rest (says_next says_byte (says_next says_byte (says_next (says_first_items k) (says_next says_byte (says_next (says_expr x) (says_next says_close r)))))) = says_next (says_word (fit_shape k x) refl) r
head_back Head.Turn rest (says_next says_byte (says_next says_byte (says_next (says_first_items k) (says_next says_byte (says_next (says_expr x) (says_next says_close r)))))) = says_next (says_word (fit_turn k x) refl) r
head_back Head.Part rest (says_next says_byte (says_next says_byte (says_next (says_first_parts k) (says_next says_byte (says_next (says_expr x) (says_next says_close r)))))) = says_next (says_word (fit_part k x) refl) r
head_back Head.Join rest (says_next says_byte (says_next (says_number k (a_join x y)) r)) = says_next (says_word (fit_join k x y) refl) r
head_back Head.Rows rest (says_next says_byte (says_next (says_expr x) (says_next (says_more y says_close) r))) = says_next (says_word (fit_rows x y) refl) r

word_head_back : (ms ns : List Word) (w : Word) (v : ℕ) (h : Head) → w ≡ head_word h → EndsBack ms ns Symbol.Word w v (ended ns (head_step h) (head_rest h))
word_head_back ms ns w v h e =
    ends_so (λ rest o f a p r. (p, subst (λ u. SaysAll ms (Symbol.Word ∷ rest) u v (length ns) o f (onto (head_step h) a)) (sym e) (head_back h rest r)))

-- a name in an expression
word_name_back : (ms ns : List Word) (w : Word) (v : ℕ) → EndsBack ms ns Symbol.Word w v (name_ends ns w (λ k. Step.Name k) [])
unfolding name_ends write_expr read_expr spell
word_name_back ms ns w v =
    pick_told (EndsBack ms ns Symbol.Word w v) (can_name ns w)
    (λ _. ends_so (λ rest o f a p r.
    let c = came ns w ms p in
    (c.front, says_next (says_word (fit_name c.comes) (ap (λ u. flagged begins u f) c.spelling)) r)))
    (λ _. ends_no)

-- a name behind let or put
target_said : (ms ns : List Word) (x : Target) (w : Word) (v : ℕ) {ns' : List Word} {o : ℕ} {f : List Letter} {a : List Step} (rest : List Symbol) → Came ns w ms ns' → SaysAll ms (target_rest x ++ rest) [] 0 (length ns') o f a → SaysAll ms (Symbol.Target x ∷ rest) w v (length ns) o f (target_step x (place ns w) ∷ a)
unfolding target_rest target_step spelled bracket plains
target_said ms ns Target.Let w v rest c (says_next says_byte (says_next says_byte (says_next says_byte (says_next (says_expr x) r)))) =
    says_next (says_let [] c.comes (c.spelling ∙ sym (append_nil w)) x) r
target_said ms ns Target.Put w v rest c (says_next says_byte (says_next says_byte (says_next (says_first_parts k) (says_next says_byte (says_next says_byte (says_next says_byte (says_next (says_expr x) r))))))) =
    says_next (says_put [] c.comes (c.spelling ∙ sym (append_nil w)) k x) r

target_name_back : (ms ns : List Word) (x : Target) (w : Word) (v : ℕ) → EndsBack ms ns (Symbol.Target x) w v (name_ends ns w (λ k. target_step x k) (target_rest x))
unfolding name_ends
target_name_back ms ns x w v =
    pick_told (EndsBack ms ns (Symbol.Target x) w v) (can_name ns w)
    (λ _. ends_so (λ rest o f a p r. let c = came ns w ms p in (c.front, target_said ms ns x w v rest c r)))
    (λ _. ends_no)

-- the word of an operation on two numbers
binary_said : (ms : List Word) (x : Along) (t : Two) (w : Word) (v : ℕ) {n o : ℕ} {f : List Letter} {a : List Step} (rest : List Symbol) → w ≡ binary_word t → SaysAll ms (Symbol.Byte 32 ∷ Symbol.Number (Number.Along x t) ∷ rest) [] 0 n o f a → SaysAll ms (Symbol.Binary x ∷ rest) w v n o f a
unfolding plains
binary_said ms x t w v rest e (says_next says_byte (says_next (says_number k (an_axis y)) r)) =
    says_next (says_binary [] t (sym e ∙ sym (append_nil w)) k y) r

binary_ends_back : (ms ns : List Word) (x : Along) (w : Word) (v : ℕ) (t : Option Two) → find binary_word binaries w ≡ t → EndsBack ms ns (Symbol.Binary x) w v (binary_ends ns x t)
unfolding binary_ends
binary_ends_back ms ns x w v (Some t) e = ends_so (λ rest o f a p r. (p, binary_said ms x t w v rest (find_some binary_word binaries w t e) r))
binary_ends_back ms ns x w v None e = ends_no

word_ends_back : (ms ns : List Word) (w : Word) (v : ℕ) (h : Option Head) → find head_word heads w ≡ h → EndsBack ms ns Symbol.Word w v (word_ends ns w h)
unfolding word_ends
word_ends_back ms ns w v (Some h) e = word_head_back ms ns w v h (find_some head_word heads w h e)
word_ends_back ms ns w v None e = word_name_back ms ns w v

-- a number
number_said : (ms : List Word) (p : Number) (w : Word) (v : ℕ) {n o : ℕ} {f : List Letter} {a : List Step} (rest : List Symbol) → Small v → SaysAll ms (number_rest p v ++ rest) [] 0 n o f a → SaysAll ms (Symbol.Digits p ∷ rest) w v n o f (onto (number_step p v) a)
unfolding number_rest number_step operands plains
number_said ms Number.Input w v rest s r = says_next (says_digits [] s (sym (append_nil (decimal v))) an_input) r
number_said ms Number.Count w v rest s r = says_next (says_digits [] s (sym (append_nil (decimal v))) a_count) r
number_said ms (Number.Along x t) w v rest s (says_next says_byte (says_next (says_expr y) (says_next says_close r))) = says_next (says_digits [] s (sym (append_nil (decimal v))) (an_axis y)) r
number_said ms Number.Join w v rest s (says_next says_byte (says_next (says_expr y) (says_next (says_more z says_close) r))) = says_next (says_digits [] s (sym (append_nil (decimal v))) (a_join y z)) r
number_said ms Number.Again w v rest s (says_next says_byte (says_next (says_body y) r)) = says_next (says_digits [] s (sym (append_nil (decimal v))) (an_again y)) r
number_said ms Number.Item w v rest s r = says_next (says_digits [] s (sym (append_nil (decimal v))) an_item) r
number_said ms Number.From w v rest s (says_next says_byte (says_next (says_step y z) r)) = says_next (says_digits [] s (sym (append_nil (decimal v))) (a_from y z)) r
number_said ms (Number.Step k b) w v rest s (says_next says_byte (says_next (says_number y a_many) r)) = says_next (says_digits [] s (sym (append_nil (decimal v))) (a_step y)) r
number_said ms (Number.Many k b m) w v rest s r = says_next (says_digits [] s (sym (append_nil (decimal v))) a_many) r

pub ends_back : (ms ns : List Word) (s : Symbol) (w : Word) (v : ℕ) → ((p : Number) → s ≡ Symbol.Digits p → Small v) → EndsBack ms ns s w v (ends ns s w v)
unfolding ends
ends_back ms ns Symbol.Lines w v l = ends_no
ends_back ms ns Symbol.Body w v l = ends_no
ends_back ms ns (Symbol.Byte c) w v l = ends_no
ends_back ms ns (Symbol.Target x) w v l = target_name_back ms ns x w v
ends_back ms ns Symbol.Expr w v l = ends_no
ends_back ms ns Symbol.Word w v l = word_ends_back ms ns w v (find head_word heads w) refl
ends_back ms ns (Symbol.Binary x) w v l = binary_ends_back ms ns x w v (find binary_word binaries w) refl
ends_back ms ns (Symbol.Number p) w v l = ends_no
ends_back ms ns (Symbol.Digits p) w v l = ends_so (λ rest o f a q r. (q, number_said ms p w v rest (l p refl) r))
ends_back ms ns (Symbol.Hex n) w v l = ends_no
ends_back ms ns (Symbol.Operands n) w v l = ends_no
ends_back ms ns (Symbol.First k) w v l = ends_no
ends_back ms ns (Symbol.More k) w v l = ends_no
ends_back ms ns (Symbol.Item k) w v l = ends_no
ends_back ms ns (Symbol.Step k) w v l = ends_no
