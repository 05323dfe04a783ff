-- A beginning of a name becomes a name: one that has come, or a new one.
use Rattle.std.proofs.Common.{◌≡◌, ℕ, suc, ◌<◌, ◌≤◌, Bool, true, false, not, ◌&&◌, ◌||◌, eqb, ltb, List, [], ◌∷◌, ◌++◌, length, get_or, sym, refl, ◌∙◌, subst, ⊎_elim, arith, length-append}
use Rattle.std.proofs.lemmas.Bool.{and_parts, and_from, or_cases, and_left, and_right, not_from_false, not_from_true, cases_Bool, ltb-true, lt-ltb, le-ltb, eq-eqb, both_ways, cases_lt}
use Rattle.semantics.specs.declared.operation.Unary.TheVariants.{Neg, Abs, Sqrt, Floor, Not}
use Rattle.semantics.specs.declared.operation.Binary.TheVariants.{Add, Sub, Mul, Div, Less, Same, Least, Most}
use Rattle.grammar.specs.Words.{Word, is_some, itself, begins_some, head_word, heads, kept_words, reserved, shaped, is_letter, is_digit, in_word, all_in_word, is_name}
use Rattle.grammar.specs.Sayable.{Comes, known, new}
use Rattle.grammar.specs.Moves.{viable_name}
use Rattle.grammar.specs.declared.symbol.Head.{Head}
use Rattle.grammar.proofs.WordLaws.{Among, here, there, is_some_is, begins_some_is}
use Rattle.grammar.proofs.NameLaws.{are_names_snoc}
use Rattle.grammar.proofs.ExprAlong.{Spellings}
use Rattle.grammar.proofs.EndsBack.{Front, append_nil}

last_byte : Word → ℕ
last_byte [] = 0
last_byte (b ∷ []) = b
last_byte (b ∷ c ∷ w) = last_byte (c ∷ w)

-- below 8 letters, and no 0 at the end
lean : Word → Bool
lean w = ltb (length w) 8 && not (eqb (last_byte w) 48)

head_lean : (h : Head) → lean (head_word h) ≡ true
unfolding lean last_byte head_word
head_lean Head.In = refl
head_lean Head.Count = refl
head_lean (Head.Each Neg) = refl
head_lean (Head.Each Abs) = refl
head_lean (Head.Each Sqrt) = refl
head_lean (Head.Each Floor) = refl
head_lean (Head.Each Not) = refl
head_lean (Head.Both Add) = refl
head_lean (Head.Both Sub) = refl
head_lean (Head.Both Mul) = refl
head_lean (Head.Both Div) = refl
head_lean (Head.Both Less) = refl
head_lean (Head.Both Same) = refl
head_lean (Head.Both Least) = refl
head_lean (Head.Both Most) = refl
head_lean Head.Choose = refl
head_lean Head.Fold = refl
head_lean Head.Scan = refl
head_lean Head.Shape = refl
head_lean Head.Turn = refl
head_lean Head.Part = refl
head_lean Head.Join = refl
head_lean Head.Rows = refl

all_lean : List Word → Bool
all_lean [] = true
all_lean (w ∷ ws) = lean w && all_lean ws

among_lean : {w : Word} {ws : List Word} → Among w ws → all_lean ws ≡ true → lean w ≡ true
unfolding all_lean
among_lean {w} (here {xs = xs}) h = (and_parts (lean w) (all_lean xs) h).0
among_lean (there {b = b} {xs = xs} i) h = among_lean i (and_parts (lean b) (all_lean xs) h).1

kept_lean : all_lean kept_words ≡ true
unfolding all_lean lean last_byte kept_words
kept_lean = refl

reserved_lean : (w : Word) → reserved w ≡ true → lean w ≡ true
unfolding reserved
reserved_lean w h =
    ⊎_elim
    (λ e. let k = is_some_is head_word heads w e in subst (λ u. lean u ≡ true) (sym k.2) (head_lean k.0))
    (λ e. let k = is_some_is itself kept_words w e in subst (λ u. lean u ≡ true) (sym k.2) (among_lean k.1 kept_lean))
    (or_cases _ _ h)

not_reserved : (w : Word) → lean w ≡ false → reserved w ≡ false
not_reserved w h = ⊎_elim (λ e. absurd (both_ways (lean w) h (reserved_lean w e))) (λ e. e) (cases_Bool (reserved w))

last_snoc : (w : Word) → last_byte (w ++ 48 ∷ []) ≡ 48
unfolding last_byte
last_snoc [] = refl
last_snoc (b ∷ []) = refl
last_snoc (b ∷ c ∷ w) = last_snoc (c ∷ w)

all_in_snoc : (w : Word) → all_in_word w ≡ true → all_in_word (w ++ 48 ∷ []) ≡ true
unfolding all_in_word in_word is_letter is_digit
all_in_snoc [] h = refl
all_in_snoc (b ∷ w) h = let p = and_parts (in_word b) (all_in_word w) h in and_from _ _ p.0 (all_in_snoc w p.1)

-- the name that w becomes
pub record Fuller (w : Word) : Type 0 where
  pub rest : Word
  pub is : is_name (w ++ rest) ≡ true

pub fuller : (w : Word) → shaped w ≡ true → Fuller w
unfolding shaped is_name lean
fuller [] h = absurd (both_ways false refl h)
fuller (b ∷ w) h =
    let p = and_parts (is_letter b && all_in_word w) (ltb (length w) 8) h in
    let q = and_parts (is_letter b) (all_in_word w) p.0 in
    let l = ltb-true (length w) 8 p.1 in
    ⊎_elim
    (λ (s : length w < 7). record {
      rest = 48 ∷ [];
      is = and_from _ _
          (and_from _ _ (and_from _ _ q.0 (all_in_snoc w q.1)) (lt-ltb (length (w ++ 48 ∷ [])) 8 (rw length-append (omega arith))))
          (not_from_false _ (not_reserved (b ∷ w ++ 48 ∷ []) (and_right _ _ (not_from_true _ (eq-eqb (last_byte (b ∷ w ++ 48 ∷ [])) 48 (last_snoc (b ∷ w)))))));
    })
    (λ (s : 7 ≤ length w). record {
      rest = [];
      is = subst (λ u. is_name u ≡ true) (sym (append_nil (b ∷ w)))
          (and_from _ _ h (not_from_false _ (not_reserved (b ∷ w) (and_left _ _ (le-ltb (length (b ∷ w)) 8 (omega arith))))));
    })
    (cases_lt (length w) 7)

-- spellings with room for that name, and its number
pub record NameFor (ns : List Word) (w : Word) : Type 0 where
  pub names : List Word
  pub spellings : Spellings names
  pub front : Front ns names
  pub number : ℕ
  pub after : ℕ
  pub comes : Comes number (length ns) after
  pub within : after ≤ length names
  pub rest : Word
  pub spelled : get_or names number [] ≡ w ++ rest

among_index : {w : Word} {ns : List Word} → Among w ns → (k : ℕ) × (k < length ns) × (get_or ns k [] ≡ w)
among_index here = (0, omega arith, refl)
among_index (there i) = let k = among_index i in (suc k.0, omega (arith, k.1), k.2)

known_name : {ns : List Word} {a : Word} (w u : Word) → Spellings ns → Among a ns → a ≡ w ++ u → NameFor ns w
known_name {ns} w u sp i e =
    let k = among_index i in
    record { names = ns; spellings = sp; front = record { behind = []; is = sym (append_nil ns) }; number = k.0; after = length ns; comes = known k.1; within = omega arith; rest = u; spelled = k.2 ∙ e }

get_d_end : (ns : List Word) (w : Word) → get_or (ns ++ w ∷ []) (length ns) [] ≡ w
get_d_end [] w = refl
get_d_end (n ∷ ns) w = get_d_end ns w

new_name : {ns : List Word} (w u : Word) → Spellings ns → length ns < 64 → is_name (w ++ u) ≡ true → NameFor ns w
new_name {ns} w u sp l h =
    ⊎_elim
    (λ e. let k = is_some_is itself ns (w ++ u) e in known_name w u sp k.1 (sym k.2))
    (λ e. record {
      names = ns ++ (w ++ u) ∷ [];
      spellings = record { are = are_names_snoc ns (w ++ u) sp.are h e; few = rw length-append (omega arith) };
      front = record { behind = (w ++ u) ∷ []; is = refl };
      number = length ns;
      after = suc (length ns);
      comes = new;
      within = rw length-append (omega arith);
      rest = u;
      spelled = get_d_end ns (w ++ u);
    })
    (cases_Bool (is_some itself ns (w ++ u)))

pub name_for : {ns : List Word} (w : Word) → Spellings ns → viable_name ns w ≡ true → NameFor ns w
unfolding viable_name
name_for {ns} w sp h =
    let p = and_parts (shaped w) (begins_some itself ns w || ltb (length ns) 64) h in
    ⊎_elim
    (λ e. let k = begins_some_is itself ns w e in known_name w k.2 sp k.1 k.3)
    (λ e. let f = fuller w p.0 in new_name w f.rest sp (ltb-true (length ns) 64 e) f.is)
    (or_cases (begins_some itself ns w) (ltb (length ns) 64) p.1)
