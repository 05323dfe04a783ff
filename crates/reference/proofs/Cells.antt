-- Names as cells of the meaning.
use Rattle.std.proofs.Common.{◌≡◌, ℕ, ◌+◌, ◌<◌, ◌≤◌, List, [], ◌∷◌, ◌++◌, map, length, get_or, take, sym, ap, ◌∙◌, arith, Option, Some, None, MatchOption}
use Rattle.std.specs.Borrow.{Bor}
use Rattle.std.specs.Option.{option_copied}
use Rattle.std.proofs.lemmas.List.{get_or-map, length-map, take_more, get_or_past}
use Rattle.semantics.specs.Values as meaning
use Rattle.semantics.specs.Programs.{cell_size, in_names}
use Rattle.reference.specs.declared.array.Array as owned
use Rattle.reference.specs.ArrayOf.{array_of}
use Rattle.reference.specs.CellsOf.{cell_of}

pub in_names_push : (cs : List (meaning.Cell ℕ)) (c : meaning.Cell ℕ) → in_names (cs ++ c ∷ []) ≡ in_names cs + cell_size c
unfolding in_names
in_names_push [] c = omega arith
in_names_push (d ∷ cs) c = omega (arith, in_names_push cs c)

-- a name that was read
pub cell_there : (xs : List (Option owned.Array)) (k : ℕ) (x : Option owned.Array) → k < length xs → x ≡ get_or xs k x → get_or (map cell_of xs) k meaning.none ≡ cell_of x
cell_there xs k x l e = get_or-map cell_of xs k x meaning.none l ∙ ap cell_of (sym e)

pub cell_past : (xs : List (Option owned.Array)) (k : ℕ) → length xs ≤ k → get_or (map cell_of xs) k meaning.none ≡ meaning.none
cell_past xs k l = get_or_past (map cell_of xs) k meaning.none (omega (arith, length-map xs cell_of))

pub in_names_more : (xs : List (Option owned.Array)) (k : ℕ) (x : Option owned.Array) → k < length xs → x ≡ get_or xs k x → in_names (take (k + 1) (map cell_of xs)) ≡ in_names (take k (map cell_of xs)) + cell_size (cell_of x)
in_names_more xs k x l e =
    ap in_names (take_more (map cell_of xs) k meaning.none (omega (arith, length-map xs cell_of)))
    ∙ (in_names_push (take k (map cell_of xs)) _ ∙ ap (λ c. in_names (take k (map cell_of xs)) + cell_size c) (cell_there xs k x l e))

-- a name that was looked up
pub found : (xs : List (Option owned.Array)) (k : ℕ) (x : Option owned.Array) (o : Option (Bor owned.Array)) → k < length xs → x ≡ get_or xs k x → option_copied o ≡ x → MatchOption o (get_or (map cell_of xs) k meaning.none ≡ meaning.none) (λ a. (k < length xs) × (get_or (map cell_of xs) k meaning.none ≡ meaning.some (array_of a.now)))
found xs k x None l e is = cell_there xs k x l e ∙ ap cell_of (sym is)
found xs k x (Some a) l e is = (l, cell_there xs k x l e ∙ ap cell_of (sym is))
