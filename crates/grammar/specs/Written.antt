-- How a program is written: the one text that a program has, under spellings of its names. Constants stand here as they are written,
-- as 16 hexadecimal digits; numbers are decimal without leading zeros.
use Rattle.std.specs.Prelude.{ℕ, ◌+◌, List, [], ◌∷◌, codes, decimal, nat_lt, slice_index_or}
use Rattle.semantics.specs.Shapes.{pick}
use Rattle.semantics.specs.Parts.{Part}
use Rattle.semantics.specs.Values.{Expr, name, input, constant, count, each, both, choose, fold, scan, shape_to, turn, part, join, rows}
use Rattle.semantics.specs.Programs.{Program, end, be, put, show, again}
use Rattle.grammar.specs.Letters.{Letter, letter, begins, opens, closes, plain, plains, flagged}
use Rattle.grammar.specs.Words.{Word, unary_word, binary_word}

-- 0 to 9, a to f
unfoldable pub hex_byte : ℕ → ℕ
hex_byte d = pick (nat_lt d 10) (48 + d) (87 + d)

unfoldable pub write_hex : List ℕ → List Letter → List Letter
unfolding hex_byte
write_hex [] r = r
write_hex (d ∷ ds) r = plain (hex_byte d) ∷ write_hex ds r

unfoldable pub write_number : ℕ → List Letter → List Letter
unfolding plains
write_number k r = plains (decimal k) r

-- what stands between brackets: items parted by `, `
unfoldable pub write_item : ℕ → List Letter → List Letter
unfolding flagged
write_item k r = flagged begins (decimal k) r

unfoldable pub write_more_items : List ℕ → List Letter → List Letter
unfolding write_item
write_more_items [] r = r
write_more_items (k ∷ ks) r = plain 44 ∷ plain 32 ∷ write_item k (write_more_items ks r)

unfoldable pub write_items : List ℕ → List Letter → List Letter
unfolding write_item write_more_items
write_items [] r = r
write_items (k ∷ ks) r = write_item k (write_more_items ks r)

-- from:step:many, with a minus before the step where it goes backward
unfoldable pub write_part : Part → List Letter → List Letter
unfolding flagged plains write_number
write_part p r =
    flagged begins (decimal p.from) (plain 58 ∷ plains (pick p.backward (codes "-") []) (write_number p.step (plain 58 ∷ write_number p.many r)))

unfoldable pub write_more_parts : List Part → List Letter → List Letter
unfolding write_part
write_more_parts [] r = r
write_more_parts (p ∷ ps) r = plain 44 ∷ plain 32 ∷ write_part p (write_more_parts ps r)

unfoldable pub write_parts : List Part → List Letter → List Letter
unfolding write_part write_more_parts
write_parts [] r = r
write_parts (p ∷ ps) r = write_part p (write_more_parts ps r)

-- an expression, and then r; name k is written as the spelling k
unfoldable pub write_expr : List Word → Expr (List ℕ) → List Letter → List Letter
unfolding flagged plains unary_word binary_word write_hex write_number write_items write_parts
write_expr ns (name k) r = flagged begins (slice_index_or ns k []) r
write_expr ns (input k) r = flagged begins (codes "in ") (write_number k r)
write_expr ns (constant ds) r = letter begins 35 ∷ write_hex ds r
write_expr ns (count k) r = flagged begins (codes "count ") (write_number k r)
write_expr ns (each k e) r = flagged begins (unary_word k) (plain 40 ∷ write_expr ns e (plain 41 ∷ r))
write_expr ns (both k e f) r =
    flagged begins (binary_word k) (plain 40 ∷ write_expr ns e (plain 44 ∷ plain 32 ∷ write_expr ns f (plain 41 ∷ r)))
write_expr ns (choose e f g) r =
    flagged begins (codes "choose(") (write_expr ns e (plain 44 ∷ plain 32 ∷ write_expr ns f (plain 44 ∷ plain 32 ∷ write_expr ns g (plain 41 ∷ r))))
write_expr ns (fold k x e) r =
    flagged begins (codes "fold ") (plains (binary_word k) (plain 32 ∷ write_number x (plain 40 ∷ write_expr ns e (plain 41 ∷ r))))
write_expr ns (scan k x e) r =
    flagged begins (codes "scan ") (plains (binary_word k) (plain 32 ∷ write_number x (plain 40 ∷ write_expr ns e (plain 41 ∷ r))))
write_expr ns (shape_to t e) r = flagged begins (codes "shape [") (write_items t (plain 93 ∷ plain 40 ∷ write_expr ns e (plain 41 ∷ r)))
write_expr ns (turn os e) r = flagged begins (codes "turn [") (write_items os (plain 93 ∷ plain 40 ∷ write_expr ns e (plain 41 ∷ r)))
write_expr ns (part ps e) r = flagged begins (codes "part [") (write_parts ps (plain 93 ∷ plain 40 ∷ write_expr ns e (plain 41 ∷ r)))
write_expr ns (join x e f) r =
    flagged begins (codes "join ") (write_number x (plain 40 ∷ write_expr ns e (plain 44 ∷ plain 32 ∷ write_expr ns f (plain 41 ∷ r))))
write_expr ns (rows e f) r =
    flagged begins (codes "rows(") (write_expr ns e (plain 44 ∷ plain 32 ∷ write_expr ns f (plain 41 ∷ r)))

-- statements, each with the byte 10 behind it, and then r
unfoldable pub write_lines : List Word → Program (List ℕ) → List Letter → List Letter
unfolding flagged plains write_expr write_number write_parts
write_lines ns end r = r
write_lines ns (be k e p) r =
    flagged begins (codes "let ") (plains (slice_index_or ns k []) (plains (codes " = ") (write_expr ns e (plain 10 ∷ write_lines ns p r))))
write_lines ns (put k ps e p) r =
    flagged begins (codes "put ") (plains (slice_index_or ns k []) (plains (codes " [") (write_parts ps (plains (codes "] = ") (write_expr ns e (plain 10 ∷ write_lines ns p r))))))
write_lines ns (show e p) r = flagged begins (codes "show ") (write_expr ns e (plain 10 ∷ write_lines ns p r))
write_lines ns (again k b p) r =
    flagged opens (codes "again ") (write_number k (plain 10 ∷ write_lines ns b (flagged closes (codes "end") (plain 10 ∷ write_lines ns p r))))
