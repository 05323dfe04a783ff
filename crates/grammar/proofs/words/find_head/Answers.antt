use Rattle.std.proofs.Common.{◌≡◌, ℕ, ◌-◌, ◌≤◌, length, get_or, take, drop, Some, codes, ap, ◌∙◌, arith}
use Rattle.semantics.specs.Shapes.{pick}
use Rattle.semantics.specs.declared.operation.Unary.TheVariants.{Neg, Abs, Sqrt, Floor}
use Rattle.semantics.specs.declared.operation.Binary.TheVariants.{Sub, Mul, Less, Same}
use Rattle.grammar.specs.declared.symbol.Head.TheVariants.{Count, Each, Both, Scan}
use Rattle.grammar.specs.Words.{same_word, find, head_word, heads, unary_word, binary_word}
use Rattle.grammar.proofs.Sought.{none_empty, no_head, first_split}
use Rattle.grammar.proofs.words.find_head.Goals as goal

some : (n : ℕ) → 1 ≤ n → n ≡ 0 → ⊥
some n h e = omega arith

pub returns-in_default : goal.returns-in_default
returns-in_default c = none_empty c.args.word.now (omega arith)

pub returns-in-97 : goal.returns-in-97
unfolding same_word find head_word heads unary_word binary_word
returns-in-97 c =
    let w = c.args.word.now in
    let r = take (length w - 1) (drop 1 w) in
    (c.head_or-in-97.ensures ∙ ap (λ o. pick (same_word r (codes "bs")) (Some (Each Abs)) o) c.head_or.ensures) ∙ ap (find head_word heads) (first_split w 97 (some _ c.in-len1-up.len_at_least) c.in-97.is)

pub returns-in-99 : goal.returns-in-99
unfolding same_word find head_word heads unary_word binary_word
returns-in-99 c =
    let w = c.args.word.now in
    let r = take (length w - 1) (drop 1 w) in
    (c.head_or-in-99-2.ensures ∙ ap (λ o. pick (same_word r (codes "ount")) (Some Count) o) c.head_or-in-99.ensures) ∙ ap (find head_word heads) (first_split w 99 (some _ c.in-len1-up.len_at_least) c.in-99.is)

pub returns-in-100 : goal.returns-in-100
unfolding same_word find head_word heads unary_word binary_word
returns-in-100 c =
    let w = c.args.word.now in
    let r = take (length w - 1) (drop 1 w) in
    c.head_or-in-100.ensures ∙ ap (find head_word heads) (first_split w 100 (some _ c.in-len1-up.len_at_least) c.in-100.is)

pub returns-in-102 : goal.returns-in-102
unfolding same_word find head_word heads unary_word binary_word
returns-in-102 c =
    let w = c.args.word.now in
    let r = take (length w - 1) (drop 1 w) in
    (c.head_or-in-102-2.ensures ∙ ap (λ o. pick (same_word r (codes "loor")) (Some (Each Floor)) o) c.head_or-in-102.ensures) ∙ ap (find head_word heads) (first_split w 102 (some _ c.in-len1-up.len_at_least) c.in-102.is)

pub returns-in-105 : goal.returns-in-105
unfolding same_word find head_word heads unary_word binary_word
returns-in-105 c =
    let w = c.args.word.now in
    let r = take (length w - 1) (drop 1 w) in
    c.head_or-in-105.ensures ∙ ap (find head_word heads) (first_split w 105 (some _ c.in-len1-up.len_at_least) c.in-105.is)

pub returns-in-106 : goal.returns-in-106
unfolding same_word find head_word heads unary_word binary_word
returns-in-106 c =
    let w = c.args.word.now in
    let r = take (length w - 1) (drop 1 w) in
    c.head_or-in-106.ensures ∙ ap (find head_word heads) (first_split w 106 (some _ c.in-len1-up.len_at_least) c.in-106.is)

pub returns-in-108 : goal.returns-in-108
unfolding same_word find head_word heads unary_word binary_word
returns-in-108 c =
    let w = c.args.word.now in
    let r = take (length w - 1) (drop 1 w) in
    (c.head_or-in-108-2.ensures ∙ ap (λ o. pick (same_word r (codes "ess")) (Some (Both Less)) o) c.head_or-in-108.ensures) ∙ ap (find head_word heads) (first_split w 108 (some _ c.in-len1-up.len_at_least) c.in-108.is)

pub returns-in-109 : goal.returns-in-109
unfolding same_word find head_word heads unary_word binary_word
returns-in-109 c =
    let w = c.args.word.now in
    let r = take (length w - 1) (drop 1 w) in
    (c.head_or-in-109-2.ensures ∙ ap (λ o. pick (same_word r (codes "ul")) (Some (Both Mul)) o) c.head_or-in-109.ensures) ∙ ap (find head_word heads) (first_split w 109 (some _ c.in-len1-up.len_at_least) c.in-109.is)

pub returns-in-110 : goal.returns-in-110
unfolding same_word find head_word heads unary_word binary_word
returns-in-110 c =
    let w = c.args.word.now in
    let r = take (length w - 1) (drop 1 w) in
    (c.head_or-in-110-2.ensures ∙ ap (λ o. pick (same_word r (codes "eg")) (Some (Each Neg)) o) c.head_or-in-110.ensures) ∙ ap (find head_word heads) (first_split w 110 (some _ c.in-len1-up.len_at_least) c.in-110.is)

pub returns-in-112 : goal.returns-in-112
unfolding same_word find head_word heads unary_word binary_word
returns-in-112 c =
    let w = c.args.word.now in
    let r = take (length w - 1) (drop 1 w) in
    c.head_or-in-112.ensures ∙ ap (find head_word heads) (first_split w 112 (some _ c.in-len1-up.len_at_least) c.in-112.is)

pub returns-in-114 : goal.returns-in-114
unfolding same_word find head_word heads unary_word binary_word
returns-in-114 c =
    let w = c.args.word.now in
    let r = take (length w - 1) (drop 1 w) in
    c.head_or-in-114.ensures ∙ ap (find head_word heads) (first_split w 114 (some _ c.in-len1-up.len_at_least) c.in-114.is)

pub returns-in-115 : goal.returns-in-115
unfolding same_word find head_word heads unary_word binary_word
returns-in-115 c =
    let w = c.args.word.now in
    let r = take (length w - 1) (drop 1 w) in
    (c.head_or-in-115-5.ensures ∙ ap (λ o. pick (same_word r (codes "qrt")) (Some (Each Sqrt)) o) (c.head_or-in-115-4.ensures ∙ ap (λ o. pick (same_word r (codes "ub")) (Some (Both Sub)) o) (c.head_or-in-115-3.ensures ∙ ap (λ o. pick (same_word r (codes "ame")) (Some (Both Same)) o) (c.head_or-in-115-2.ensures ∙ ap (λ o. pick (same_word r (codes "can")) (Some Scan) o) c.head_or-in-115.ensures)))) ∙ ap (find head_word heads) (first_split w 115 (some _ c.in-len1-up.len_at_least) c.in-115.is)

pub returns-in-116 : goal.returns-in-116
unfolding same_word find head_word heads unary_word binary_word
returns-in-116 c =
    let w = c.args.word.now in
    let r = take (length w - 1) (drop 1 w) in
    c.head_or-in-116.ensures ∙ ap (find head_word heads) (first_split w 116 (some _ c.in-len1-up.len_at_least) c.in-116.is)

pub returns-in_default-first : goal.returns-in_default-first
returns-in_default-first c =
    let w = c.args.word.now in
    let b = get_or w 0 0 in
    no_head w (some _ c.in-len1-up.len_at_least) (λ (e : b ≡ 97). omega arith) (λ (e : b ≡ 99). omega arith) (λ (e : b ≡ 100). omega arith) (λ (e : b ≡ 102). omega arith) (λ (e : b ≡ 105). omega arith) (λ (e : b ≡ 106). omega arith) (λ (e : b ≡ 108). omega arith) (λ (e : b ≡ 109). omega arith) (λ (e : b ≡ 110). omega arith) (λ (e : b ≡ 112). omega arith) (λ (e : b ≡ 114). omega arith) (λ (e : b ≡ 115). omega arith) (λ (e : b ≡ 116). omega arith)
