use Rattle.std.proofs.Common.{◌≡◌, ℕ, List, [], ◌∷◌, ◌++◌, length, take, vec_items, codes, decimal, ap, ◌∙◌, arith}
use Rattle.std.specs.List.{flat_map}
use Rattle.std.proofs.lemmas.List.{append_assoc, take_all}
use Rattle.writer.specs.Listing.{shape_text}
use Rattle.writer.proofs.listing.list_shape.Goals as goal

-- a word, the lengths and a line's end, one after another
lined : (old word lens start out last : List ℕ) → start ≡ old ++ word → out ≡ start ++ lens → last ≡ out ++ 10 ∷ [] → last ≡ old ++ (word ++ lens ++ 10 ∷ [])
lined old word lens start out last p q r =
    r ∙ (ap (λ xs. xs ++ 10 ∷ []) (q ∙ ap (λ xs. xs ++ lens) p) ∙ simp append_assoc)

pub returns : goal.returns
unfolding shape_text
returns c =
    let lens = c.lengths-len-items.result.now in
    let all : take c.loop-len.len-index lens ≡ lens = take_all c.loop-len.len-index lens (omega arith) in
    let text = λ (xs : List ℕ). flat_map (λ d. 32 ∷ decimal d) xs in
    lined (vec_items c.args.out.now) (codes "shape") _ (vec_items c.extend_from_slice.new.self) (vec_items c.loop-len.out) (vec_items c.push.new.self)
    c.in_ok-extend_from_slice.ensures.items
    (c.loop-len.invariant ∙ ap (λ xs. vec_items c.extend_from_slice.new.self ++ text xs) (all ∙ c.lengths-len-items.ensures))
    c.in_ok-push.ensures.items
