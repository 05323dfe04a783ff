use Rattle.std.proofs.Common.{[], ◌∷◌, ◌++◌, vec_items, refl, ap, ◌∙◌}
use Rattle.std.proofs.lemmas.List.{append_assoc}
use Rattle.std.proofs.lemmas.Slice.{pushed}
use Rattle.writer.proofs.listing.push_length.Goals as goal

pub returns : goal.returns
returns c =
    let old = vec_items c.args.out.now in
    let one = pushed (32 ∷ []) refl c.in_ok-push.was c.push.ensures.items in
    let two = pushed c.as_bytes.result.now one c.in_ok-extend_from_slice.was c.extend_from_slice.ensures.items in
    let digits = c.as_bytes.ensures.value ∙ c.in_ok-text.ensures.ok in
    two ∙ (append_assoc old (32 ∷ []) c.as_bytes.result.now ∙ ap (λ bs. old ++ 32 ∷ bs) digits)
