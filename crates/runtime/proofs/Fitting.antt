-- The arrays that fit.
use Rattle.std.proofs.Common.{◌≡◌, ℕ, ◌+◌, ◌-◌, ◌<◌, ◌≤◌, List, [], ◌∷◌, ◌++◌, length, sym, refl, ap, ◌∙◌, append_assoc, arith, length-append}
use Rattle.std.proofs.lemmas.Bool.{lt-ltb, le-ltb, le-leb, lt-leb}
use Rattle.std.proofs.lemmas.List.{flat_map_more}
use Rattle.semantics.specs.Shapes.{pick}
use Rattle.semantics.specs.Programs.{Shown as Listed}
use Rattle.semantics.specs.RunLaws.{Begins}
use Rattle.encoding.specs.Words.{written}
use Rattle.encoding.specs.Writing.{array_bytes}
use Rattle.encoding.specs.ReadBack.{shown_bytes}
use Rattle.runtime.specs.declared.run.Ran.{Ran}
use Rattle.runtime.specs.Running.{end_number, bytes_of, fitting, ShowsAs}

pub shown_none : shown_bytes [] ≡ []
unfolding shown_bytes
shown_none = refl

length_more : (h : Listed ℕ) (hs : List (Listed ℕ)) → length (shown_bytes (h ∷ hs)) ≡ bytes_of h + length (shown_bytes hs)
unfolding shown_bytes bytes_of
length_more h hs = length-append (array_bytes h.shape h.numbers) (shown_bytes hs)

-- one array behind the others
pub shown_push : (hs : List (Listed ℕ)) (h : Listed ℕ) → shown_bytes hs ++ array_bytes h.shape h.numbers ≡ shown_bytes (hs ++ h ∷ [])
unfolding shown_bytes
shown_push hs h = flat_map_more (λ (h : Listed ℕ). array_bytes h.shape h.numbers) [] hs h

fitting_all : (r : ℕ) (hs : List (Listed ℕ)) → length (shown_bytes hs) ≤ r → fitting r hs ≡ hs
unfolding fitting
fitting_all r [] l = refl
fitting_all r (h ∷ hs) l =
    let more = length_more h hs in
    ap (λ b. pick b [] (h ∷ fitting (r - bytes_of h) hs)) (le-ltb r (bytes_of h) (omega arith)) ∙ ap (λ gs. h ∷ gs) (fitting_all (r - bytes_of h) hs (omega arith))

fitting_cut : (r : ℕ) (gs : List (Listed ℕ)) (h : Listed ℕ) (more : List (Listed ℕ)) → length (shown_bytes gs) ≤ r → r < length (shown_bytes gs) + bytes_of h → fitting r (gs ++ h ∷ more) ≡ gs
unfolding fitting
fitting_cut r [] h more l u =
    let none = ap length shown_none in
    ap (λ b. pick b [] (h ∷ fitting (r - bytes_of h) more)) (lt-ltb r (bytes_of h) (omega arith))
fitting_cut r (g ∷ gs) h more l u =
    let long = length_more g gs in
    ap (λ b. pick b [] (g ∷ fitting (r - bytes_of g) (gs ++ h ∷ more))) (le-ltb r (bytes_of g) (omega arith)) ∙ ap (λ k. g ∷ k) (fitting_cut (r - bytes_of g) gs h more (omega arith) (omega arith))

length_front : (gs : List (Listed ℕ)) (h : Listed ℕ) (more : List (Listed ℕ)) → length (shown_bytes gs) + bytes_of h ≤ length (shown_bytes (gs ++ h ∷ more))
length_front [] h more = omega (arith, length_more h more, ap length shown_none)
length_front (g ∷ gs) h more = omega (arith, length_more g gs, length_more g (gs ++ h ∷ more), length_front gs h more)

-- all arrays fit
pub shows_whole : (hs : List (Listed ℕ)) (n : ℕ) (old new : List ℕ) (r : Ran) → new ≡ written old 0 (shown_bytes hs) → r.shown ≡ length (shown_bytes hs) → r.shown ≤ length old → end_number r.end ≡ n → ShowsAs hs n old new r
shows_whole hs n old new r bytes shown fits ends =
    let all : fitting (length old) hs ≡ hs = fitting_all (length old) hs (omega arith) in
    record {
      bytes = bytes ∙ ap (λ gs. written old 0 (shown_bytes gs)) (sym all);
      shown = shown ∙ ap (λ gs. length (shown_bytes gs)) (sym all);
      ends = ends ∙ sym (ap (λ b. pick b n 10) (le-leb (length (shown_bytes hs)) (length old) (omega arith)));
    }

-- the array h behind gs does not
pub shows_cut : (hs gs : List (Listed ℕ)) (h : Listed ℕ) (n : ℕ) (old new : List ℕ) (r : Ran) → Begins (gs ++ h ∷ []) hs → new ≡ written old 0 (shown_bytes gs) → r.shown ≡ length (shown_bytes gs) → r.shown ≤ length old → length old < r.shown + bytes_of h → end_number r.end ≡ 10 → ShowsAs hs n old new r
shows_cut hs gs h n old new r b bytes shown fits over ends =
    let is : hs ≡ gs ++ h ∷ b.more = b.is ∙ append_assoc gs (h ∷ []) b.more in
    let cut : fitting (length old) hs ≡ gs = ap (fitting (length old)) is ∙ fitting_cut (length old) gs h b.more (omega arith) (omega arith) in
    let long : length old < length (shown_bytes hs) = omega (arith, length_front gs h b.more, ap (λ l. length (shown_bytes l)) is) in
    record {
      bytes = bytes ∙ ap (λ l. written old 0 (shown_bytes l)) (sym cut);
      shown = shown ∙ ap (λ l. length (shown_bytes l)) (sym cut);
      ends = ends ∙ sym (ap (λ b. pick b n 10) (lt-leb (length (shown_bytes hs)) (length old) long));
    }
