-- Texts laid one after another.
use Rattle.std.proofs.Common.{◌≡◌, ℕ, ◌+◌, ◌<◌, ◌≤◌, List, [], ◌∷◌, ◌++◌, length, take, drop, set, sym, refl, ap, ◌∙◌, add-zero, arith, length-set}
use Rattle.std.proofs.lemmas.List.{append_assoc, length-append, take-append-drop, take_more_set, drop-set-lt, set_past}
use Rattle.writer.specs.Overlay.{overlay, Laid, Left}

pub overlay_append : (r : List ℕ) (at : ℕ) (xs ys : List ℕ) → overlay (overlay r at xs) (at + length xs) ys ≡ overlay r at (xs ++ ys)
unfolding overlay
overlay_append r at [] ys = ap (λ n. overlay r n ys) (add-zero at)
overlay_append r at (x ∷ xs) ys =
    let further : at + length (x ∷ xs) ≡ at + 1 + length xs = omega arith in
    ap (λ n. overlay (overlay (set r at x) (at + 1) xs) n ys) further ∙ overlay_append (set r at x) (at + 1) xs ys

pub length_overlay : (r : List ℕ) (at : ℕ) (xs : List ℕ) → length (overlay r at xs) ≡ length r
unfolding overlay
length_overlay r at [] = refl
length_overlay r at (x ∷ xs) = length_overlay (set r at x) (at + 1) xs ∙ length-set r at x

pub overlay_nothing : (at : ℕ) (xs : List ℕ) → overlay [] at xs ≡ []
unfolding overlay
overlay_nothing at [] = refl
overlay_nothing at (x ∷ xs) = overlay_nothing (at + 1) xs

-- where the text fits it stands in the room, and all else is as it was
pub overlay_fits : (r : List ℕ) (at : ℕ) (xs : List ℕ) → at + length xs ≤ length r → overlay r at xs ≡ take at r ++ (xs ++ drop (at + length xs) r)
unfolding overlay
overlay_fits r at [] h = sym (take-append-drop at r) ∙ ap (λ n. take at r ++ drop n r) (sym (add-zero at))
overlay_fits r at (x ∷ xs) h =
    let inside : at < length r = omega arith in
    let fits : at + 1 + length xs ≤ length (set r at x) = omega (arith, length-set r at x) in
    let past : at < at + 1 + length xs = omega arith in
    let further : at + 1 + length xs ≡ at + length (x ∷ xs) = omega arith in
    overlay_fits (set r at x) (at + 1) xs fits
    ∙ (ap (λ l. l ++ (xs ++ drop (at + 1 + length xs) (set r at x))) (take_more_set r at x inside)
    ∙ (append_assoc (take at r) (x ∷ []) (xs ++ drop (at + 1 + length xs) (set r at x))
    ∙ (ap (λ l. take at r ++ x ∷ (xs ++ l)) (drop-set-lt (at + 1 + length xs) r at x past) ∙ ap (λ n. take at r ++ x ∷ (xs ++ drop n r)) further)))

-- one text behind another
pub laid_none : (old : List ℕ) (at : ℕ) → Laid old at [] old at
unfolding overlay
laid_none old at = record { is = refl; ends = sym (add-zero at) }

pub laid_byte : (old : List ℕ) (at b : ℕ) → Laid old at (b ∷ []) (set old at b) (at + 1)
unfolding overlay
laid_byte old at b = record { is = refl; ends = refl }

pub laid_past : (old : List ℕ) (at b : ℕ) → length old ≤ at → Laid old at (b ∷ []) old (at + 1)
unfolding overlay
laid_past old at b h = record { is = sym (set_past old at b h); ends = refl }

pub laid_more : {old mid new xs ys : List ℕ} {at i j : ℕ} → Laid old at xs mid i → Laid mid i ys new j → Laid old at (xs ++ ys) new j
laid_more {old} {mid} {new} {xs} {ys} {at} {i} {j} p q = record {
  is = q.is ∙ (ap (λ l. overlay l i ys) p.is ∙ (ap (λ n. overlay (overlay old at xs) n ys) p.ends ∙ overlay_append old at xs ys));
  ends = omega (arith, p.ends, q.ends, length-append xs ys);
}

pub laid_as : {old new xs : List ℕ} {at i : ℕ} (ys : List ℕ) → xs ≡ ys → Laid old at xs new i → Laid old at ys new i
laid_as {old} {new} {xs} {at} {i} ys e p = record { is = p.is ∙ ap (overlay old at) e; ends = p.ends ∙ ap (λ l. at + length l) e }

-- what is left
pub left_start : (old : List ℕ) (at : ℕ) (text : List ℕ) → Left old at text old at text
left_start old at text = record { is = refl; ends = refl }

pub left_more : {old mid new text rest more : List ℕ} {at i j : ℕ} → Left old at text mid i rest → Left mid i rest new j more → Left old at text new j more
left_more p q = record { is = q.is ∙ p.is; ends = q.ends ∙ p.ends }

pub left_laid : {old new xs : List ℕ} {at i : ℕ} → Laid old at xs new i → (rest : List ℕ) → Left old at (xs ++ rest) new i rest
left_laid {old} {new} {xs} {at} {i} p rest = record {
  is = ap (λ l. overlay l i rest) p.is ∙ (ap (λ n. overlay (overlay old at xs) n rest) p.ends ∙ overlay_append old at xs rest);
  ends = omega (arith, p.ends, length-append xs rest);
}

pub left_as : {old new xs rest : List ℕ} {at i : ℕ} (ys more : List ℕ) → xs ≡ ys → rest ≡ more → Left old at xs new i rest → Left old at ys new i more
left_as {old} {new} {xs} {rest} {at} {i} ys more e f p = record {
  is = sym (ap (overlay new i) f) ∙ (p.is ∙ ap (overlay old at) e);
  ends = sym (ap (λ l. i + length l) f) ∙ (p.ends ∙ ap (λ l. at + length l) e);
}

pub left_all : {old new text : List ℕ} {at i : ℕ} → Left old at text new i [] → Laid old at text new i
unfolding overlay
left_all {old} {new} {text} {at} {i} p = record { is = p.is; ends = sym (add-zero i) ∙ p.ends }
