-- What a view shows, and what a view of a view shows.
use Rattle.std.proofs.Common.{◌≡◌, ℕ, suc, ◌+◌, ◌*◌, ◌^◌, ◌<◌, ◌≤◌, List, length, get_or, pos, ◌+ℤ◌, nat_abs, sym, ap, ◌∙◌, subst, ap₂, zero-add, arith}
use Rattle.semantics.specs.Shapes.{size, In, flat, unflat, up_to}
use Rattle.semantics.specs.Programs.{numbers_at}
use Rattle.semantics.proofs.Listings.{numbers_at_is}
use Rattle.semantics.specs.Arrays.{Array}
use Rattle.semantics.proofs.Places.{inside_in, in_inside, inside_unflat, flat_unflat, flat_below}
use Rattle.encoding.specs.declared.header.Header.{Header}
use Rattle.encoding.specs.ShapeOf.{shape_of}
use Rattle.encoding.specs.Format.{shape_at, number_at, array_at}
use Rattle.encoding.specs.Headers.{Heads}
use Rattle.encoding.proofs.Formats.{next_at_is}
use Rattle.encoding.proofs.Rows.{good_at_parts}
use Rattle.views.specs.declared.view.Source.{Source}
use Rattle.views.specs.declared.view.Source.TheVariants.{Area, Input}
use Rattle.views.specs.declared.view.View.{View}
use Rattle.views.specs.Walking.{Lies, RowMajor}
use Rattle.views.specs.Copying.{Walk, Copied}
use Rattle.views.proofs.Rows.{no_place}
use Rattle.views.specs.Views.{Good, Reaches, Holds, Sees, Whole, Laid, address, number_from, seen}

pub good_lies : (v : View) (is : List ℕ) → Good v → In (shape_of v.shape) is → Lies v.low v.high (address v is)
unfolding address
good_lies v is g h = g.walks.lies is h

pub good_address : (v : View) (is : List ℕ) {n : ℕ} → Good v → In (shape_of v.shape) is → address v is ≡ pos n → suc n ≤ v.high
good_address v is {n} g h e =
    let l = good_lies v is g h in
    let same : n ≡ l.word = ap nat_abs (sym e ∙ l.is) in
    omega arith

pub reaches_less : (o : Source) (area bs : List ℕ) {m n : ℕ} → m ≤ n → Reaches o area bs n → Reaches o area bs m
reaches_less Area area bs l r = omega arith
reaches_less (Input b) area bs l r = omega arith

-- a view of a view, at any numbers
pub sees_holds : {area bs : List ℕ} {v r : View} {a : Array ℕ} {s : List ℕ} {to : List ℕ → List ℕ} → Holds area bs v a → Sees v r s to → Holds area bs r (record { shape = s; at = λ is. a.at (to is) })
unfolding seen
sees_holds {area} {bs} {v} {r} {a} {s} {to} h w =
    let same_source = w.source in
    let same-high = w.high in
    record {
      good = w.good;
      there = subst (λ n. Reaches r.source area bs n) (sym same-high) (subst (λ o. Reaches o area bs v.high) (sym same_source) h.there);
      shaped = w.shaped;
      shows = λ is i.
          let here : In s is = subst (λ t. In t is) w.shaped i in
          ap (λ z. number_from r.source area bs (nat_abs z)) (w.same is here) ∙ (ap (λ o. number_from o area bs (nat_abs (address v (to is)))) same_source ∙ h.shows (to is) (w.inside is here));
    }

-- the addresses of a view of a good view
pub sees_good : (v r : View) (s : List ℕ) (to : List ℕ → List ℕ) → Good v → r.start < 2 ^ 62 → shape_of r.shape ≡ s → r.low ≡ v.low → r.high ≡ v.high → r.source ≡ v.source →
    ((is : List ℕ) → In s is → In (shape_of v.shape) (to is)) → ((is : List ℕ) → In s is → address r is ≡ address v (to is)) → Sees v r s to
unfolding address
sees_good v r s to g begins shaped low high source inside same =
    record {
      good = record {
        up = omega (arith, g.up);
        short = omega (arith, g.short);
        begins = begins;
        walks = record {
          lies = λ is h.
              let here : In s is = subst (λ t. In t is) shaped h in
              let l = good_lies v (to is) g (inside is here) in
              record { word = l.word; is = same is here ∙ l.is; above = omega arith; below = omega arith };
        };
      };
      shaped = shaped;
      low = low;
      high = high;
      source = source;
      inside = inside;
      same = same;
    }

-- where the numbers are laid out rows first
pub whole_good : (o : Source) (first : ℕ) (s : List ℕ) (r : View) → first + size s < 2 ^ 62 → shape_of r.shape ≡ s → RowMajor s r.strides →
    r.start ≡ first → r.low ≡ first → r.high ≡ first + size s → r.source ≡ o → Whole o first s r
unfolding address
whole_good o first s r few shaped rows start low high source =
    let far : (is : List ℕ) → In (shape_of r.shape) is → address r is ≡ pos (r.start + flat (shape_of r.shape) is)
    = λ is h.
    let here : In s is = subst (λ t. In t is) shaped h in
    ap (λ z. pos r.start +ℤ z) (rows.far is here) ∙ ap (λ t. pos (r.start + flat t is)) (sym shaped)
    in
    record {
      good = record {
        up = omega arith;
        short = omega arith;
        begins = omega arith;
        walks = record {
          lies = λ is h.
              let here : In s is = subst (λ t. In t is) shaped h in
              let below = flat_below (inside_in s is here) in
              let same = ap (λ t. flat t is) shaped in
              record { word = r.start + flat (shape_of r.shape) is; is = far is h; above = omega arith; below = omega arith };
        };
      };
      packed = record { far = far };
      shaped = shaped;
      start = start;
      low = low;
      high = high;
      source = source;
    }

module _ {o : Source} {first : ℕ} {s : List ℕ} {r : View} (w : Whole o first s r) where
  -- what a whole view shows
  pub whole_seen : (area bs is : List ℕ) → In (shape_of r.shape) is → seen area bs r is ≡ number_from o area bs (first + flat s is)
  unfolding seen
  whole_seen area bs is h =
      ap (λ z. number_from r.source area bs (nat_abs z)) (w.packed.far is h)
      ∙ (ap (λ p. number_from p area bs (r.start + flat (shape_of r.shape) is)) w.source ∙ ap (λ n. number_from o area bs n) (ap₂ (λ m t. m + flat t is) w.start w.shaped))

  pub whole_holds : (area bs : List ℕ) (a : Array ℕ) → s ≡ a.shape → Reaches o area bs (first + size s) → ((is : List ℕ) → In a.shape is → number_from o area bs (first + flat a.shape is) ≡ a.at is) → Holds area bs r a
  whole_holds area bs a e there each =
      record {
        good = w.good;
        there = subst (λ n. Reaches r.source area bs n) (sym w.high) (subst (λ p. Reaches p area bs (first + size s)) (sym w.source) there);
        shaped = w.shaped ∙ e;
        shows = λ is h. whole_seen area bs is h ∙ (ap (λ t. number_from o area bs (first + flat t is)) e ∙ each is (subst (λ t. In t is) (w.shaped ∙ e) h));
      }

pub laid_holds : {first : ℕ} {s : List ℕ} {r : View} → Whole Area first s r → (area bs : List ℕ) (a : Array ℕ) → s ≡ a.shape → Laid area first a → Holds area bs r a
unfolding number_from
laid_holds {first} {s} w area bs a e l = whole_holds w area bs a e (subst (λ t. first + size t ≤ length area) (sym e) l.room) l.each

pub input_holds : {head : Header} {r : View} → Whole (Input head.start) 0 (shape_of head.shape) r → (area bs : List ℕ) (at : ℕ) → Heads bs at head → Holds area bs r (array_at bs at)
unfolding number_from array_at
input_holds {head} w area bs at h =
    let ends = next_at_is bs at in
    let fits = (good_at_parts bs at h.good).1 in
    let same = ap size h.shaped in
    whole_holds w area bs (array_at bs at) h.shaped (omega (arith, h.starts))
    (λ is i. ap₂ (λ b n. number_at bs (b + 8 * n)) h.starts (zero-add (flat (shape_at bs at) is)))

pub view_walk : (v : View) (area bs : List ℕ) → Good v → Reaches v.source area bs v.high → Walk v.source area bs (shape_of v.shape) v.strides v.start
view_walk v area bs g there =
    record {
      high = v.high;
      short = g.short;
      there = there;
      walks = record { lies = λ is h. let l = g.walks.lies is h in record { word = l.word; is = l.is; above = omega arith; below = l.below } };
    }

pub copied_seen : (v : View) {area bs out : List ℕ} → Copied v.source area bs (shape_of v.shape) v.strides v.start out →
    (is : List ℕ) → In (shape_of v.shape) is → get_or out (flat (shape_of v.shape) is) 0 ≡ seen area bs v is
unfolding seen address
copied_seen v w is h = w.each is h

-- numbers that stand at each place's number are the array's numbers in order
pub seen_listed : {area bs out : List ℕ} {v : View} {a : Array ℕ} → Holds area bs v a → length out ≡ size (shape_of v.shape) →
    ((is : List ℕ) → In (shape_of v.shape) is → get_or out (flat (shape_of v.shape) is) 0 ≡ seen area bs v is) → out ≡ numbers_at a (up_to 0 (size a.shape))
seen_listed {area} {bs} {out} {v} {a} h long each =
    let s = shape_of v.shape in
    sym
    (numbers_at_is a out 0 (long ∙ ap size h.shaped)
    (λ k l.
    let low : k < size s = omega arith in
    let inside = in_inside (inside_unflat s k low) in
    ap (λ n. get_or out n 0) (sym (flat_unflat s k low)) ∙ (each (unflat s k) inside ∙ (h.shows (unflat s k) inside ∙ ap (λ t. a.at (unflat t k)) h.shaped))))

-- a view without places
pub sees_none : (v r : View) (s : List ℕ) (to : List ℕ → List ℕ) → Good v → r.start < 2 ^ 62 → shape_of r.shape ≡ s → r.low ≡ v.low → r.high ≡ v.high → r.source ≡ v.source → size s ≡ 0 → Sees v r s to
sees_none v r s to g begins shaped low high source none =
    sees_good v r s to g begins shaped low high source (λ is h. absurd (no_place (inside_in s is h) none)) (λ is h. absurd (no_place (inside_in s is h) none))
