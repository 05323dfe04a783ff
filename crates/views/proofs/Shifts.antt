-- Views of a buffer that was moved down.
use Rattle.std.proofs.Common.{◌≡◌, ℕ, ◌+◌, ◌-◌, ◌^◌, ◌<◌, ◌≤◌, List, get_or, pos, nat_abs, sym, ap, ◌∙◌, subst, arith}
use Rattle.std.proofs.lemmas.Int.{ints}
use Rattle.semantics.specs.Shapes.{In}
use Rattle.semantics.specs.Arrays.{Array}
use Rattle.semantics.specs.OrderLaws.{dot}
use Rattle.semantics.proofs.Places.{inside_in}
use Rattle.encoding.specs.ShapeOf.{shape_of}
use Rattle.views.specs.declared.view.Source.TheVariants.{Area}
use Rattle.views.specs.declared.view.View.{View}
use Rattle.views.specs.Walking.{Lies}
use Rattle.views.specs.Views.{Good, Reaches, Holds, address, number_from, seen}
use Rattle.views.specs.Shifting.{Moved}
use Rattle.views.proofs.Walks.{walks_from}
use Rattle.views.proofs.Seeing.{good_lies}

-- what the code computes
pub record Lower (v : View) (by : ℕ) (r : View) : Type 0 where
  pub down : by ≤ v.low
  pub shape : r.shape ≡ v.shape
  pub strides : r.strides ≡ v.strides
  pub start : by ≤ v.start → r.start + by ≡ v.start
  pub begins : r.start < 2 ^ 62
  pub low : r.low + by ≡ v.low
  pub high : r.high + by ≡ v.high
  pub source : r.source ≡ v.source

module _ (v r : View) (by : ℕ) (g : Good v) (w : Lower v by r) where
  pub lower_address : (is : List ℕ) → In (shape_of v.shape) is → (l : Lies v.low v.high (address v is)) → address r is ≡ pos (l.word - by)
  unfolding address
  lower_address is h l =
      let first = walks_from g.walks (inside_in (shape_of v.shape) is h) in
      let from : v.start ≡ first.word = ap nat_abs first.is in
      let down = w.down in
      let start = w.start (omega arith) in
      let far : dot r.strides is ≡ dot v.strides is = ap (λ zs. dot zs is) w.strides in
      let at = l.is in
      omega (arith, ints)

  pub lower_good : Good r
  unfolding address
  lower_good =
      record {
        up = omega (arith, w.low, w.high, g.up);
        short = omega (arith, w.high, g.short);
        begins = w.begins;
        walks = record {
          lies = λ is h.
              let here : In (shape_of v.shape) is = subst (λ s. In (shape_of s) is) w.shape h in
              let l = good_lies v is g here in
              let low = w.low in
              let high = w.high in
              record { word = l.word - by; is = lower_address is here l; above = omega arith; below = omega (arith, w.down) };
        };
      }

  pub lower_holds : (old new bs : List ℕ) (a : Array ℕ) → v.source ≡ Area → Holds old bs v a → Moved old new v.low v.high r.low → Holds new bs r a
  unfolding seen number_from
  lower_holds old new bs a e h m =
      let area : r.source ≡ Area = w.source ∙ e in
      let low = w.low in
      let room = m.room in
      record {
        good = lower_good;
        there = subst (λ o. Reaches o new bs r.high) (sym area) (omega (arith, w.high, w.down, g.up));
        shaped = ap shape_of w.shape ∙ h.shaped;
        shows = λ is i.
            let here : In (shape_of v.shape) is = subst (λ s. In (shape_of s) is) w.shape i in
            let l = good_lies v is g here in
            let n = l.word - v.low in
            let at_new : nat_abs (address r is) ≡ r.low + n = ap nat_abs (lower_address is here l) ∙ omega (arith, w.down) in
            let at_old : nat_abs (address v is) ≡ v.low + n = ap nat_abs l.is ∙ omega arith in
            ap (λ o. number_from o new bs (nat_abs (address r is))) area
            ∙ (ap (λ k. get_or new k 0) at_new ∙ (m.same n (omega arith) ∙ (ap (λ k. get_or old k 0) (sym at_old) ∙ (ap (λ o. number_from o old bs (nat_abs (address v is))) (sym e) ∙ h.shows is here))));
      }
