-- A view depends only on the words that it looks into.
use Rattle.std.proofs.Common.{◌≡◌, ℕ, ◌≤◌, List, length, get_or, nat_abs, refl, ap, ◌∙◌, arith}
use Rattle.views.specs.declared.view.Source.{Source}
use Rattle.views.specs.declared.view.Source.TheVariants.{Area, Input}
use Rattle.views.specs.Views.{Reaches, address, number_from, seen}
use Rattle.views.specs.Laws.{OnlyInside}
use Rattle.views.proofs.Seeing.{good_lies}

reaches_kept : (o : Source) (old new bs : List ℕ) (high : ℕ) → (o ≡ Area → high ≤ length new) → Reaches o old bs high → Reaches o new bs high
reaches_kept Area old new bs high room r = room refl
reaches_kept (Input b) old new bs high room r = r

number_kept : (o : Source) (old new bs : List ℕ) (n : ℕ) → (o ≡ Area → get_or new n 0 ≡ get_or old n 0) → number_from o new bs n ≡ number_from o old bs n
unfolding number_from
number_kept Area old new bs n same = same refl
number_kept (Input b) old new bs n same = refl

pub only_inside : OnlyInside
unfolding seen
only_inside old new bs v a h kept =
    record {
      good = h.good;
      there = reaches_kept v.source old new bs v.high kept.room h.there;
      shaped = h.shaped;
      shows = λ is i.
          let at = good_lies v is h.good i in
          let same : nat_abs (address v is) ≡ at.word = ap nat_abs at.is in
          number_kept v.source old new bs (nat_abs (address v is)) (λ e. kept.same e (nat_abs (address v is)) (omega arith) (omega arith)) ∙ h.shows is i;
    }
