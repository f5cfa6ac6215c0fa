-- `descend::choose` meets its contract: by the child taken last, if there is one within the margin, and else by select. Rests on Finding.
use mathlib.Core.Path.{◌≡◌}
use Rattle.std.proofs.Common.{rules}
use Rattle.std.specs.Prelude.{None}
use Rattle.stay.specs.declared.Stay.TheVariants.{Off}
use Rattle.descend.specs.Finding.{to_select, to_find, found_slot, chosen_off, tried_none, tried_some, chosen_again, chosen_else}
use Rattle.descend.proofs.choose.Goals.{in_default-via-in-Off-1, in_default-via-in-Margin+in-None-1, in_default-via-in-Margin+in-Some+else-within_margin}
use Rattle.descend.proofs.choose.Goals as goal

pub find-requires : goal.find-requires
find-requires c = to_find c.requires.0

pub returns : goal.returns
returns c =
    λ K n ks l.
    let t = rw c.remembered_in.ensures at c.in-Some.ensures in
    rw c.in-Margin.is (chosen_again K _ _ _ _ n ks l _ _ t (tried_some K _ _ _ _ n ks l _ _ t _ (rw c.if-within_margin.true at c.within_margin.ensures)))

pub within_margin-requires : goal.within_margin-requires
within_margin-requires c =
    (found_slot c.requires.0 (rw c.remembered_in.ensures at c.in-Some.ensures), c.requires.0.listing.small, rw c.in-Margin.is at c.requires.1)

pub select-requires : goal.select-requires
select-requires c = to_select c.requires.0

pub returns-2 : goal.returns-2
returns-2 c =
    λ K n ks l.
    elim c.in_default.branch [
      | in_default-via-in-Off-1 w ↦ let e : c.args.stay ≡ Off = search rules in rw e (chosen_off K _ _ _ _ n ks l _ c.select.ensures)
      | in_default-via-in-Margin+in-None-1 w ↦ let e : w.find.result ≡ None = search rules in rw w.in-Margin.is (chosen_else K _ _ _ _ n ks l _ (tried_none K _ _ _ _ n ks l _ (rw (w.remembered_in.ensures, e) at w.find.ensures)) _ c.select.ensures)
      | in_default-via-in-Margin+in-Some+else-within_margin w ↦
          let t = rw w.remembered_in.ensures at w.in-Some.ensures in
          rw w.in-Margin.is (chosen_else K _ _ _ _ n ks l _ (tried_some K _ _ _ _ n ks l _ _ t _ (rw w.if-within_margin.false at w.within_margin.ensures)) _ c.select.ensures)
    ]
