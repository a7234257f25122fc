use Rattle.std.proofs.Common.{◌≡◌, ◌+◌, inl, inr, nat_eq, arith, refl, sym, ap, subst, ◌∙◌}
use Rattle.std.specs.Prelude.{option_map}
use Rattle.std.proofs.lemmas.Bool.{cases_Bool, eqb-true}
use Rattle.std.specs.Option.{option_copied_mut}
use Rattle.af_base.proofs.Lookups.{not_same, told_apart}
use Rattle.af_ledger.specs.Counted.{fewer, places_in, CountView, IsCounted}
use Rattle.af_ledger.specs.Tally.{count_in_map}
use Rattle.af_ledger.specs.declared.place.Place.{Place}
use Rattle.af_ledger.specs.declared.place.Place.TheVariants.{Backlog, Queue, Table}
use Rattle.af_ledger.proofs.Unreferenced.{counted-here}
use Rattle.ordered_slab.proofs.Parts.{part_get}
use Rattle.af_desc.specs.declared.file_row.FileRow.{FileRow}
use Rattle.af_desc.specs.FileTableView.{counts_of, FileTableView}
use Rattle.af_desc.proofs.FileTableInvariant.{kept-marked}
use Rattle.af_desc.proofs.file_table.FileTable.drop_ref.Goals as goal

pub invariant_of-self : goal.invariant_of-self
invariant_of-self c = kept-marked c.self.invariant c.args.file.now c.unwrap-row.result.now (sym c.get_mut.ensures.value ∙ ap option_copied_mut c.unwrap-row.ensures) _ refl refl refl

-- A place less is one fewer.
one-fewer : (p : Place) (c : CountView) → IsCounted p c → places_in (fewer p c) + 1 ≡ places_in c
one-fewer Table c h = omega arith
one-fewer (Queue u) c h = omega arith
one-fewer Backlog c h = omega arith

-- None is left after a place less if there was one.
none-left : (p : Place) (c : CountView) → IsCounted p c → nat_eq (places_in (fewer p c)) 0 ≡ nat_eq (places_in c) 1
none-left p c h =
    let one = one-fewer p c h in
    elim (cases_Bool (nat_eq (places_in (fewer p c)) 0)) [
      | inl e ↦
          let none = eqb-true (places_in (fewer p c)) 0 e in
          let all : places_in c ≡ 1 = omega (arith, one, none) in
          e ∙ sym (ap (λ n. nat_eq n 1) all)
      | inr e ↦ e ∙ sym (told_apart (places_in c) 1 (λ is. not_same (places_in (fewer p c)) 0 e (omega (arith, one, is))))
    ]

pub returns-clause-last : goal.returns-clause-last
returns-clause-last c =
    let f = c.args.file.now in
    let x = c.unwrap-row.result.now in
    let rows = c.self.inside.rows.values in
    let at = sym c.get_mut.ensures.value ∙ ap option_copied_mut c.unwrap-row.ensures in
    let here : count_in_map c.args.self.now.counts f ≡ x.count = ap (λ (v : FileTableView). count_in_map v.counts f) (sym c.self.view_is) ∙ counted-here (counts_of rows) f x.count (part_get (λ (r : FileRow). r.count) rows f ∙ ap (option_map (λ r. r.count)) at) in
    c.is_none.ensures ∙ ap (λ (k : CountView). nat_eq (places_in k) 0) c.sub.ensures ∙ none-left c.args.place.now x.count (subst (IsCounted c.args.place.now) here c.requires) ∙ ap (λ (k : CountView). nat_eq (places_in k) 1) (sym here)
