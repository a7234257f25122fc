use Rattle.std.proofs.Common.{rules, ◌≡◌, ◌-◌, ◌++◌, ◌∷◌, [], ℕ, Bool, true, false, List, length, arith, refl, sym, ap, ◌∙◌, subst, cond, nat_eq}
use Rattle.std.specs.Prelude.{Some, is_some, vec_capacity}
use Rattle.std.specs.FinMap as map
use Rattle.std.specs.Option.{option_map_or}
use Rattle.std.proofs.lemmas.List.Sums.{sum_by-append}
use Rattle.af_base.specs.Counts.{count_in, one}
use Rattle.af_base.specs.Names.{set_of}
use Rattle.af_base.specs.World.{Map}
use Rattle.af_base.proofs.PlacesAndCounts.{count-cons}
use Rattle.af_ledger.specs.Counted.{IsCounted, places_in}
use Rattle.af_ledger.specs.Tally.{AreUnreferenced, count_in_map}
use Rattle.af_ledger.specs.declared.place.Place.TheVariants.{Table}
use Rattle.af_ledger.proofs.Unreferenced.{lowered-kept, lowered-pushed}
use Rattle.af_mark.specs.Grey.{AreGrey}
use Rattle.af_mark.specs.MarksView.{is_grey_color}
use Rattle.af_mark.specs.declared.color.Color.{Color}
use Rattle.af_desc.specs.FilesView.{FilesInvariant, FilesView, after_end, freed, name_in, without, without_file_ref}
use Rattle.af_listen.specs.NameSets.{names_in}
use Rattle.af_desc.proofs.FilesInvariant.{counted-fewer, filed-counted, filed-removed, seen, seen-without, white-gone}
use Rattle.af_desc.proofs.FileNames.{named-gone}
use Rattle.af_desc.proofs.files.Files.drop_descriptor.Goals.{After-drop_descriptor_ref}
use Rattle.af_desc.proofs.files.Files.drop_descriptor.Goals as goal

-- Where the list of grey files is empty, none is grey.
none-grey : (colors : Map Color) (fs : List ℕ) (f : ℕ) → length fs ≡ 0 → AreGrey colors fs → option_map_or is_grey_color (map.get colors f) false ≡ false
none-grey colors fs f none h = by (option_map_or is_grey_color (map.get colors f) false) (sym (h f) ∙ ap (count_in f) (empty fs none)) where
  empty : (fs : List ℕ) → length fs ≡ 0 → fs ≡ []
  empty [] e = refl
  empty (g ∷ gs) e = absurd (omega (arith, e))

  by : (b : Bool) → cond {A = ℕ} b 1 0 ≡ 0 → b ≡ false
  by true e = absurd (omega (arith, e))
  by false e = refl

-- Without its last element the list is the one before.
struck-last : (fs : List ℕ) (k f : ℕ) → count_in f fs ≡ count_in f (fs ++ k ∷ []) - one f k
struck-last fs k f = let more = sum_by-append (one f) fs (k ∷ []) in let last = count-cons f k [] in omega (arith, more, last)

-- The file had the place that it loses.
counted : (c : After-drop_descriptor_ref) → IsCounted Table (count_in_map c.self.inside.rows.counts c.args.file.now)
counted c = subst (λ (v : FilesView). IsCounted Table (count_in_map v.counts c.args.file.now)) (sym c.self.view_is) c.requires

-- Where it was the last, the file may be listed as unreferenced.
listed : (c : After-drop_descriptor_ref) → nat_eq (places_in (count_in_map c.self.inside.rows.counts c.args.file.now)) 1 ≡ true → FilesInvariant c.drop_descriptor_ref.new.self (c.self.inside.unreferenced.items ++ c.args.file.now ∷ []) (vec_capacity c.self.inside.unreferenced) c.self.inside.names c.self.inside.next c.self.inside.epoch c.self.inside.grey.items (vec_capacity c.self.inside.grey) c.self.inside.embryos c.self.inside.bound c.self.inside.white
listed c last =
    let a = c.self.inside in
    let one = c.drop_descriptor_ref.ensures in
    let kept = c.self.invariant in
    let file = c.args.file.now in
    let on = (lowered-pushed a.rows.counts _ a.unreferenced.items file kept.unreferenced_listed Table refl (counted c) last).0 in
    let fewer = counted-fewer a.rows.counts file Table a.embryos a.embryos refl (counted c) kept.backlogged in
    filed-counted a.rows _ _ _ _ _ _ _ _ kept _ _ _ one.counts on one.len (omega arith) _ fewer

pub invariant_of-self : goal.invariant_of-self
invariant_of-self c =
    let a = c.self.inside in
    let had = counted (goal.at.invariant_of-self c).After-drop_descriptor_ref in
    let one = c.drop_descriptor_ref.ensures in
    let kept = c.self.invariant in
    let file = c.args.file.now in
    let list = a.unreferenced in
    let some = sym one.last ∙ ap is_some c.in_default.is in
    let stays = lowered-kept a.rows.counts _ list.items file kept.unreferenced_listed Table refl had some in
    let fewer = counted-fewer a.rows.counts file Table a.embryos a.embryos refl had kept.backlogged in
    filed-counted a.rows _ _ _ _ _ _ _ _ kept _ list.items (vec_capacity list) one.counts stays one.len (omega arith) _ fewer

pub push_reserved-requires : goal.push_reserved-requires
push_reserved-requires c =
    let a = c.self.inside in
    let one = c.drop_descriptor_ref.ensures in
    let low = (lowered-pushed a.rows.counts _ a.unreferenced.items c.args.file.now c.self.invariant.unreferenced_listed Table (ap (λ r. r.counts) one.counts) (counted (goal.at.push_reserved-requires c).After-drop_descriptor_ref) (sym one.last ∙ ap is_some c.in-Some.is)).1 in
    omega (arith, low, c.self.invariant.fits, one.len, a.unreferenced.ok.0)

pub invariant_of-self-2 : goal.invariant_of-self-2
invariant_of-self-2 c =
    let a = c.self.inside in
    let had = counted (goal.at.invariant_of-self-2 c).After-drop_descriptor_ref in
    let one = c.drop_descriptor_ref.ensures in
    let kept = c.self.invariant in
    let file = c.args.file.now in
    let list = c.push_reserved.new.self in
    let last = sym one.last ∙ ap is_some c.in-Some.is in
    let pushed = (lowered-pushed a.rows.counts _ a.unreferenced.items file kept.unreferenced_listed Table refl had last).0 in
    let items : list.items ≡ a.unreferenced.items ++ file ∷ [] = search rules in
    let on = subst (AreUnreferenced _) (sym items) pushed in
    let fits = c.push_reserved.ensures.capacity in
    let fewer = counted-fewer a.rows.counts file Table a.embryos a.embryos refl had kept.backlogged in
    filed-counted a.rows _ _ _ _ _ _ _ _ kept _ list.items (vec_capacity list) one.counts on one.len (omega (arith, fits)) _ fewer

pub invariant_of-self-then-is_empty : goal.invariant_of-self-then-is_empty
invariant_of-self-then-is_empty c =
    let a = c.self.inside in
    let k = c.args.file.now in
    let one = c.drop_descriptor_ref.ensures in
    let rows = c.drop_descriptor_ref.new.self in
    let h = listed (goal.at.invariant_of-self-then-is_empty c).After-drop_descriptor_ref (sym one.last ∙ ap is_some c.in-Some.is) in
    let none : length a.grey.items ≡ 0 = search rules in
    let nameless = ap (λ r. name_in r.files k) one.counts ∙ one.nameless (c.in-Some.is ∙ ap Some c.if-bare.true) in
    let few = (white-gone rows.marks rows.marks a.epoch a.bound a.next a.white h.whites k k _ _ refl refl refl).1 in
    filed-removed rows c.remove-kind.new.self _ _ _ _ _ _ _ h k a.names a.unreferenced.items (vec_capacity a.unreferenced) c.remove-kind.ensures.removed c.remove-kind.ensures.space
    (λ kind. named-gone (set_of kind) (names_in a.names kind) rows.files (h.named kind) k
    nameless) (struck-last a.unreferenced.items k) (omega arith)
    (none-grey _ a.grey.items k none h.listed.1) a.white (omega (arith, few))

pub returns-then-is_empty-clause-removed : goal.returns-then-is_empty-clause-removed
returns-then-is_empty-clause-removed c = λ _.
    let a = c.self.inside in
    let k = c.args.file.now in
    let rows = c.drop_descriptor_ref.new.self in
    let gone = ap (λ r. seen a.epoch a.bound r a.next) c.remove-kind.ensures.removed ∙ seen-without a.epoch a.bound rows a.next c.remove-kind.new.self.room c.remove-kind.new.self.space k in
    let left = ap (λ r. seen a.epoch a.bound r a.next) c.drop_descriptor_ref.ensures.counts ∙ ap (without_file_ref Table k) c.self.view_is in
    c.hang_up_peer.ensures ∙ ap (λ (v : FilesView). record v { files = after_end c.remove-kind.result.0 v.files }) gone
    ∙ ap {B = FilesView} (λ o. record (without k (seen a.epoch a.bound rows a.next)) { files = after_end o (map.remove rows.files k) }) c.remove-kind.ensures.socket
    ∙ ap (freed k) left
