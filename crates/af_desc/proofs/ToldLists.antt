-- That both lists fit the rows, as rows come, change and go.
use Rattle.std.proofs.Common.{◌≡◌, ◌≤◌, ◌<◌, ◌&&◌, ℕ, ◌-◌, Bool, true, false, inl, inr, List, [], ◌∷◌, ◌++◌, length, refl, sym, ap, ◌∙◌, cond, nat_eq, arith, ◌+◌}
use Rattle.std.specs.Prelude.{Option, Some, None, is_some, nat_lt}
use Rattle.std.specs.Option.{option_map_or}
use Rattle.std.specs.FinMap as map
use Rattle.std.proofs.lemmas.List.Sums.{sum_by-append}
use Rattle.std.proofs.lemmas.Bool.{false≢true, cases_Bool, le-ltb, lt-ltb, ltb-false, ltb-true}
use Rattle.af_base.specs.Counts.{count_in, one}
use Rattle.af_base.specs.Told.{AreReleased, was_given}
use Rattle.af_base.specs.Refusals.{no_socket}
use Rattle.af_base.specs.World.{Map, Since}
use Rattle.af_base.proofs.ExactLists.{just-gone, just-pushed, just-same, just-struck, just-without}
use Rattle.af_base.proofs.Lookups.{insert-here, insert-other, remove-other, remove-here, same_or_not, itself, not_same, there, told_apart}
use Rattle.af_base.proofs.PlacesAndCounts.{count-cons}
use Rattle.af_base.proofs.StaysWithin.{len-insert_most}
use Rattle.af_base.proofs.Sums.{total-remove}
use Rattle.af_base.proofs.Totals.{total-most}
use Rattle.ordered_slab.proofs.Values.{lent_many}
use Rattle.af_desc.specs.declared.file_row.FileRow.{FileRow}
use Rattle.af_desc.specs.Told.{is_listed, IsDirtyList}

-- The row of a dirty socket.
abbrev soiled : FileRow → FileRow
soiled r = record r { kind = Some no_socket; dirty = true }

-- The list of dirty sockets, as the row of one that is there changes or is removed.
module _ (m : Map FileRow) (fs : List ℕ) (f : ℕ) (x : FileRow) (at : map.get m f ≡ Some x) (h : IsDirtyList m fs) where
  -- The row is listed or not.
  was : option_map_or is_listed (map.get m f) false ≡ is_listed x
  was = ap (λ o. option_map_or is_listed o false) at

  -- A row that is as much listed as it was leaves the list right.
  pub listed-same : (y : FileRow) → is_listed y ≡ is_listed x → IsDirtyList (map.insert m f y) fs
  listed-same y same = just-same is_listed m (map.insert m f y) fs f h y refl (same ∙ sym was)

  -- A row that becomes listed is the last of the list.
  pub listed-set : (y : FileRow) → is_listed y ≡ true → is_listed x ≡ false → IsDirtyList (map.insert m f y) (fs ++ f ∷ [])
  listed-set y so not = (just-pushed is_listed m (map.insert m f y) fs f h y refl so (was ∙ not)).0

  -- Where a row is not dirty, fewer are listed than there are.
  pub listed-few : x.dirty ≡ false → length fs < map.len m
  listed-few not =
      let y = soiled x in
      omega (arith, (just-pushed is_listed m (map.insert m f y) fs f h y refl refl (was ∙ ap (λ b. b && is_some x.kind) not)).1, lent_many m f x y at)

  -- A list without the removed file is right.
  pub listed-gone : (gs : List ℕ) → ((g : ℕ) → count_in g gs ≡ count_in g fs - one g f) → IsDirtyList (map.remove m f) gs
  listed-gone gs less = just-gone is_listed m (map.remove m f) fs f h gs refl less

  -- Where the removed file was not dirty the list stays right.
  pub listed-without : x.dirty ≡ false → IsDirtyList (map.remove m f) fs
  listed-without not = just-without is_listed m (map.remove m f) fs f h refl (was ∙ ap (λ b. b && is_some x.kind) not)

-- A row that is as much listed serves as well.
pub listed-alike : (m : Map FileRow) (fs : List ℕ) (f : ℕ) (x y : FileRow) → is_listed y ≡ is_listed x → IsDirtyList (map.insert m f x) fs → IsDirtyList (map.insert m f y) fs
listed-alike m fs f x y same h g = h g ∙ ap {B = ℕ} (λ b. cond b 1 0) (elim (same_or_not g f) [
  | inl here ↦ own x here ∙ sym same ∙ sym (own y here)
  | inr apart ↦ ap (λ o. option_map_or is_listed o false) (insert-other m f x g apart ∙ sym (insert-other m f y g apart))
]) where
  own : (r : FileRow) → g ≡ f → option_map_or is_listed (map.get (map.insert m f r) g) false ≡ is_listed r
  own r here = ap (λ o. option_map_or is_listed o false) (ap (map.get (map.insert m f r)) here ∙ insert-here m f r)

-- The list of dirty sockets, as a file comes.
module _ (m : Map FileRow) (fs : List ℕ) (f : ℕ) (x : FileRow) (new : map.contains_key m f ≡ false) (h : IsDirtyList m fs) where
  -- It was not listed.
  not : option_map_or is_listed (map.get m f) false ≡ false
  not = by (map.get m f) new where
    by : (o : Option FileRow) → is_some o ≡ false → option_map_or is_listed o false ≡ false
    by None e = refl
    by (Some r) e = absurd (false≢true (sym e))

  -- It is the last of the list if it is a dirty socket.
  pub listed-new : (b : Bool) → is_listed x ≡ b → IsDirtyList (map.insert m f x) (cond b (fs ++ f ∷ []) fs)
  listed-new true so = (just-pushed is_listed m (map.insert m f x) fs f h x refl so not).0
  listed-new false so = just-same is_listed m (map.insert m f x) fs f h x refl (so ∙ sym not)

  -- No more were listed than there are.
  pub listed-most : length fs ≤ map.len m
  listed-most =
      let y = soiled x in
      omega (arith, (just-pushed is_listed m (map.insert m f y) fs f h y refl refl not).1, len-insert_most m f y)

-- An empty list stays right.
pub listed-none : (m : Map FileRow) (fs : List ℕ) (f : ℕ) → fs ≡ [] → IsDirtyList m fs → IsDirtyList (map.remove m f) fs
listed-none m fs f none h = just-gone is_listed m (map.remove m f) fs f h fs refl (λ g. let zero = ap (count_in g) none in omega (arith, zero))

-- The last of the list is no longer dirty.
pub last-struck : (m : Map FileRow) (fs gs : List ℕ) (f : ℕ) → IsDirtyList m fs → fs ≡ gs ++ f ∷ [] → (y : FileRow) → y.dirty ≡ false → IsDirtyList (map.insert m f y) gs
last-struck m fs gs f h is y not = just-struck is_listed m (map.insert m f y) fs f h y refl gs (ap (λ b. b && is_some y.kind) not) (λ g.
    omega (arith, ap (count_in g) is, sum_by-append (one g) gs (f ∷ []), count-cons g f []))

-- ---- freed files

-- Where a file is there are some.
pub lived : {V : Type 0} (m : Map V) (k : ℕ) → map.contains_key m k ≡ true → 0 < map.len m
lived m k is =
    let at = there (map.get m k) is in
    let most = total-most (λ x. 1) 1 m (λ q x e. omega arith) in
    omega (arith, total-remove (λ x. 1) m k at.0 at.1, most)

-- One where it holds.
abbrev bit : Bool → ℕ
bit b = cond b 1 0

-- A file comes, under the number after the last.
module _ {V : Type 0} (m : Map V) (f : ℕ) (x : V) (last : ℕ) (next : f ≡ last + 1) where
  -- No number above it has a row.
  pub comes-last : ((g : ℕ) → last < g → map.contains_key m g ≡ false) → (g : ℕ) → f < g → map.contains_key (map.insert m f x) g ≡ false
  comes-last below g high = ap is_some (insert-other m f x g (told_apart g f (λ e. omega (arith, high, e)))) ∙ below g (omega (arith, high, next))

  module _ (since : Since) (gone : List ℕ) (later : since.next ≤ last + 1) (h : AreReleased m (last + 1) since gone) where
    -- It is there, and in no list.
    own : (g : ℕ) → g ≡ f → count_in g gone + bit (map.contains_key (map.insert m f x) g) ≡ bit (was_given since (f + 1) g)
    own g here =
        let given : (n : ℕ) → was_given since n g ≡ nat_lt g n = λ n. ap (λ b. cond b (map.contains_key since.files g) (nat_lt g n)) (le-ltb g since.next (omega (arith, here, next, later))) in
        let zero : bit (was_given since (last + 1) g) ≡ 0 = ap bit (given (last + 1) ∙ le-ltb g (last + 1) (omega (arith, here, next))) in
        let one : bit (was_given since (f + 1) g) ≡ 1 = ap bit (given (f + 1) ∙ lt-ltb g (f + 1) (omega (arith, here))) in
        let now : bit (map.contains_key (map.insert m f x) g) ≡ 1 = ap bit (ap is_some (ap (map.get (map.insert m f x)) here ∙ insert-here m f x)) in
        omega (arith, h g, zero, one, now)

    -- Another number is given as before.
    below-last : (g : ℕ) → nat_eq g f ≡ false → nat_lt g (f + 1) ≡ nat_lt g (last + 1)
    below-last g apart = elim (cases_Bool (nat_lt g (last + 1))) [
      | inl e ↦ let low = ltb-true g (last + 1) e in lt-ltb g (f + 1) (omega (arith, low, next)) ∙ sym e
      | inr e ↦
          let high = ltb-false g (last + 1) e in
          elim (cases_Bool (nat_lt f g)) [
            | inl d ↦ let past = ltb-true f g d in le-ltb g (f + 1) (omega (arith, past)) ∙ sym e
            | inr d ↦ let most = ltb-false f g d in absurd (not_same g f apart (omega (arith, most, high, next)))
          ]
    ]

    -- The list of freed files stays right.
    pub released-come : AreReleased (map.insert m f x) (f + 1) since gone
    released-come g = elim (same_or_not g f) [
      | inl here ↦ own g here
      | inr apart ↦
          ap (λ b. count_in g gone + bit b) (ap is_some (insert-other m f x g apart)) ∙ h g
          ∙ sym (ap {B = ℕ} (λ b. bit (cond (nat_lt g since.next) (map.contains_key since.files g) b)) (below-last g apart))
    ]

-- A file is freed.
module _ {V : Type 0} (m : Map V) (f : ℕ) where
  -- No number above the last has a row.
  pub goes-last : (last : ℕ) → ((g : ℕ) → last < g → map.contains_key m g ≡ false) → (g : ℕ) → last < g → map.contains_key (map.remove m f) g ≡ false
  goes-last last below g high = elim (same_or_not g f) [
    | inl here ↦ ap is_some (ap (map.get (map.remove m f)) here ∙ remove-here m f)
    | inr apart ↦ ap is_some (remove-other m f g apart) ∙ below g high
  ]

  -- It is in the list of freed files then.
  pub released-gone : (next : ℕ) (since : Since) (gone : List ℕ) → map.contains_key m f ≡ true → AreReleased m next since gone → AreReleased (map.remove m f) next since (gone ++ f ∷ [])
  released-gone next since gone was h g =
      let more = sum_by-append (one g) gone (f ∷ []) in
      let last = count-cons g f [] in
      elim (same_or_not g f) [
        | inl here ↦
            let own : one g f ≡ 1 = ap {B = ℕ} bit (ap (λ n. nat_eq n f) here ∙ itself f) in
            let left : bit (map.contains_key (map.remove m f) g) ≡ 0 = ap (λ o. bit (is_some o)) (ap (map.get (map.remove m f)) here ∙ remove-here m f) in
            let had : bit (map.contains_key m g) ≡ 1 = ap bit (ap (map.contains_key m) here ∙ was) in
            omega (arith, h g, more, last, own, left, had)
        | inr apart ↦
            let none : one g f ≡ 0 = ap {B = ℕ} bit apart in
            let same : bit (map.contains_key (map.remove m f) g) ≡ bit (map.contains_key m g) = ap (λ o. bit (is_some o)) (remove-other m f g apart) in
            omega (arith, h g, more, last, none, same)
      ]

-- The same keys of a map are as much released.
pub released-same : {V W : Type 0} (m : Map V) (n : Map W) (next : ℕ) (since : Since) (gone : List ℕ) → ((f : ℕ) → map.contains_key n f ≡ map.contains_key m f) → AreReleased m next since gone → AreReleased n next since gone
released-same m n next since gone same h f = ap {B = ℕ} (λ b. count_in f gone + bit b) (same f) ∙ h f
