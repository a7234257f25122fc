-- The invariant of the files, with its counts, as files come, change, are visited and go.
use Rattle.std.proofs.Common.{◌≡◌, ◌≤◌, ℕ, ◌+◌, ◌-◌, ◌*◌, ◌^◌, Bool, true, false, refl, sym, ap, ◌∙◌, subst, cond, nat_eq, arith, ◌<◌, not, ◌&&◌, List, [], ◌∷◌, ◌++◌, length, nat_lt}
use Rattle.std.specs.Prelude.{Option, Some, None, unwrap_or, is_some, option_map, Result, Ok, Err, OnErr, OnOk}
use Rattle.std.specs.Cmp.{nat_cmp_total, unsigned_tied}
use Rattle.std.specs.Ordering.{nat_cmp}
use Rattle.std.specs.FinMap as map
use Rattle.std.specs.Option.{option_map_or}
use Rattle.std.proofs.lemmas.Bool.{ltb-false, ltb-true, false≢true, and_parts, lt-ltb}
use Rattle.std.proofs.Math.Bool.{and-false}
use Rattle.std.specs.Int.{from_bool}
use Rattle.std.proofs.lemmas.List.Sums.{sum_by-append}
use Rattle.af_base.specs.Counts.{total_of, count_in, one}
use Rattle.af_base.specs.Names.{bound_to, set_of}
use Rattle.af_base.specs.World.{Map, File, Socket}
use Rattle.af_base.proofs.Lookups.{none_some, changed-live, itself}
use Rattle.af_base.proofs.Sums.{total-insert}
use Rattle.af_base.proofs.Totals.{total-below, total-most}
use Rattle.af_base.specs.Changes.{change_socket_at, file_with}
use Rattle.af_base.proofs.ExactLists.{just-gone, just-same}
use Rattle.af_base.proofs.StaysWithin.{len-insert_most}
use Rattle.af_base.proofs.PlacesAndCounts.{count-cons}
use Rattle.af_ledger.specs.Counted.{CountView, IsCounted, fewer, more, uncounted, places_in}
use Rattle.af_ledger.specs.Tally.{count_in_map, AreUnreferenced}
use Rattle.af_ledger.specs.declared.place.Place.{Place}
use Rattle.af_ledger.specs.declared.place.Place.TheVariants.{Backlog, Queue, Table}
use Rattle.af_ledger.proofs.Unreferenced.{counted-tabled}
use Rattle.af_mark.specs.Grey.{color_in, colors_in, unmarked, IsGreyList, black_mark, grey_mark, MarkView}
use Rattle.af_mark.specs.MarksView.{MarksView, is_grey, is_mark, is_white, white_at, white_count, is_grey_color, blackened, is_unmarked, shaded, visited}
use Rattle.af_mark.specs.declared.color.Color.{Color}
use Rattle.af_mark.specs.declared.color.Color.TheVariants.{Black, White, Grey}
use Rattle.af_mark.proofs.Colors.{color_after, color_get, color_white, color_without, color_known, color_now}
use Rattle.af_mark.proofs.Whites.{adds-grey, adds-white, none-bound, white-beyond, white-mark, whites-gone, whites-most, whites-put}
use Rattle.af_mark.proofs.GreyList.{listed-born, listed-gone, listed-same, grey-known, listed-bare, listed-black, listed-grey, white-known}
use Rattle.af_desc.specs.FilesView.{AreEmbryos, more_embryos, fewer_embryos, AreWhite, FilesInvariant, AreNamed, FilesView, entered, name_of, without}
use Rattle.af_desc.specs.FileTableView.{is_white_in, FileTableView, with_row, without_row, is_due_row}
use Rattle.af_desc.proofs.FirstNumber.{begun-made, begun-removed}
use Rattle.af_desc.proofs.FileNames.{named-changed, named-new}
use Rattle.ordered_slab.proofs.Parts.{part_many}
use Rattle.ordered_slab.proofs.Values.{gone_few}
use Rattle.af_listen.specs.NameSets.{names_in}
use Rattle.af_listen.specs.declared.name_sets.NameSets.{NameSets}

-- ---- embryos

-- How many backlogs a file's count has.
abbrev waits : CountView → ℕ
waits c = c.waiting

module _ (m : Map CountView) (f : ℕ) where
  -- The sum over a file's counts is the one that its view shows.
  was : option_map_or waits (map.get m f) 0 ≡ (count_in_map m f).waiting
  was = by (map.get m f) where
    by : (o : Option CountView) → option_map_or waits o 0 ≡ (unwrap_or o uncounted).waiting
    by None = refl
    by (Some c) = refl

  -- With other numbers of a file the places add up to what they did, but for those of this file.
  changed : (c : CountView) → total_of waits (map.insert m f c) + (count_in_map m f).waiting ≡ total_of waits m + c.waiting
  changed c = omega (arith, total-insert waits m f c, was)

  -- A file less.
  pub embryos-removed : (n : ℕ) → AreEmbryos m n → AreEmbryos (map.remove m f) n
  embryos-removed n h low =
      let fewer = total-below waits waits (map.remove m f) m (λ k x is. (x, by k x (nat_eq k f) (sym (map.get-remove nat_cmp_total m f k ∙ ap (λ b. cond b None (map.get m k)) (unsigned_tied k f)) ∙ is), omega arith)) in
      omega (arith, h low, fewer) where
        by : (k : ℕ) (x : CountView) (b : Bool) → cond b None (map.get m k) ≡ Some x → map.get m k ≡ Some x
        by k x true is = absurd (none_some x is)
        by k x false is = is

  -- These places and one more; at most as many of these are in backlogs as the file had.
  embryos-more : (c : CountView) → c.waiting ≤ (count_in_map m f).waiting → (p : Place) (n : ℕ) → AreEmbryos m n → AreEmbryos (map.insert m f (more p c)) (more_embryos p n)
  embryos-more c few Table n h = λ low. let most = h low in omega (arith, most, few, changed (more Table c))
  embryos-more c few (Queue u) n h = λ low. let most = h low in omega (arith, most, few, changed (more (Queue u) c))
  embryos-more c few Backlog n h = by (nat_lt n (2 ^ 64 - 1)) refl where
    by : (b : Bool) → nat_lt n (2 ^ 64 - 1) ≡ b → AreEmbryos (map.insert m f (more Backlog c)) (cond b (n + 1) n)
    by true e low = let most = h (ltb-true n (2 ^ 64 - 1) e) in omega (arith, most, few, changed (more Backlog c))
    by false e low = let high = ltb-false n (2 ^ 64 - 1) e in absurd (omega (arith, high, low))

  -- A file more, with its first place.
  pub embryos-entered : (p : Place) (n k : ℕ) → k ≡ more_embryos p n → AreEmbryos m n → AreEmbryos (map.insert m f (more p uncounted)) k
  embryos-entered p n k is h = subst (AreEmbryos (map.insert m f (more p uncounted))) (sym is) (embryos-more uncounted (omega arith) p n h)

  -- A place less, which there is; as many of these are in backlogs as the file had.
  embryos-fewer : (c : CountView) → c.waiting ≡ (count_in_map m f).waiting → (p : Place) (n : ℕ) → IsCounted p c → AreEmbryos m n → AreEmbryos (map.insert m f (fewer p c)) (fewer_embryos p n)
  embryos-fewer c same Table n some h = λ low. let most = h low in omega (arith, most, same, changed (fewer Table c))
  embryos-fewer c same (Queue u) n some h = λ low. let most = h low in omega (arith, most, same, changed (fewer (Queue u) c))
  embryos-fewer c same Backlog n some h = by (nat_lt n (2 ^ 64 - 1)) refl where
    by : (b : Bool) → nat_lt n (2 ^ 64 - 1) ≡ b → AreEmbryos (map.insert m f (fewer Backlog c)) (cond b (n - 1) n)
    by true e low = let most = h (ltb-true n (2 ^ 64 - 1) e) in omega (arith, most, same, some, changed (fewer Backlog c))
    by false e low = let high = ltb-false n (2 ^ 64 - 1) e in absurd (omega (arith, high, low))

-- The number stays right with a place more.
pub counted-more : (m : Map CountView) (f : ℕ) (p : Place) (n k : ℕ) → k ≡ more_embryos p n → AreEmbryos m n → AreEmbryos (map.insert m f (more p (count_in_map m f))) k
counted-more m f p n k is h = subst (AreEmbryos (map.insert m f (more p (count_in_map m f)))) (sym is) (embryos-more m f (count_in_map m f) (omega arith) p n h)

-- And with a place less.
pub counted-fewer : (m : Map CountView) (f : ℕ) (p : Place) (n k : ℕ) → k ≡ fewer_embryos p n → IsCounted p (count_in_map m f) → AreEmbryos m n → AreEmbryos (map.insert m f (fewer p (count_in_map m f))) k
counted-fewer m f p n k is c h = subst (AreEmbryos (map.insert m f (fewer p (count_in_map m f)))) (sym is) (embryos-fewer m f (count_in_map m f) refl p n c h)

-- And where a place becomes one in a table.
pub counted-moved : (m : Map CountView) (f : ℕ) (p : Place) (n k : ℕ) → k ≡ fewer_embryos p n → IsCounted p (count_in_map m f) → AreEmbryos m n → AreEmbryos (map.insert m f (fewer p (more Table (count_in_map m f)))) k
counted-moved m f p n k is c h = let all = more Table (count_in_map m f) in subst (AreEmbryos (map.insert m f (fewer p all))) (sym is) (embryos-fewer m f all refl p n (counted-tabled p (count_in_map m f) c) h)

-- Where there are none, no file has a place in a backlog.
pub embryos-none : (m : Map CountView) (n : ℕ) → n ≤ 0 → AreEmbryos m n → (f : ℕ) → (count_in_map m f).waiting ≡ 0
embryos-none m n none h f = let most = h (omega (arith, none)) in omega (arith, most, none, changed m f uncounted)

-- There are none among no files.
pub embryos-empty : (m : Map CountView) (n : ℕ) → m ≡ map.empty → AreEmbryos m n
embryos-empty m n is low =
    let none : total_of waits m ≤ map.len m * 0 = total-most waits 0 m (λ k x at. absurd (none_some x (sym (ap (λ o. map.get o k) is ∙ map.get-empty nat_cmp k) ∙ at))) in
    omega (arith, none)

-- ---- unmarked files

module _ (m n : Map MarkView) (epoch bound next white : ℕ) (h : AreWhite m epoch bound next white) where
  -- The marks before.
  abbrev old : MarksView
  old = record { colors = colors_in epoch m; bound = bound }

  -- A file more is still to be marked by no pass.
  pub white-entered : n ≡ map.insert m next unmarked → AreWhite n epoch bound (next + 1) white
  white-entered is =
      let low = h.0 in
      let few = h.1 in
      let same = ap (λ cs. white_count (record { colors = cs; bound = bound })) (color_after epoch m n next unmarked White is (color_white epoch unmarked refl)) in
      (omega (arith, low), omega (arith, few, whites-put old next White, white-beyond bound next White low, same))

  module _ (f : ℕ) (x : MarkView) (is : n ≡ map.insert m f x) where
    -- A white file is marked: one less is still to be.
    pub white-marked : (c : Color) → is_mark c ≡ true → color_in epoch x ≡ c → is_white old f ≡ true → f < bound → (0 < white) × AreWhite n epoch bound next (white - 1)
    white-marked c marks shows was low =
        let few = h.1 in
        let same = ap (λ cs. white_count (record { colors = cs; bound = bound })) (color_after epoch m n f x c is shows) in
        let put = whites-put old f c in
        let one = adds-white old f was low in
        let none = white-mark bound f c marks in
        (omega (arith, few, put, one, none), (h.0, omega (arith, few, put, one, none, same)))

    -- A grey file is scanned: as many are still to be marked.
    pub white-scanned : color_in epoch x ≡ Black → is_grey old f ≡ true → AreWhite n epoch bound next white
    white-scanned black was =
        let few = h.1 in
        let same = ap (λ cs. white_count (record { colors = cs; bound = bound })) (color_after epoch m n f x Black is black) in
        (h.0, omega (arith, few, whites-put old f Black, adds-grey old f was, white-mark bound f Black refl, same))

  -- A file is freed: one less is still to be marked, if it was.
  pub white-gone : (f x n : ℕ) (b : Bool) → x ≡ f → b ≡ is_white_in epoch m f → n ≡ from_bool (nat_lt x bound && b)
      → (n ≤ white) × (white_count (record { colors = map.remove (colors_in epoch m) f; bound = bound }) ≤ white - n)
  white-gone f x n b same is many = (omega (arith, few, gone), omega (arith, few, gone)) where
    adds : Option Color → ℕ
    adds o = option_map_or (λ c. cond (white_at bound f c) 1 0) o 0

    by : (o : Option MarkView) → from_bool (nat_lt f bound && option_map_or (λ y. not (is_mark (color_in epoch y))) o false) ≡ adds (option_map (color_in epoch) o)
    by None = ap from_bool (and-false (nat_lt f bound))
    by (Some y) = bit (white_at bound f (color_in epoch y)) where
      bit : (a : Bool) → from_bool a ≡ cond a 1 0
      bit true = refl
      bit false = refl

    left : ℕ
    left = white_count (record { colors = map.remove (colors_in epoch m) f; bound = bound })

    few : white_count old ≤ white
    few = h.1

    gone : left + n ≡ white_count old
    gone = ap (λ k. left + k) (many ∙ (λ i. from_bool (nat_lt (same i) bound && is i)) ∙ by (map.get m f) ∙ sym (ap adds (color_get epoch m f))) ∙ whites-gone old f

-- The number of files that a pass has still to mark, by the marks and by their view.
pub white-seen : (m : Map MarkView) (epoch f : ℕ) → is_white_in epoch m f ≡ is_white (record { colors = colors_in epoch m; bound = 0 }) f
white-seen m epoch f = by (map.get m f) ∙ sym (ap (λ o. is_some o && not (option_map_or is_mark o false)) (color_get epoch m f)) where
  by : (o : Option MarkView) → option_map_or (λ x. not (is_mark (color_in epoch x))) o false ≡ (is_some (option_map (color_in epoch) o) && not (option_map_or is_mark (option_map (color_in epoch) o) false))
  by None = refl
  by (Some x) = refl

-- A pass begins: at most all files are to be marked.
pub white-begun : (m : Map MarkView) (epoch next n : ℕ) → n ≡ map.len m → AreWhite m epoch next next n
white-begun m epoch next n is = (omega arith, omega (arith, is, whites-most (record { colors = colors_in epoch m; bound = next }), part_many (color_in epoch) m))

-- No pass runs.
pub white-none : (m : Map MarkView) (epoch next : ℕ) → AreWhite m epoch 0 next 0
white-none m epoch next = (omega arith, omega (arith, none-bound (record { colors = colors_in epoch m; bound = 0 }) refl))

-- ---- the invariant

-- Neither an unknown file nor one with a place is unreferenced.
first-place : (p : Place) (o : Option CountView) → is_some o ≡ false → nat_eq (places_in (more p uncounted)) 0 ≡ option_map_or (λ c. nat_eq (places_in c) 0) o false
first-place Table None e = refl
first-place (Queue u) None e = refl
first-place Backlog None e = refl
first-place p (Some c) e = absurd (false≢true (sym e))

module _ {embryos bound white : ℕ} (old new : FileTableView) (ws : List ℕ) (room : ℕ)
    (names : NameSets) (next epoch : ℕ) (grey : List ℕ) (most : ℕ)
    (h : FilesInvariant old ws room names next epoch grey most embryos bound white) where
  -- More room changes nothing.
  pub filed-reserved : (vs : List ℕ) (space : ℕ) (gs : List ℕ) (wide : ℕ) → new ≡ record old { room = new.room; space = new.space } → vs ≡ ws → room ≤ space → gs ≡ grey → most ≤ wide → new.space ≤ space → new.space ≤ wide → FilesInvariant new vs space names next epoch gs wide embryos bound white
  filed-reserved vs space gs wide is unreferenced more greys wider few least = let low = h.last in let fits = h.fits in record {
    last = omega (arith, low, ap (λ r. r.last) is);
    begins = ap (λ r. map.contains_key r.files 0) is ∙ h.begins;
    named = subst (AreNamed names) (sym (ap (λ r. r.files) is)) h.named;
    unreferenced_listed = subst (AreUnreferenced new.counts) (sym unreferenced) (subst (λ m. AreUnreferenced m ws) (sym (ap (λ r. r.counts) is)) h.unreferenced_listed);
    fits = omega (arith, fits, more, ap (λ r. map.len r.counts) is);
    listed = listed-same old.marks new.marks epoch grey most h.listed gs wide (ap (λ r. r.marks) is) greys wider;
    backlogged = subst (λ m. AreEmbryos m embryos) (sym (ap (λ r. r.counts) is)) h.backlogged;
    whites = subst (λ m. AreWhite m epoch bound next white) (sym (ap (λ r. r.marks) is)) h.whites;
    space = (few, least);
  }

  -- Other marks of the same files, in another pass.
  pub filed-renewed : (m : Map MarkView) (e b : ℕ) (gs : List ℕ) (wide : ℕ) → new ≡ record old { marks = m } → IsGreyList m e gs wide → most ≤ wide → (n : ℕ) → AreWhite m e b next n → FilesInvariant new ws room names next e gs wide embryos b n
  filed-renewed m e b gs wide is listed wider n whites =
      subst (λ r. FilesInvariant r ws room names next e gs wide embryos b n) (sym is) (record { last = h.last; begins = h.begins; named = h.named; unreferenced_listed = h.unreferenced_listed; fits = h.fits; listed = listed; backlogged = h.backlogged; whites = whites; space = (h.space.0, let least = h.space.1 in omega (arith, least, wider)) })

  -- Other marks of the same files, the grey ones then, and how many are still to be marked.
  pub filed-marked : (m : Map MarkView) (gs : List ℕ) (wide : ℕ) → new ≡ record old { marks = m } → IsGreyList m epoch gs wide → most ≤ wide → (n : ℕ) → AreWhite m epoch bound next n → FilesInvariant new ws room names next epoch gs wide embryos bound n
  filed-marked m gs wide is listed wider n whites = filed-renewed m epoch bound gs wide is listed wider n whites

  -- Other files of the same numbers, with the names that are theirs.
  pub filed-named : (fs : Map File) (left : NameSets) → new ≡ record old { files = fs }
      → map.contains_key fs 0 ≡ false → AreNamed left fs
      → FilesInvariant new ws room left next epoch grey most embryos bound white
  filed-named fs left is begins named = subst (λ r. FilesInvariant r ws room left next epoch grey most embryos bound white) (sym is) (record { last = h.last; begins = begins; named = named; unreferenced_listed = h.unreferenced_listed; fits = h.fits; listed = h.listed; backlogged = h.backlogged; whites = h.whites; space = h.space })

  -- A socket changes, but for its name, and there is room for a message more or less.
  pub socket_changed : {b : Bool} (f : ℕ) (g : Socket → Socket)
      → ((s : Socket) → bound_to (g s) ≡ bound_to s)
      → new ≡ record old { files = change_socket_at g old.files f; message_room = b }
      → FilesInvariant new ws room names next epoch grey most embryos bound white
  socket_changed f g same is =
      let begins = changed-live (file_with g) old.files f 0 ∙ h.begins in
      subst (λ r. FilesInvariant r ws room names next epoch grey most embryos bound white) (sym is)
      (record {
        last = h.last;
        begins = begins;
        named =
            λ kind. named-changed (set_of kind) (names_in names kind) old.files f g same
            (h.named kind);
        unreferenced_listed = h.unreferenced_listed;
        fits = h.fits;
        listed =
            h.listed;
        backlogged = h.backlogged;
        whites = h.whites;
        space = h.space;
      })

  -- Or nothing does, where memory is refused.
  pub socket_either : {A B : Type 0} (b : Bool) (r : Result A B) (f : ℕ) (g : Socket → Socket)
      → ((s : Socket) → bound_to (g s) ≡ bound_to s)
      → OnOk r (new ≡ record old { files = change_socket_at g old.files f; message_room = b })
      → OnErr r (new ≡ old)
      → FilesInvariant new ws room names next epoch grey most embryos bound white
  socket_either b (Ok a) f g same ok err = socket_changed f g same ok
  socket_either b (Err e) f g same ok err = subst (λ r. FilesInvariant r ws room names next epoch grey most embryos bound white) (sym err) h

  -- Other counts of the same files, and the list of the unreferenced ones then.
  pub filed-counted : (m : Map CountView) (vs : List ℕ) (space : ℕ) → new ≡ record old { counts = m } → AreUnreferenced m vs → map.len new.counts ≡ map.len old.counts → room ≤ space → (n : ℕ) → AreEmbryos m n → FilesInvariant new vs space names next epoch grey most n bound white
  filed-counted m vs space is unreferenced_listed many more n counted =
      let fits = h.fits in
      let few : map.len m ≤ space = omega (arith, fits, many, more, ap (λ r. map.len r.counts) is) in
      subst (λ r. FilesInvariant r vs space names next epoch grey most n bound white) (sym is) (record { last = h.last; begins = h.begins; named = h.named; unreferenced_listed = unreferenced_listed; fits = few; listed = h.listed; backlogged = counted; whites = h.whites; space = (let low = h.space.0 in omega (arith, low, more), h.space.1) })

  -- A file more, without a name, which a place holds: both lists have room, and lack it.
  pub filed-entered : (x : File) (p : Place) → new ≡ with_row next x p new.room old → map.contains_key old.files next ≡ false → map.contains_key old.counts next ≡ false → map.contains_key old.marks next ≡ false → name_of x ≡ None
      → map.len old.counts + 1 ≤ room → map.len old.marks + 1 ≤ most → (k : ℕ) → k ≡ more_embryos p embryos → FilesInvariant new ws room names (next + 1) epoch grey most k bound white
  filed-entered x p is stranger uncounted_before unmarked_before nameless fits few k embryo = let low = h.last in record {
    last = omega (arith, ap (λ r. r.last) is);
    begins = ap (λ r. map.contains_key r.files 0) is ∙ begun-made old.files next x (omega (arith, low)) h.begins;
    named = subst (AreNamed names) (sym (ap (λ r. r.files) is))
        (λ kind. named-new (set_of kind) (names_in names kind) old.files (h.named kind) next x
        stranger nameless);
    unreferenced_listed = just-same (λ c. nat_eq (places_in c) 0) old.counts new.counts ws next h.unreferenced_listed (more p uncounted) (ap (λ r. r.counts) is) (first-place p (map.get old.counts next) uncounted_before);
    fits = omega (arith, fits, ap (λ r. map.len r.counts) is, len-insert_most old.counts next (more p uncounted));
    listed = listed-born old.marks new.marks epoch grey most h.listed next most (ap (λ r. r.marks) is) unmarked_before (omega (arith, few, ap (λ r. map.len r.marks) is, len-insert_most old.marks next unmarked));
    backlogged = subst (λ m. AreEmbryos m k) (sym (ap (λ r. r.counts) is)) (embryos-entered old.counts next p embryos k embryo h.backlogged);
    whites = white-entered old.marks new.marks epoch bound next white h.whites (ap (λ r. r.marks) is);
    space = (let most = h.space.0 in omega (arith, most, ap (λ r. r.space) is), let least = h.space.1 in omega (arith, least, ap (λ r. r.space) is));
  }

  -- A file less that was not grey, with the names and the unreferenced ones that are left.
  pub filed-removed : (k : ℕ) (left : NameSets) (vs : List ℕ) (space : ℕ)
      → new ≡ without_row k new.room new.space old → new.space ≤ old.space
      → AreNamed left (map.remove old.files k)
      → ((f : ℕ) → count_in f vs ≡ count_in f ws - one f k) → room ≤ space
      → option_map_or is_grey_color (map.get (colors_in epoch old.marks) k) false ≡ false → (n : ℕ) → white_count (record { colors = map.remove (colors_in epoch old.marks) k; bound = bound }) ≤ n
      → FilesInvariant new vs space left next epoch grey most embryos bound n
  filed-removed k left vs space is narrow named off more spared n few = let low = h.last in let fits = h.fits in record {
    last = omega (arith, low, ap (λ r. r.last) is);
    begins = ap (λ r. map.contains_key r.files 0) is ∙ begun-removed old.files k h.begins;
    named = subst (AreNamed left) (sym (ap (λ r. r.files) is)) named;
    unreferenced_listed = just-gone (λ c. nat_eq (places_in c) 0) old.counts new.counts ws k h.unreferenced_listed vs (ap (λ r. r.counts) is) off;
    fits = omega (arith, fits, more, ap (λ r. map.len r.counts) is, gone_few old.counts k);
    listed = listed-gone old.marks new.marks epoch grey most h.listed k (ap (λ r. r.marks) is) spared;
    backlogged = subst (λ m. AreEmbryos m embryos) (sym (ap (λ r. r.counts) is)) (embryos-removed old.counts k embryos h.backlogged);
    whites = (h.whites.0, subst (λ cs. white_count (record { colors = cs; bound = bound }) ≤ n) (sym (color_without epoch old.marks new.marks k (ap (λ r. r.marks) is))) few);
    space = (let low = h.space.0 in omega (arith, low, narrow, more), let low = h.space.1 in omega (arith, low, narrow));
  }

-- The view of rows in a pass, with this bound and this next number.
module _ (epoch bound : ℕ) where
  -- The files that these rows show.
  abbrev pub seen : FileTableView → ℕ → FilesView
  seen r next = record { files = r.files; counts = r.counts; marks = record { colors = colors_in epoch r.marks; bound = bound }; since = r.since; next = next; message_room = r.message_room }

  -- Of a file more.
  pub seen-entered : (p : Place) (r : FileTableView) (next room : ℕ) (x : File) → seen (with_row next x p room r) (next + 1) ≡ entered p x (seen r next)
  seen-entered p r next room x =
      let colors = color_after epoch r.marks _ next unmarked White refl (color_white epoch unmarked refl) in
      ap {B = FilesView} (λ cs. record (entered p x (seen r next)) { marks = record { colors = cs; bound = bound } }) colors

  -- And of one less.
  pub seen-without : (r : FileTableView) (next room space f : ℕ) → seen (without_row f room space r) next ≡ without f (seen r next)
  seen-without r next room space f = ap {B = FilesView} (λ cs. record (without f (seen r next)) { marks = record { colors = cs; bound = bound } }) (color_without epoch r.marks _ f refl)

-- ---- visits

module _ (epoch bound : ℕ) (r : FileTableView) (f : ℕ) where
  -- The marks that the rows show.
  abbrev now : MarksView
  now = record { colors = colors_in epoch r.marks; bound = bound }

  -- How many descriptors refer to the file.
  abbrev tabled : ℕ
  tabled = (count_in_map r.counts f).tabled

  -- The marks with this colour for the file.
  abbrev with_color : Color → MarksView
  with_color c = record now { colors = map.insert now.colors f c }

  -- A file's mark says whether it is white.
  pub white-is : is_white now f ≡ is_white_in epoch r.marks f
  white-is = ap (λ o. is_some o && not (option_map_or is_mark o false)) (color_get epoch r.marks f) ∙ by (map.get r.marks f) where
    by : (o : Option MarkView) → (is_some (option_map (color_in epoch) o) && not (option_map_or is_mark (option_map (color_in epoch) o) false)) ≡ option_map_or (λ x. not (is_mark (color_in epoch x))) o false
    by None = refl
    by (Some x) = refl

  -- A file that is not white is not shaded.
  pub shaded-not : is_white_in epoch r.marks f ≡ false → shaded f now ≡ now
  shaded-not spared = ap (λ b. cond (nat_lt f bound && b) (with_color Grey) now) (white-is ∙ spared) ∙ ap (λ b. cond b (with_color Grey) now) (and-false (nat_lt f bound))

  -- A file that is not due stays as it is.
  pub visited-not : is_due_row epoch r.counts r.marks f ≡ false → visited true tabled f now ≡ now
  visited-not spared = by (nat_lt 0 tabled) refl where
    by : (b : Bool) → nat_lt 0 tabled ≡ b → cond b (cond (nat_lt f bound && is_white now f) (with_color Black) now) now ≡ now
    by true e =
        let white : is_white now f ≡ false = white-is ∙ sym (ap (λ b. b && is_white_in epoch r.marks f) e) ∙ spared in
        ap (λ b. cond (nat_lt f bound && b) (with_color Black) now) white ∙ ap (λ b. cond b (with_color Black) now) (and-false (nat_lt f bound))
    by false e = refl

  -- A file that is due is white.
  pub due-white : is_due_row epoch r.counts r.marks f ≡ true → is_white_in epoch r.marks f ≡ true
  due-white due = (and_parts (nat_lt 0 tabled) (is_white_in epoch r.marks f) due).1

  -- Of a file that was there when the pass began the rows say whether it is due.
  pub due-within : f < bound → is_due_row epoch r.counts r.marks f ≡ (nat_lt 0 tabled && is_unmarked now f)
  due-within low = sym (λ i. nat_lt 0 tabled && (lt-ltb f bound low i && white-is i))

  module _ (low : f < bound) where
    -- A white file that is shaded is grey.
    pub seen-shaded : is_white_in epoch r.marks f ≡ true → (next : ℕ) → seen epoch bound (record r { marks = map.insert r.marks f (grey_mark epoch) }) next ≡ record (seen epoch bound r next) { marks = shaded f now }
    seen-shaded white next =
        ap {B = FilesView} (λ (m : MarksView). record (seen epoch bound r next) { marks = m })
        (ap {B = MarksView} (λ cs. record { colors = cs; bound = bound }) (color_after epoch r.marks _ f (grey_mark epoch) Grey refl (color_now epoch (grey_mark epoch) refl))
        ∙ sym (λ i. cond (lt-ltb f bound low i && (white-is ∙ white) i) (with_color Grey) now))

    -- A file that is due is black when it was visited.
    pub seen-visited : is_due_row epoch r.counts r.marks f ≡ true → (next : ℕ) → seen epoch bound (record r { marks = map.insert r.marks f (black_mark epoch) }) next ≡ record (seen epoch bound r next) { marks = visited true tabled f now }
    seen-visited due next =
        let parts = and_parts (nat_lt 0 tabled) (is_white_in epoch r.marks f) due in
        ap {B = FilesView} (λ (m : MarksView). record (seen epoch bound r next) { marks = m })
        (ap {B = MarksView} (λ cs. record { colors = cs; bound = bound }) (color_after epoch r.marks _ f (black_mark epoch) Black refl (color_now epoch (black_mark epoch) refl))
        ∙ sym (λ i. cond (parts.0 i) (cond (lt-ltb f bound low i && (white-is ∙ parts.1) i) (with_color Black) now) now))

  module _ {names : NameSets} {unreferenced grey : List ℕ} {room next most embryos white : ℕ}
      (h : FilesInvariant r unreferenced room names next epoch grey most embryos bound white)
      (was : is_white_in epoch r.marks f ≡ true) (low : f < bound) where
    -- A white file that is marked is one less to be marked.
    left-white : (x : MarkView) (c : Color) → x.epoch ≡ epoch → x.color ≡ c → is_mark c ≡ true → (0 < white) × AreWhite (map.insert r.marks f x) epoch bound next (white - 1)
    left-white x c this is marks = white-marked r.marks (map.insert r.marks f x) epoch bound next white h.whites f x refl c marks (color_now epoch x this ∙ is) (white-is ∙ was) low

    -- So there is at least one.
    pub few-white : 0 < white
    few-white = (left-white (black_mark epoch) Black refl refl refl).0

    module _ (new : FileTableView) (len : map.len new.marks ≡ map.len r.marks) where
      -- It is black, and no other list has it.
      pub filed-black : new ≡ record r { marks = map.insert r.marks f (black_mark epoch) } → FilesInvariant new unreferenced room names next epoch grey most embryos bound (white - 1)
      filed-black is =
          let many = sym (ap (λ (r : FileTableView). map.len r.marks) is) ∙ len in
          filed-marked r new _ _ _ _ _ _ _ h _ grey most is
          (listed-bare r.marks _ epoch grey most h.listed f (black_mark epoch) refl refl many refl (white-known now f (white-is ∙ was)).1) (omega arith) (white - 1) (left-white (black_mark epoch) Black refl refl refl).1

      -- It is grey, and last in the list, which has room for it.
      pub filed-grey : new ≡ record r { marks = map.insert r.marks f (grey_mark epoch) }
          → (length grey < most) × ((gs : List ℕ) (wide : ℕ) → gs ≡ grey ++ f ∷ [] → most ≤ wide → FilesInvariant new unreferenced room names next epoch gs wide embryos bound (white - 1))
      filed-grey is =
          let many = sym (ap (λ (r : FileTableView). map.len r.marks) is) ∙ len in
          let listed = listed-grey r.marks _ epoch grey most h.listed f (grey_mark epoch) refl refl many refl (white-known now f (white-is ∙ was)).1 in (
            listed.0,
            λ gs wide same more.
                filed-marked r new _ _ _ _ _ _ _ h _ gs wide is (listed-same (map.insert r.marks f (grey_mark epoch)) _ epoch (grey ++ f ∷ []) most listed.1 gs wide refl same more) more (white - 1) (left-white (grey_mark epoch) Grey refl refl refl).1,
          )

  -- The last file of the list is scanned.
  module _ {names : NameSets} {unreferenced grey : List ℕ} {room next most embryos white : ℕ}
      (h : FilesInvariant r unreferenced room names next epoch grey most embryos bound white)
      (gs : List ℕ) (last : grey ≡ gs ++ f ∷ []) where
    -- It is in the list once more than in the rest.
    once : (g : ℕ) → count_in g grey ≡ count_in g gs + one g f
    once g = let all = ap (count_in g) last in let more = sum_by-append (one g) gs (f ∷ []) in let own = count-cons g f [] in omega (arith, all, more, own)

    -- So it is grey.
    pub last-grey : is_grey now f ≡ true
    last-grey = by (is_grey now f) refl where
      by : (b : Bool) → is_grey now f ≡ b → is_grey now f ≡ true
      by true e = e
      by false e =
          let own : one f f ≡ 1 = ap {B = ℕ} (λ b. cond b 1 0) (itself f) in
          let none : cond (is_grey now f) 1 0 ≡ 0 = ap {B = ℕ} (λ b. cond b 1 0) e in
          absurd (omega (arith, own, none, h.listed.1 f, once f))

    -- It has a mark.
    pub last-known : map.contains_key r.marks f ≡ true
    last-known = sym (color_known epoch r.marks f) ∙ grey-known now f last-grey

    -- It leaves the list, and is black.
    pub filed-scanned : (new : FileTableView) (wide : ℕ) → new ≡ record r { marks = map.insert r.marks f (black_mark epoch) } → map.len new.marks ≡ map.len r.marks → most ≤ wide → FilesInvariant new unreferenced room names next epoch gs wide embryos bound white
    filed-scanned new wide is len more =
        let many = sym (ap (λ (r : FileTableView). map.len r.marks) is) ∙ len in
        filed-marked r new _ _ _ _ _ _ _ h _ gs wide is
        (listed-black r.marks _ epoch grey most h.listed f (black_mark epoch) refl refl many gs wide refl (λ g. omega (arith, once g)) more) more white
        (white-scanned r.marks _ epoch bound next white h.whites f (black_mark epoch) refl (color_now epoch (black_mark epoch) refl) last-grey)

    -- The view after it.
    pub seen-scanned : seen epoch bound (record r { marks = map.insert r.marks f (black_mark epoch) }) next ≡ record (seen epoch bound r next) { marks = blackened f now }
    seen-scanned =
        ap {B = FilesView} (λ (m : MarksView). record (seen epoch bound r next) { marks = m })
        (ap {B = MarksView} (λ cs. record { colors = cs; bound = bound }) (color_after epoch r.marks _ f (black_mark epoch) Black refl (color_now epoch (black_mark epoch) refl))
        ∙ sym (ap (λ b. cond b (with_color Black) now) last-grey))
