-- The invariant of the table of files, as rows come, change and go.
use Rattle.std.proofs.Common.{◌≡◌, ◌≤◌, ◌<◌, ℕ, ◌+◌, ◌-◌, Bool, true, false, ◌&&◌, List, [], ◌∷◌, ◌++◌, inl, inr, length, refl, sym, ap, ◌∙◌, subst, cond, nat_eq, arith}
use Rattle.std.specs.Prelude.{IsTrue, Option, Some, None, is_some, nat_lt, option_map, Result, Ok, Err, OnErr, OnOk}
use Rattle.std.specs.Option.{option_and_then, option_map_or}
use Rattle.std.specs.FinMap as map
use Rattle.std.specs.FinMap.{nat_cmp-IsAntisymmetric, same_map}
use Rattle.std.specs.Ordering.{nat_cmp}
use Rattle.std.specs.Cmp.{nat_cmp_total}
use Rattle.std.proofs.lemmas.Bool.{false≢true, ltb-false}
use Rattle.slab.specs.Slab.{SameValues, Slab}
use Rattle.af_base.specs.Changes.{with_name}
use Rattle.af_base.specs.Counts.{count_in}
use Rattle.af_base.specs.Ready.{face_in, face_of}
use Rattle.af_base.specs.Refusals.{socket_of}
use Rattle.af_base.specs.Told.{is_socket_in, AreChanged, AreReleased, AreSocketsOnce}
use Rattle.af_base.specs.World.{File, Map, Message, Socket}
use Rattle.af_base.proofs.ExactLists.{just-empty}
use Rattle.af_base.proofs.Lookups.{insert-here, insert-other, none_some, remove-here, remove-other, same_or_not, some_same}
use Rattle.af_base.proofs.StaysWithin.{len-insert_most}
use Rattle.ordered_slab.specs.OrderedSlabView.{OrderedSlabView, with_value}
use Rattle.ordered_slab.specs.Parts.{part}
use Rattle.ordered_slab.proofs.Parts.{part_get, part_known, part_many}
use Rattle.ordered_slab.proofs.Values.{lent_many}
use Rattle.af_queue.specs.Chains.{messages_of, IsChain, SameElsewhere}
use Rattle.af_queue.specs.declared.chain.Node.{Node}
use Rattle.af_queue.proofs.Chains.{same_queue}
use Rattle.af_desc.specs.declared.file_row.FileRow.{FileRow}
use Rattle.af_desc.specs.FileTableView.{counts_of, file_in, file_of, files_of, marks_of, refilled, AreChained}
use Rattle.af_desc.specs.Told.{cleaned, is_listed, since_of, AreTold, FileTableInvariant, IsDirtyList, ToldListsView}
use Rattle.af_desc.proofs.FileTableView.{chains_changed, chains_from, chains_none, chains_put, chains_roomed, chains_stay, chains_taken, file_is, socket_kept, stays}
use Rattle.af_desc.proofs.ToldLists.{comes-last, goes-last, listed-alike, listed-few, listed-most, listed-new, listed-same, lived, released-come, released-gone, released-same}

-- What is dirty only if it is a socket is listed if it is dirty.
twice : (asked some dirty : Bool) → dirty ≡ (asked && some) → (dirty && some) ≡ dirty
twice asked some dirty is = ap (λ b. b && some) is ∙ by asked some ∙ sym is where
  by : (a b : Bool) → ((a && b) && b) ≡ (a && b)
  by false b = refl
  by true false = refl
  by true true = refl

-- A table of files with its invariant.
module _ {nodes : Slab Node} {rows : OrderedSlabView FileRow} {told : ToldListsView} {files : Map File} {then : ℕ} {room : ℕ} (h : FileTableInvariant nodes rows told files then room) where
  -- Where there is room for a file, the list of dirty ones has it.
  pub room-for-new : (f : ℕ) (x : FileRow) → map.contains_key rows.values f ≡ false → 0 < room → length told.changed < told.space
  room-for-new f x new some = let few = listed-most rows.values told.changed f x new h.are_told.listed in let all = h.list_room in omega (arith, few, all, some)

  -- A number without a row is removed.
  pub kept-absent : (f : ℕ) (after : OrderedSlabView FileRow) → map.get rows.values f ≡ None → after ≡ record rows { values = map.remove rows.values f; room = after.room } → rows.room ≤ after.room → FileTableInvariant nodes after told files then room
  kept-absent f after none is more =
      let same : map.remove rows.values f ≡ rows.values = same_map nat_cmp_total nat_cmp-IsAntisymmetric _ _ (λ g. elim (same_or_not g f) [
        | inl here ↦ ap (map.get (map.remove rows.values f)) here ∙ remove-here rows.values f ∙ sym (ap (map.get rows.values) here ∙ none)
        | inr apart ↦ remove-other rows.values f g apart
      ]) in
      subst (λ r. FileTableInvariant nodes r told files then room) (sym (is ∙ ap {B = OrderedSlabView FileRow} (λ m. record rows { values = m; room = after.room }) same)) (record { chained = h.chained; are_told = record { listed = h.are_told.listed; same = h.are_told.same; later = h.are_told.later; below = h.are_told.below; each = h.are_told.each }; row_room = let low = h.row_room in omega (arith, low, more); list_room = h.list_room })

  -- There is room for messages more.
  pub kept-roomed : (t : Slab Node) → SameValues nodes t → FileTableInvariant t rows told files then room
  kept-roomed t same = record {
    chained = chains_roomed nodes t rows.values same h.chained;
    are_told = record {
      listed = h.are_told.listed;
      same = λ asked f x at socket not. ap (λ ms. Some (face_of (file_of (option_map (refilled ms) x.kind)))) (same_queue nodes t x.chain same (h.chained.each f x at)).1 ∙ h.are_told.same asked f x at socket not;
      later = h.are_told.later;
      below = h.are_told.below;
      each = h.are_told.each;
    };
    row_room = h.row_room;
    list_room = h.list_room;
  }

  -- A row is lent, and is written to.
  module _ (f : ℕ) (x : FileRow) (at : map.get rows.values f ≡ Some x) where
    -- Where the row is not dirty, there is room in the list for its file.
    pub room-for : x.dirty ≡ false → length told.changed < told.space
    room-for not = let few = listed-few rows.values told.changed f x at h.are_told.listed not in let all = h.list_room in omega (arith, few, all)

    -- There is room in the lists for some file.
    pub some-space : 0 < told.space
    some-space = let all = h.list_room in omega (arith, all, lived rows.values f (ap is_some at))

    -- The same numbers have a row.
    known : (y : FileRow) (g : ℕ) → map.contains_key (map.insert rows.values f y) g ≡ map.contains_key rows.values g
    known y g = elim (same_or_not g f) [
      | inl here ↦ ap is_some (ap (map.get (map.insert rows.values f y)) here ∙ insert-here rows.values f y) ∙ sym (ap is_some (ap (map.get rows.values) here ∙ at))
      | inr apart ↦ ap is_some (insert-other rows.values f y g apart)
    ]

    -- The invariant holds for the row that was written, if it does for its chain, list and face.
    written : (t : Slab Node) (y : FileRow) (fs : List ℕ) → AreChained t (map.insert rows.values f y) → ((g : ℕ) (z : FileRow) → nat_eq g f ≡ false → map.get rows.values g ≡ Some z → file_in t z ≡ file_in nodes z)
        → IsDirtyList (map.insert rows.values f y) fs → (told.tells_changed ≡ true → IsTrue (is_some y.kind) → y.dirty ≡ false → Some (face_of (file_in t y)) ≡ face_in files f)
        → FileTableInvariant t (with_value rows f y) (record told { changed = fs }) files then room
    written t y fs chained others listed own = record {
      chained = chained;
      are_told = record {
        listed = listed;
        same = λ asked g z is socket not. elim (same_or_not g f) [
          | inl here ↦
              let it = some_same y z (sym (ap (map.get (map.insert rows.values f y)) here ∙ insert-here rows.values f y) ∙ is) in
              subst (λ (r : FileRow). Some (face_of (file_in t r)) ≡ face_in files g) it
              (subst (λ n. Some (face_of (file_in t y)) ≡ face_in files n) (sym here) (own asked (subst (λ (r : FileRow). IsTrue (is_some r.kind)) (sym it) socket) (ap (λ r. r.dirty) it ∙ not)))
          | inr apart ↦
              let was = sym (insert-other rows.values f y g apart) ∙ is in
              ap (λ x. Some (face_of x)) (others g z apart was) ∙ h.are_told.same asked g z was socket not
        ];
        later = h.are_told.later;
        below = λ g high. known y g ∙ h.are_told.below g high;
        each = λ asked. released-same rows.values (map.insert rows.values f y) (rows.last + 1) (since_of told files then) told.released (known y) (h.are_told.each asked);
      };
      row_room = h.row_room;
      list_room = let all = h.list_room in omega (arith, all, lent_many rows.values f x y at);
    }

    -- A row that shows the same face, and is as dirty as it was.
    shown : (t : Slab Node) (y : FileRow) → AreChained t (map.insert rows.values f y) → ((g : ℕ) (z : FileRow) → nat_eq g f ≡ false → map.get rows.values g ≡ Some z → file_in t z ≡ file_in nodes z)
        → y.dirty ≡ x.dirty → is_some y.kind ≡ is_some x.kind → face_of (file_in t y) ≡ face_of (file_in nodes x) → FileTableInvariant t (with_value rows f y) told files then room
    shown t y chained others dirty kind face =
        written t y told.changed chained others (listed-same rows.values told.changed f x at h.are_told.listed y (λ i. dirty i && kind i))
        (λ asked socket not. ap Some face ∙ h.are_told.same asked f x at (sym kind ∙ socket) (sym dirty ∙ not))

    -- A row that has its chain still.
    chained-still : (y : FileRow) → y.chain ≡ x.chain → AreChained nodes (map.insert rows.values f y)
    chained-still y chain = chains_stay nodes rows.values f y (ap (option_map (λ r. r.chain)) at ∙ ap Some (sym chain)) h.chained

    -- A row of the same file, and as dirty as it was.
    pub kept-marked : (y : FileRow) → y.kind ≡ x.kind → y.chain ≡ x.chain → y.dirty ≡ x.dirty → FileTableInvariant nodes (with_value rows f y) told files then room
    kept-marked y kind chain dirty =
        shown nodes y (chained-still y chain) (λ g z off is. refl) dirty (ap is_some kind) (λ i. face_of (file_of (option_map (refilled (messages_of nodes (chain i))) (kind i))))

    -- A socket with a name: a name shows in no face.
    pub kept-named : {A B : Type 0} (r : Result A B) (kind : Option Socket) (name : List ℕ) → OnOk r (kind ≡ option_map (with_name name) x.kind) → OnErr r (kind ≡ x.kind) → FileTableInvariant nodes (with_value rows f (record x { kind = kind })) told files then room
    kept-named (Err e) kind name ok err = kept-marked (record x { kind = kind }) err refl refl
    kept-named (Ok v) kind name ok err =
        shown nodes (record x { kind = kind }) (chained-still (record x { kind = kind }) refl) (λ g z off is. refl) refl (ap is_some ok ∙ is x.kind)
        (ap (λ k. face_of (file_of (option_map (refilled (messages_of nodes x.chain)) k))) ok ∙ face (messages_of nodes x.chain) x.kind) where
          is : (o : Option Socket) → is_some (option_map (with_name name) o) ≡ is_some o
          is None = refl
          is (Some s) = refl

          face : (ms : List Message) (o : Option Socket) → face_of (file_of (option_map (refilled ms) (option_map (with_name name) o))) ≡ face_of (file_of (option_map (refilled ms) o))
          face ms None = refl
          face ms (Some s) = refl

    -- A row whose messages are in other nodes.
    module _ (t : Slab Node) (y : FileRow) (own : IsChain t y.chain) (others : SameElsewhere nodes x.chain t y.chain) where
      -- Each row has a chain of its own.
      chained-there : AreChained t (map.insert rows.values f y)
      chained-there = chains_changed nodes t rows.values f x y at h.chained own others

      -- Other files are as they were.
      others-there : (g : ℕ) (z : FileRow) → nat_eq g f ≡ false → map.get rows.values g ≡ Some z → file_in t z ≡ file_in nodes z
      others-there g z off is = ap (λ ms. file_of (option_map (refilled ms) z.kind)) (stays nodes t rows.values f x y at h.chained own others g z off is).1

      -- Its file is as it was, and as dirty.
      pub kept-silent : y.dirty ≡ x.dirty → is_some y.kind ≡ is_some x.kind → file_in t y ≡ file_in nodes x → FileTableInvariant t (with_value rows f y) told files then room
      kept-silent dirty socket file = shown t y chained-there others-there dirty socket (ap face_of file)

      -- Nothing but its chain was written to, and its file is as it was.
      pub kept-moved : y ≡ record x { chain = y.chain } → file_in t y ≡ file_in nodes x → FileTableInvariant t (with_value rows f y) told files then room
      kept-moved rest = kept-silent (ap (λ r. r.dirty) rest) (ap (λ r. is_some r.kind) rest)

    -- A row that changed, and is in the list then.
    module _ (t : Slab Node) (z y : FileRow) (lists : ToldListsView) (like : is_listed x ≡ is_listed z) (row : y ≡ record z { dirty = y.dirty }) (sets : told.tells_changed ≡ true → is_some z.kind ≡ true → y.dirty ≡ true)
        (listed : (m : Map FileRow) (x : FileRow) → map.get m f ≡ Some x → is_listed x ≡ is_listed z → IsDirtyList m told.changed → IsDirtyList (map.insert m f y) lists.changed) (rest : lists ≡ record told { changed = lists.changed }) where
      -- Its chain is right, and other files are as they were.
      kept-listed : AreChained t (map.insert rows.values f y) → ((g : ℕ) (z : FileRow) → nat_eq g f ≡ false → map.get rows.values g ≡ Some z → file_in t z ≡ file_in nodes z) → FileTableInvariant t (with_value rows f y) lists files then room
      kept-listed chained others =
          subst (λ l. FileTableInvariant t (with_value rows f y) l files then room) (sym rest)
          (written t y lists.changed chained others (listed rows.values x at like h.are_told.listed)
          (λ asked socket not. absurd (false≢true (sym not ∙ sets asked (sym (ap (λ r. is_some r.kind) row) ∙ socket)))))

      -- Its messages changed.
      pub kept-queue : IsChain t z.chain → SameElsewhere nodes x.chain t z.chain → FileTableInvariant t (with_value rows f y) lists files then room
      kept-queue own others =
          let chain = sym (ap (λ r. r.chain) row) in
          let mine = subst (IsChain t) chain own in
          let alike = subst (SameElsewhere nodes x.chain t) chain others in
          kept-listed (chained-there t y mine alike) (others-there t y mine alike)

    -- A row whose kind changed, and that is in the list then.
    pub kept-kind : (z y : FileRow) (lists : ToldListsView) (g : Socket → Socket) → z.chain ≡ x.chain → z.dirty ≡ x.dirty → z.kind ≡ option_map g x.kind → y ≡ record z { dirty = y.dirty } → (told.tells_changed ≡ true → is_some z.kind ≡ true → y.dirty ≡ true)
        → ((m : Map FileRow) (x : FileRow) → map.get m f ≡ Some x → is_listed x ≡ is_listed z → IsDirtyList m told.changed → IsDirtyList (map.insert m f y) lists.changed) → lists ≡ record told { changed = lists.changed }
        → FileTableInvariant nodes (with_value rows f y) lists files then room
    kept-kind z y lists g chain dirty kind row sets listed rest = kept-listed nodes z y lists (sym (λ i. dirty i && (ap is_some kind ∙ socket_kept g x.kind) i)) row sets listed rest (chained-still y (ap (λ r. r.chain) row ∙ chain)) (λ g q off is. refl)

    -- A row that is in the list, and changes then.
    module _ (t : Slab Node) (z y : FileRow) (lists : ToldListsView) (row : z ≡ record x { dirty = z.dirty }) (sets : told.tells_changed ≡ true → is_some x.kind ≡ true → z.dirty ≡ true)
        (listed : (m : Map FileRow) (r : FileRow) → map.get m f ≡ Some r → is_listed r ≡ is_listed x → IsDirtyList m told.changed → IsDirtyList (map.insert m f z) lists.changed) (rest : lists ≡ record told { changed = lists.changed }) (dirty : y.dirty ≡ z.dirty) (socket : is_some y.kind ≡ is_some x.kind) where
      -- Its chain is right, and other files are as they were.
      kept-then : AreChained t (map.insert rows.values f y) → ((g : ℕ) (z : FileRow) → nat_eq g f ≡ false → map.get rows.values g ≡ Some z → file_in t z ≡ file_in nodes z) → FileTableInvariant t (with_value rows f y) lists files then room
      kept-then chained others =
          subst (λ l. FileTableInvariant t (with_value rows f y) l files then room) (sym rest)
          (written t y lists.changed chained others (listed-alike rows.values lists.changed f z y (λ i. dirty i && (socket ∙ sym (ap (λ r. is_some r.kind) row)) i) (listed rows.values x at refl h.are_told.listed))
          (λ asked some not. absurd (false≢true (sym not ∙ dirty ∙ sets asked (sym socket ∙ some)))))

      -- Its messages changed.
      pub listed-queue : IsChain t y.chain → SameElsewhere nodes z.chain t y.chain → FileTableInvariant t (with_value rows f y) lists files then room
      listed-queue own others =
          let alike = subst (λ c. SameElsewhere nodes c t y.chain) (ap (λ r. r.chain) row) others in
          kept-then (chained-there t y own alike) (others-there t y own alike)

    -- A row that is in the list, and whose kind changes then.
    pub listed-kind : (z y : FileRow) (lists : ToldListsView) → z ≡ record x { dirty = z.dirty } → (told.tells_changed ≡ true → is_some x.kind ≡ true → z.dirty ≡ true)
        → ((m : Map FileRow) (r : FileRow) → map.get m f ≡ Some r → is_listed r ≡ is_listed x → IsDirtyList m told.changed → IsDirtyList (map.insert m f z) lists.changed) → lists ≡ record told { changed = lists.changed } → y.dirty ≡ z.dirty → is_some y.kind ≡ is_some x.kind → y.chain ≡ z.chain
        → FileTableInvariant nodes (with_value rows f y) lists files then room
    listed-kind z y lists row sets listed rest dirty socket chain = kept-then nodes z y lists row sets listed rest dirty socket (chained-still y (chain ∙ ap (λ r. r.chain) row)) (λ g q off is. refl)

    -- A row is removed.
    pub kept-removed : (after mid : OrderedSlabView FileRow) (lists : ToldListsView) → after ≡ mid → mid ≡ record rows { values = map.remove rows.values f; room = mid.room } → rows.room ≤ mid.room
        → ((m : Map FileRow) (y : FileRow) → map.get m f ≡ Some y → y.dirty ≡ x.dirty → IsDirtyList m told.changed → IsDirtyList (map.remove m f) lists.changed) → (told.tells_released ≡ true → lists.released ≡ told.released ++ f ∷ []) → told.space ≤ lists.space + 1
        → lists ≡ record told { changed = lists.changed; released = lists.released; space = lists.space } → FileTableInvariant nodes after lists files then room
    kept-removed after mid lists same is more listed released space rest =
        subst (λ l. FileTableInvariant nodes after l files then room) (sym rest) (subst (λ r. FileTableInvariant nodes r (record told { changed = lists.changed; released = lists.released; space = lists.space }) files then room) (sym (same ∙ is)) (record {
          chained = chains_taken nodes rows.values f h.chained;
          are_told = record {
            listed = listed rows.values x at refl h.are_told.listed;
            same = λ asked g z was socket not. elim (same_or_not g f) [
              | inl here ↦ absurd (none_some z (sym (ap (map.get (map.remove rows.values f)) here ∙ remove-here rows.values f) ∙ was))
              | inr apart ↦ h.are_told.same asked g z (sym (remove-other rows.values f g apart) ∙ was) socket not
            ];
            later = h.are_told.later;
            below = goes-last rows.values f rows.last h.are_told.below;
            each = λ asked. subst (AreReleased (map.remove rows.values f) (rows.last + 1) (since_of told files then)) (sym (released asked)) (released-gone rows.values f (rows.last + 1) (since_of told files then) told.released (ap is_some at) (h.are_told.each asked));
          };
          row_room = let low = h.row_room in omega (arith, low, more);
          list_room =
              let all = h.list_room in
              let less : map.len (map.remove rows.values f) ≡ map.len rows.values - 1 = map.len-remove nat_cmp_total rows.values f ∙ ap (λ o. cond (is_some o) (map.len rows.values - 1) (map.len rows.values)) at in
              omega (arith, all, less, space, lived rows.values f (ap is_some at));
        }))

  -- A row is added, for which there is room.
  pub kept-pushed : (f : ℕ) (x : FileRow) (after : OrderedSlabView FileRow) (lists : ToldListsView) → f ≡ rows.last + 1 → x.chain.len ≡ 0 → map.contains_key rows.values f ≡ false → after ≡ record rows { values = map.insert rows.values f x; last = f; room = after.room } → rows.room ≤ after.room + 1
      → x.dirty ≡ (told.tells_changed && is_some x.kind) → lists ≡ record told { changed = cond x.dirty (told.changed ++ f ∷ []) told.changed } → 0 < room → FileTableInvariant nodes after lists files then (room - 1)
  kept-pushed f x after lists next none new is more dirty rest some =
      subst (λ l. FileTableInvariant nodes after l files then (room - 1)) (sym rest) (subst (λ r. FileTableInvariant nodes r (record told { changed = cond x.dirty (told.changed ++ f ∷ []) told.changed }) files then (room - 1)) (sym is) (record {
        chained = chains_put nodes rows.values f x none h.chained;
        are_told = record {
          listed = listed-new rows.values told.changed f x new h.are_told.listed x.dirty (twice told.tells_changed (is_some x.kind) x.dirty dirty);
          same = λ asked g z at socket not. elim (same_or_not g f) [
            | inl here ↦
                let it = some_same x z (sym (ap (map.get (map.insert rows.values f x)) here ∙ insert-here rows.values f x) ∙ at) in
                absurd (false≢true (sym not ∙ sym (ap (λ r. r.dirty) it) ∙ dirty ∙ (λ i. asked i && is_some (it i).kind) ∙ socket))
            | inr apart ↦ h.are_told.same asked g z (sym (insert-other rows.values f x g apart) ∙ at) socket not
          ];
          later = let low = h.are_told.later in omega (arith, low, next);
          below = comes-last rows.values f x rows.last next h.are_told.below;
          each = λ asked. released-come rows.values f x rows.last next (since_of told files then) told.released h.are_told.later (h.are_told.each asked);
        };
        row_room = let low = h.row_room in omega (arith, low, more, some);
        list_room = let all = h.list_room in omega (arith, all, len-insert_most rows.values f x, some);
      }))

-- No row.
pub kept-none : (nodes : Slab Node) (rows : OrderedSlabView FileRow) (told : ToldListsView) (files : Map File) (then : ℕ) → rows.values ≡ map.empty → told.changed ≡ [] → told.tells_changed ≡ false → told.tells_released ≡ false → then ≡ rows.last + 1 → FileTableInvariant nodes rows told files then 0
kept-none nodes rows told files then none empty off mute next = record {
  chained = chains_none nodes rows.values none;
  are_told = record {
    listed = just-empty is_listed rows.values told.changed none empty;
    same = λ asked. absurd (false≢true (sym off ∙ asked));
    later = omega (arith, next);
    below = λ f high. ap (λ m. map.contains_key m f) none ∙ ap is_some (map.get-empty nat_cmp f);
    each = λ asked. absurd (false≢true (sym mute ∙ asked));
  };
  row_room = omega arith;
  list_room = omega (arith, ap map.len none, map.len-empty nat_cmp FileRow);
}

-- Rows that are the same, but for being dirty.
module _ (m n : Map FileRow) (same : cleaned n ≡ cleaned m) where
  -- A row that is not dirty.
  abbrev clean : FileRow → FileRow
  clean r = record r { dirty = false }

  -- Each number has the same, but for that.
  alike : (f : ℕ) → option_map clean (map.get n f) ≡ option_map clean (map.get m f)
  alike f = sym (part_get clean n f) ∙ ap (λ o. map.get o f) same ∙ part_get clean m f

  -- Another part of the rows is as it was.
  cleaned_part : {B : Type 0} (g : FileRow → B) → ((r : FileRow) → g (clean r) ≡ g r) → part g n ≡ part g m
  cleaned_part g other = same_map nat_cmp_total nat_cmp-IsAntisymmetric _ _ (λ f. part_get g n f ∙ sym (by (map.get n f)) ∙ ap (option_map g) (alike f) ∙ by (map.get m f) ∙ sym (part_get g m f)) where
    by : (o : Option FileRow) → option_map g (option_map clean o) ≡ option_map g o
    by None = refl
    by (Some r) = ap Some (other r)

  -- The files are as they were.
  pub cleaned_files : (s : Slab Node) → files_of s n ≡ files_of s m
  cleaned_files s = cleaned_part (file_in s) (λ r. refl)

  -- So are the counts.
  pub cleaned_counts : counts_of n ≡ counts_of m
  cleaned_counts = cleaned_part (λ r. r.count) (λ r. refl)

  -- So are the marks.
  pub cleaned_marks : marks_of n ≡ marks_of m
  cleaned_marks = cleaned_part (λ r. r.mark) (λ r. refl)

  -- There are as many rows.
  pub cleaned_many : map.len n ≡ map.len m
  cleaned_many = sym (part_many clean n) ∙ ap map.len same ∙ part_many clean m

  -- The same numbers have one.
  cleaned_known : (f : ℕ) → map.contains_key n f ≡ map.contains_key m f
  cleaned_known f = sym (part_known clean n f) ∙ ap (λ o. map.contains_key o f) same ∙ part_known clean m f

  -- Each has its chain still.
  cleaned_chains : (s : Slab Node) → AreChained s m → AreChained s n
  cleaned_chains s = chains_from s m n (λ g z at. by g (map.get m g) refl z (sym (alike g) ∙ ap (option_map clean) at)) where
    by : (g : ℕ) (o : Option FileRow) → map.get m g ≡ o → (z : FileRow) → option_map clean o ≡ Some (clean z) → (x : FileRow) × (map.get m g ≡ Some x) × (x.chain ≡ z.chain)
    by g None at z e = absurd (none_some (clean z) e)
    by g (Some x) at z e = (x, at, ap (λ r. r.chain) (some_same (clean x) (clean z) e))

-- The parts of rows that are no longer dirty.
pub ruleset cleaned_rows = (cleaned_files, cleaned_counts, cleaned_marks, cleaned_many)

-- Both lists are emptied.
pub kept-cleared : {nodes then_nodes : Slab Node} {old rows then_rows : OrderedSlabView FileRow} {before told : ToldListsView} {files : Map File} {then room less : ℕ} → FileTableInvariant nodes old before files then room → cleaned rows.values ≡ cleaned old.values → rows ≡ record old { values = rows.values } → IsDirtyList rows.values told.changed → told.released ≡ []
    → less ≤ room → less + map.len old.values ≤ told.space → then_nodes ≡ nodes → then_rows ≡ rows → FileTableInvariant nodes rows told (files_of then_nodes then_rows.values) (then_rows.last + 1) less
kept-cleared {nodes} {then_nodes} {old} {rows} {then_rows} {before} {told} {files} {then} {room} {less} h same is listed none lower enough here now = subst (λ s. FileTableInvariant nodes rows told (files_of s then_rows.values) (then_rows.last + 1) less) (sym here) (subst (λ r. FileTableInvariant nodes rows told (files_of nodes r.values) (r.last + 1) less) (sym now) (record {
  chained = cleaned_chains old.values rows.values same nodes h.chained;
  are_told = record {
    listed = listed;
    same = λ asked f x at socket not. sym (ap (option_map face_of) (file_is rows.values f x at nodes));
    later = omega arith;
    below = below;
    each = λ asked f. let zero = ap (count_in f) none in let same = ap {B = ℕ} (λ b. cond b 1 0) (by f (nat_lt f (rows.last + 1)) refl) in omega (arith, zero, same);
  };
  row_room = let low = h.row_room in omega (arith, low, lower, ap (λ r. r.room) is);
  list_room = omega (arith, enough, cleaned_many old.values rows.values same);
})) where
  below : (f : ℕ) → rows.last < f → map.contains_key rows.values f ≡ false
  below f high = cleaned_known old.values rows.values same f ∙ h.are_told.below f (omega (arith, high, ap (λ r. r.last) is))

  by : (f : ℕ) (b : Bool) → nat_lt f (rows.last + 1) ≡ b → map.contains_key rows.values f ≡ cond b (map.contains_key (files_of nodes rows.values) f) b
  by f true e = sym (part_known (file_in nodes) rows.values f)
  by f false e = let high = ltb-false f (rows.last + 1) e in below f (omega (arith, high))

-- The sockets that may have changed are listed.
pub changed-told : (nodes : Slab Node) (rows : OrderedSlabView FileRow) (told : ToldListsView) (files : Map File) (then : ℕ) → AreTold nodes rows told files then → told.tells_changed ≡ true → AreChanged (files_of nodes rows.values) (since_of told files then) told.changed
changed-told nodes rows told files then h asked f socket none = by (map.get rows.values f) refl where
  q : map.get (files_of nodes rows.values) f ≡ option_map (file_in nodes) (map.get rows.values f)
  q = part_get (file_in nodes) rows.values f

  kind : (ms : List Message) (o : Option Socket) → is_some (socket_of (file_of (option_map (refilled ms) o))) ≡ true → is_some o ≡ true
  kind ms None e = e
  kind ms (Some s) e = refl

  clean : (dirty some : Bool) → some ≡ true → ◌≡◌ {A = ℕ} 0 (cond (dirty && some) 1 0) → dirty ≡ false
  clean true some is e = absurd (omega (arith, e, ap {B = ℕ} (λ b. cond b 1 0) is))
  clean false some is e = refl

  by : (o : Option FileRow) → map.get rows.values f ≡ o → face_in (files_of nodes rows.values) f ≡ face_in files f
  by None at = absurd (false≢true (sym (ap (λ z. is_some (option_and_then socket_of z)) (q ∙ ap (option_map (file_in nodes)) at)) ∙ socket))
  by (Some x) at =
      let file = q ∙ ap (option_map (file_in nodes)) at in
      let some = kind _ x.kind (sym (ap (λ z. is_some (option_and_then socket_of z)) file) ∙ socket) in
      ap (option_map face_of) file ∙ h.same asked f x at some (clean x.dirty _ some (sym none ∙ h.listed f ∙ ap (λ o. cond (option_map_or is_listed o false) 1 0) at))

-- Each listed socket is there once.
pub once-told : (nodes : Slab Node) (rows : Map FileRow) (fs : List ℕ) → IsDirtyList rows fs → AreSocketsOnce (files_of nodes rows) fs
once-told nodes rows fs h f =
    subst (λ n. n ≤ cond (is_socket_in (files_of nodes rows) f) 1 0) (sym (h f))
    (subst (λ o. cond (option_map_or is_listed (map.get rows f) false) 1 0 ≤ cond (is_some (option_and_then socket_of o)) 1 0) (sym (part_get (file_in nodes) rows f)) (by (map.get rows f))) where
      own : (dirty : Bool) (ms : List Message) (o : Option Socket) → ◌≤◌ (cond (dirty && is_some o) 1 0) (cond (is_some (socket_of (file_of (option_map (refilled ms) o)))) 1 0)
      own false ms o = omega arith
      own true ms None = omega arith
      own true ms (Some s) = omega arith

      by : (o : Option FileRow) → ◌≤◌ (cond (option_map_or is_listed o false) 1 0) (cond (is_some (option_and_then socket_of (option_map (file_in nodes) o))) 1 0)
      by None = omega arith
      by (Some x) = own x.dirty (messages_of nodes x.chain) x.kind

-- The freed files are listed.
pub released-told : (nodes : Slab Node) (rows : OrderedSlabView FileRow) (told : ToldListsView) (files : Map File) (then : ℕ) → AreTold nodes rows told files then → told.tells_released ≡ true → AreReleased (files_of nodes rows.values) (rows.last + 1) (since_of told files then) told.released
released-told nodes rows told files then h asked = released-same rows.values (files_of nodes rows.values) (rows.last + 1) (since_of told files then) told.released (part_known (file_in nodes) rows.values) (h.each asked)
