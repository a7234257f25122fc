-- Lists of places that are gathered item by item: what they count is what the world counts.
use Rattle.std.proofs.Common.{◌≡◌, ◌<◌, ◌≤◌, ◌+◌, ℕ, Bool, true, false, List, [], ◌∷◌, ◌++◌, length, get_or, take, refl, sym, ap, ◌∙◌, arith, cond, nat_eq}
use Rattle.std.specs.Prelude.{Some}
use Rattle.std.specs.Option.{option_map_or}
use Rattle.std.specs.List.{All, flat_map, sum_by}
use Rattle.std.specs.List.Sorted.{IsPermutation, IsSorted}
use Rattle.std.specs.Ordering.{nat_cmp}
use Rattle.std.proofs.lemmas.List.{flat_map_more, take_all, take_more}
use Rattle.std.proofs.lemmas.List.Concat.{length-flat_map}
use Rattle.std.proofs.lemmas.List.Elements.{All-head, All-tail}
use Rattle.std.proofs.lemmas.List.Folds.{flat_map-map}
use Rattle.std.proofs.lemmas.List.Sorted.{IsNonDecreasingBy-from_sort, sum_by-IsPermutation}
use Rattle.std.proofs.lemmas.List.Sums.{sum_by-append, sum_by-cons}
use Rattle.af_base.specs.World.{File, Message, Plain, AsSocket}
use Rattle.af_base.specs.Places.{attached_in, backlog_of, contents, queue_of}
use Rattle.af_base.specs.Counts.{charge, charged, count_in, inflight, one, refs, tabled, total, total_of}
use Rattle.af_base.specs.Listing.{AreFiles, AreTables, IsRisingTable, IsTally, file_of, files_of, inos_of, listed, message_of, payers_of, process_of, socket_of, table_of}
use Rattle.af_base.specs.declared.listing.ListedFile.{ListedFile}
use Rattle.af_base.specs.declared.listing.ListedSocket.{ListedSocket}
use Rattle.af_base.specs.declared.listing.ListedTable.{ListedTable}
use Rattle.af_base.proofs.MapsOfLists.{keyed-total, sum_by-mapped}

-- The list gathered from all items.
pub gathered : {A : Type 0} (h : A → List ℕ) (xs : List A) (i : ℕ) (start new all : List ℕ) → length xs ≤ i → new ≡ start ++ flat_map h (take i xs) → flat_map h xs ≡ all → new ≡ start ++ all
gathered h xs i start new all end so_far is = so_far ∙ ap (λ ys. start ++ flat_map h ys) (take_all i xs end) ∙ ap (λ ys. start ++ ys) is

-- The list gathered from one item more.
pub gathered_next : {A : Type 0} (h : A → List ℕ) (xs : List A) (i : ℕ) (x : A) (start now new : List ℕ) → i < length xs → x ≡ get_or xs i x → now ≡ start ++ flat_map h (take i xs) → new ≡ now ++ h x → new ≡ start ++ flat_map h (take (i + 1) xs)
gathered_next h xs i x start now new more is so_far one =
    one ∙ ap (λ ys. ys ++ h x) so_far ∙ flat_map_more h start (take i xs) x ∙ ap (λ ys. start ++ flat_map h ys) (ap (λ y. take i xs ++ y ∷ []) is ∙ sym (take_more xs i x more))

module _ {X : Type 0} (F G : X → ℕ) where
  -- Two sums whose items agree are equal.
  sum_same : (P : X → Type 0) → ((y : X) → P y → F y ≡ G y) → (xs : List X) → All P xs → sum_by F xs ≡ sum_by G xs
  sum_same P same [] h = refl
  sum_same P same (x ∷ xs) h =
      let here = same x (All-head P x xs h) in
      omega (arith, here, sum_same P same xs (All-tail P x xs h), sum_by-cons F x xs, sum_by-cons G x xs)

-- How often joined lists have a number, list by list.
pub count_flat : {A : Type 0} (f : ℕ) (g : A → List ℕ) (xs : List A) → count_in f (flat_map g xs) ≡ sum_by (λ x. count_in f (g x)) xs
count_flat f g [] = refl
count_flat f g (x ∷ xs) = omega (arith, sum_by-append (λ y. cond (nat_eq f y) 1 0) (g x) (flat_map g xs), count_flat f g xs, sum_by-cons (λ y. count_in f (g y)) x xs)

module _ (x : ListedFile) (s : ListedSocket) (is : x.socket ≡ Some s) where
  -- The files that the queue of a listed socket carries.
  pub carried_listed : attached_in (queue_of (file_of x)) ≡ flat_map (λ m. m.attached.items) s.queue.items
  carried_listed = ap (λ o. attached_in (queue_of (option_map_or (λ s. AsSocket (socket_of s)) o Plain))) is ∙ flat_map-map (λ m. m.attached) message_of s.queue.items

  -- The users that its queue is charged to.
  pub payers_listed : flat_map payers_of (queue_of (file_of x)) ≡ flat_map (λ m. payers_of (message_of m)) s.queue.items
  payers_listed = ap (λ o. flat_map payers_of (queue_of (option_map_or (λ s. AsSocket (socket_of s)) o Plain))) is ∙ flat_map-map payers_of message_of s.queue.items

  -- Its backlog.
  pub backlog_listed : backlog_of (file_of x) ≡ s.backlog.items
  backlog_listed = ap (λ o. backlog_of (option_map_or (λ s. AsSocket (socket_of s)) o Plain)) is

  -- The files that it holds.
  pub contents_listed : contents (file_of x) ≡ flat_map (λ m. m.attached.items) s.queue.items ++ s.backlog.items
  contents_listed = (λ i. carried_listed i ++ backlog_listed i)

-- The count of a user in the list of a message is the message's charge to that user.
count_payers : (u : ℕ) (m : Message) → count_in u (payers_of m) ≡ charge u m
count_payers u m = sum_by-mapped (λ y. cond (nat_eq u y) 1 0) (λ _. m.user) m.attached ∙ each (nat_eq u m.user) m.attached where
  each : (b : Bool) (xs : List ℕ) → sum_by (λ y. cond b 1 0) xs ≡ cond b (length xs) 0
  each true [] = refl
  each false [] = refl
  each true (x ∷ xs) = omega (arith, each true xs, sum_by-cons (λ y. 1) x xs)
  each false (x ∷ xs) = omega (arith, each false xs, sum_by-cons (λ y. 0) x xs)

-- A sum over the files of a world is the sum over their list.
files_total : (F : File → ℕ) (files : List ListedFile) → AreFiles files → total_of F (files_of files) ≡ sum_by (λ x. F (file_of x)) files
files_total F files ordered = keyed-total (λ x. x.ino) file_of F files ordered.inos

-- The count of a file in the list of table entries is the number of descriptors that refer to it.
pub count_tabled : (tables : List ListedTable) (files : List ListedFile) → AreTables tables → (f : ℕ) → count_in f (flat_map inos_of tables) ≡ tabled (listed tables files) f
count_tabled tables files ordered f =
    count_flat f inos_of tables
    ∙ sym (keyed-total (λ t. t.pid) process_of (λ p. total_of (λ g. one f g) p.table) tables ordered.pids
    ∙ sum_same (λ t. total_of (λ g. one f g) (table_of t)) (λ t. count_in f (inos_of t)) IsRisingTable table tables ordered.numbers) where
      table : (t : ListedTable) → IsRisingTable t → total_of (λ g. one f g) (table_of t) ≡ count_in f (inos_of t)
      table t h = keyed-total (λ n. n.fd) (λ n. n.ino) (one f) t.numbers.items h ∙ sym (sum_by-mapped (λ g. cond (nat_eq f g) 1 0) (λ n. n.ino) t.numbers.items)

-- The count of a file in the list of holdings is its reference count.
pub count_held : (tables : List ListedTable) (files : List ListedFile) → AreTables tables → AreFiles files → (f : ℕ)
    → count_in f (flat_map inos_of tables ++ flat_map (λ x. contents (file_of x)) files) ≡ refs (listed tables files) f
count_held tables files rising ordered f =
    let numbers = count_tabled tables files rising f in
    let places = count_flat f (λ x. contents (file_of x)) files ∙ sym (files_total (λ x. count_in f (contents x)) files ordered) in
    omega (arith, numbers, places, sum_by-append (λ y. cond (nat_eq f y) 1 0) (flat_map inos_of tables) (flat_map (λ x. contents (file_of x)) files))

module _ (tables : List ListedTable) (files : List ListedFile) (ordered : AreFiles files) where
  -- The count of a file in the list of queued files is its in-flight count.
  pub count_queued : (f : ℕ) → count_in f (flat_map (λ x. attached_in (queue_of (file_of x))) files) ≡ inflight (listed tables files) f
  count_queued f = count_flat f (λ x. attached_in (queue_of (file_of x))) files ∙ sym (files_total (λ x. count_in f (attached_in (queue_of x))) files ordered)

  -- There are as many places in queues.
  pub length_queued : length (flat_map (λ x. attached_in (queue_of (file_of x))) files) ≡ total (listed tables files)
  length_queued =
      length-flat_map (λ x. attached_in (queue_of (file_of x))) files
      ∙ (λ i. sum_by (λ x. length-flat_map (λ m. m.attached) (queue_of (file_of x)) i) files)
      ∙ sym (files_total (λ x. sum_by (λ m. length m.attached) (queue_of x)) files ordered)

  -- The count of a user in the list of charges is that user's total.
  pub count_charged : (u : ℕ) → count_in u (flat_map (λ x. flat_map payers_of (queue_of (file_of x))) files) ≡ charged (listed tables files) u
  count_charged u =
      count_flat u (λ x. flat_map payers_of (queue_of (file_of x))) files
      ∙ (λ i. sum_by (λ x. queue (queue_of (file_of x)) i) files)
      ∙ sym (files_total (λ x. sum_by (charge u) (queue_of x)) files ordered) where
        queue : (q : List Message) → count_in u (flat_map payers_of q) ≡ sum_by (charge u) q
        queue q = count_flat u payers_of q ∙ (λ i. sum_by (λ m. count_payers u m i) q)

-- A list that counts right does so once it is sorted.
pub tallied : (counts : ℕ → ℕ) (xs ys : List ℕ) → ((f : ℕ) → count_in f xs ≡ counts f) → IsPermutation xs ys → IsSorted nat_cmp ys → IsTally counts ys
tallied counts xs ys counted moved sorted = record {
  rising = IsNonDecreasingBy-from_sort (λ x. x) ys sorted;
  each = λ f. sum_by-IsPermutation (λ y. cond (nat_eq f y) 1 0) xs ys moved ∙ counted f;
}
