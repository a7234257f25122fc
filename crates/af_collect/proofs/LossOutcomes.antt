-- A file loses the first of what it holds: the outcome stays, and there is less to do.
use Rattle.std.proofs.Common.{◌≡◌, ◌<◌, ℕ, ◌+◌, Bool, true, false, not, ◌⊎◌, inl, inr, List, [], ◌∷◌, ◌++◌, length, append_assoc, refl, sym, ap, ◌∙◌, subst, cond, nat_eq, arith, drop}
use Rattle.std.specs.Prelude.{Option, Some, None, option_map, if◌then◌else◌}
use Rattle.std.specs.Cmp.{nat_cmp_total}
use Rattle.std.specs.FinMap as map
use Rattle.std.specs.FinMap.{nat_cmp-IsAntisymmetric}
use Rattle.std.specs.List.{Contains}
use Rattle.std.specs.Option.{option_map_or}
use Rattle.std.proofs.lemmas.List.Elements.{Contains-append_right, Contains-append_cases, Contains-append_left}
use Rattle.std.proofs.lemmas.Bool.{cases_lt}
use Rattle.std.proofs.lemmas.List.{nil_from_length}
use Rattle.af_base.specs.World.{AsSocket, File, IsLive, Message, Plain, Socket, World}
use Rattle.af_base.specs.Places.{Holds, attached_in, backlog_of, contents, held_by, queue_at, queue_of, backlog_at}
use Rattle.af_base.specs.Counts.{refs, total_of}
use Rattle.af_base.specs.Changes.{file_with, with_queue, with_socket, dequeued}
use Rattle.af_base.specs.Release.{messages_in}
use Rattle.af_base.specs.Unheld.{Goes, Settles, Unheld, file_without, without}
use Rattle.af_base.specs.Whole.{IsWithin}
use Rattle.af_base.proofs.FreedCounts.{messages-without, total-without}
use Rattle.af_base.proofs.PlacesAndCounts.{held_by_none}
use Rattle.af_base.proofs.Lookups.{insert-here, same_or_not, there, told_apart}
use Rattle.af_base.proofs.PlaceMoves.{live-changed, others-changed, there-holds, total-changed}
use Rattle.af_base.proofs.SettledWorlds.{get-without}
use Rattle.af_base.proofs.Sums.{total-change_at}
use Rattle.af_base.proofs.Totals.{total-count}
use Rattle.af_base.proofs.Trees.{insert_same}
use Rattle.af_base.proofs.StaysWithin.{len-change_at}
use Rattle.af_base.specs.Pass.{emptied}
use Rattle.af_base.proofs.Embryos.{Contains-dropped}
use Rattle.af_mark.specs.MarksView.{MarksView}
use Rattle.af_collect.specs.StoreView.{StoreView}
use Rattle.af_collect.proofs.FreedFiles.{same_backlog, emptied-changed, emptied-popped}
use Rattle.af_collect.proofs.Recounts.{Sheds, sheds-first}
use Rattle.af_collect.specs.Losing.{places_at, without_place}

-- A socket that nothing holds lets go of some of what it holds.
module _ (w : World) (s : ℕ) (g : Socket → Socket) (live : IsLive w s) (none : refs w s ≡ 0) (fewer : (f : ℕ) → Holds (with_socket w s g) s f → Holds w s f) where
  -- The world after it did.
  abbrev after : World
  after = with_socket w s g

  -- The others hold what they held.
  others : (q : ℕ) → nat_eq q s ≡ false → held_by after q ≡ held_by w q
  others q apart = ap (λ o. option_map_or contents o []) (others-changed w s g q apart)

  -- A held file was held.
  held-before : (q f : ℕ) → Holds after q f → Holds w q f
  held-before q f h = elim (same_or_not q s) [
    | inl same ↦ subst (λ z. Holds w z f) (sym same) (fewer f (subst (λ z. Holds after z f) same h))
    | inr apart ↦ subst (λ fs. Contains fs f) (others q apart) h
  ]

  -- It is freed.
  goes-before : Unheld w s
  goes-before = let no = held_by_none w s none in Goes s live no.0 (λ q h. absurd (no.1 q h))

  -- And does so still.
  goes-after : Unheld after s
  goes-after = let no = held_by_none w s none in Goes s (live-changed w s g s ∙ live) no.0 (λ q h. absurd (no.1 q (held-before q s h)))

  -- A freed file stays freed.
  still-goes : (f : ℕ) → Unheld w f → Unheld after f
  still-goes _ (Goes f l no_table hs) = Goes f (live-changed w s g f ∙ l) no_table (λ q h. still-goes q (hs q (held-before q f h)))

  -- A file that is freed was to be freed.
  went-before : (f : ℕ) → Unheld after f → Unheld w f
  went-before _ (Goes f l no_table hs) = Goes f (sym (live-changed w s g f) ∙ l) no_table (λ q h. elim (same_or_not q s) [
    | inl same ↦ subst (Unheld w) (sym same) goes-before
    | inr apart ↦ went-before q (hs q (subst (λ fs. Contains fs f) (sym (others q apart)) h))
  ])

  -- Without it there is no difference.
  same-left : (gone : ℕ → Bool) → gone s ≡ true → without gone after ≡ without gone w
  same-left gone goes = ap (λ fs. record w { files = fs }) (map.same_map nat_cmp_total nat_cmp-IsAntisymmetric _ _ (λ q. get-without gone after q ∙ by q (same_or_not q s) ∙ sym (get-without gone w q))) where
    nothing : (q : ℕ) → gone q ≡ true → (o : Option File) → cond (not (gone q)) (option_map (file_without gone) o) None ≡ None
    nothing q e o = ap (λ b. cond (not b) (option_map (file_without gone) o) None) e

    by : (q : ℕ) → (q ≡ s) ⊎ (nat_eq q s ≡ false) → cond (not (gone q)) (option_map (file_without gone) (map.get after.files q)) None ≡ cond (not (gone q)) (option_map (file_without gone) (map.get w.files q)) None
    by q which = elim which [
      | inl same ↦ let e = ap gone same ∙ goes in nothing q e (map.get after.files q) ∙ sym (nothing q e (map.get w.files q))
      | inr apart ↦ ap (λ o. cond (not (gone q)) (option_map (file_without gone) o) None) (others-changed w s g q apart)
    ]

  -- So the outcome is the same.
  pub settles-shed : (end : World) → Settles after end → Settles w end
  settles-shed end h = (
    h.0,
    λ f. (λ e. went-before f ((h.1 f).0 e), λ u. (h.1 f).1 (still-goes f u)),
    h.2 ∙ same-left h.0 ((h.1 s).1 goes-after),
  )

-- A list of a file that is not empty is that of a socket.
socket-of-list : {A : Type 0} (part : File → List A) → part Plain ≡ [] → (w : World) (s : ℕ) (m : A) (rest : List A) → option_map_or part (map.get w.files s) [] ≡ m ∷ rest → (x : Socket) × (map.get w.files s ≡ Some (AsSocket x)) × (part (AsSocket x) ≡ m ∷ rest)
socket-of-list {A = A} part plain w s m rest e = by (map.get w.files s) refl where
  nothing : {B : Type 0} → [] ≡ m ∷ rest → B
  nothing e = absurd (let short : 0 ≡ length (m ∷ rest) = ap length e in omega (arith, short))

  by : (o : Option File) → map.get w.files s ≡ o → (x : Socket) × (map.get w.files s ≡ Some (AsSocket x)) × (part (AsSocket x) ≡ m ∷ rest)
  by None is = nothing (sym (ap (λ o. option_map_or part o []) is) ∙ e)
  by (Some Plain) is = nothing (sym plain ∙ sym (ap (λ o. option_map_or part o []) is) ∙ e)
  by (Some (AsSocket x)) is = (x, is, sym (ap (λ o. option_map_or part o []) is) ∙ e)

-- So its first message can be taken.
pub first-shed : (w : World) (s : ℕ) (m : Message) (rest : List Message) → IsWithin w → queue_at w s ≡ m ∷ rest → (x : Socket) × (map.get w.files s ≡ Some (AsSocket x)) × Sheds x.queue m rest
first-shed w s m rest within e = let x = socket-of-list queue_of refl w s m rest e in (x.0, x.1, sheds-first x.0.queue m rest (within.sockets s x.0 x.1).messages x.2)

-- A list that is not empty begins with an element.
pub first-of : {A : Type 0} (xs : List A) → 0 < length xs → (x : A) × (xs ≡ x ∷ drop 1 xs)
first-of [] some = absurd (omega (arith, some))
first-of (x ∷ xs) some = (x, refl)

-- Without the first message of a queue the others are held that were.
pub popped-holds : (w : World) (s : ℕ) (m : Message) (rest : List Message) → queue_at w s ≡ m ∷ rest → (f : ℕ) → Holds (with_queue w s rest) s f → Holds w s f
popped-holds w s m rest first f h =
    let x = socket-of-list queue_of refl w s m rest first in
    let here : map.get (with_queue w s rest).files s ≡ Some (AsSocket (record x.0 { queue = rest })) = ap (λ o. map.get (option_map_or (λ y. map.insert w.files s (file_with (λ z. record z { queue = rest }) y)) o w.files) s) x.1 ∙ insert-here w.files s (AsSocket (record x.0 { queue = rest })) in
    let held : Contains (attached_in rest ++ x.0.backlog) f = subst (λ o. Contains (option_map_or contents o []) f) here h in
    let more : Contains (m.attached ++ (attached_in rest ++ x.0.backlog)) f = Contains-append_right m.attached (attached_in rest ++ x.0.backlog) f held in
    let all : Contains (attached_in x.0.queue ++ x.0.backlog) f = subst (λ q. Contains (attached_in q ++ x.0.backlog) f) (sym x.2) (subst (λ l. Contains l f) (sym (append_assoc m.attached (attached_in rest) x.0.backlog)) more) in
    there-holds w s f (AsSocket x.0) x.1 all

-- A change that leaves a socket as it is changes nothing.
same-socket : (w : World) (s : ℕ) (g : Socket → Socket) → ((x : Socket) → map.get w.files s ≡ Some (AsSocket x) → g x ≡ x) → with_socket w s g ≡ w
same-socket w s g same = by (map.get w.files s) refl where
  found : Option File → World
  found o = record w { files = option_map_or (λ y. map.insert w.files s (file_with g y)) o w.files }

  still : (x : File) → map.get w.files s ≡ Some x → file_with g x ≡ x
  still Plain e = refl
  still (AsSocket x) e = ap AsSocket (same x e)

  by : (o : Option File) → map.get w.files s ≡ o → with_socket w s g ≡ w
  by None e = ap found e
  by (Some x) e = ap found e ∙ ap (λ y. record w { files = map.insert w.files s y }) (still x e) ∙ ap (λ fs. record w { files = fs }) (insert_same w.files s x e)

-- To drop the first of an empty queue changes nothing.
pub none-popped : (w : World) (s : ℕ) → queue_at w s ≡ [] → with_queue w s (drop 1 (queue_at w s)) ≡ w
none-popped w s empty = same-socket w s (λ x. record x { queue = drop 1 (queue_at w s) }) (λ x at.
    let none : drop 1 (queue_at w s) ≡ x.queue = ap (drop 1) empty ∙ sym empty ∙ ap (λ o. option_map_or queue_of o []) at in
    λ i. record x { queue = none i })

-- The first of an empty backlog is nothing.
pub none-dequeued : (w : World) (s : ℕ) → backlog_at w s ≡ [] → with_socket w s dequeued ≡ w
none-dequeued w s empty = same-socket w s dequeued (λ x at.
    let none : x.backlog ≡ [] = sym (ap (λ o. option_map_or backlog_of o []) at) ∙ empty in
    λ i. record x { backlog = (ap (drop 1) none ∙ sym none) i })

-- How many embryos wait in all backlogs together.
abbrev embryos_in : World → ℕ
embryos_in w = total_of (λ x. length (backlog_of x)) w.files

-- How much a release has to do: files, messages in queues, and embryos in backlogs.
abbrev pub burden : World → ℕ
burden w = map.len w.files + messages_in w + embryos_in w

-- A message less is less to do.
pub burden-popped : (w : World) (s : ℕ) (m : Message) (rest : List Message) → queue_at w s ≡ m ∷ rest → burden (with_queue w s rest) < burden w
burden-popped w s m rest first =
    let x = socket-of-list queue_of refl w s m rest first in
    let long : length (x.0).queue ≡ length rest + 1 = ap length x.2 ∙ omega arith in
    omega (arith, long, total-changed (λ y. length (backlog_of y)) w s (λ y. record y { queue = rest }) (λ y. refl), len-change_at (file_with (λ y. record y { queue = rest })) w.files s, total-change_at (λ y. length (queue_of y)) (file_with (λ y. record y { queue = rest })) w.files s (AsSocket x.0) x.1)

-- A file less is less to do.
pub burden-gone : (w : World) (f : ℕ) → IsLive w f → burden (without (nat_eq f) w) < burden w
burden-gone w f live =
    let x = there (map.get w.files f) live in
    omega (arith, messages-without w f x.0 x.1, total-without (λ y. length (backlog_of y)) (λ h y. ap length (same_backlog h y)) w f x.0 x.1, total-without (λ y. 1) (λ h y. refl) w f x.0 x.1, total-count w.files, total-count (without (nat_eq f) w).files)

-- When an unheld file has lost its first message, the outcome is the same.
pub settles-popped : (w v : World) (s : ℕ) → v ≡ with_queue w s (drop 1 (queue_at w s)) → IsLive w s → refs w s ≡ 0 → 0 < length (queue_at w s) → (end : World) → Settles v end → Settles w end
settles-popped w v s is live none some end h =
    let first = first-of (queue_at w s) some in
    settles-shed w s (λ x. record x { queue = drop 1 (queue_at w s) }) live none (popped-holds w s first.0 (drop 1 (queue_at w s)) first.1) end (subst (λ x. Settles x end) is h)

-- And there is less to do.
pub burden-less : (w v : World) (s : ℕ) → v ≡ with_queue w s (drop 1 (queue_at w s)) → 0 < length (queue_at w s) → burden v < burden w
burden-less w v s is some =
    let first = first-of (queue_at w s) some in
    subst (λ x. burden x < burden w) (sym is) (burden-popped w s first.0 (drop 1 (queue_at w s)) first.1)

-- With messages, it loses the first of them.
pub lost-message : (w : World) (s : ℕ) → 0 < length (queue_at w s) → without_place w s ≡ with_queue w s (drop 1 (queue_at w s))
lost-message w s some = ap (λ b. if b then with_socket w s dequeued else with_queue w s (drop 1 (queue_at w s))) (told_apart (length (queue_at w s)) 0 (λ e. omega (arith, e, some)))

-- Without, it loses the first embryo.
pub lost-embryo : (w : World) (s : ℕ) → queue_at w s ≡ [] → without_place w s ≡ with_socket w s dequeued
lost-embryo w s silent = ap (λ n. if nat_eq n 0 then with_socket w s dequeued else with_queue w s (drop 1 (queue_at w s))) (ap length silent)

-- The first that waits, and where.
pub first-embryo : (w : World) (s n : ℕ) → backlog_at w s ≡ n ∷ drop 1 (backlog_at w s) → (x : Socket) × (map.get w.files s ≡ Some (AsSocket x)) × (x.backlog ≡ n ∷ drop 1 x.backlog)
first-embryo w s n first =
    let x = socket-of-list backlog_of refl w s n (drop 1 (backlog_at w s)) first in
    (x.0, x.1, x.2 ∙ ap (λ xs. n ∷ xs) (sym (ap (drop 1) x.2)))

-- The listener and its first embryo.
some-embryo : (w : World) (s : ℕ) → 0 < length (backlog_at w s) → (n : ℕ) × (x : Socket) × (map.get w.files s ≡ Some (AsSocket x)) × (x.backlog ≡ n ∷ drop 1 x.backlog)
some-embryo w s some =
    let first = first-of (backlog_at w s) some in
    let x = first-embryo w s first.0 first.1 in
    (first.0, x.0, x.1, x.2)

-- Without the first embryo the others are held that were.
dequeued-holds : (w : World) (s : ℕ) (x : Socket) → map.get w.files s ≡ Some (AsSocket x) → (f : ℕ) → Holds (with_socket w s dequeued) s f → Holds w s f
dequeued-holds w s x at f h =
    let here : map.get (with_socket w s dequeued).files s ≡ Some (AsSocket (dequeued x)) = ap (λ o. map.get (option_map_or (λ y. map.insert w.files s (file_with dequeued y)) o w.files) s) at ∙ insert-here w.files s (AsSocket (dequeued x)) in
    let held : Contains (attached_in x.queue ++ drop 1 x.backlog) f = subst (λ o. Contains (option_map_or contents o []) f) here h in
    there-holds w s f (AsSocket x) at (elim (Contains-append_cases (attached_in x.queue) (drop 1 x.backlog) f held) [
      | inl c ↦ Contains-append_left (attached_in x.queue) x.backlog f c
      | inr c ↦ Contains-append_right (attached_in x.queue) x.backlog f (Contains-dropped x.backlog f c)
    ])

-- An embryo less is less to do.
burden-dequeued : (w : World) (s n : ℕ) (x : Socket) → map.get w.files s ≡ Some (AsSocket x) → x.backlog ≡ n ∷ drop 1 x.backlog → burden (with_socket w s dequeued) < burden w
burden-dequeued w s n x at first =
    let long : length x.backlog ≡ length (drop 1 x.backlog) + 1 = ap length first ∙ omega arith in
    omega (arith, long, total-changed (λ y. length (queue_of y)) w s dequeued (λ y. refl), len-change_at (file_with dequeued) w.files s, total-change_at (λ y. length (backlog_of y)) (file_with dequeued) w.files s (AsSocket x) at)

-- A file that holds nothing has no messages.
pub none-silent : (w : World) (s : ℕ) → places_at w s ≡ 0 → queue_at w s ≡ []
none-silent w s none = nil_from_length (queue_at w s) (omega (arith, none))

-- And no embryos.
pub none-waits : (w : World) (s : ℕ) → places_at w s ≡ 0 → backlog_at w s ≡ []
none-waits w s none = nil_from_length (backlog_at w s) (omega (arith, none))

-- So nothing is in it.
pub none-held : (w : World) (s : ℕ) → places_at w s ≡ 0 → held_by w s ≡ []
none-held w s none = by (map.get w.files s) (none-silent w s none) (none-waits w s none) where
  by : (o : Option File) → option_map_or queue_of o [] ≡ [] → option_map_or backlog_of o [] ≡ [] → option_map_or contents o [] ≡ []
  by None silent bare = refl
  by (Some x) silent bare = ap (λ q. attached_in q ++ backlog_of x) silent ∙ bare

-- So it loses nothing.
pub nothing-lost : (w v : World) (s : ℕ) → v ≡ without_place w s → places_at w s ≡ 0 → v ≡ w
nothing-lost w v s is none = is ∙ lost-embryo w s (none-silent w s none) ∙ none-dequeued w s (none-waits w s none)

-- Where a file that nothing holds lost the first of what it holds, the outcome is the same.
pub settles-lost : (w v : World) (s : ℕ) → v ≡ without_place w s → IsLive w s → refs w s ≡ 0 → 0 < places_at w s → (end : World) → Settles v end → Settles w end
settles-lost w v s is live none some end h = elim (cases_lt 0 (length (queue_at w s))) [
  | inl more ↦ settles-popped w v s (is ∙ lost-message w s more) live none more end h
  | inr low ↦
      let silent = nil_from_length (queue_at w s) (omega (arith, low)) in
      let x = some-embryo w s (omega (arith, some, low)) in
      settles-shed w s dequeued live none (dequeued-holds w s x.1 x.2) end (subst (λ u. Settles u end) (is ∙ lost-embryo w s silent) h)
]

-- And there is less to do.
pub burden-lost : (w v : World) (s : ℕ) → v ≡ without_place w s → 0 < places_at w s → burden v < burden w
burden-lost w v s is some = elim (cases_lt 0 (length (queue_at w s))) [
  | inl more ↦ burden-less w v s (is ∙ lost-message w s more) more
  | inr low ↦
      let silent = nil_from_length (queue_at w s) (omega (arith, low)) in
      let x = some-embryo w s (omega (arith, some, low)) in
      subst (λ u. burden u < burden w) (sym (is ∙ lost-embryo w s silent)) (burden-dequeued w s x.0 x.1 x.2 x.3)
]

-- A file that is emptied need not lose the first of what it holds before.
pub emptied-lost : (w : World) (s : ℕ) → emptied (nat_eq s) (without_place w s) ≡ emptied (nat_eq s) w
emptied-lost w s = by (nat_eq (length (queue_at w s)) 0) where
  by : (b : Bool) → emptied (nat_eq s) (if b then with_socket w s dequeued else with_queue w s (drop 1 (queue_at w s))) ≡ emptied (nat_eq s) w
  by true = emptied-changed w s dequeued (λ x. refl)
  by false = emptied-popped w s (drop 1 (queue_at w s))

-- The view o with what freeing files changes taken from t.
abbrev pub freed_from : StoreView → StoreView → StoreView
freed_from t o = record o { world = t.world; marks = t.marks; message_room = t.message_room; progress = record o.progress { reclaimed = t.progress.reclaimed } }

-- One change more of the kind that freeing files makes.
pub freed_step : (a b o : StoreView) (w : World) (m : MarksView) (r : Bool) (n : ℕ) → a ≡ record b { world = w; marks = m; message_room = r; progress = record b.progress { reclaimed = n } } → b ≡ freed_from b o → a ≡ freed_from a o
freed_step a b o w m r n is was = is ∙ sym (ap {A = StoreView} {B = StoreView} (λ t. freed_from t b) is) ∙ ap {A = StoreView} {B = StoreView} (freed_from a) was
