-- The files that sockets hold and that tables refer to, after a change.
use Rattle.std.proofs.Common.{◌≡◌, ℕ, ◌⊎◌, inl, inr, List, [], ◌∷◌, ◌++◌, drop, sym, ap, ◌∙◌, subst}
use Rattle.std.specs.Prelude.{Some}
use Rattle.std.specs.List.{Contains}
use Rattle.std.specs.FinMap as map
use Rattle.std.proofs.lemmas.List.Elements.{Contains-append_cases, Contains-append_left, Contains-append_right, Contains-push_cases}
use Rattle.af_base.specs.World.{AsSocket, Message, Process, Socket, World}
use Rattle.af_base.specs.Places.{Holds, InTable, attached_in, contents, queue_of}
use Rattle.af_base.specs.Changes.{add_process, dequeued, push_message, pushed, queued, with_queue, with_socket}
use Rattle.af_base.specs.Take.{take_from}
use Rattle.af_base.proofs.Embryos.{Contains-dropped}
use Rattle.af_base.proofs.Lookups.{insert-here, insert-other, same_or_not, some_same}
use Rattle.af_base.proofs.PlaceMoves.{held-changed, table-there, there-table}
use Rattle.af_base.proofs.Places.{carried-push}
use Rattle.af_base.proofs.ReceivedFiles.{taken-before}

-- With one embryo more, a held file was held or is the embryo.
pub held-queued : (w : World) (l n q f : ℕ) → Holds (with_socket w l (queued n)) q f → Holds w q f ⊎ (n ≡ f)
held-queued w l n q f h = held-changed w l (queued n) q f (λ x is d. elim (Contains-append_cases (attached_in x.queue) (x.backlog ++ n ∷ []) f d) [
  | inl z ↦ inl (Contains-append_left (attached_in x.queue) x.backlog f z)
  | inr z ↦ elim (Contains-push_cases x.backlog n f z) [
    | inl b ↦ inl (Contains-append_right (attached_in x.queue) x.backlog f b)
    | inr b ↦ inr b
  ]
]) h

-- With one message more, a held file was held or is attached to it.
pub held-pushed : (w : World) (s : ℕ) (m : Message) (q f : ℕ) → Holds (push_message w s m) q f → Holds w q f ⊎ Contains m.attached f
held-pushed w s m q f h = held-changed w s (pushed m) q f (λ x is d. elim (Contains-append_cases (attached_in (x.queue ++ m ∷ [])) x.backlog f d) [
  | inl y ↦ elim (Contains-append_cases (attached_in x.queue) m.attached f (subst (λ xs. Contains xs f) (carried-push x.queue m) y)) [
    | inl z ↦ inl (Contains-append_left (attached_in x.queue) x.backlog f z)
    | inr z ↦ inr z
  ]
  | inr y ↦ inl (Contains-append_right (attached_in x.queue) x.backlog f y)
]) h

-- Without the first embryo of a listener, a held file was held.
pub held-dequeued : (w : World) (s q f : ℕ) → Holds (with_socket w s dequeued) q f → Holds w q f
held-dequeued w s q f h = elim (held-changed {A = ⊥} w s dequeued q f (λ x is d. inl (gain x d)) h) [ inl y ↦ y | inr y ↦ absurd y ] where
  gain : (x : Socket) → Contains (contents (AsSocket (dequeued x))) f → Contains (contents (AsSocket x)) f
  gain x d = elim (Contains-append_cases (attached_in x.queue) (drop 1 x.backlog) f d) [
    | inl z ↦ Contains-append_left (attached_in x.queue) x.backlog f z
    | inr z ↦ Contains-append_right (attached_in x.queue) x.backlog f (Contains-dropped x.backlog f z)
  ]

-- After a receive, a held file was held.
module _ (w : World) (s n : ℕ) (x : Socket) (at : map.get w.files s ≡ Some (AsSocket x)) where
  -- The messages that the receive leaves in the queue.
  abbrev rest : List Message
  rest = (take_from x.kind x.queue n).rest

  -- Each held file was held by the same socket.
  pub held-taken : (q f : ℕ) → Holds (with_queue w s rest) q f → Holds w q f
  held-taken q f h = elim (held-changed {A = ⊥} w s (λ y. record y { queue = rest }) q f (λ y is d. inl (gain y is d)) h) [ inl y ↦ y | inr y ↦ absurd y ] where
    gain : (y : Socket) → map.get w.files s ≡ Some (AsSocket y) → Contains (attached_in rest ++ y.backlog) f → Contains (attached_in y.queue ++ y.backlog) f
    gain y is d =
        let same : x.queue ≡ y.queue = ap queue_of (some_same (AsSocket x) (AsSocket y) (sym at ∙ is)) in
        elim (Contains-append_cases (attached_in rest) y.backlog f d) [
          | inl z ↦ Contains-append_left (attached_in y.queue) y.backlog f (subst (λ r. Contains (attached_in r) f) same (taken-before x.kind x.queue n f (Contains-append_right (take_from x.kind x.queue n).attached (attached_in rest) f z)))
          | inr z ↦ Contains-append_right (attached_in y.queue) y.backlog f z
        ]

-- With one process more, a file in a table was in one before.
pub tabled-more : (w : World) (q : Process) → ((n f : ℕ) → map.get q.table n ≡ Some f → InTable w f) → (f : ℕ) → InTable (add_process w q) f → InTable w f
tabled-more w q had f t =
    let now = table-there (add_process w q) t.0 t.1 f t.2 in
    elim (same_or_not t.0 w.next_pid) [
      | inl same ↦
          let child : q ≡ now.0 = some_same q now.0 (sym (insert-here w.processes w.next_pid q) ∙ ap (map.get (map.insert w.processes w.next_pid q)) (sym same) ∙ now.1) in
          had t.1 f (ap (λ r. map.get r.table t.1) child ∙ now.2)
      | inr apart ↦ (t.0, t.1, there-table w t.0 t.1 now.0 (sym (insert-other w.processes w.next_pid q t.0 apart) ∙ now.1) ∙ now.2)
    ]
