use Rattle.std.proofs.Common.{rules, ◌≡◌, ◌+◌, ◌∙◌, ℕ, Bool, ap, arith, cond, false, nat_eq, refl, sym, true}
use Rattle.std.specs.Prelude.{None, Option, Some, vec_capacity}
use Rattle.std.specs.Cmp.{nat_cmp_total, unsigned_tied}
use Rattle.std.specs.FinMap as map
use Rattle.std.specs.FinMap.{nat_cmp-IsAntisymmetric}
use Rattle.std.specs.Ordering.{eq_by_cmp, nat_cmp}
use Rattle.std.specs.Option.{option_map}
use Rattle.std.proofs.lemmas.Bool.{eqb-true}
use Rattle.af_base.specs.Changes.{change_socket_at, file_with}
use Rattle.af_base.specs.Steps.{paired_socket, idle_socket}
use Rattle.af_base.specs.World.{AsSocket, File, Map, Socket}
use Rattle.af_base.proofs.AllowedSteps.{get-change_at}
use Rattle.af_base.proofs.StaysWithin.{len-insert_most}
use Rattle.af_ledger.specs.Counted.{more, uncounted}
use Rattle.af_mark.specs.Grey.{unmarked}
use Rattle.af_desc.specs.FilesView.{FilesView, changed, entered, name_of, paired, paired_with}
use Rattle.af_desc.specs.FileTableView.{file_of, with_row, with_socket}
use Rattle.af_desc.proofs.FilesInvariant.{filed-entered, filed-reserved, seen, seen-entered, socket_changed}
use Rattle.af_desc.proofs.files.Files.make_two.Goals as goal

pub push-first-requires : goal.push-first-requires
push-first-requires c =
    let room = c.in_ok-reserve.ensures.room in
    record {
      room = omega (arith, room);
      next = omega (arith, c.self.invariant.last, ap (λ r. r.last) c.reserve.ensures.rows);
      number = search (rules, arith);
    }

pub push-second-requires : goal.push-second-requires
push-second-requires c =
    let room = c.in_ok-reserve.ensures.room in
    record {
      room = omega (arith, room, c.push-first.ensures.room);
      next = omega (arith, ap (λ r. r.last) c.push-first.ensures.pushed);
      number = search (rules, arith);
    }

pub invariant_of-self : goal.invariant_of-self
invariant_of-self c =
    let more = c.reserve.ensures in
    filed-reserved c.self.inside.rows c.reserve.new.rows _ _ _ _ _ _ _ c.self.invariant _ (vec_capacity c.reserve.new.unreferenced) _ (vec_capacity c.reserve.new.grey) more.rows more.unreferenced more.capacity more.grey more.greys more.fits more.grey_fits

pub invariant_of-self-2 : goal.invariant_of-self-2
invariant_of-self-2 c =
    let a = c.self.inside in
    let roomy = c.reserve.ensures in
    let p = c.args.place.now in
    let reserved = filed-reserved a.rows c.reserve.new.rows _ _ _ _ _ _ _ c.self.invariant _ (vec_capacity c.reserve.new.unreferenced) _ (vec_capacity c.reserve.new.grey) roomy.rows roomy.unreferenced roomy.capacity roomy.grey roomy.greys roomy.fits roomy.grey_fits in
    let first = c.push-first in
    let second = c.push-second in
    let fits = c.in_ok-reserve.ensures.counts in
    let counts = ap (λ r. map.len r.counts) roomy.rows in
    let greys = c.in_ok-reserve.ensures.marks in
    let marks = ap (λ r. map.len r.marks) roomy.rows in
    let one = filed-entered c.reserve.new.rows first.new.self _ _ _ _ _ _ _ reserved (file_of c.new_idle-idle.result) p first.ensures.pushed first.ensures.new first.ensures.uncounted first.ensures.unmarked (ap (λ o. name_of (file_of o)) c.new_idle-idle.ensures)
    (omega (arith, fits, roomy.fits, counts)) (omega (arith, greys, roomy.grey_fits, marks)) _ c.more_embryos-self-inside.ensures in
    let two = filed-entered first.new.self second.new.self _ _ _ _ _ _ _ one
    (file_of c.new_paired-paired.result) p second.ensures.pushed second.ensures.new
    second.ensures.uncounted second.ensures.unmarked
    (ap (λ o. name_of (file_of o)) c.new_paired-paired.ensures)
    (omega (arith, fits, roomy.fits, counts, ap (λ r. map.len r.counts) first.ensures.pushed, len-insert_most c.reserve.new.rows.counts a.next (more p uncounted)))
    (omega (arith, greys, roomy.grey_fits, marks, ap (λ r. map.len r.marks) first.ensures.pushed, len-insert_most c.reserve.new.rows.marks a.next unmarked)) _ c.more_embryos-self-inside-2.ensures in
    let all = socket_changed second.new.self c.pair_with.new.self _ _ _ _ _ _ _ two
    c.push-first.result (paired_with c.push-second.result) (λ s. refl) c.pair_with.ensures in
    let low = all.last in
    record { last = omega (arith, low); begins = all.begins; named = all.named; unreferenced_listed = all.unreferenced_listed; fits = all.fits; listed = all.listed; backlogged = all.backlogged; whites = (let bound = all.whites.0 in omega (arith, bound), all.whites.1); space = all.space }

-- The first of two new files, once its socket has the other one.
first_paired : (files : Map File) (n other : ℕ) (s : Socket) (y : File)
    → change_socket_at (paired_with other)
    (map.insert (map.insert files n (AsSocket s)) (n + 1) y) n
    ≡ map.insert (map.insert files n (AsSocket (paired_with other s))) (n + 1) y
first_paired files n other s y = map.same_map nat_cmp_total nat_cmp-IsAntisymmetric _ _ (λ q.
    get-change_at g (map.insert (map.insert files n (AsSocket s)) (n + 1) y) n q
    ∙ ap (option_map (λ z. cond (eq_by_cmp nat_cmp q n) (g z) z)) (got q (AsSocket s))
    ∙ each q (map.get files q) (eq_by_cmp nat_cmp q n) (eq_by_cmp nat_cmp q (n + 1)) (unsigned_tied q n) (unsigned_tied q (n + 1))
    ∙ sym (got q (g (AsSocket s)))) where
      g : File → File
      g = file_with (paired_with other)

      got : (q : ℕ) (z : File) → map.get (map.insert (map.insert files n z) (n + 1) y) q ≡ cond (eq_by_cmp nat_cmp q (n + 1)) (Some y) (cond (eq_by_cmp nat_cmp q n) (Some z) (map.get files q))
      got q z = map.get-insert nat_cmp_total (map.insert files n z) (n + 1) y q ∙ ap (cond (eq_by_cmp nat_cmp q (n + 1)) (Some y)) (map.get-insert nat_cmp_total files n z q)

      each : (q : ℕ) (o : Option File) (a b : Bool) → a ≡ nat_eq q n → b ≡ nat_eq q (n + 1) → option_map (λ z. cond a (g z) z) (cond b (Some y) (cond a (Some (AsSocket s)) o)) ≡ cond b (Some y) (cond a (Some (g (AsSocket s))) o)
      each q o true true here there = absurd (omega (arith, eqb-true q n (sym here), eqb-true q (n + 1) (sym there)))
      each q o true false here there = refl
      each q o false true here there = refl
      each q None false false here there = refl
      each q (Some z) false false here there = refl

pub returns-clause-ok : goal.returns-clause-ok
returns-clause-ok c =
    let a = c.self.inside in
    let n = a.next in
    let p = c.args.place.now in
    let kind = c.args.kind in
    let first = c.push-first in
    let second = c.push-second in
    let x = file_of c.new_idle-idle.result in
    let y = file_of c.new_paired-paired.result in
    let lower : c.new_idle-idle.result ≡ Some (idle_socket kind) = search rules in
    let higher : c.new_paired-paired.result ≡ Some (paired_socket kind n) = search rules in
    let one = with_row n x p first.new.self.room a.rows in
    let two = second.ensures.pushed ∙ ap (with_row (n + 1) y p second.new.self.room) (first.ensures.pushed ∙ ap (with_row n x p first.new.self.room) c.reserve.ensures.rows) in
    let rows = c.pair_with.ensures
    ∙ (λ i. with_socket (two i) (first.ensures.file i) (paired_with (second.ensures.file i))) in
    let next : n + 2 ≡ n + 1 + 1 = omega arith in
    let old = seen a.epoch a.bound a.rows n in
    (λ i. seen a.epoch a.bound (rows i) (next i))
    ∙ ap (changed (paired_with (n + 1)) n)
    (seen-entered a.epoch a.bound p one (n + 1) second.new.self.room y
    ∙ ap (entered p y) (seen-entered a.epoch a.bound p a.rows n first.new.self.room x))
    ∙ (λ i. changed (paired_with (n + 1)) n
    (entered p (file_of (higher i)) (entered p (file_of (lower i)) old)))
    ∙ ap {B = FilesView} (λ files. record (paired p kind old) {
      files =
          files;
    }) (first_paired old.files n (n + 1) (idle_socket kind)
    (AsSocket (paired_socket kind n)))
    ∙ ap (paired p kind) c.self.view_is
