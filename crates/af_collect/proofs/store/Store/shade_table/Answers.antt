use Rattle.std.proofs.Common.{◌≡◌, ◌<◌, ◌+◌, ℕ, true, sym, ap, ◌∙◌, subst, arith}
use Rattle.std.specs.Prelude.{Option, Some}
use Rattle.af_base.specs.Places.{number_in, table_at}
use Rattle.af_base.specs.Whole.{IsWhole}
use Rattle.af_base.specs.World.{IsLive, Map, Process}
use Rattle.af_mark.specs.MarksView.{is_marked}
use Rattle.af_collect.specs.HoldingsView.{HoldingsView}
use Rattle.af_collect.specs.Keeping.{is_marking}
use Rattle.af_collect.specs.StoreView.{KeepsPass, StoreView}
use Rattle.af_collect.proofs.LostFiles.{kept_tabled, marked_next}
use Rattle.af_collect.proofs.StoreInvariant.{shown}
use Rattle.af_collect.proofs.store.Store.shade_table.Goals as goal

-- A descriptor of the table refers to the same file in the world.
seen : {a b : Map Process} {o : Option ℕ} (p n : ℕ) → a ≡ b → number_in a p n ≡ o → number_in b p n ≡ o
seen p n same at = ap (λ (m : Map Process). number_in m p n) (sym same) ∙ at

-- The file of the next descriptor is in a table, and is shaded.
pub loop-fd-preserved : goal.loop-fd-preserved
loop-fd-preserved c =
    let p = c.loop-fd.self-inside in
    let pid = c.args.pid in
    let next = c.loop-fd.next in
    let i = c.loop-fd.invariant in
    let processes = c.procs.ensures.processes in
    let t = ap (λ (o : StoreView). is_marking o.progress.stage) i.frame ∙ sym c.is_marking.ensures ∙ c.if-not-is_marking.false in
    let whole = subst IsWhole (ap (λ (o : StoreView). o.world) c.self.view_is ∙ ap (λ (o : StoreView). o.world) (sym i.frame)) c.lemma_is_whole.ensures.whole in
    let here = seen pid _ processes c.in-Some.ensures.«open» in
    let before = subst (λ (o : StoreView). (q f : ℕ) → q < next → table_at o.world pid q ≡ Some f → IsLive o.begun f → is_marked p.holdings.marks f ≡ true) (sym i.frame) i.marked in
    let marked = subst (λ (o : StoreView). (q f : ℕ) → q < c.fd.inside.0 + 1 → table_at o.world pid q ≡ Some f → IsLive o.begun f → is_marked c.shade.new.self.marks f ≡ true) i.frame
    (λ q f low at b. ap (λ (s : HoldingsView). is_marked s.marks f) c.shade.ensures ∙ marked_next pid next _ _ whole t here (λ q y z. seen pid q processes (c.in-Some.ensures.least q y z)) i.kept before q f (omega (arith, low, c.fd.view_is)) at b) in
    record {
      kept = subst (λ (h : HoldingsView). KeepsPass (shown p h)) (sym c.shade.ensures) (kept_tabled _ whole t (pid, _, here) i.kept);
      frame = ap (shown p) (c.shade.ensures ∙ ap (λ m. record p.holdings { marks = m }) (sym (ap (λ (h : HoldingsView). h.marks) c.shade.ensures))) ∙ ap {A = StoreView} {B = StoreView} (λ o. record o { marks = c.shade.new.self.marks }) i.frame;
      marked = marked;
      low = omega (arith, c.in-Some.ensures.low, c.fd.view_is);
    }
