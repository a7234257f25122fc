use Rattle.std.proofs.Common.{◌≡◌, ℕ, ◌&&◌, true, refl, arith, sym, ap, ◌∙◌, subst, nat_lt}
use Rattle.std.specs.Prelude.{is_some}
use Rattle.af_ledger.specs.Tally.{count_in_map}
use Rattle.af_mark.specs.MarksView.{MarksView, is_unmarked, visited}
use Rattle.af_desc.specs.FilesView.{FilesView}
use Rattle.af_desc.proofs.FilesInvariant.{seen, due-within, few-white, filed-black, seen-visited, visited-not, due-white}
use Rattle.af_desc.proofs.files.Files.visit.Goals as goal

-- The view of the files after the call, from the view before.
abbrev Visits : FilesView → FilesView → ℕ → Type 0
Visits new v f = new ≡ record v { marks = visited true (count_in_map v.counts f).tabled f v.marks }

-- A file that is not due stays as it is.
pub returns-in_err-held-clause-marks : goal.returns-in_err-held-clause-marks
returns-in_err-held-clause-marks c =
    let a = c.self.inside in
    let f = c.args.file.now in
    let e = c.in_err-held.ensures in
    let old = seen a.epoch a.bound a.rows a.next in
    subst (λ v. Visits (seen a.epoch a.bound c.mark_tabled.new.self a.next) v f) c.self.view_is
    (ap (λ r. seen a.epoch a.bound r a.next) e.none ∙ ap {A = MarksView} {B = FilesView} (λ m. record old { marks = m }) (sym (visited-not a.epoch a.bound a.rows f (sym e.due))))

pub returns-in_err-held-clause-due : goal.returns-in_err-held-clause-due
returns-in_err-held-clause-due c =
    let a = c.self.inside in
    let f = c.args.file.now in
    let same : f ≡ c.ino-2.inside.0 = sym c.ino.ensures ∙ sym c.ino-2.view_is in
    ap is_some c.from_residual.ensures ∙ c.in_err-held.ensures.due ∙ due-within a.epoch a.bound a.rows f (omega (arith, same, c.if-ino-self.false))
    ∙ ap (λ (v : FilesView). nat_lt 0 (count_in_map v.counts f).tabled && is_unmarked v.marks f) c.self.view_is

-- A file that is due is one less to be marked.
pub overflow_sub-self : goal.overflow_sub-self
overflow_sub-self c =
    let a = c.self.inside in
    let f = c.args.file.now in
    let same : f ≡ c.ino-2.inside.0 = sym c.ino.ensures ∙ sym c.ino-2.view_is in
    few-white a.epoch a.bound a.rows f c.self.invariant (due-white a.epoch a.bound a.rows f (sym c.in_ok-held.ensures.due)) (omega (arith, same, c.if-ino-self.false))

pub invariant_of-self-2 : goal.invariant_of-self-2
invariant_of-self-2 c =
    let a = c.self.inside in
    let f = c.args.file.now in
    let e = c.in_ok-held.ensures in
    let same : f ≡ c.ino-2.inside.0 = sym c.ino.ensures ∙ sym c.ino-2.view_is in
    filed-black a.epoch a.bound a.rows f c.self.invariant (due-white a.epoch a.bound a.rows f (sym e.due)) (omega (arith, same, c.if-ino-self.false)) c.mark_tabled.new.self e.len (e.marked refl)

-- It is black.
pub returns-clause-marks : goal.returns-clause-marks
returns-clause-marks c =
    let a = c.self.inside in
    let f = c.args.file.now in
    let e = c.in_ok-held.ensures in
    let same : f ≡ c.ino-2.inside.0 = sym c.ino.ensures ∙ sym c.ino-2.view_is in
    subst (λ v. Visits (seen a.epoch a.bound c.mark_tabled.new.self a.next) v f) c.self.view_is
    (ap (λ r. seen a.epoch a.bound r a.next) (e.marked refl) ∙ seen-visited a.epoch a.bound a.rows f (omega (arith, same, c.if-ino-self.false)) (sym e.due) a.next)

pub returns-clause-due : goal.returns-clause-due
returns-clause-due c =
    let a = c.self.inside in
    let f = c.args.file.now in
    let same : f ≡ c.ino-2.inside.0 = sym c.ino.ensures ∙ sym c.ino-2.view_is in
    c.in_ok-held.ensures.due ∙ due-within a.epoch a.bound a.rows f (omega (arith, same, c.if-ino-self.false))
    ∙ ap (λ (v : FilesView). nat_lt 0 (count_in_map v.counts f).tabled && is_unmarked v.marks f) c.self.view_is
