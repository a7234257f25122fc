use Rattle.std.proofs.Common.{rules, ◌≡◌, ◌++◌, ◌+◌, Err, ap, sym, ◌∙◌, append_assoc, drop, subst, take}
use Rattle.memchr.specs.Find.{IsFirstByte, is_byte}
use Rattle.scm_run.specs.Progress.{Ran}
use Rattle.scm_run.specs.Script.{ended_by_feed}
use Rattle.scm_run.proofs.LinesLemmas.{NoFeed-all, around}
use Rattle.scm_run.proofs.RunLemmas.{halts_longer, keep_stops}
use Rattle.scm_run.proofs.run.ScriptRun.do_lines.Goals as goal

pub returns-in_err-end_line-clause-err : goal.returns-in_err-end_line-clause-err
returns-in_err-end_line-clause-err g c =
    let (front, joined, ran) = c.loop-at.invariant.1 in
    let rest = c.loop-at.rest.now in
    let at = c.in-Some.at in
    let line = c.split_at.result.0.now in
    let more = c.split_at-in-Some.result.1.now in
    let f = c.in_err-end_line.field-0.0 in
    let fault : c.from_residual.result ≡ Err f = search rules in
    let first : line ≡ take at rest = search rules in
    let others : more ≡ drop (at + 1) rest = search rules in
    let cut : rest ≡ ended_by_feed line ++ more = rw (first, others) (around rest at (subst (IsFirstByte (is_byte 10) rest) c.in-Some.is c.memchr.ensures)) in
    rw fault (λ taken before begins.
    halts_longer taken front (ended_by_feed line) more c.args.bytes.now before _ _ f (joined ∙ ap (λ l. front ++ l) cut)
    (c.in_err-end_line.ensures.err (taken ++ front) before (ran taken before begins)))

pub loop-at-preserved : goal.loop-at-preserved
loop-at-preserved g c =
    let (front, joined, ran) = c.loop-at.invariant.1 in
    let rest = c.loop-at.rest.now in
    let at = c.in-Some.at in
    let line = c.split_at.result.0.now in
    let more = c.split_at-in-Some.result.1.now in
    let first : line ≡ take at rest = search rules in
    let others : more ≡ drop (at + 1) rest = search rules in
    let cut : rest ≡ ended_by_feed line ++ more = rw (first, others) (around rest at (subst (IsFirstByte (is_byte 10) rest) c.in-Some.is c.memchr.ensures)) in (
      search rules,
      (
        front ++ ended_by_feed line,
        joined ∙ ap (λ l. front ++ l) cut ∙ sym (append_assoc front (ended_by_feed line) more),
        λ taken before begins.
            subst (λ t. Ran t before (g.W.Write.contents c.end_line.new.writer.inner) c.end_line.new.self) (append_assoc taken front (ended_by_feed line)) (c.in_ok-end_line.ensures.ok (taken ++ front) before (ran taken before begins)),
      ),
    )

pub keep-requires : goal.keep-requires
keep-requires g c = NoFeed-all c.loop-at.rest.now (subst (IsFirstByte (is_byte 10) c.loop-at.rest.now) c.in_default.is c.memchr.ensures)

pub returns-clause-err : goal.returns-clause-err
returns-clause-err g c =
    let (front, joined, ran) = c.loop-at.invariant.1 in
    keep_stops c.loop-at.rest.now c.args.bytes.now front (g.W.Write.contents c.args.writer.now.inner) (g.W.Write.contents c.loop-at.writer.inner) c.args.self.now c.loop-at.self c.keep.new.self c.keep.result joined ran c.keep.ensures.err
