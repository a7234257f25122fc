use Rattle.std.proofs.Common.{rules, ◌≡◌, ◌<◌, ◌++◌, take, [], length, refl, sym, ap, subst, ◌∙◌, append-nil}
use Rattle.std.specs.Prelude.{Err}
use Rattle.std.specs.Io.KnownBytes.{Consumes}
use Rattle.std.proofs.KnownBytes.{Consumes-nil, Consumes-trans}
use Rattle.std.proofs.lemmas.Result.{err_from_is_err_and}
use Rattle.scm_run.specs.Progress.{Ran, RunProgress}
use Rattle.scm_run.proofs.RunLemmas.{done_at_end, ended, keeps_none_taken, ran_nothing, stops_in, stops_as_read, stops_at_end, stops_late}
use Rattle.scm_run.proofs.run.ScriptRun.run_to_end.Goals as goal

pub loop-init : goal.loop-init
loop-init g c = (
  c.requires.reader,
  c.requires.writer,
  subst (λ (s : RunProgress). s.gathered ≡ []) (sym c.requires.fresh) refl,
  ([], Consumes-nil _, subst (Ran [] _ _) (sym c.requires.fresh) (ran_nothing _)),
)

pub returns-then-count-eq0-clause-done : goal.returns-then-count-eq0-clause-done
returns-then-count-eq0-clause-done g c =
    let (taken, consumed, ran) = c.loop.invariant.3 in
    let room : 0 < length c.read.new.buf = search rules in
    let (all, at_end) = ended _ _ _ taken _ _ consumed c.in-Ok.ensures.bytes.0 c.in-Ok.ensures.bytes.1 c.if-count-eq0.true room in
    done_at_end _ _ _ _ _ taken c.loop.self c.finish.result all at_end ran c.finish.ensures.ok

pub returns-then-count-eq0-clause-stopped : goal.returns-then-count-eq0-clause-stopped
returns-then-count-eq0-clause-stopped g c =
    let (taken, consumed, ran) = c.loop.invariant.3 in
    let room : 0 < length c.read.new.buf = search rules in
    let (all, at_end) = ended _ _ _ taken _ _ consumed c.in-Ok.ensures.bytes.0 c.in-Ok.ensures.bytes.1 c.if-count-eq0.true room in
    stops_at_end _ _ _ _ _ taken c.loop.self c.finish.result all at_end ran c.finish.ensures.err

pub returns-in_err-feed-clause-stopped : goal.returns-in_err-feed-clause-stopped
returns-in_err-feed-clause-stopped g c =
    let (taken, consumed, ran) = c.loop.invariant.3 in
    let bytes = take c.in-Ok.count c.read.new.buf in
    let f = c.in_err-feed.field-0.0 in
    let fault : c.from_residual.result ≡ Err f = (let same = err_from_is_err_and c.from_residual.result c.from_residual.ensures.1 in same.1 ∙ ap Err same.2) in
    rw fault (stops_in _ _ _ _ (taken ++ bytes) f c.in_err-feed.ensures.no_read (Consumes-trans _ _ _ taken bytes consumed c.in-Ok.ensures.bytes.0)
    (c.in_err-feed.ensures.err taken (g.W.Write.contents c.args.writer.now.inner) ran))

pub loop-preserved : goal.loop-preserved
loop-preserved g c =
    let (taken, consumed, ran) = c.loop.invariant.3 in
    let bytes = take c.in-Ok.count c.read.new.buf in (
      search rules,
      search rules,
      c.in_ok-feed.ensures.out,
      (
        taken ++ bytes,
        Consumes-trans _ _ _ taken bytes consumed c.in-Ok.ensures.bytes.0,
        c.in_ok-feed.ensures.ok taken (g.W.Write.contents c.args.writer.now.inner) ran,
      ),
    )

pub returns-clause-stopped : goal.returns-clause-stopped
returns-clause-stopped g c =
    let (taken, consumed, ran) = c.loop.invariant.3 in
    let (input, both) = stops_late _ _ _ _ taken c.loop.self consumed ran c.loop.invariant.2 in
    (input, both.0, both.1)

pub returns-in_default-clause-stopped : goal.returns-in_default-clause-stopped
returns-in_default-clause-stopped g c =
    let (taken, consumed, ran) = c.loop.invariant.3 in
    let kept : Consumes (g.R.Read.remaining c.loop.reader.inner) (g.R.Read.remaining c.read.new.self.inner) [] = keeps_none_taken _ _ c.in_default.ensures.bytes in
    let all : Consumes (g.R.Read.remaining c.args.reader.now.inner) (g.R.Read.remaining c.read.new.self.inner) taken = subst (Consumes _ _) (append-nil taken) (Consumes-trans _ _ _ taken [] consumed kept) in
    stops_as_read _ _ _ _ taken c.loop.self all ran c.loop.invariant.2

pub returns-in_err-feed-clause-read : goal.returns-in_err-feed-clause-read
returns-in_err-feed-clause-read g c =
    let f = c.in_err-feed.field-0.0 in
    let fault : c.from_residual.result ≡ Err f = (let same = err_from_is_err_and c.from_residual.result c.from_residual.ensures.1 in same.1 ∙ ap Err same.2) in
    rw fault (search rules)

pub returns-in_err-feed-clause-write : goal.returns-in_err-feed-clause-write
returns-in_err-feed-clause-write g c =
    let f = c.in_err-feed.field-0.0 in
    let fault : c.from_residual.result ≡ Err f = (let same = err_from_is_err_and c.from_residual.result c.from_residual.ensures.1 in same.1 ∙ ap Err same.2) in
    rw fault (search rules)
