use Rattle.std.proofs.Common.{◌≡◌, rules}
use Rattle.af_steps.proofs.Sends.{sent-done, sent-not}
use Rattle.af_steps.proofs.engine.Engine.send.Goals as goal

pub returns-clause-done : goal.returns-clause-done
returns-clause-done c =
    let same : c.of_small-bytes.result ≡ c.args.bytes.now = search rules in
    let ready = c.in_ok-envelope.ensures in
    let put = c.commit_send.ensures in
    sent-done c.args.self.now c.commit_send.new.self c.args.pid c.args.on c.args.attach.now c.in_ok-envelope.envelope same ready.fits ready.leads c.commit_send.result put.count put.settles put.pass

pub returns-clause-refused : goal.returns-clause-refused
returns-clause-refused c =
    let same : c.of_small-bytes.result ≡ c.args.bytes.now = search rules in
    let ready = c.in_ok-envelope.ensures in
    sent-not c.args.self.now c.commit_send.new.self c.args.pid c.args.on c.args.attach.now c.in_ok-envelope.envelope same ready.fits ready.leads c.commit_send.result c.commit_send.ensures.err
