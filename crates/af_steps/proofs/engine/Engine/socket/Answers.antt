use Rattle.af_base.specs.Refusals.{process_at}
use Rattle.af_steps.proofs.LookupRows.{below-limit, is-free, is-there}
use Rattle.af_steps.proofs.Numbers.{IsLowest, least-low, not-open}
use Rattle.af_steps.proofs.engine.Engine.socket.Goals as goal

pub socket_at-requires : goal.socket_at-requires
socket_at-requires c =
    let fd = c.in_ok-fd.fd in
    let has = c.in_ok-fd.ensures.there in
    let least : IsLowest (process_at c.self.inside.store.world c.args.pid) fd = record { read = c.in_ok-fd.ensures.lowest } in record {
      full = c.in_ok-fd.ensures.room;
      there = is-there has;
      limit = below-limit has fd (least-low least);
      free = is-free has fd (not-open least);
    }
